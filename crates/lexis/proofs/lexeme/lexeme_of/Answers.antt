use Rattle.std.proofs.Common.{◌≡◌, ◌∙◌, sym, ap, List, ℕ}
use Rattle.lexis.specs.declared.word.Word.{Word}
use Rattle.lexis.specs.declared.symbol.Symbol.{Symbol as TheSymbol}
use Rattle.lexis.specs.declared.token.Kind.{Kind}
use Rattle.lexis.specs.declared.token.Kind.TheVariants.{Reserved, Symbol}
use Rattle.lexis.specs.Words.{word_text}
use Rattle.lexis.specs.Symbols.{symbol_text}
use Rattle.lexis.specs.Signs.{word, symbol, word_in, symbol_in, some_word, some_symbol, sign_as}
use Rattle.lexis.proofs.WordLemmas.{word_there, symbol_there}
use Rattle.lexis.proofs.lexeme.lexeme_of.Goals as goal

word-sign : (k : Kind) (x : List ℕ) (w : Word) → k ≡ Reserved → x ≡ word_text w → word w ≡ sign_as k x
word-sign k x w e h = sym (ap (λ (j : Kind). sign_as j x) e ∙ ap (λ (y : List ℕ). some_word (word_in y)) h ∙ ap some_word (word_there w))

symbol-sign : (k : Kind) (x : List ℕ) (s : TheSymbol) → k ≡ Symbol → x ≡ symbol_text s → symbol s ≡ sign_as k x
symbol-sign k x s e h = sym (ap (λ (j : Kind). sign_as j x) e ∙ ap (λ (y : List ℕ). some_symbol (symbol_in y)) h ∙ ap some_symbol (symbol_there s))

pub returns-in-Some : goal.returns-in-Some
returns-in-Some c = word-sign c.args.token.kind _ c.in-Some.word c.in-Reserved.is (sym c.range-spelling.ensures.value ∙ sym c.as_bytes.ensures.value ∙ c.in-Some.ensures.found)

pub returns-in-Some-symbol_of : goal.returns-in-Some-symbol_of
returns-in-Some-symbol_of c = symbol-sign c.args.token.kind _ c.in-Some-symbol_of.symbol c.in-Symbol.is (sym c.range-spelling.ensures.value ∙ sym c.as_bytes-in-Symbol.ensures.value ∙ c.in-Some-symbol_of.ensures.found)
