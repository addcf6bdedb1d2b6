-- Where each reserved word and each symbol stands among all, and that no two are spelled alike.
use Rattle.std.proofs.Common.{◌≡◌, ℕ, List, get_or, refl, lit<, Some, not}
use Rattle.std.specs.List.{prefix_len, Contains, slice_range}
use Rattle.std.specs.Str.{bytes_eq}
use Rattle.lexis.specs.declared.word.Word.{Word}
use Rattle.lexis.specs.declared.word.Word.TheVariants.{Application}
use Rattle.lexis.specs.declared.symbol.Symbol.{Symbol}
use Rattle.lexis.specs.declared.symbol.Symbol.TheVariants.{Assignment}
use Rattle.lexis.specs.Words.{word_text}
use Rattle.lexis.specs.WordTable.{words_range}
use Rattle.lexis.specs.AllWords.{all_words}
use Rattle.lexis.specs.Symbols.{symbol_text, all_symbols}
use Rattle.lexis.specs.Signs.{word_in, symbol_in}

-- the words with this first letter
abbrev pub words_with : ℕ → List Word
words_with initial = slice_range all_words (words_range initial).0 (words_range initial).1

-- the place of the word in the table, counted from the first word with its first letter
abbrev pub place_of : Word → ℕ
place_of w = prefix_len (λ v. not (bytes_eq (word_text v) (word_text w))) (words_with (get_or (word_text w) 0 0))

pub word_among : (w : Word) → Contains (words_with (get_or (word_text w) 0 0)) w
word_among Application = (place_of Application, lit< tt, refl)
word_among w = (place_of w, lit< tt, refl)

pub word_there : (w : Word) → word_in (word_text w) ≡ Some w
unfolding word_in
word_there Application = refl
word_there w = refl

pub symbol_among : (s : Symbol) → Contains all_symbols s
symbol_among Assignment = (0, lit< tt, refl)
symbol_among s = (prefix_len (λ v. not (bytes_eq (symbol_text v) (symbol_text s))) all_symbols, lit< tt, refl)

pub symbol_there : (s : Symbol) → symbol_in (symbol_text s) ≡ Some s
unfolding symbol_in
symbol_there Assignment = refl
symbol_there s = refl
