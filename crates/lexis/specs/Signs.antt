-- What a token stands for in a grammar: which reserved word or symbol it is, or what else, with its
-- spelling.
use Rattle.std.specs.Prelude.{ℕ, List, Option, Some, None, find, slice_range}
use Rattle.std.specs.Str.{bytes_eq}
use Rattle.lexis.specs.declared.token.Kind.{Kind}
use Rattle.lexis.specs.declared.token.Kind.TheVariants.{Reserved, TypeName, Identifier, Number, Binary, Hex, Chars, Symbol}
use Rattle.lexis.specs.declared.token.Token.{Token}
use Rattle.lexis.specs.declared.word.Word.{Word}
use Rattle.lexis.specs.declared.symbol.Symbol.{Symbol as TheSymbol}
use Rattle.lexis.specs.Words.{word_text}
use Rattle.lexis.specs.AllWords.{all_words}
use Rattle.lexis.specs.Symbols.{symbol_text, all_symbols}

pub data Sign : Type 0 where
  word : Word → Sign
  symbol : TheSymbol → Sign
  type_name : List ℕ → Sign
  identifier : List ℕ → Sign
  number : ℕ → Sign
  binary : List ℕ → Sign
  hex : List ℕ → Sign
  chars : List ℕ → Sign
  -- a reserved word or symbol that there is not; no token of a text is one
  none : Sign

abbrev pub some_word : Option Word → Sign
some_word (Some w) = word w
some_word None = none

abbrev pub some_symbol : Option TheSymbol → Sign
some_symbol (Some s) = symbol s
some_symbol None = none

-- the reserved word, and the symbol, that is spelled so
unfoldable pub word_in : List ℕ → Option Word
word_in spelling = find (λ w. bytes_eq (word_text w) spelling) all_words

unfoldable pub symbol_in : List ℕ → Option TheSymbol
symbol_in spelling = find (λ s. bytes_eq (symbol_text s) spelling) all_symbols

-- what a token of the kind stands for that is spelled so
abbrev pub sign_as : Kind → List ℕ → Sign
sign_as Reserved spelling = some_word (word_in spelling)
sign_as TypeName spelling = type_name spelling
sign_as Identifier spelling = identifier spelling
sign_as (Number value) spelling = number value
sign_as Binary spelling = binary spelling
sign_as Hex spelling = hex spelling
sign_as Chars spelling = chars spelling
sign_as Symbol spelling = some_symbol (symbol_in spelling)

-- what the token of the text stands for
abbrev pub sign_of : List ℕ → Token → Sign
sign_of text token = sign_as token.kind (slice_range text token.start token.end)
