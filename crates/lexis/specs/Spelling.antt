-- Which octets spell a token of which kind (X.680, clause 12): references, identifiers, numbers, binary,
-- hexadecimal and character strings, reserved words and symbols. That a character string stands on one
-- line, and that no white space stands in the other two, is this project's own choice.
use Rattle.std.specs.Prelude.{◌≡◌, ℕ, ◌+◌, ◌<◌, ◌≤◌, List, [], ◌∷◌, ◌++◌, length, codes, Bool, true, false, ◌&&◌, ◌||◌, ◌==◌, if◌then◌else◌, slice_index, All}
use Rattle.std.specs.Int.{is_in_range}
use Rattle.std.specs.Char.{is_ascii_digit, is_ascii_alphanumeric, is_ascii_uppercase, is_ascii_lowercase}
use Rattle.std.specs.Str.Parse.{digits_value}
use Rattle.lexis.specs.declared.token.Kind.{Kind}
use Rattle.lexis.specs.declared.token.Kind.TheVariants.{Reserved, TypeName, Identifier, Number, Binary, Hex, Chars, Symbol}
use Rattle.lexis.specs.declared.word.Word.{Word}
use Rattle.lexis.specs.declared.symbol.Symbol.{Symbol as TheSymbol}
use Rattle.lexis.specs.Octets.{is_line_end}
use Rattle.lexis.specs.Words.{word_text}
use Rattle.lexis.specs.Symbols.{symbol_text}

-- at its octet i the word goes on: a letter or a digit, or a hyphen before a letter or a digit
abbrev pub goes_on : List ℕ → ℕ → Bool
goes_on w i = is_ascii_alphanumeric (slice_index w i) || (slice_index w i == 45 && is_ascii_alphanumeric (slice_index w (i + 1)))

-- a letter of the class, then letters, digits and hyphens; the last is no hyphen, and no two hyphens
-- stand together
pub record IsWord (is_first : ℕ → Bool) (w : List ℕ) : Type 0 where
  pub first : is_first (slice_index w 0) ≡ true
  pub others : (i : ℕ) → 1 ≤ i → i < length w → goes_on w i ≡ true

-- one digit or more, of which the first is 0 only where it is the only one
pub record IsNumber (w : List ℕ) : Type 0 where
  pub some : 1 ≤ length w
  pub each : (i : ℕ) → i < length w → is_ascii_digit (slice_index w i) ≡ true
  pub no_leading_zero : slice_index w 0 ≡ 48 → length w ≡ 1

-- 0 or 1
abbrev pub is_bit : ℕ → Bool
is_bit octet = is_in_range 48 49 octet

-- 0 to 9, or A to F
abbrev pub is_hex_digit : ℕ → Bool
is_hex_digit octet = is_in_range 48 57 octet || is_in_range 65 70 octet

-- digits of the class between apostrophes, and a letter
pub record IsDigitString (is_digit : ℕ → Bool) (letter : List ℕ) (w : List ℕ) : Type 0 where
  pub digits : List ℕ
  pub each : All (λ digit. is_digit digit ≡ true) digits
  pub spelt : w ≡ codes "'" ++ digits ++ codes "'" ++ letter

-- the characters with each quotation mark twice
abbrev pub doubled : List ℕ → List ℕ
doubled [] = []
doubled (octet ∷ characters) = if octet == 34 then 34 ∷ 34 ∷ doubled characters else octet ∷ doubled characters

-- characters, of which none ends a line, between quotation marks
pub record IsCharacterString (w : List ℕ) : Type 0 where
  pub characters : List ℕ
  pub on_one_line : All (λ octet. is_line_end octet ≡ false) characters
  pub spelt : w ≡ 34 ∷ doubled characters ++ 34 ∷ []

-- w is a reserved word
abbrev pub IsReserved : List ℕ → Type 0
IsReserved w = (word : Word) × (w ≡ word_text word)

-- the octets w spell a token of the kind
abbrev pub Spells : Kind → List ℕ → Type 0
Spells Reserved w = IsWord is_ascii_uppercase w × IsReserved w
Spells TypeName w = IsWord is_ascii_uppercase w × (¬ IsReserved w)
Spells Identifier w = IsWord is_ascii_lowercase w
Spells (Number value) w = IsNumber w × (value ≡ digits_value 10 w)
Spells Binary w = IsDigitString is_bit (codes "B") w
Spells Hex w = IsDigitString is_hex_digit (codes "H") w
Spells Chars w = IsCharacterString w
Spells Symbol w = (symbol : TheSymbol) × (w ≡ symbol_text symbol)
