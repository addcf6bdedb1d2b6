-- What the scanner of tokens asks and answers of the octets where a token must begin.
use Rattle.std.specs.Prelude.{◌≡◌, ◌≢◌, ℕ, ◌-◌, ◌≤◌, List, ◌∷◌, length, take, drop, slice_index, true, false, Option, Some, None, Result, Ok, Err}
use Rattle.std.specs.Char.{is_ascii_digit, is_ascii_alphabetic}
use Rattle.lexis.specs.declared.front.Refused.{Refused}
use Rattle.lexis.specs.declared.front.Refused.TheVariants.{Token as NoToken, TooLarge}
use Rattle.lexis.specs.declared.token.Kind.{Kind}
use Rattle.lexis.specs.declared.token.Token.{Token}
use Rattle.lexis.specs.Gap.{IsPiece, IsGap}
use Rattle.lexis.specs.Spelling.{IsCharacterString}
use Rattle.lexis.specs.Tokens.{IsToken, StandsNext}

-- neither white space nor a comment stands in front
abbrev pub StandsApart : List ℕ → Type 0
StandsApart x = (m : ℕ) → ¬ IsPiece x m

-- a digit stands behind a 0 in front
abbrev pub IsLedByZero : List ℕ → Type 0
IsLedByZero x = (slice_index x 0 ≡ 48) × (is_ascii_digit (slice_index x 1) ≡ true)

-- no token stands in front
abbrev pub HasNoToken : List ℕ → Type 0
HasNoToken x = (kind : Kind) (n : ℕ) → ¬ IsToken x kind n

-- the token that stands in front, and how many octets it has, or why none does
abbrev pub AnswersToken : List ℕ → Result (Kind × ℕ) Refused → Type 0
AnswersToken x (Ok found) = IsToken x found.0 found.1
AnswersToken x (Err _) = HasNoToken x

-- the number of the fault
abbrev pub fault_number : Refused → ℕ
fault_number NoToken = 21
fault_number TooLarge = 31

-- no word, number or string begins with the octet
pub record IsOtherOctet (octet : ℕ) : Type 0 where
  pub no_letter : is_ascii_alphabetic octet ≡ false
  pub no_digit : is_ascii_digit octet ≡ false
  pub no_apostrophe : octet ≢ 39
  pub no_quotation_mark : octet ≢ 34

-- a quotation mark and the first n octets of x are a character string, and no longer front of x is
pub record IsLongestString (x : List ℕ) (n : ℕ) : Type 0 where
  pub within : n ≤ length x
  pub spelt : IsCharacterString (34 ∷ take n x)
  pub longest : (m : ℕ) → m ≤ length x → IsCharacterString (34 ∷ take m x) → m ≤ n

abbrev pub AnswersString : List ℕ → Option ℕ → Type 0
AnswersString x (Some n) = IsLongestString x n
AnswersString x None = (m : ℕ) → m ≤ length x → ¬ IsCharacterString (34 ∷ take m x)

-- behind its first p octets x ends with a gap
abbrev pub EndsFrom : List ℕ → ℕ → Type 0
EndsFrom x p = IsGap (drop p x) (length x - p)

-- the one token that stands next behind the first p octets of x
pub record IsNext (x : List ℕ) (p : ℕ) (token : Token) : Type 0 where
  pub stands : StandsNext x p token
  pub only : (other : Token) → StandsNext x p other → other ≡ token
  pub no_end : ¬ EndsFrom x p

-- no token stands next
pub record IsLast (x : List ℕ) (p : ℕ) : Type 0 where
  pub ends : EndsFrom x p
  pub no_token : (other : Token) → ¬ StandsNext x p other

-- neither a token nor the end stands next
pub record HasNoNext (x : List ℕ) (p : ℕ) : Type 0 where
  pub no_token : (other : Token) → ¬ StandsNext x p other
  pub no_end : ¬ EndsFrom x p

abbrev pub AnswersNext : List ℕ → ℕ → Option Token → Type 0
AnswersNext x p (Some token) = IsNext x p token
AnswersNext x p None = IsLast x p
