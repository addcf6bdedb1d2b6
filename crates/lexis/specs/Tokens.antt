-- The tokens of a text: from left to right, each the longest that can begin where it stands.
use Rattle.std.specs.Prelude.{◌≡◌, ℕ, ◌-◌, ◌≤◌, ◌^◌, List, [], ◌∷◌, length, take, drop, slice_index, slice_range, true, ◌⊎◌}
use Rattle.std.specs.Char.{is_ascii_digit}
use Rattle.std.specs.Str.{IsCharBoundary}
use Rattle.lexis.specs.declared.token.Kind.{Kind}
use Rattle.lexis.specs.declared.token.Kind.TheVariants.{Reserved, TypeName, Identifier, Number, Binary, Hex, Chars, Symbol}
use Rattle.lexis.specs.declared.token.Token.{Token}
use Rattle.lexis.specs.declared.fault.Fault.{Fault}
use Rattle.lexis.specs.Gap.{IsPiece, IsGap}
use Rattle.lexis.specs.Spelling.{Spells}

-- a number is within its limit
abbrev pub IsWithinLimit : Kind → Type 0
IsWithinLimit (Number value) = value ≤ 2 ^ 127
IsWithinLimit Reserved = Unit {0}
IsWithinLimit TypeName = Unit {0}
IsWithinLimit Identifier = Unit {0}
IsWithinLimit Binary = Unit {0}
IsWithinLimit Hex = Unit {0}
IsWithinLimit Chars = Unit {0}
IsWithinLimit Symbol = Unit {0}

-- the first n octets of x are a token of the kind, and no longer front of x spells one of any kind
pub record IsToken (x : List ℕ) (kind : Kind) (n : ℕ) : Type 0 where
  pub within : n ≤ length x
  pub spelt : Spells kind (take n x)
  pub longest : (other : Kind) (m : ℕ) → m ≤ length x → Spells other (take m x) → m ≤ n
  pub small : IsWithinLimit kind
  pub no_digit_behind_zero : slice_index x 0 ≡ 48 → ¬ (is_ascii_digit (slice_index x 1) ≡ true)
  pub no_comment : (m : ℕ) → ¬ IsPiece x m

-- behind the first p octets of x stand a gap and then the token, where its span says
pub record StandsNext (x : List ℕ) (p : ℕ) (token : Token) : Type 0 where
  pub behind : p ≤ token.start
  pub gap : IsGap (drop p x) (token.start - p)
  pub forward : token.start ≤ token.end
  pub is_token : IsToken (drop token.start x) token.kind (token.end - token.start)

-- behind its first p octets, x is gaps and the tokens in turn
abbrev pub TokensFrom : List ℕ → ℕ → List Token → Type 0
TokensFrom x p [] = IsGap (drop p x) (length x - p)
TokensFrom x p (token ∷ tokens) = StandsNext x p token × TokensFrom x token.end tokens

-- these are the tokens of the text, which is within its limit
pub record IsTokens (text : List ℕ) (tokens : List Token) : Type 0 where
  pub within : length text ≤ 262144
  pub in_turn : TokensFrom text 0 tokens

-- the token was read from the part of the text that its span says, which is whole characters
pub record IsSpan (text : List ℕ) (token : Token) : Type 0 where
  pub forward : token.start ≤ token.end
  pub start : IsCharBoundary text token.start
  pub end : IsCharBoundary text token.end
  pub spelt : Spells token.kind (slice_range text token.start token.end)

-- what a text is refused with: no token, too large, or out of memory
abbrev pub IsTextFault : Fault → Type 0
IsTextFault fault = (fault.number ≡ 21) ⊎ (fault.number ≡ 31) ⊎ (fault.number ≡ 33)
