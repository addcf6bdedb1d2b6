-- Hexadecimal text: two digits an octet, the high four bits first, in either case, with white space
-- anywhere.
use Rattle.std.specs.Prelude.{◌≡◌, ℕ, ◌+◌, ◌/◌, ◌%◌, ◌<◌, ◌≤◌, ◌||◌, ◌==◌, ◌⊎◌, Bool, not, List, [], ◌∷◌, filter, length}

-- a tab, a line feed, a carriage return or a space
abbrev pub is_space : ℕ → Bool
is_space octet = octet == 9 || octet == 10 || octet == 13 || octet == 32

-- the text without these
abbrev pub without_spaces : List ℕ → List ℕ
without_spaces text = filter (λ octet. not (is_space octet)) text

-- `0` to `9` are octets 48 to 57, `A` to `F` 65 to 70 and `a` to `f` 97 to 102
abbrev pub IsHexDigit : ℕ → ℕ → Type 0
IsHexDigit value octet =
    ((value < 10) × (octet ≡ 48 + value)) ⊎ ((10 ≤ value) × (value < 16) × ((octet ≡ 55 + value) ⊎ (octet ≡ 87 + value)))

-- the digits of one octet, before others
pub record IsHexPair (octet : ℕ) (text rest : List ℕ) : Type 0 where
  pub high : ℕ
  pub low : ℕ
  pub high_digit : IsHexDigit (octet / 16) high
  pub low_digit : IsHexDigit (octet % 16) low
  pub is : text ≡ high ∷ low ∷ rest

abbrev pub IsHexPairs : List ℕ → List ℕ → Type 0
IsHexPairs [] text = text ≡ []
IsHexPairs (octet ∷ octets) text = (rest : List ℕ) × IsHexPair octet text rest × IsHexPairs octets rest

-- the most octets that a text may have, white space counted
abbrev pub most_text_octets : ℕ
most_text_octets = 4_194_304

-- the text spells the octets
abbrev pub IsHexText : List ℕ → List ℕ → Type 0
IsHexText octets text = IsHexPairs octets (without_spaces text)

-- and has no more octets than it may
pub record IsHexInput (octets text : List ℕ) : Type 0 where
  pub spelt : IsHexText octets text
  pub within : length text ≤ most_text_octets

-- the text spells no octets, or has more of its own than it may
abbrev pub IsRefusedText : List ℕ → Type 0
IsRefusedText text = ((octets : List ℕ) → ¬ IsHexText octets text) ⊎ (most_text_octets < length text)
