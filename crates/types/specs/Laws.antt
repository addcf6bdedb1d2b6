-- What holds of all encodings of a well-formed type.
use Rattle.std.specs.Prelude.{◌≡◌, ◌↔◌, ◌<◌, ◌^◌, ℕ, List, ◌++◌}
use Rattle.octets.specs.Rule.{Rule, ber, IsCanonical}
use Rattle.types.specs.Shape.{Shape, Val}
use Rattle.types.specs.WellFormed.{IsWellFormed}
use Rattle.types.specs.Conforms.{Conforms}
use Rattle.types.specs.Same.{IsSame}
use Rattle.types.specs.Order.{IsPaddedAtMost}
use Rattle.types.specs.Depth.{IsNested}
use Rattle.types.specs.Weight.{weight_of}
use Rattle.types.specs.Encoding.{IsEncoding}

-- only a value of the type has an encoding
abbrev pub EncodedValuesConform : Type 0
EncodedValuesConform = (rule : Rule) (shape : Shape) (v : Val) (octets : List ℕ) → IsEncoding rule shape v octets → Conforms shape v

-- two encodings at the front of one list are the same, and so are their values
pub record IsSameEncoding (shape : Shape) (v w : Val) (a b r s : List ℕ) : Type 0 where
  pub values : IsSame shape v w
  pub octets : a ≡ b
  pub rest : r ≡ s

abbrev pub NoEncodingBeginsAnother : Type 0
NoEncodingBeginsAnother =
    (shape : Shape) (v w : Val) (a b r s : List ℕ) → IsWellFormed shape → IsEncoding ber shape v a → IsEncoding ber shape w b → a ++ r ≡ b ++ s → IsSameEncoding shape v w a b r s

-- the same values have the same encodings, under each rule
abbrev pub SameValuesHaveTheSameEncodings : Type 0
SameValuesHaveTheSameEncodings =
    (rule : Rule) (shape : Shape) (v w : Val) (octets : List ℕ) → IsWellFormed shape → IsSame shape v w → IsEncoding rule shape v octets ↔ IsEncoding rule shape w octets

-- an encoding under BER, with 61 constructed encodings nested at most: one for each level of a type and one for the
-- segments of a string
pub record IsNestedBer (shape : Shape) (v : Val) (octets : List ℕ) : Type 0 where
  pub encoding : IsEncoding ber shape v octets
  pub depth : IsNested 61 octets

-- what CER or DER spells, BER spells
abbrev pub CanonicalEncodingsAreBer : Type 0
CanonicalEncodingsAreBer =
    (rule : Rule) (shape : Shape) (v : Val) (octets : List ℕ) → IsWellFormed shape → IsCanonical rule → IsEncoding rule shape v octets → IsNestedBer shape v octets

-- encodings of one type that tie, where the shorter is padded with zeros, are equal
abbrev pub EncodingsThatTieAreEqual : Type 0
EncodingsThatTieAreEqual =
    (shape : Shape) (v w : Val) (a b : List ℕ) → IsWellFormed shape → IsEncoding ber shape v a → IsEncoding ber shape w b → IsPaddedAtMost a b → IsPaddedAtMost b a → a ≡ b

-- under CER and under DER a value has at most one encoding
abbrev pub OneCanonicalEncoding : Type 0
OneCanonicalEncoding =
    (rule : Rule) (shape : Shape) (v : Val) (a b : List ℕ) → IsWellFormed shape → IsCanonical rule → IsEncoding rule shape v a → IsEncoding rule shape v b → a ≡ b

-- and it has one, where it weighs less than 2^128
abbrev pub EveryValueHasACanonicalEncoding : Type 0
EveryValueHasACanonicalEncoding =
    (rule : Rule) (shape : Shape) (v : Val) → IsWellFormed shape → IsCanonical rule → Conforms shape v → weight_of v < 2 ^ 128 → (octets : List ℕ) × IsEncoding rule shape v octets

-- canonical encodings are equal exactly if their values are the same
abbrev pub EqualExactlyIfSame : Type 0
EqualExactlyIfSame =
    (rule : Rule) (shape : Shape) (v w : Val) (a b : List ℕ) → IsWellFormed shape → IsCanonical rule → IsEncoding rule shape v a → IsEncoding rule shape w b → (a ≡ b) ↔ IsSame shape v w
