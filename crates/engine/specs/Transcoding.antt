-- What a conversion of one value returns.
use Rattle.std.specs.Prelude.{◌≡◌, ℕ, List}
use Rattle.octets.specs.declared.canonical.Canonical.TheVariants.{Cer, Der}
use Rattle.octets.specs.Rule.{Rule, ber, cer, der}
use Rattle.types.specs.Shape.{Shape, Val}
use Rattle.types.specs.Encoding.{IsAccepted}
use Rattle.berreader.specs.declared.pieces.Pieces.{Pieces}
use Rattle.berreader.specs.Feeding.{HasBeenFed, shape_of}
use Rattle.strict.specs.Begun.{IsBegun}

-- the octets encode a value under one rule, and what is written is its encoding under the other
pub record IsTranscoded (from to : Rule) (shape : Shape) (octets written : List ℕ) : Type 0 where
  pub value : Val
  pub read : IsAccepted from shape value octets
  pub put : IsAccepted to shape value written

-- the octets encode a value that has no encoding within the limits under the other rule
pub record HasNoShortEncoding (from to : Rule) (shape : Shape) (octets : List ℕ) : Type 0 where
  pub value : Val
  pub read : IsAccepted from shape value octets
  pub none : (b : List ℕ) → ¬ IsAccepted to shape value b

-- the octets end inside what may stand there: by BER, where a reader that was fed them goes on
abbrev pub EndsInside : Rule → Shape → List ℕ → Type 0
EndsInside ber shape octets = (reader : Pieces) × (shape_of reader ≡ shape) × HasBeenFed reader octets
EndsInside cer shape octets = IsBegun Cer shape 1_048_576 octets
EndsInside der shape octets = IsBegun Der shape 1_048_576 octets
