-- What a reader of a canonical rule holds: a BER reader, and the octets of the value that is begun.
use Rattle.std.specs.Prelude.{◌≡◌, ◌⊎◌, ℕ, List, Option, Result, Err, MatchOption, OnOk, IfErr}
use Rattle.octets.specs.Rule.{Rule}
use Rattle.types.specs.declared.refusal.Refusal.{Refusal}
use Rattle.types.specs.declared.refusal.Refusal.TheVariants.{NotCanonical, NoMemory}
use Rattle.types.specs.declared.value.Value.{Value}
use Rattle.types.specs.Encoding.{IsAccepted, IsSomeAccepted}
use Rattle.types.specs.Shape.{Shape}
use Rattle.types.specs.View.{ty_view, value_view}
use Rattle.types.specs.WellFormed.{IsWellFormed}
use Rattle.engine.specs.declared.strict_reader.StrictReader.{StrictReader}
use Rattle.engine.specs.Feeding.{StandsOpen}

-- the reader is of this type, has refused nothing, and keeps the octets that it took since no value was begun
pub record StandsStrictly (shape : Shape) (strict : StrictReader) (octets : List ℕ) : Type 0 where
  pub type_is : ty_view strict.ty.now ≡ shape
  pub well_formed : IsWellFormed shape
  pub reader_stands : StandsOpen shape strict.reader octets
  pub kept_are : strict.begun.items ≡ octets

-- 12 and 17
abbrev pub IsOfJudging : Refusal → Type 0
IsOfJudging refusal = (refusal ≡ NotCanonical) ⊎ (refusal ≡ NoMemory)

-- the octets, which BER takes, are the encoding that the rule gives the value in the slot, or of none, or memory ran out
pub record IsJudged (rule : Rule) (shape : Shape) (octets : List ℕ) (slot : Option Value) (result : Result (Unit {0}) Refusal) : Type 0 where
  pub accepted : OnOk result (MatchOption slot ⊥ (λ value. IsAccepted rule shape (value_view value) octets))
  pub never : result ≡ Err NotCanonical → ¬ IsSomeAccepted rule shape octets
  pub numbers : IfErr result IsOfJudging
