-- A value that is read at the front of some octets, and what is written for it, where it is read again.
use Rattle.std.specs.Prelude.{◌≤◌, ℕ, List, length, take, Option, MatchOption}
use Rattle.octets.specs.Rule.{ber}
use Rattle.types.specs.declared.value.Value.{Value}
use Rattle.types.specs.Encoding.{Meaning, IsAccepted}
use Rattle.types.specs.Shape.{Shape}
use Rattle.types.specs.View.{value_view}

-- so many octets at the front are an encoding of the value in the slot under BER
pub record IsFirst (shape : Shape) (slot : Option Value) (octets : List ℕ) (used : ℕ) : Type 0 where
  pub there : used ≤ length octets
  pub read : MatchOption slot ⊥ (λ value. IsAccepted ber shape (value_view value) (take used octets))

-- and stand for it
pub record IsWritten (Stands : Meaning) (shape : Shape) (slot : Option Value) (octets : List ℕ) (used : ℕ) : Type 0 where
  pub first : IsFirst shape slot octets used
  pub stands : MatchOption slot ⊥ (λ value. Stands (value_view value) (take used octets))
