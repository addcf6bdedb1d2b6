-- What a source gave before it failed.
use Rattle.std.specs.Prelude.{◌≡◌, ℕ, List, length, Option}
use Rattle.std.specs.Io.KnownBytes.{Consumes}
use Rattle.octets.specs.Front.{HasFront}
use Rattle.octets.specs.Rule.{Rule}
use Rattle.types.specs.Encoding.{IsSomeAccepted}
use Rattle.types.specs.Shape.{Shape, Val}
use Rattle.engine.specs.Stream.{BeginsWith}

-- the octets that were given are encodings of so many values, and then a rest of which no front is one
pub record HasGiven (rule : Rule) (shape : Shape) (done : ℕ) (left_old left_new : Option (List ℕ)) : Type 0 where
  pub given : List ℕ
  pub values : List Val
  pub rest : List ℕ
  pub gives : Consumes left_old left_new given
  pub counted : length values ≡ done
  pub read : BeginsWith rule shape values given rest
  pub none : ¬ HasFront (IsSomeAccepted rule shape) rest
