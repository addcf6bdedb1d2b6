-- Streams of encodings, one after another with nothing between them.
use Rattle.std.specs.Prelude.{◌≡◌, ℕ, List}
use Rattle.std.specs.List.{AllZip, concat}
use Rattle.octets.specs.Rule.{Rule}
use Rattle.types.specs.Shape.{Shape, Val}
use Rattle.types.specs.Encoding.{IsAccepted}

-- the octets are encodings of the values, in order
pub record IsStream (rule : Rule) (shape : Shape) (values : List Val) (octets : List ℕ) : Type 0 where
  pub encodings : List (List ℕ)
  pub each : AllZip (IsAccepted rule shape) values encodings
  pub whole : octets ≡ concat encodings
