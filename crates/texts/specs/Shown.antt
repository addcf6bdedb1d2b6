-- The text of a value.
use Rattle.std.specs.Prelude.{◌≡◌, ℕ, List}
use Rattle.types.specs.Shape.{Val, Shape}
use Rattle.types.specs.Same.{IsSame}
use Rattle.texts.specs.Text.{text_of}
use Rattle.canon.specs.Ordered.{IsOrdered}

-- that of the same value with the items of each SET OF ascending by their DER octets
pub record IsShown (shape : Shape) (v : Val) (text : List ℕ) : Type 0 where
  pub ordered : Val
  pub same : IsSame shape v ordered
  pub ascends : IsOrdered shape ordered
  pub is : text ≡ text_of shape ordered
