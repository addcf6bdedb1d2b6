-- What holds of all texts of values of a well-formed type.
use Rattle.std.specs.Prelude.{◌≡◌, ℕ, List}
use Rattle.types.specs.Shape.{Val, Shape}
use Rattle.types.specs.WellFormed.{IsWellFormed}
use Rattle.types.specs.Same.{IsSame}
use Rattle.texts.specs.Shown.{IsShown}

-- the same values have one text
abbrev pub SameValuesHaveOneText : Type 0
SameValuesHaveOneText = (shape : Shape) (v w : Val) (a b : List ℕ) → IsWellFormed shape → IsSame shape v w → IsShown shape v a → IsShown shape w b → a ≡ b
