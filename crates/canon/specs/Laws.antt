-- What holds of all values in order.
use Rattle.std.specs.Prelude.{◌≡◌, ◌↔◌}
use Rattle.types.specs.Shape.{Shape, Val}
use Rattle.types.specs.WellFormed.{IsWellFormed}
use Rattle.types.specs.Same.{IsSame}
use Rattle.canon.specs.Ordered.{IsOrdered}

-- two values are the same exactly if, once their SET OF items are in order, they are equal
abbrev pub EqualInOrderExactlyIfSame : Type 0
EqualInOrderExactlyIfSame =
    (shape : Shape) (v w a b : Val) → IsWellFormed shape → IsSame shape v a → IsOrdered shape a → IsSame shape w b → IsOrdered shape b → (a ≡ b) ↔ IsSame shape v w
