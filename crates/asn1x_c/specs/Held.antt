-- The type that C holds.
use Rattle.std.specs.Prelude.{◌≡◌, Option, None, Some}
use Rattle.std.specs.Global.{Box}
use Rattle.types.specs.declared.ty.Ty.{Ty}
use Rattle.asn1x_c.specs.declared.held.HeldType.{HeldType}

abbrev pub type_of : HeldType → Option Ty
type_of held = held.kept.ty

-- the type that was held is handed out
abbrev pub HasGiven : Option Ty → Option (Box Ty) → Type 0
HasGiven old None = old ≡ None
HasGiven old (Some given) = old ≡ Some given.value
