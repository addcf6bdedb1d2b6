use Rattle.std.proofs.Common.{◌≡◌, Option, subst, sym}
use Rattle.std.specs.Prelude.{IfSome}
use Rattle.types.specs.View.{ty_view}
use Rattle.types.specs.declared.ty.Ty.{Ty}
use Rattle.asn1x_c.proofs.type_calls.asn1x_type_from.Goals as goal

pub returns-in-Ok-clause-only : goal.returns-in-Ok-clause-only
returns-in-Ok-clause-only c = λ none other means.
    subst (λ (held : Option Ty). IfSome held (λ ty. other ≡ ty_view ty)) (sym c.put.ensures) (c.in-Ok.ensures.only other means)
