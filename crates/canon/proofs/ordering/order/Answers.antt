use Rattle.std.proofs.Common.{subst}
use Rattle.octets.proofs.ResultLemmas.{IfOk-map}
use Rattle.types.specs.declared.ty.Ty.{Ty}
use Rattle.types.specs.View.{ty_view, value_view}
use Rattle.canon.specs.Ordered.{IsOrderedFrom}
use Rattle.canon.proofs.SameValueLemmas.{same_conforms}
use Rattle.canon.proofs.ordering.order.Goals as goal

pub returns-clause-conforms : goal.returns-clause-conforms
returns-clause-conforms c =
    let v = value_view c.args.value.now in
    IfOk-map c.order_value.result _ _
    (λ ordered h.
    let from : IsOrderedFrom (ty_view c.args.ty.now) v (value_view ordered) = subst (λ (t : Ty). IsOrderedFrom (ty_view t) v (value_view ordered)) c.as_type.ensures.value h in
    same_conforms (ty_view c.args.ty.now) v (value_view ordered) c.as_type.ensures.well_formed.defaults from.same c.requires)
    c.order_value.ensures
