use Rattle.std.proofs.Common.{◌≡◌, ◌∙◌, List, map, ap, sym, subst}
use Rattle.types.specs.Shape.{Shape}
use Rattle.types.specs.View.{ComponentView, ty_view, field_view, components_view}
use Rattle.types.specs.declared.ty.Field.{Field}
use Rattle.types.proofs.ViewLemmas.{ty-Set}
use Rattle.encoding_parts.proofs.SlotLemmas.{none_of}
use Rattle.encoding_parts.proofs.SetComponentLemmas.{set_opens}
use Rattle.encoding_parts.proofs.held_parts.held_parts_of.Goals as goal

pub returns-in_ok-slots-in-Set : goal.returns-in_ok-slots-in-Set
returns-in_ok-slots-in-Set c =
    let tag = c.in-Set.field-0 in
    let fields = c.deref-in-Set-2.result.now in
    let slots = c.in_ok-slots-in-Set.slots.items in
    let same : ty_view c.args.node.now ≡ Shape.set tag (components_view fields) = ap ty_view c.in-Set.is ∙ (ty-Set tag c.in-Set.fields ∙ ap (λ (l : List Field). Shape.set tag (components_view l)) (sym c.deref-in-Set-2.ensures.value)) in
    let lent : c.deref-in-Set.result.now ≡ fields = c.deref-in-Set.ensures.value ∙ sym c.deref-in-Set-2.ensures.value in
    set_opens tag (ty_view c.args.node.now) fields slots same (subst (λ (l : List Field). slots ≡ map (λ (f : ComponentView). none_of) (map field_view l)) lent c.in_ok-slots-in-Set.ensures)
