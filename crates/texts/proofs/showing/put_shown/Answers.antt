use Rattle.std.proofs.Common.{◌∙◌, ◌++◌, string_bytes, ap, refl, subst}
use Rattle.types.specs.declared.ty.Ty.{Ty}
use Rattle.types.specs.View.{ty_view, value_view}
use Rattle.octets.proofs.ResultLemmas.{OnOk-map}
use Rattle.canon.specs.Ordered.{IsOrdered}
use Rattle.texts.specs.Text.{text_of}
use Rattle.texts.proofs.ShownLemmas.{shown_as_it_stands}
use Rattle.texts.proofs.showing.put_shown.Goals as goal

pub returns-then-is_plain : goal.returns-then-is_plain
returns-then-is_plain c =
    let v = value_view c.args.value.now in
    let shape = ty_view c.args.ty.now in
    let is = c.as_type-shape.ensures.value in
    let ordered = subst (λ (s : Ty). IsOrdered (ty_view s) v) is (c.is_plain.ensures c.if-is_plain.true) in
    OnOk-map c.put_value.result _ _ (λ appended. (
      text_of shape v,
      appended ∙ ap (λ (s : Ty). string_bytes c.args.out.now ++ text_of (ty_view s) v) is,
      shown_as_it_stands shape v (text_of shape v) c.requires ordered refl,
    )) c.put_value.ensures
