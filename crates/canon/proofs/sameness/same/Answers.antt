use Rattle.std.proofs.Common.{◌≡◌, ◌∙◌, ◌++◌, ap, sym, subst}
use Rattle.std.proofs.lemmas.Slice.Eq.{bytes_eq-Decides}
use Rattle.octets.specs.Rule.{der}
use Rattle.octets.proofs.RuleLemmas.{der_is_canonical}
use Rattle.types.specs.declared.ty.Ty.{Ty}
use Rattle.types.specs.Conforms.{Conforms}
use Rattle.types.specs.Encoding.{IsEncoding}
use Rattle.types.specs.View.{ty_view, value_view}
use Rattle.types.proofs.SameExactlyLemmas.{equal_exactly_if_same}
use Rattle.canon.specs.Node.{HasGoodNodes}
use Rattle.canon.proofs.AcceptedLemmas.{good_nodes}
use Rattle.canon.proofs.sameness.same.Goals as goal

pub put_value-requires : goal.put_value-requires
put_value-requires c = record {
  nodes = subst (λ (t : Ty). HasGoodNodes (ty_view t)) (sym c.as_type-shape.ensures.value) (good_nodes (ty_view c.args.ty.now) c.as_type-shape.ensures.well_formed);
  conforms = subst (λ (t : Ty). Conforms (ty_view t) (value_view c.args.value.now)) (sym c.as_type-shape.ensures.value) c.requires.value;
}

pub put_value-requires-2 : goal.put_value-requires-2
put_value-requires-2 c = record {
  nodes = subst (λ (t : Ty). HasGoodNodes (ty_view t)) (sym c.as_type-shape.ensures.value) (good_nodes (ty_view c.args.ty.now) c.as_type-shape.ensures.well_formed);
  conforms = subst (λ (t : Ty). Conforms (ty_view t) (value_view c.args.other.now)) (sym c.as_type-shape.ensures.value) c.requires.other;
}

pub returns : goal.returns
returns c =
    let shape = ty_view c.args.ty.now in
    let v = value_view c.args.value.now in
    let w = value_view c.args.other.now in
    let a = c.in_ok-put_value.ensures.appended in
    let b = c.in_ok-put_value-2.ensures.appended in
    let x = c.put_value.new.out.items in
    let y = c.put_value-2.new.out.items in
    let first : x ≡ a.0 = a.1 ∙ ap (λ s. s ++ a.0) c.new-first.ensures.items in
    let second : y ≡ b.0 = b.1 ∙ ap (λ s. s ++ b.0) c.new-second.ensures.items in
    let encodes_first : IsEncoding der shape v a.0 = subst (λ (t : Ty). IsEncoding der (ty_view t) v a.0) c.as_type-shape.ensures.value a.2 in
    let encodes_second : IsEncoding der shape w b.0 = subst (λ (t : Ty). IsEncoding der (ty_view t) w b.0) c.as_type-shape.ensures.value b.2 in
    let law = equal_exactly_if_same der shape v w a.0 b.0 c.as_type-shape.ensures.well_formed der_is_canonical encodes_first encodes_second in
    let decides = bytes_eq-Decides x y in (
      λ test. law.0 (sym first ∙ decides.0 (sym c.eq.ensures ∙ test) ∙ second),
      λ same. c.eq.ensures ∙ decides.1 (first ∙ law.1 same ∙ sym second),
    )
