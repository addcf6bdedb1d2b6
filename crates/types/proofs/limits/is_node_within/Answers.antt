use Rattle.std.proofs.Common.{◌≡◌, ap, sym, ◌∙◌, arith, rules, length}
use Rattle.std.specs.Vec.{vec_len}
use Rattle.types.specs.View.{ty_view}
use Rattle.types.proofs.ViewLemmas.{ty-Sequence, ty-Set, ty-Choice}
use Rattle.types.proofs.LoopLemmas.{so}
use Rattle.types.proofs.LimitLemmas.{within_along, few, not_empty, empty, not_true, count_of_fields, count_of_choices}
use Rattle.types.proofs.limits.is_node_within.Goals as goal

pub returns-then-is_within-2 : goal.returns-then-is_within-2
returns-then-is_within-2 c =
    let arm = c.in-Sequence in
    let many : vec_len arm.fields ≡ length arm.fields.items = search rules in
    within_along _ _ _ (ap ty_view arm.is ∙ ty-Sequence arm.tag arm.fields)
    (few c.len-then-is_within-2.result _ _ (c.len-then-is_within-2.ensures ∙ many ∙ sym (count_of_fields arm.fields.items)) (so _ _ c.is_within-in-Sequence.ensures c.if-is_within-2.true))

pub returns-then-is_within-3 : goal.returns-then-is_within-3
returns-then-is_within-3 c =
    let arm = c.in-Set in
    let many : vec_len arm.fields ≡ length arm.fields.items = search rules in
    within_along _ _ _ (ap ty_view arm.is ∙ ty-Set arm.tag arm.fields)
    (few c.len-then-is_within-3.result _ _ (c.len-then-is_within-3.ensures ∙ many ∙ sym (count_of_fields arm.fields.items)) (so _ _ c.is_within-in-Set.ensures c.if-is_within-3.true))

pub returns-then-not-is_empty-2 : goal.returns-then-not-is_empty-2
returns-then-not-is_empty-2 c =
    let arm = c.in-Choice in
    let many : vec_len arm.alternatives ≡ length arm.alternatives.items = search rules in
    let count = count_of_choices arm.alternatives.items in
    let some = not_empty _ c.if-not-is_empty-2.ensures in
    within_along _ _ _ (ap ty_view arm.is ∙ ty-Choice arm.alternatives)
    (few c.len-then-not-is_empty-2.result _ _ (c.len-then-not-is_empty-2.ensures ∙ many ∙ sym count) (omega (arith, some, many, count)))

pub returns-else-not-is_empty-2 : goal.returns-else-not-is_empty-2
returns-else-not-is_empty-2 c =
    let arm = c.in-Choice in
    let many : vec_len arm.alternatives ≡ length arm.alternatives.items = search rules in
    let count = count_of_choices arm.alternatives.items in
    within_along _ _ _ (ap ty_view arm.is ∙ ty-Choice arm.alternatives)
    (not_true c.is_empty-in-Choice.result _ c.if-not-is_empty-2.false (λ h. empty _ c.if-not-is_empty-2.ensures (omega (arith, h.0, many, count))))
