use Rattle.std.proofs.Common.{◌∙◌, Some, None, length, sym, ap, subst, arith}
use Rattle.types.specs.View.{ty_view}
use Rattle.types.specs.WellFormed.{nodes_of, levels_of}
use Rattle.types.specs.Judging.{IsLeft}
use Rattle.types.proofs.ViewLemmas.{ty-Choice}
use Rattle.types.proofs.LimitLemmas.{LeftBy, nodes_of_fields, levels_of_fields, left_goes_on, left_stops, left_ends, choice_left, fields_counted, choices_counted}
use Rattle.types.proofs.limits.+counting.Goals as goal

pub left_by_components-loop-field-preserved : goal.left_by_components-loop-field-preserved
left_by_components-loop-field-preserved t c =
    left_goes_on fields_counted c.args.nodes c.loop-field.left _ c.args.levels c.args.fields.now c.loop-field.field-index c.field-item.result (omega arith) c.field-item.is c.in_ok-left.ensures c.loop-field.invariant

pub left_by_components-returns-in_err-left : goal.left_by_components-returns-in_err-left
left_by_components-returns-in_err-left t c =
    subst (LeftBy nodes_of_fields levels_of_fields c.args.nodes c.args.levels c.args.fields.now) (sym c.from_residual.ensures)
    (left_stops fields_counted c.args.nodes c.loop-field.left c.args.levels c.args.fields.now c.loop-field.field-index c.field-item.result (omega arith) c.field-item.is c.in_err-left.ensures c.loop-field.invariant)

pub left_by_components-returns : goal.left_by_components-returns
left_by_components-returns t c = left_ends fields_counted c.args.nodes c.loop-field.left c.args.levels c.args.fields.now c.loop-field.field-index (omega arith) c.loop-field.invariant

pub nodes_left-loop-alternative-preserved : goal.nodes_left-loop-alternative-preserved
nodes_left-loop-alternative-preserved t c =
    left_goes_on choices_counted c.in_ok-others.others c.loop-alternative.left _ c.args.levels c.deref-alternative-items.result.now c.loop-alternative.alternative-index c.alternative-item.result (omega arith) c.alternative-item.is c.in_ok-left-in-Choice.ensures c.loop-alternative.invariant

pub nodes_left-returns-in_err-left-in-Choice : goal.nodes_left-returns-in_err-left-in-Choice
nodes_left-returns-in_err-left-in-Choice t c =
    let none = left_stops choices_counted c.in_ok-others.others c.loop-alternative.left c.args.levels c.deref-alternative-items.result.now c.loop-alternative.alternative-index c.alternative-item.result (omega arith) c.alternative-item.is c.in_err-left-in-Choice.ensures c.loop-alternative.invariant in
    subst (λ r. IsLeft c.args.nodes c.args.levels (length (nodes_of (ty_view c.args.ty.now))) (levels_of (ty_view c.args.ty.now)) r) (sym c.from_residual-in_err-left-in-Choice.ensures)
    (choice_left c.args.nodes c.in_ok-others.others c.args.levels (ty_view c.args.ty.now) c.in-Choice.alternatives.items c.deref-alternative-items.result.now None (ap ty_view c.in-Choice.is ∙ ty-Choice c.in-Choice.alternatives) c.deref-alternative-items.ensures.value (omega (arith, c.in_ok-others.ensures)) none)

pub nodes_left-returns-after-loop-alternative : goal.nodes_left-returns-after-loop-alternative
nodes_left-returns-after-loop-alternative t c =
    let all = left_ends choices_counted c.in_ok-others.others c.loop-alternative.left c.args.levels c.deref-alternative-items.result.now c.loop-alternative.alternative-index (omega arith) c.loop-alternative.invariant in
    choice_left c.args.nodes c.in_ok-others.others c.args.levels (ty_view c.args.ty.now) c.in-Choice.alternatives.items c.deref-alternative-items.result.now (Some c.loop-alternative.left) (ap ty_view c.in-Choice.is ∙ ty-Choice c.in-Choice.alternatives) c.deref-alternative-items.ensures.value (omega (arith, c.in_ok-others.ensures)) all
