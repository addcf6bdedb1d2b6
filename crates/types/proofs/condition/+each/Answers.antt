use Rattle.std.proofs.Common.{arith}
use Rattle.std.specs.List.{AllByRecursion}
use Rattle.types.specs.Judging.{Meets}
use Rattle.types.proofs.LoopLemmas.{goes_on, stops, ends, is_so, is_not_so, so, not_so}
use Rattle.types.proofs.LimitLemmas.{nodes_of_fields, nodes_of_choices, fields_counted, choices_counted}
use Rattle.types.proofs.NodeLemmas.{nodes_first}
use Rattle.types.proofs.condition.+each.Goals as goal

pub components_meet-loop-field-preserved : goal.components_meet-loop-field-preserved
components_meet-loop-field-preserved t c =
    let f = c.field-item.result in
    let M = Meets c.args.condition in
    goes_on (λ fields. AllByRecursion M (nodes_of_fields fields)) _ c.args.fields.now c.loop-field.field-index f (omega arith) c.field-item.is (nodes_first fields_counted M f _)
    (so _ _ c.each_meets.ensures c.if-not-each_meets.false) c.loop-field.invariant

pub components_meet-returns-then-not-each_meets : goal.components_meet-returns-then-not-each_meets
components_meet-returns-then-not-each_meets t c =
    let f = c.field-item.result in
    let M = Meets c.args.condition in
    is_not_so (stops (λ fields. AllByRecursion M (nodes_of_fields fields)) _ c.args.fields.now c.loop-field.field-index f (omega arith) c.field-item.is (nodes_first fields_counted M f _)
    (not_so _ _ c.each_meets.ensures c.if-not-each_meets.true) c.loop-field.invariant)

pub components_meet-returns : goal.components_meet-returns
components_meet-returns t c = is_so (ends (λ fields. AllByRecursion (Meets c.args.condition) (nodes_of_fields fields)) c.args.fields.now c.loop-field.field-index (omega arith) tt c.loop-field.invariant)

pub alternatives_meet-loop-alternative-preserved : goal.alternatives_meet-loop-alternative-preserved
alternatives_meet-loop-alternative-preserved t c =
    let a = c.alternative-item.result in
    let M = Meets c.args.condition in
    goes_on (λ alternatives. AllByRecursion M (nodes_of_choices alternatives)) _ c.args.alternatives.now c.loop-alternative.alternative-index a (omega arith) c.alternative-item.is (nodes_first choices_counted M a _)
    (so _ _ c.each_meets.ensures c.if-not-each_meets.false) c.loop-alternative.invariant

pub alternatives_meet-returns-then-not-each_meets : goal.alternatives_meet-returns-then-not-each_meets
alternatives_meet-returns-then-not-each_meets t c =
    let a = c.alternative-item.result in
    let M = Meets c.args.condition in
    is_not_so (stops (λ alternatives. AllByRecursion M (nodes_of_choices alternatives)) _ c.args.alternatives.now c.loop-alternative.alternative-index a (omega arith) c.alternative-item.is (nodes_first choices_counted M a _)
    (not_so _ _ c.each_meets.ensures c.if-not-each_meets.true) c.loop-alternative.invariant)

pub alternatives_meet-returns : goal.alternatives_meet-returns
alternatives_meet-returns t c = is_so (ends (λ alternatives. AllByRecursion (Meets c.args.condition) (nodes_of_choices alternatives)) c.args.alternatives.now c.loop-alternative.alternative-index (omega arith) tt c.loop-alternative.invariant)
