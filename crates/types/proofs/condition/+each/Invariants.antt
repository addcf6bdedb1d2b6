use Rattle.std.specs.List.{AllByRecursion}
use Rattle.types.specs.Judging.{Meets}
use Rattle.types.proofs.LoopLemmas.{IsLeftTo}
use Rattle.types.proofs.LimitLemmas.{nodes_of_fields, nodes_of_choices}
use Rattle.types.proofs.condition.+each.Given as goal

abbrev pub invariant-components_meet-loop-field : goal.invariant-components_meet-loop-field
invariant-components_meet-loop-field l = IsLeftTo (λ fields. AllByRecursion (Meets l.condition) (nodes_of_fields fields)) l.fields l.field-index

abbrev pub invariant-alternatives_meet-loop-alternative : goal.invariant-alternatives_meet-loop-alternative
invariant-alternatives_meet-loop-alternative l = IsLeftTo (λ alternatives. AllByRecursion (Meets l.condition) (nodes_of_choices alternatives)) l.alternatives l.alternative-index
