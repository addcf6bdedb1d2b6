use Rattle.types.proofs.LimitLemmas.{LeadsTo, nodes_of_fields, levels_of_fields, nodes_of_choices, levels_of_choices}
use Rattle.types.proofs.limits.+counting.Given as goal

abbrev pub invariant-left_by_components-loop-field : goal.invariant-left_by_components-loop-field
invariant-left_by_components-loop-field l = LeadsTo nodes_of_fields levels_of_fields l.nodes l.left l.levels l.fields l.field-index

abbrev pub invariant-nodes_left-loop-alternative : goal.invariant-nodes_left-loop-alternative
invariant-nodes_left-loop-alternative l = LeadsTo nodes_of_choices levels_of_choices l.others l.left l.levels l.alternative-items l.alternative-index
