use Rattle.std.proofs.Common.{◌+◌, ◌*◌}
use Rattle.published.proofs.types.+types.Given as goal

abbrev pub decreases-type_at : goal.decreases-type_at
decreases-type_at l = 6 * l.levels

abbrev pub decreases-inner_at : goal.decreases-inner_at
decreases-inner_at l = 6 * l.levels + 1

abbrev pub decreases-alternative_at : goal.decreases-alternative_at
decreases-alternative_at l = 6 * l.levels + 1

abbrev pub decreases-component_at : goal.decreases-component_at
decreases-component_at l = 6 * l.levels + 1

abbrev pub decreases-tagged_at : goal.decreases-tagged_at
decreases-tagged_at l = 6 * l.levels + 2

abbrev pub decreases-selection_at : goal.decreases-selection_at
decreases-selection_at l = 6 * l.levels + 2

abbrev pub decreases-add_alternatives : goal.decreases-add_alternatives
decreases-add_alternatives l = 6 * l.levels + 2

abbrev pub decreases-add_components : goal.decreases-add_components
decreases-add_components l = 6 * l.levels + 2

abbrev pub decreases-choice_at : goal.decreases-choice_at
decreases-choice_at l = 6 * l.levels + 3

abbrev pub decreases-list_at : goal.decreases-list_at
decreases-list_at l = 6 * l.levels + 3

abbrev pub decreases-group_at : goal.decreases-group_at
decreases-group_at l = 6 * l.levels + 4

abbrev pub decreases-single_at : goal.decreases-single_at
decreases-single_at l = 6 * l.levels + 4

abbrev pub decreases-form_at : goal.decreases-form_at
decreases-form_at l = 6 * l.levels + 5
