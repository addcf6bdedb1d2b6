use Rattle.std.proofs.Common.{◌≡◌, ◌+◌, ◌-◌, ◌*◌}
use Rattle.syntax.specs.Reading.{signs_from}
use Rattle.syntax.specs.TypeReading.{type_at}
use Rattle.syntax.specs.PartReading.{listed, parts_at}
use Rattle.syntax.proofs.types.+types.Given as goal

abbrev pub decreases-type_at : goal.decreases-type_at
decreases-type_at l = 6 * l.source.levels + 0

abbrev pub decreases-tagged_at : goal.decreases-tagged_at
decreases-tagged_at l = 6 * l.source.levels + 1

abbrev pub decreases-of_at : goal.decreases-of_at
decreases-of_at l = 6 * l.source.levels + 1

abbrev pub decreases-named_at : goal.decreases-named_at
decreases-named_at l = 6 * l.source.levels + 1

abbrev pub decreases-parts_at : goal.decreases-parts_at
decreases-parts_at l = 6 * l.source.levels + 2

abbrev pub decreases-list_at : goal.decreases-list_at
decreases-list_at l = 6 * l.source.levels + 3

abbrev pub decreases-choice_at : goal.decreases-choice_at
decreases-choice_at l = 6 * l.source.levels + 3

abbrev pub decreases-group_at : goal.decreases-group_at
decreases-group_at l = 6 * l.source.levels + 4

abbrev pub decreases-shape_at : goal.decreases-shape_at
decreases-shape_at l = 6 * l.source.levels + 5

abbrev pub invariant-parts_at-loop-count : goal.invariant-parts_at-loop-count
invariant-parts_at-loop-count l =
    parts_at (type_at l.source.levels) (256 - l._count) (listed l.found) (signs_from l.next l.source.terminals.now)
    ≡ parts_at (type_at l.source.levels) 256 (listed l.fn.parts) (signs_from l.at l.source.terminals.now)
