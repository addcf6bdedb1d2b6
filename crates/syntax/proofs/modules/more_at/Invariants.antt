use Rattle.std.proofs.Common.{◌≡◌, ◌-◌, map, length}
use Rattle.syntax.specs.View.{assignment}
use Rattle.syntax.specs.Reading.{signs_from, more_at, in_front}
use Rattle.syntax.specs.ModuleReading.{assignment_at}
use Rattle.syntax.proofs.modules.more_at.Given as goal

abbrev pub invariant-loop-count : goal.invariant-loop-count
invariant-loop-count l =
    in_front (map assignment l.found.items) (more_at assignment_at (length l.terminals - l._count) (signs_from l.next l.terminals))
    ≡ more_at assignment_at (length l.terminals) (signs_from l.at l.terminals)
