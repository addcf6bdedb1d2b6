use Rattle.std.proofs.Common.{◌≡◌, ◌-◌, map}
use Rattle.syntax.specs.Reading.{signs_from, more_at, in_front}
use Rattle.syntax.proofs.listing.parts_at.Given as goal

abbrev pub invariant-loop-count : goal.invariant-loop-count
invariant-loop-count g l =
    in_front (map g.P.Part.view l.found.items) (more_at g.P.Part.read (256 - l._count) (signs_from l.next l.terminals))
    ≡ more_at g.P.Part.read 256 (signs_from l.at l.terminals)
