use Rattle.std.proofs.Common.{◌-◌, ◌≤◌, length}
use Rattle.lexis.proofs.GapLemmas.{Reaches}
use Rattle.lexis.proofs.gap.gap.Given as goal

abbrev pub invariant-loop-used : goal.invariant-loop-used
invariant-loop-used l = record { within : l.count ≤ length l.octets; reached : Reaches l.octets l.count }

abbrev pub decreases-loop-used : goal.decreases-loop-used
decreases-loop-used l = length l.octets - l.count
