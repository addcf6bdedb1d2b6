use Rattle.std.proofs.Common.{length, ◌-◌}
use Rattle.strict.specs.Segments.{AreJoined}
use Rattle.strict.proofs.segments.read_segments.Given as goal

abbrev pub invariant-loop-kind : goal.invariant-loop-kind
invariant-loop-kind l = AreJoined l.kind l.room l.octets l.joined l.full l.at

abbrev pub decreases-loop-kind : goal.decreases-loop-kind
decreases-loop-kind l = length l.octets - l.at
