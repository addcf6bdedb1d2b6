use Rattle.std.proofs.Common.{length, ◌-◌}
use Rattle.encoding_parts.specs.Segments.{IsRun}
use Rattle.encoding_parts.proofs.segments.Segments.join_run.Given as goal

abbrev pub invariant-loop-end : goal.invariant-loop-end
invariant-loop-end l = IsRun l.kind l.initial.self l.self l.octets l.at

abbrev pub decreases-loop-end : goal.decreases-loop-end
decreases-loop-end l = length l.octets - l.at
