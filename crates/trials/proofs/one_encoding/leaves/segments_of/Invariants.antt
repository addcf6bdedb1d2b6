use Rattle.std.proofs.Common.{◌+◌, ◌-◌, ◌≤◌, length}
use Rattle.encoding_parts.specs.Segments.{IsSound}
use Rattle.trials.proofs.one_encoding.leaves.segments_of.Given as goal

abbrev pub invariant-loop-kind : goal.invariant-loop-kind
invariant-loop-kind l = record { there : l.at ≤ length l.octets; sound : IsSound l.kind l.segments }

abbrev pub decreases-loop-kind : goal.decreases-loop-kind
decreases-loop-kind l = (length l.octets - l.at) + length l.segments.frames.items
