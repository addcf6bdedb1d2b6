use Rattle.std.proofs.Common.{length, ◌+◌, ◌-◌}
use Rattle.berslice.proofs.LeafLemmas.{IsTakenSoFar}
use Rattle.berslice.proofs.leaf.pass_segments.Given as goal

abbrev pub invariant-loop-kind : goal.invariant-loop-kind
invariant-loop-kind l = IsTakenSoFar l.kind l.initial.string l.string l.octets l.start l.at

abbrev pub decreases-loop-kind : goal.decreases-loop-kind
decreases-loop-kind l = length l.string.frames.items + (length l.octets - l.at)
