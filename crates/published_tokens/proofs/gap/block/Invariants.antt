use Rattle.std.proofs.Common.{length, ◌-◌, ◌≤◌}
use Rattle.published_tokens.proofs.gap.block.Given as goal

abbrev pub invariant-loop-count : goal.invariant-loop-count
invariant-loop-count l = l.count ≤ length l.octets

abbrev pub decreases-loop-count : goal.decreases-loop-count
decreases-loop-count l = length l.octets - l.count
