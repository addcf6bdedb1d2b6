use Rattle.std.proofs.Common.{length, ◌-◌, ◌≤◌}
use Rattle.published_tokens.specs.Gap.{IsWithinLine}
use Rattle.published_tokens.proofs.gap.comment_rest.Given as goal

abbrev pub invariant-loop-count : goal.invariant-loop-count
invariant-loop-count l = record { within : l.count ≤ length l.octets; line : IsWithinLine l.octets l.count }

abbrev pub decreases-loop-count : goal.decreases-loop-count
decreases-loop-count l = length l.octets - l.count
