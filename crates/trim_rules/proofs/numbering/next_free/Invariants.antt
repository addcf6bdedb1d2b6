use Rattle.std.proofs.Common.{ℕ, ◌≤◌, ◌<◌, Contains}
use Rattle.trim_rules.proofs.numbering.next_free.Given as goal

abbrev pub invariant-loop-number : goal.invariant-loop-number
invariant-loop-number l = (k : ℕ) → k < l.number-counter → l.from ≤ k → Contains l.used k
