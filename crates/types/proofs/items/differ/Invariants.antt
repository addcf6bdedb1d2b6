use Rattle.std.proofs.Common.{◌≢◌, ◌+◌, ◌<◌, ℕ, ℤ, get_or}
use Rattle.types.proofs.items.differ.Given as goal

abbrev pub invariant-loop-i : goal.invariant-loop-i
invariant-loop-i l = (k : ℕ) (d : ℤ) → k + 1 < l.i → get_or l.numbers k d ≢ get_or l.numbers (k + 1) d
