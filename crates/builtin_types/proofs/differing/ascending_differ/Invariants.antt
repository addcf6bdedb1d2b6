use Rattle.std.proofs.Common.{◌≢◌, ◌+◌, ◌<◌, ℕ, ℤ, get_or}
use Rattle.builtin_types.proofs.differing.ascending_differ.Given as goal

abbrev pub invariant-loop-place : goal.invariant-loop-place
invariant-loop-place l = (k : ℕ) (d : ℤ) → k + 1 < l.place → get_or l.numbers k d ≢ get_or l.numbers (k + 1) d
