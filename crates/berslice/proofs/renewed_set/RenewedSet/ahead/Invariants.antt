use Rattle.std.proofs.Common.{◌≤◌}
use Rattle.berslice.proofs.renewed_set.RenewedSet.ahead.Given as goal

abbrev pub invariant-loop-place : goal.invariant-loop-place
invariant-loop-place l = l.self.first ≤ l.place
