use Rattle.std.proofs.Common.{◌≡◌, ℕ, [], length}
use Rattle.notation.specs.Ordering.{users_at}
use Rattle.notation.proofs.scope.Scope.no_users.Given as goal

abbrev pub invariant-loop-assignment : goal.invariant-loop-assignment
invariant-loop-assignment l = (length l.users.items ≡ l._assignment-index) × ((place : ℕ) → users_at l.users.items place ≡ [])
