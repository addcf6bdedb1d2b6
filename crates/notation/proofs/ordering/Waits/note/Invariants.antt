use Rattle.std.proofs.Common.{◌≡◌, ◌+◌, ◌<◌, ℕ, length, take}
use Rattle.notation.specs.Waiting.{times}
use Rattle.notation.specs.Ordering.{users_at}
use Rattle.notation.proofs.ordering.Waits.note.Given as goal

abbrev pub invariant-loop-place : goal.invariant-loop-place
invariant-loop-place l = record {
  waiting : l.self.waiting ≡ l.fn.self.waiting;
  long : length l.self.users.items ≡ length l.fn.self.users.items;
  others : (place other : ℕ) → (l.user ≡ other → ⊥) → times other (users_at l.self.users.items place) ≡ times other (users_at l.fn.self.users.items place);
  own : (place : ℕ) → place < length l.fn.self.users.items → times l.user (users_at l.self.users.items place) ≡ times l.user (users_at l.fn.self.users.items place) + times place (take l.place-index l.used);
}
