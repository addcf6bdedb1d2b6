use Rattle.std.proofs.Common.{◌≡◌, ℕ, drop, length}
use Rattle.notation.specs.Waiting.{AreWaiting, Extends}
use Rattle.notation.proofs.ordering.release.Given as goal

abbrev pub invariant-loop-user : goal.invariant-loop-user
invariant-loop-user l = record {
  waiting : (left : ℕ → ℕ) → AreWaiting left l.users l.fn.waiting.items l.fn.ready.items → AreWaiting left (drop l.user-index l.users) l.waiting.items l.ready.items;
  length : length l.waiting.items ≡ length l.fn.waiting.items;
  ready : Extends l.fn.ready.items l.ready.items;
}
