use Rattle.std.proofs.Common.{◌≡◌}
use Rattle.notation.specs.Known.{IsScope, IsNewScope}
use Rattle.notation.specs.Settling.{IsSettling}
use Rattle.notation.specs.Weighed.{AreWeighed}
use Rattle.notation.specs.Apart.{AreApart}
use Rattle.notation.proofs.scope.Scope.settle.Given as goal

abbrev pub invariant-loop-turn : goal.invariant-loop-turn
invariant-loop-turn l = record {
  same : l.self.module ≡ l.fn.self.module;
  scope_of : IsNewScope l.fn.self.module.now l.fn.self → IsScope l.fn.self.module.now l.self;
  settling : IsNewScope l.fn.self.module.now l.fn.self → IsSettling l.fn.self.module.now l.self.seen.items l.waits.waiting.items l.waits.users.items l.ready.items l.turn;
  weighed : IsNewScope l.fn.self.module.now l.fn.self → AreWeighed l.fn.self.module.now l.self;
  apart : IsNewScope l.fn.self.module.now l.fn.self → AreApart l.self;
}
