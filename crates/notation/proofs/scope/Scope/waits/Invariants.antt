use Rattle.syntax.specs.View.{tree}
use Rattle.notation.specs.Known.{IsScope}
use Rattle.notation.specs.Ordering.{AllWait}
use Rattle.notation.proofs.scope.Scope.waits.Given as goal

abbrev pub invariant-loop-place : goal.invariant-loop-place
invariant-loop-place l = IsScope l.self.module.now l.self → AllWait (tree l.self.module.now) l.place l.waits.waiting.items l.waits.users.items
