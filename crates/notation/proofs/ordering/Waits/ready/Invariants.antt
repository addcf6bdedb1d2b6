use Rattle.notation.specs.Waiting.{AreReady}
use Rattle.notation.proofs.ordering.Waits.ready.Given as goal

abbrev pub invariant-loop-place : goal.invariant-loop-place
invariant-loop-place l = AreReady l.self.waiting.items l.place l.ready.items
