use Rattle.types.proofs.LoopLemmas.{IsLeftTo}
use Rattle.types.proofs.TagLemmas.{ChoicesApart}
use Rattle.types.proofs.distinctness.alternatives_are_apart.Given as goal

abbrev pub invariant-loop-i : goal.invariant-loop-i
invariant-loop-i l = IsLeftTo ChoicesApart l.alternatives l.i
