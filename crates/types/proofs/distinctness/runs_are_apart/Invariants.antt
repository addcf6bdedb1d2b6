use Rattle.types.proofs.LoopLemmas.{IsLeftTo}
use Rattle.types.proofs.TagLemmas.{Runs}
use Rattle.types.proofs.distinctness.runs_are_apart.Given as goal

abbrev pub invariant-loop-i : goal.invariant-loop-i
invariant-loop-i l = IsLeftTo Runs l.fields l.i
