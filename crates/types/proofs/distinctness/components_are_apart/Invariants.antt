use Rattle.types.proofs.LoopLemmas.{IsLeftTo}
use Rattle.types.proofs.TagLemmas.{Apart}
use Rattle.types.proofs.distinctness.components_are_apart.Given as goal

abbrev pub invariant-loop-i : goal.invariant-loop-i
invariant-loop-i l = IsLeftTo Apart l.fields l.i
