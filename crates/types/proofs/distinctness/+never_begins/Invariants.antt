use Rattle.types.proofs.LoopLemmas.{IsLeftTo}
use Rattle.types.proofs.TagLemmas.{ChoicesLack}
use Rattle.types.proofs.distinctness.+never_begins.Given as goal

abbrev pub invariant-loop-alternative : goal.invariant-loop-alternative
invariant-loop-alternative l = IsLeftTo (ChoicesLack l.tag) l.alternative-items l.alternative-index
