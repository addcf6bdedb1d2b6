use Rattle.types.proofs.LoopLemmas.{IsLeftTo}
use Rattle.encoding_parts.proofs.HeldPartsLemmas.{LeadsTo, NoneNext}
use Rattle.encoding_parts.proofs.held_parts.next_due.Given as goal

abbrev pub invariant-loop-which : goal.invariant-loop-which
invariant-loop-which l = LeadsTo l.left l.which × IsLeftTo (NoneNext l.tag) l.left l.which
