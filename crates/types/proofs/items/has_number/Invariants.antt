use Rattle.types.proofs.LoopLemmas.{IsLeftTo}
use Rattle.types.proofs.ItemLemmas.{Lacks}
use Rattle.types.proofs.items.has_number.Given as goal

abbrev pub invariant-loop-item : goal.invariant-loop-item
invariant-loop-item l = IsLeftTo (Lacks l.number) l.items l.item-index
