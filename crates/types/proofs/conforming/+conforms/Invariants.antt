use Rattle.types.specs.View.{ty_view}
use Rattle.types.proofs.LoopLemmas.{IsLeftTo, AreLeftTo}
use Rattle.types.proofs.ConformingLemmas.{SlotsHold, ItemsHold}
use Rattle.types.proofs.conforming.+conforms.Given as goal

abbrev pub invariant-slots_conform-loop-i : goal.invariant-slots_conform-loop-i
invariant-slots_conform-loop-i l = AreLeftTo SlotsHold l.fields l.slots l.i

abbrev pub invariant-all_conform-loop-item : goal.invariant-all_conform-loop-item
invariant-all_conform-loop-item l = IsLeftTo (ItemsHold (ty_view l.ty)) l.items l.item-index
