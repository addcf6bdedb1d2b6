use Rattle.types.proofs.LoopLemmas.{AreLeftTo}
use Rattle.types.proofs.ConformingLemmas.{AreSameSlots, AreSameItems}
use Rattle.types.proofs.equality.+equality.Given as goal

abbrev pub invariant-are_equal_slots-loop-i : goal.invariant-are_equal_slots-loop-i
invariant-are_equal_slots-loop-i l = AreLeftTo AreSameSlots l.a l.b l.i

abbrev pub invariant-are_equal_items-loop-i : goal.invariant-are_equal_items-loop-i
invariant-are_equal_items-loop-i l = AreLeftTo AreSameItems l.a l.b l.i
