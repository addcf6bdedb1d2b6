use Rattle.std.proofs.Common.{arith, refl, IsTrue, ap, ◌∙◌}
use Rattle.types.specs.View.{value_view}
use Rattle.types.proofs.ViewLemmas.{value-Bits, value-Fields}
use Rattle.types.proofs.LoopLemmas.{both_go_on, both_stop, both_end, is_so, is_not_so, so, not_so}
use Rattle.types.proofs.ConformingLemmas.{AreSameSlots, as_many_same_slots, AreSameItems, same_items_first, as_many_same_items, equal_bits, equal_along, equal_fields}
use Rattle.types.proofs.equality.+equality.Goals as goal

pub are_equal-returns-in-Bits-Bits : goal.are_equal-returns-in-Bits-Bits
are_equal-returns-in-Bits-Bits t c =
    let arm = c.in-Bits-Bits in
    equal_along (IsTrue c.eq-in-Bits-Bits.result) _ _ _ _ (ap value_view arm.is-0 ∙ value-Bits arm.a) (ap value_view arm.is-1 ∙ value-Bits arm.b) (equal_bits c.eq-in-Bits-Bits.result arm.a arm.b c.eq-in-Bits-Bits.ensures)

pub are_equal-returns-in-Fields-Fields : goal.are_equal-returns-in-Fields-Fields
are_equal-returns-in-Fields-Fields t c =
    let arm = c.in-Fields-Fields in
    equal_along (IsTrue c.are_equal_slots.result) _ _ _ _ (ap value_view arm.is-0 ∙ value-Fields arm.a) (ap value_view arm.is-1 ∙ value-Fields arm.b)
    (equal_fields (IsTrue c.are_equal_slots.result) _ _ _ _ c.deref.ensures.value c.deref-in-Fields-Fields.ensures.value c.are_equal_slots.ensures)

pub are_equal_slots-returns-then-a-b : goal.are_equal_slots-returns-then-a-b
are_equal_slots-returns-then-a-b t c =
    is_not_so (λ h. let many = as_many_same_slots c.args.a.now c.args.b.now h in c.if-a-b.true many)

pub are_equal_slots-returns : goal.are_equal_slots-returns
are_equal_slots-returns t c = is_so (both_end AreSameSlots c.args.a.now c.args.b.now c.loop-i.i (omega arith) (omega arith) refl c.loop-i.invariant)

pub are_equal_items-returns-then-a-b : goal.are_equal_items-returns-then-a-b
are_equal_items-returns-then-a-b t c =
    is_not_so (λ h. let many = as_many_same_items c.args.a.now c.args.b.now h in c.if-a-b.true many)

pub are_equal_items-loop-i-preserved : goal.are_equal_items-loop-i-preserved
are_equal_items-loop-i-preserved t c =
    let v = c.index-a-i.result in
    let w = c.index-b-i.result in
    both_go_on AreSameItems _ c.args.a.now c.args.b.now c.loop-i.i v w (omega arith) (omega arith) c.index-a-i.is c.index-b-i.is (same_items_first v w _ _)
    (so c.are_equal.result _ c.are_equal.ensures c.if-not-are_equal.false) c.loop-i.invariant

pub are_equal_items-returns-then-not-are_equal : goal.are_equal_items-returns-then-not-are_equal
are_equal_items-returns-then-not-are_equal t c =
    let v = c.index-a-i.result in
    let w = c.index-b-i.result in
    is_not_so (both_stop AreSameItems _ c.args.a.now c.args.b.now c.loop-i.i v w (omega arith) (omega arith) c.index-a-i.is c.index-b-i.is (same_items_first v w _ _)
    (not_so c.are_equal.result _ c.are_equal.ensures c.if-not-are_equal.true) c.loop-i.invariant)

pub are_equal_items-returns : goal.are_equal_items-returns
are_equal_items-returns t c = is_so (both_end AreSameItems c.args.a.now c.args.b.now c.loop-i.i (omega arith) (omega arith) refl c.loop-i.invariant)
