use Rattle.std.proofs.Common.{arith, rules, IsTrue, ap, sym, ◌∙◌}
use Rattle.std.proofs.lemmas.Bool.{ltb-true}
use Rattle.types.specs.View.{ty_view, value_view}
use Rattle.types.proofs.ViewLemmas.{ty-Enumerated, ty-Sequence, ty-Set, ty-SequenceOf, ty-SetOf, value-Enumerated, value-Fields, value-Items}
use Rattle.types.proofs.LoopLemmas.{goes_on, stops, ends, both_go_on, both_stop, both_end, is_so, is_not_so, so, not_so}
use Rattle.types.proofs.ConformingLemmas.{SlotsHold, SlotHolds, slots_first, as_many_slots, slots_along, ItemsHold, items_first, items_along, alternative_at, no_alternative_past, conforms_along, enumerated_along}
use Rattle.types.proofs.conforming.+conforms.Goals as goal

pub conforms-returns-in-Enumerated-Enumerated : goal.conforms-returns-in-Enumerated-Enumerated
conforms-returns-in-Enumerated-Enumerated t c =
    let arm = c.in-Enumerated-Enumerated in
    conforms_along (IsTrue c.has_number.result) _ _ _ _ (ap ty_view arm.is-0 ∙ ty-Enumerated arm.field-0-0 arm.items) (ap value_view arm.is-1 ∙ value-Enumerated arm.number)
    (enumerated_along (IsTrue c.has_number.result) arm.items.items c.as_slice-in-Enumerated-Enumerated.result.now arm.number c.as_slice-in-Enumerated-Enumerated.ensures.value (search rules) c.has_number.ensures)

pub conforms-returns-in-Sequence-Fields : goal.conforms-returns-in-Sequence-Fields
conforms-returns-in-Sequence-Fields t c =
    let arm = c.in-Sequence-Fields in
    conforms_along (IsTrue c.slots_conform.result) _ _ _ _ (ap ty_view arm.is-0 ∙ ty-Sequence arm.field-0-0 arm.fields) (ap value_view arm.is-1 ∙ value-Fields arm.slots)
    (slots_along (IsTrue c.slots_conform.result) _ _ _ _ c.deref.ensures.value c.deref-in-Sequence-Fields.ensures.value c.slots_conform.ensures)

pub conforms-returns-in-Set-Fields : goal.conforms-returns-in-Set-Fields
conforms-returns-in-Set-Fields t c =
    let arm = c.in-Set-Fields in
    conforms_along (IsTrue c.slots_conform-in-Set-Fields.result) _ _ _ _ (ap ty_view arm.is-0 ∙ ty-Set arm.field-0-0 arm.fields) (ap value_view arm.is-1 ∙ value-Fields arm.slots)
    (slots_along (IsTrue c.slots_conform-in-Set-Fields.result) _ _ _ _ c.deref-in-Set-Fields.ensures.value c.deref-in-Set-Fields-2.ensures.value c.slots_conform-in-Set-Fields.ensures)

pub conforms-returns-in-SequenceOf-Items : goal.conforms-returns-in-SequenceOf-Items
conforms-returns-in-SequenceOf-Items t c =
    let arm = c.in-SequenceOf-Items in
    conforms_along (IsTrue c.all_conform.result) _ _ _ _ (ap ty_view arm.is-0 ∙ ty-SequenceOf arm.field-0-0 arm.inner) (ap value_view arm.is-1 ∙ value-Items arm.items)
    (items_along (IsTrue c.all_conform.result) _ _ _ _ c.deref-in-SequenceOf-Items.ensures c.deref-in-SequenceOf-Items-2.ensures.value c.all_conform.ensures)

pub conforms-returns-in-SetOf-Items : goal.conforms-returns-in-SetOf-Items
conforms-returns-in-SetOf-Items t c =
    let arm = c.in-SetOf-Items in
    conforms_along (IsTrue c.all_conform-in-SetOf-Items.result) _ _ _ _ (ap ty_view arm.is-0 ∙ ty-SetOf arm.field-0-0 arm.inner) (ap value_view arm.is-1 ∙ value-Items arm.items)
    (items_along (IsTrue c.all_conform-in-SetOf-Items.result) _ _ _ _ c.deref-in-SetOf-Items.ensures c.deref-in-SetOf-Items-2.ensures.value c.all_conform-in-SetOf-Items.ensures)

pub slots_conform-returns-then-fields-slots : goal.slots_conform-returns-then-fields-slots
slots_conform-returns-then-fields-slots t c =
    is_not_so (λ h. let many = as_many_slots c.args.fields.now c.args.slots.now h in omega (arith, c.if-fields-slots.true))

pub slots_conform-loop-i-preserved : goal.slots_conform-loop-i-preserved
slots_conform-loop-i-preserved t c =
    let f = c.index-fields-i.result in
    let s = c.index-slots-i.result in
    both_go_on SlotsHold (SlotHolds f s) c.args.fields.now c.args.slots.now c.loop-i.i f s (omega arith) (omega arith) c.index-fields-i.is c.index-slots-i.is (slots_first f s _ _)
    (so c.slot_conforms.result _ c.slot_conforms.ensures c.if-not-slot_conforms.false) c.loop-i.invariant

pub slots_conform-returns-then-not-slot_conforms : goal.slots_conform-returns-then-not-slot_conforms
slots_conform-returns-then-not-slot_conforms t c =
    let f = c.index-fields-i.result in
    let s = c.index-slots-i.result in
    is_not_so (both_stop SlotsHold (SlotHolds f s) c.args.fields.now c.args.slots.now c.loop-i.i f s (omega arith) (omega arith) c.index-fields-i.is c.index-slots-i.is (slots_first f s _ _)
    (not_so c.slot_conforms.result _ c.slot_conforms.ensures c.if-not-slot_conforms.true) c.loop-i.invariant)

pub slots_conform-returns : goal.slots_conform-returns
slots_conform-returns t c = is_so (both_end SlotsHold c.args.fields.now c.args.slots.now c.loop-i.i (omega arith) (omega arith) tt c.loop-i.invariant)

pub alternative_conforms-returns-in-None : goal.alternative_conforms-returns-in-None
alternative_conforms-returns-in-None t c = is_not_so (no_alternative_past c.args.alternatives.now c.args.which _ (search rules))

pub alternative_conforms-returns-in-Some : goal.alternative_conforms-returns-in-Some
alternative_conforms-returns-in-Some t c =
    let x = c.in-Some.alternative.now in
    let found = c.in-Some.ensures.lookup in
    let below = ltb-true _ _ (sym found.0) in
    let both = alternative_at c.args.alternatives.now c.args.which x (value_view c.args.value.now) below found.1 in
    (λ yes. both.0 (c.conforms.ensures.0 yes), λ p. c.conforms.ensures.1 (both.1 p))

pub all_conform-loop-item-preserved : goal.all_conform-loop-item-preserved
all_conform-loop-item-preserved t c =
    let v = c.item-item.result in
    goes_on (ItemsHold (ty_view c.args.ty.now)) _ c.args.items.now c.loop-item.item-index v (omega arith) c.item-item.is (items_first (ty_view c.args.ty.now) v _)
    (so c.conforms.result _ c.conforms.ensures c.if-not-conforms.false) c.loop-item.invariant

pub all_conform-returns-then-not-conforms : goal.all_conform-returns-then-not-conforms
all_conform-returns-then-not-conforms t c =
    let v = c.item-item.result in
    is_not_so (stops (ItemsHold (ty_view c.args.ty.now)) _ c.args.items.now c.loop-item.item-index v (omega arith) c.item-item.is (items_first (ty_view c.args.ty.now) v _)
    (not_so c.conforms.result _ c.conforms.ensures c.if-not-conforms.true) c.loop-item.invariant)

pub all_conform-returns : goal.all_conform-returns
all_conform-returns t c = is_so (ends (ItemsHold (ty_view c.args.ty.now)) c.args.items.now c.loop-item.item-index (omega arith) tt c.loop-item.invariant)
