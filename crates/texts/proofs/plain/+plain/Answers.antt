use Rattle.std.proofs.Common.{◌∙◌, ◌<◌, length, sym, ap, arith}
use Rattle.std.proofs.lemmas.Bool.{ltb-true}
use Rattle.types.specs.View.{ty_view, value_view}
use Rattle.types.proofs.ViewLemmas.{ty-Sequence, ty-Set, ty-SequenceOf, ty-SetOf, value-Fields, value-Items}
use Rattle.texts.proofs.PlainLemmas.{items_go_on, items_end, slots_go_on, slots_end, alternative_ordered, few_ordered, ordered_along, slots_along, items_along}
use Rattle.texts.proofs.plain.+plain.Goals as goal

pub alternative_plain-returns-in-Some : goal.alternative_plain-returns-in-Some
alternative_plain-returns-in-Some t c = λ yes.
    let found = c.in-Some.ensures.lookup in
    alternative_ordered c.args.alternatives.now c.args.which c.in-Some.alternative.now (value_view c.args.value.now) (ltb-true _ _ (sym found.0)) found.1 (c.is_plain.ensures yes)

pub is_plain-returns-in-Sequence-Fields : goal.is_plain-returns-in-Sequence-Fields
is_plain-returns-in-Sequence-Fields t c = λ yes.
    let arm = c.in-Sequence-Fields in
    ordered_along _ _ _ _ (ap ty_view arm.is-0 ∙ ty-Sequence arm.field-0-0 arm.fields) (ap value_view arm.is-1 ∙ value-Fields arm.slots)
    (slots_along _ _ _ _ c.deref.ensures.value c.deref-in-Sequence-Fields.ensures.value (c.are_plain.ensures yes))

pub is_plain-returns-in-Set-Fields : goal.is_plain-returns-in-Set-Fields
is_plain-returns-in-Set-Fields t c = λ yes.
    let arm = c.in-Set-Fields in
    ordered_along _ _ _ _ (ap ty_view arm.is-0 ∙ ty-Set arm.field-0-0 arm.fields) (ap value_view arm.is-1 ∙ value-Fields arm.slots)
    (slots_along _ _ _ _ c.deref-in-Set-Fields.ensures.value c.deref-in-Set-Fields-2.ensures.value (c.are_plain-in-Set-Fields.ensures yes))

pub is_plain-returns-in-SequenceOf-Items : goal.is_plain-returns-in-SequenceOf-Items
is_plain-returns-in-SequenceOf-Items t c = λ yes.
    let arm = c.in-SequenceOf-Items in
    ordered_along _ _ _ _ (ap ty_view arm.is-0 ∙ ty-SequenceOf arm.field-0-0 arm.inner) (ap value_view arm.is-1 ∙ value-Items arm.items)
    (items_along _ _ _ _ c.deref-in-SequenceOf-Items.ensures c.deref-in-SequenceOf-Items-2.ensures.value (c.all_plain.ensures yes))

pub is_plain-returns-then-len-lt2 : goal.is_plain-returns-then-len-lt2
is_plain-returns-then-len-lt2 t c = λ yes.
    let arm = c.in-SetOf-Items in
    let few : length arm.items.items < 2 = omega (arith, arm.items.ok.0, c.if-len-lt2.true, c.len.ensures) in
    ordered_along _ _ _ _ (ap ty_view arm.is-0 ∙ ty-SetOf arm.field-0-0 arm.inner) (ap value_view arm.is-1 ∙ value-Items arm.items)
    (few_ordered arm.field-0-0 (ty_view arm.inner.value) arm.items.items few (items_along _ _ _ _ c.deref-then-len-lt2.ensures c.deref-then-len-lt2-2.ensures.value (c.all_plain-then-len-lt2.ensures yes)))

pub are_plain-loop-i-preserved : goal.are_plain-loop-i-preserved
are_plain-loop-i-preserved t c =
    slots_go_on c.args.fields.now c.args.slots.now c.loop-i.i c.index-fields-i.result c.index-slots-i.result _ (omega arith) (omega arith) c.index-fields-i.is c.index-slots-i.is (c.slot_plain.ensures c.if-not-slot_plain.false) c.loop-i.invariant

pub are_plain-returns : goal.are_plain-returns
are_plain-returns t c = λ yes. slots_end c.args.fields.now c.args.slots.now c.loop-i.i _ (omega arith) (omega arith) c.loop-i.invariant

pub all_plain-loop-item-preserved : goal.all_plain-loop-item-preserved
all_plain-loop-item-preserved t c =
    items_go_on (ty_view c.args.ty.now) c.args.items.now c.loop-item.item-index c.item-item.result _ (omega arith) c.item-item.is (c.is_plain.ensures c.if-not-is_plain.false) c.loop-item.invariant

pub all_plain-returns : goal.all_plain-returns
all_plain-returns t c = λ yes. items_end (ty_view c.args.ty.now) c.args.items.now c.loop-item.item-index _ (omega arith) c.loop-item.invariant
