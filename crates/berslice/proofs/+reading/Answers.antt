use Rattle.std.proofs.Common.{rules, IfSome, Option, Some, Vec, Global, ◌≡◌, ◌-◌, ◌<◌, ◌≤◌, [], set, refl, sym, ap, ◌∙◌, subst, arith, take, map, length}
use Rattle.std.proofs.lemmas.List.{take_rest, length-set, length-drop}
use Rattle.octets.specs.declared.tag.Tag.{Tag}
use Rattle.octets.specs.Rule.{ber}
use Rattle.types.specs.declared.ty.Ty as node
use Rattle.types.specs.declared.value.Value as value
use Rattle.types.specs.declared.value.Value.{Value}
use Rattle.types.specs.declared.ty.Alternative as alternative
use Rattle.types.specs.declared.ty.Field as field
use Rattle.types.specs.declared.ty.Field.{Field}
use Rattle.types.specs.Form.{IsConstructed}
use Rattle.types.specs.Shape.{Shape, Val}
use Rattle.types.specs.View.{ty_view, field_view, components_view, alternatives_view, value_view}
use Rattle.types.proofs.ViewLemmas.{ty-Sequence, ty-Set}
use Rattle.encoding_parts.specs.Parts.{Parts, IsGoodType}
use Rattle.encoding_parts.specs.HeldParts.{members_view}
use Rattle.berslice.specs.Heads.{IsOpened}
use Rattle.berslice.specs.Reading.{IsRead, AreContentsRead, AreMoreItemsRead, IsMemberRead}
use Rattle.berslice.specs.RenewedSet.{renewed_view, slots_view}
use Rattle.berslice.proofs.RenewedSetLemmas.{due_good, filled_come, IsFilledWith, renewed_come}
use Rattle.encoding_parts.specs.Renewed.{new_items}
use Rattle.berslice.proofs.ReadingLemmas.{both_of, IfSome-map, explicit_contents, sequence_contents, constructed_read, sequence_of_read, set_of_read, no_items_before, one_more_before, items_before, fewer_left, all_items, no_components_before, one_component_before, components_before, all_components, component_stands, good_components, good_component, good_alternative, place_chosen, chosen_read, no_members_before, one_member_before, members_before, member_some, field_type, set_contents, good_members, due_field}
use Rattle.berslice.proofs.+reading.Goals as goal
use Rattle.berslice.proofs.+reading.Goals.{items::read_list-in-Some, items::read_list-in-None}

pub reading::read_alternative-read_begun-requires : goal.reading::read_alternative-read_begun-requires
reading::read_alternative-read_begun-requires t c =
    let xs = c.args.alternatives.now in
    let a = c.index-alternatives-which.result in
    let bound = c.requires.there in
    let at = c.index-alternatives-which.is in
    (search (rules, node.the_lemmas, alternative.the_lemmas, bound, at), (good_alternative xs c.args.which a bound at c.requires.good, c.requires.front))

pub reading::read_alternative-returns : goal.reading::read_alternative-returns
unfolding value.out-Value denote.Hole.Carrier.out
reading::read_alternative-returns t c =
    let levels = c.args.levels in
    let octets = c.args.octets.now in
    let xs = c.args.alternatives.now in
    let which = c.args.which in
    let a = c.index-alternatives-which.result in
    let v = c.read_begun.new.value in
    let place : c.in-Chosen.field-0 ≡ which = place_chosen which c.in-Chosen.field-0 c.in-Chosen.boxed c.choose.new.value (c.choose.ensures c.if-not-choose.false) c.in-Chosen.is in
    IfSome-map c.read_begun.result _ (λ used. IsRead levels (Shape.choice (alternatives_view xs)) octets _ used)
    (λ used h. chosen_read levels xs which a octets v _ used c.requires.there c.index-alternatives-which.is (search (rules, value.the_lemmas) ∙ ap (λ p. Val.chosen p (value_view v)) place) h) c.read_begun.ensures

pub components::read_component-returns-in-Some-read_one : goal.components::read_component-returns-in-Some-read_one
components::read_component-returns-in-Some-read_one t c =
    component_stands c.args.levels c.args.field.now c.args.octets.now c.read_one.new.value c.settle.new.slot c.in-Some-read_one.used c.in-Some-read_one.ensures c.settle.ensures

pub components::read_components-read_slots-requires : goal.components::read_components-read_slots-requires
components::read_components-read_slots-requires t c =
    let many = ap (λ (slots : Vec (Option Value) Global). length slots.items) c.in-Fields.slots-is ∙ c.hold_slots.ensures c.if-not-hold_slots.false c.in-Fields.slots c.in-Fields.is in
    (search rules, (c.requires, many))

pub components::read_components-returns : goal.components::read_components-returns
unfolding value.out-Value denote.Hole.Carrier.out
components::read_components-returns t c =
    let fields = c.args.fields.now in
    IfSome-map c.read_slots.result _ (λ used. (tag : Tag) → AreContentsRead c.args.levels (Shape.sequence tag (components_view fields)) c.args.octets.now _ used)
    (λ used h. λ tag. sequence_contents c.args.levels tag fields c.args.octets.now _ c.read_slots.new.slots.items used (search (rules, value.the_lemmas)) h) c.read_slots.ensures

pub components::read_each-loop-place-init : goal.components::read_each-loop-place-init
components::read_each-loop-place-init t c = (no_components_before c.args.levels c.args.octets.now [] refl, c.requires.slots)

pub components::read_each-read_component-requires : goal.components::read_each-read_component-requires
components::read_each-read_component-requires t c =
    let fields = c.args.fields.now in
    let bound : c.loop-place.place < length fields = c.loop-place-test.true in
    let is = c.index-fields-place.is in
    (search (rules, node.the_lemmas, field.the_lemmas, bound, is), good_component fields c.loop-place.place c.index-fields-place.result bound is c.requires.good)

pub components::read_each-loop-place-preserved : goal.components::read_each-loop-place-preserved
components::read_each-loop-place-preserved t c =
    let fields = c.args.fields.now in
    let i = c.loop-place.place in
    let bound : i < length fields = c.loop-place-test.true in
    let slots = c.loop-place.slots in
    let slot = c.read_component.new.slot in
    (one_component_before c.args.levels fields i c.index-fields-place.result c.args.octets.now c.loop-place.rest.now slots slot c.in_ok-used.used bound c.index-fields-place.is (omega (arith, bound, c.loop-place.invariant.1)) c.loop-place.invariant.0 c.in_ok-used.ensures, length-set slots i slot ∙ c.loop-place.invariant.1)

pub components::read_each-returns : goal.components::read_each-returns
components::read_each-returns t c =
    let levels = c.args.levels in
    let fields = c.args.fields.now in
    let octets = c.args.octets.now in
    let i = c.loop-place.place in
    let slots = c.loop-place.slots in
    let rest = c.loop-place.rest.now in
    let used = length octets - length rest in
    all_components levels fields i octets slots used c.loop-place-test.false c.loop-place.invariant.1 (components_before levels (map field_view (take i fields)) octets rest (take i slots) used c.loop-place.invariant.0 refl)

pub reading::read_constructed-returns : goal.reading::read_constructed-returns
reading::read_constructed-returns t c =
    let octets = c.args.octets.now in
    let type = ty_view c.args.ty.now in
    let inside = c.in_ok-inside.inside in
    let used = c.in_ok-used.used in
    let v = c.read_inside.new.value in
    let tag = c.in_ok-tag.field-0 in
    both_of (λ n. n ≤ length octets) (λ n. (tag : Tag) → IsOpened tag octets inside → IsConstructed ber tag (take used inside.octets.now) (take n octets)) (λ n. IsRead c.args.levels type octets v n)
    c.close.result c.close.ensures.there c.close.ensures.value
    (λ n there whole. constructed_read c.args.levels tag type octets inside.octets.now v used n c.requires (search rules) c.in_ok-tag.ensures.value c.in_ok-used.ensures there (whole tag c.in_ok-inside.ensures))

pub items::read_items-loop-alloc-init : goal.items::read_items-loop-alloc-init
items::read_items-loop-alloc-init t c = no_items_before c.args.levels (ty_view c.args.inner.now) c.args.octets.now (new_items c.args.list.now)

pub items::read_items-loop-alloc-smaller : goal.items::read_items-loop-alloc-smaller
items::read_items-loop-alloc-smaller t c =
    fewer_left c.args.levels (ty_view c.args.inner.now) c.loop-alloc.rest.now (new_items c.loop-alloc.list) (new_items c.read_item.new.list) c.in-Some-read_item.used c.in-Some-read_item.ensures.some

pub items::read_items-loop-alloc-preserved : goal.items::read_items-loop-alloc-preserved
items::read_items-loop-alloc-preserved t c =
    one_more_before c.args.levels (ty_view c.args.inner.now) c.args.octets.now c.loop-alloc.rest.now (new_items c.args.list.now) (new_items c.loop-alloc.list) (new_items c.read_item.new.list) c.in-Some-read_item.used c.loop-alloc.invariant c.in-Some-read_item.ensures.some

pub items::read_items-returns-in-None : goal.items::read_items-returns-in-None
items::read_items-returns-in-None t c =
    let type = ty_view c.args.inner.now in
    let octets = c.args.octets.now in
    let rest = c.loop-alloc.rest.now in
    let used = length octets - length rest in
    let read = items_before c.args.levels type octets rest (new_items c.args.list.now) (new_items c.loop-alloc.list) used c.loop-alloc.invariant refl in
    subst (λ l. AreMoreItemsRead c.args.levels type octets (new_items c.args.list.now) l used) (sym (c.drop_begun.ensures ∙ c.in-None.ensures.none refl)) read

pub items::read_items-returns : goal.items::read_items-returns
items::read_items-returns t c =
    items_before c.args.levels (ty_view c.args.inner.now) c.args.octets.now c.loop-alloc.rest.now (new_items c.args.list.now) (new_items c.loop-alloc.list) _ c.loop-alloc.invariant refl

pub leaf_items::read_leaf_items-loop-alloc-init : goal.leaf_items::read_leaf_items-loop-alloc-init
leaf_items::read_leaf_items-loop-alloc-init t c = no_items_before c.args.levels (ty_view c.args.inner.now) c.args.octets.now (new_items c.args.list.now)

pub leaf_items::read_leaf_items-loop-alloc-smaller : goal.leaf_items::read_leaf_items-loop-alloc-smaller
leaf_items::read_leaf_items-loop-alloc-smaller t c =
    fewer_left c.args.levels (ty_view c.args.inner.now) c.loop-alloc.rest.now (new_items c.loop-alloc.list) (new_items c.read_leaf_item.new.list) c.in-Some.used c.in-Some.ensures.some

pub leaf_items::read_leaf_items-loop-alloc-preserved : goal.leaf_items::read_leaf_items-loop-alloc-preserved
leaf_items::read_leaf_items-loop-alloc-preserved t c =
    one_more_before c.args.levels (ty_view c.args.inner.now) c.args.octets.now c.loop-alloc.rest.now (new_items c.args.list.now) (new_items c.loop-alloc.list) (new_items c.read_leaf_item.new.list) c.in-Some.used c.loop-alloc.invariant c.in-Some.ensures.some

pub leaf_items::read_leaf_items-returns-in-None : goal.leaf_items::read_leaf_items-returns-in-None
leaf_items::read_leaf_items-returns-in-None t c =
    let type = ty_view c.args.inner.now in
    let octets = c.args.octets.now in
    let rest = c.loop-alloc.rest.now in
    let used = length octets - length rest in
    let read = items_before c.args.levels type octets rest (new_items c.args.list.now) (new_items c.loop-alloc.list) used c.loop-alloc.invariant refl in
    subst (λ l. AreMoreItemsRead c.args.levels type octets (new_items c.args.list.now) l used) (sym (c.drop_begun.ensures ∙ c.in-None.ensures.none refl)) read

pub leaf_items::read_leaf_items-returns : goal.leaf_items::read_leaf_items-returns
leaf_items::read_leaf_items-returns t c =
    items_before c.args.levels (ty_view c.args.inner.now) c.args.octets.now c.loop-alloc.rest.now (new_items c.args.list.now) (new_items c.loop-alloc.list) _ c.loop-alloc.invariant refl

pub items::read_choice-read_leaf_behind-requires-clause-good : goal.items::read_choice-read_leaf_behind-requires-clause-good
items::read_choice-read_leaf_behind-requires-clause-good t c =
    let found = c.in-Some.ensures.there in
    good_alternative c.args.alternatives.now c.in-Some.which c.in-Some.alternative.now found.0 found.1 c.requires

pub items::read_choice-returns : goal.items::read_choice-returns
unfolding value.out-Value denote.Hole.Carrier.out
items::read_choice-returns t c =
    let levels = c.args.levels in
    let octets = c.args.octets.now in
    let xs = c.args.alternatives.now in
    let which = c.in-Some.which in
    let found = c.in-Some.ensures.there in
    let v = c.read_leaf_behind.new.value in
    let place : c.in-Chosen.field-0 ≡ which = place_chosen which c.in-Chosen.field-0 c.in-Chosen.boxed c.choose.new.value (c.choose.ensures c.if-not-choose.false) c.in-Chosen.is in
    IfSome-map c.read_leaf_behind.result _ (λ used. IsRead levels (Shape.choice (alternatives_view xs)) octets _ used)
    (λ used h. chosen_read levels xs which c.in-Some.alternative.now octets v _ used found.0 found.1 (search (rules, value.the_lemmas) ∙ ap (λ p. Val.chosen p (value_view v)) place) h) c.read_leaf_behind.ensures

pub items::read_list-close-whole-requires-clause-there : goal.items::read_list-close-whole-requires-clause-there
items::read_list-close-whole-requires-clause-there t c = c.read_items-used.ensures.read.there

pub items::read_list-returns-clause-sequence : goal.items::read_list-returns-clause-sequence
items::read_list-returns-clause-sequence t c = elim c.match-whole.branch [
  | items::read_list-in-Some w ↦
      let octets = c.args.octets.now in
      let type = ty_view c.args.inner.now in
      let inside = c.in_ok-inside.inside in
      let items = w.into_items.result in
      let used = c.read_items-used.result in
      let read = all_items (c.args.levels - 1) type inside.octets.now (new_items c.over-list.result) items.items used c.over-list.ensures (subst (λ l. AreMoreItemsRead (c.args.levels - 1) type inside.octets.now (new_items c.over-list.result) l used) (sym w.into_items.ensures) c.read_items-used.ensures) in
      subst (λ held. IfSome c.close-whole.result (λ n. IsRead c.args.levels (Shape.sequence_of c.args.tag type) octets (value.Items held) n)) (sym w.t-36-is)
      (both_of (λ n. n ≤ length octets) (λ n. (tag : Tag) → IsOpened tag octets inside → IsConstructed ber tag (take used inside.octets.now) (take n octets)) (λ n. IsRead c.args.levels (Shape.sequence_of c.args.tag type) octets (value.Items items) n)
      c.close-whole.result c.close-whole.ensures.there c.close-whole.ensures.value
      (λ n there whole. sequence_of_read c.args.levels c.args.tag type octets inside.octets.now items used n c.requires.usable (search rules) read there (whole c.args.tag c.in_ok-inside.ensures)))
  | items::read_list-in-None w ↦ search (rules, w.in-None.is)
]

pub items::read_list-returns-clause-set : goal.items::read_list-returns-clause-set
items::read_list-returns-clause-set t c = elim c.match-whole.branch [
  | items::read_list-in-Some w ↦
      let octets = c.args.octets.now in
      let type = ty_view c.args.inner.now in
      let inside = c.in_ok-inside.inside in
      let items = w.into_items.result in
      let used = c.read_items-used.result in
      let read = all_items (c.args.levels - 1) type inside.octets.now (new_items c.over-list.result) items.items used c.over-list.ensures (subst (λ l. AreMoreItemsRead (c.args.levels - 1) type inside.octets.now (new_items c.over-list.result) l used) (sym w.into_items.ensures) c.read_items-used.ensures) in
      subst (λ held. IfSome c.close-whole.result (λ n. IsRead c.args.levels (Shape.set_of c.args.tag type) octets (value.Items held) n)) (sym w.t-36-is)
      (both_of (λ n. n ≤ length octets) (λ n. (tag : Tag) → IsOpened tag octets inside → IsConstructed ber tag (take used inside.octets.now) (take n octets)) (λ n. IsRead c.args.levels (Shape.set_of c.args.tag type) octets (value.Items items) n)
      c.close-whole.result c.close-whole.ensures.there c.close-whole.ensures.value
      (λ n there whole. set_of_read c.args.levels c.args.tag type octets inside.octets.now items used n c.requires.usable (search rules) read there (whole c.args.tag c.in_ok-inside.ensures)))
  | items::read_list-in-None w ↦ search (rules, w.in-None.is)
]

pub members::read_member-index_mut-slot-requires : goal.members::read_member-index_mut-slot-requires
members::read_member-index_mut-slot-requires t c = omega (arith, c.in_ok-due.ensures.next.there)

pub members::read_member-read_leaf_behind-requires-clause-good : goal.members::read_member-read_leaf_behind-requires-clause-good
members::read_member-read_leaf_behind-requires-clause-good t c =
    due_good c.in_ok-identifier.identifier.tag c.args.fields.now (renewed_view c.args.set.now) c.in_ok-due.due.place (ty_view c.in_ok-due.due.ty.now) c.requires.good c.requires.set_components c.in_ok-due.ensures.next.vacant

pub members::read_member-returns-then-due-clause-filled : goal.members::read_member-returns-then-due-clause-filled
members::read_member-returns-then-due-clause-filled t c =
    let due = c.in_ok-due.due in
    let new = c.due.new.self in
    let v = c.read_leaf_behind.new.value in
    IfSome-map c.read_leaf_behind.result _ (λ used. IsFilledWith new due.place v)
    (λ used h. filled_come c.args.set.now new v due.place (ty_view due.ty.now) c.requires.filled c.in_ok-due.ensures.next) c.read_leaf_behind.ensures

pub members::read_member-returns-then-due-clause-read : goal.members::read_member-returns-then-due-clause-read
members::read_member-returns-then-due-clause-read t c =
    let own = c.args.set.now in
    let due = c.in_ok-due.due in
    let new = c.due.new.self in
    let v = c.read_leaf_behind.new.value in
    let come = members_view new.set_components.fields.now (slots_view new (set new.set_components.slots.items due.place (Some v))) in
    IfSome-map c.read_leaf_behind.result _ (λ used. IsMemberRead c.args.levels c.args.octets.now (Parts.set (renewed_view own)) (Parts.set come) used)
    (λ used h. renewed_come c.args.levels c.args.octets.now own new v due.place used (ty_view due.ty.now) c.in_ok-due.ensures.next h) c.read_leaf_behind.ensures

pub members::read_member-bounds-fields-due : goal.members::read_member-bounds-fields-due
members::read_member-bounds-fields-due t c =
    let own = c.args.set.now in
    let due = c.in_ok-due.due in
    let next = c.in_ok-due.ensures.next in
    let place = due_field c.in_ok-identifier.identifier.tag c.args.fields.now (renewed_view own) due.place (ty_view due.ty.now) c.requires.set_components next.vacant in
    place.below

pub members::read_member-offset_bounds-fields-due : goal.members::read_member-offset_bounds-fields-due
members::read_member-offset_bounds-fields-due t c =
    let own = c.args.set.now in
    let due = c.in_ok-due.due in
    let next = c.in_ok-due.ensures.next in
    let place = due_field c.in_ok-identifier.identifier.tag c.args.fields.now (renewed_view own) due.place (ty_view due.ty.now) c.requires.set_components next.vacant in
    let bound = place.below in
    search (rules, bound)

pub members::read_member-read_nested-requires : goal.members::read_member-read_nested-requires
members::read_member-read_nested-requires t c =
    let own = c.args.set.now in
    let due = c.in_ok-due.due in
    let next = c.in_ok-due.ensures.next in
    let place = due_field c.in_ok-identifier.identifier.tag c.args.fields.now (renewed_view own) due.place (ty_view due.ty.now) c.requires.set_components next.vacant in
    let fields = c.args.fields.now in
    let f = c.index-fields-due.result in
    let at = c.index-fields-due.is in
    let bound = place.below in
    (search (rules, node.the_lemmas, field.the_lemmas, bound, at), subst (λ (x : Field). IsGoodType (ty_view x.ty)) at (subst IsGoodType (field_type f) (good_component fields due.place f bound at c.requires.good).type))

pub members::read_member-returns-clause-filled : goal.members::read_member-returns-clause-filled
members::read_member-returns-clause-filled t c =
    let due = c.in_ok-due.due in
    let new = c.due.new.self in
    let v = c.read_nested.new.value in
    IfSome-map c.read_nested.result _ (λ used. IsFilledWith new due.place v)
    (λ used h. filled_come c.args.set.now new v due.place (ty_view due.ty.now) c.requires.filled c.in_ok-due.ensures.next) c.read_nested.ensures

pub members::read_member-returns-clause-read : goal.members::read_member-returns-clause-read
members::read_member-returns-clause-read t c =
    let own = c.args.set.now in
    let due = c.in_ok-due.due in
    let next = c.in_ok-due.ensures.next in
    let place = due_field c.in_ok-identifier.identifier.tag c.args.fields.now (renewed_view own) due.place (ty_view due.ty.now) c.requires.set_components next.vacant in
    let levels = c.args.levels in
    let octets = c.args.octets.now in
    let f = c.index-fields-due.result in
    let v = c.read_nested.new.value in
    let new = c.due.new.self in
    let come = members_view new.set_components.fields.now (slots_view new (set new.set_components.slots.items due.place (Some v))) in
    IfSome-map c.read_nested.result _ (λ used. IsMemberRead levels octets (Parts.set (renewed_view own)) (Parts.set come) used)
    (λ used h. renewed_come levels octets own new v due.place used (ty_view due.ty.now) next (subst (λ shape. IsRead levels shape octets v used) (ap (λ (x : Field). ty_view x.ty) (sym c.index-fields-due.is) ∙ place.types f c.index-fields-due.is) h)) c.read_nested.ensures

pub members::read_members-loop-alloc-smaller : goal.members::read_members-loop-alloc-smaller
members::read_members-loop-alloc-smaller t c =
    let rest = c.loop-alloc.rest.now in
    let used = c.in_ok-used-2.used in
    let read = c.in_ok-used-2.ensures.read in
    let some = member_some c.args.levels rest (Parts.set (renewed_view c.loop-alloc.set)) (Parts.set (renewed_view c.read_member.new.set)) used read in
    omega (arith, some, read.there, ap length (take_rest rest used), length-drop used rest)

pub members::read_members-loop-alloc-preserved : goal.members::read_members-loop-alloc-preserved
members::read_members-loop-alloc-preserved t c =
    let so_far = c.loop-alloc.invariant in
    let come = c.in_ok-used-2.ensures in
    (one_member_before c.args.levels (map field_view c.args.fields.now) c.args.octets.now c.loop-alloc.rest.now (Parts.set (renewed_view c.loop-alloc.set)) (Parts.set (renewed_view c.read_member.new.set)) c.in_ok-used-2.used so_far.0 come.read, come.fields.0, come.filled, come.fields.1)

pub members::read_members-loop-awaited-init : goal.members::read_members-loop-awaited-init
members::read_members-loop-awaited-init t c =
    let made = c.in_ok-set.ensures in
    (no_members_before c.args.levels c.args.fields.now c.args.octets.now _ made.none, made.roomy, made.filled, made.fields)

pub members::read_members-read_leaf_behind-requires-clause-good : goal.members::read_members-read_leaf_behind-requires-clause-good
members::read_members-read_leaf_behind-requires-clause-good t c =
    let awaited = c.in-Some.awaited in
    due_good awaited.identifier.tag c.args.fields.now (renewed_view c.loop-awaited.set) awaited.place (ty_view awaited.ty.now) c.requires (search rules) c.in-Some.ensures.next.vacant

pub members::read_members-loop-awaited-smaller : goal.members::read_members-loop-awaited-smaller
members::read_members-loop-awaited-smaller t c =
    let own = c.loop-awaited.set in
    let rest = c.loop-awaited.rest.now in
    let used = c.in_ok-used.used in
    let awaited = c.in-Some.awaited in
    let new = c.awaited.new.self in
    let v = c.read_leaf_behind.new.value in
    let come = members_view new.set_components.fields.now (slots_view new (set new.set_components.slots.items awaited.place (Some v))) in
    let read = renewed_come c.args.levels rest own new v awaited.place used (ty_view awaited.ty.now) c.in-Some.ensures.next c.in_ok-used.ensures in
    let some = member_some c.args.levels rest (Parts.set (renewed_view own)) (Parts.set come) used read in
    omega (arith, some, read.there, ap length (take_rest rest used), length-drop used rest)

pub members::read_members-loop-awaited-preserved : goal.members::read_members-loop-awaited-preserved
members::read_members-loop-awaited-preserved t c =
    let so_far = c.loop-awaited.invariant in
    let own = c.loop-awaited.set in
    let awaited = c.in-Some.awaited in
    let type = ty_view awaited.ty.now in
    let next = c.in-Some.ensures.next in
    let new = c.awaited.new.self in
    let v = c.read_leaf_behind.new.value in
    let come = members_view new.set_components.fields.now (slots_view new (set new.set_components.slots.items awaited.place (Some v))) in
    let read = renewed_come c.args.levels c.loop-awaited.rest.now own new v awaited.place c.in_ok-used.used type next c.in_ok-used.ensures in
    (one_member_before c.args.levels (map field_view c.args.fields.now) c.args.octets.now c.loop-awaited.rest.now (Parts.set (renewed_view own)) (Parts.set come) c.in_ok-used.used so_far.0 read, search rules, filled_come own new v awaited.place type so_far.2 next, next.fields ∙ so_far.3)

pub members::read_members-returns : goal.members::read_members-returns
members::read_members-returns t c = λ tag.
    let levels = c.args.levels in
    let components = map field_view c.args.fields.now in
    let octets = c.args.octets.now in
    let rest = c.loop-alloc.rest.now in
    let parts = Parts.set (renewed_view c.loop-alloc.set) in
    let used = length octets - length rest in
    set_contents levels tag components octets parts c.in_ok-read.read used (members_before levels components octets rest parts used c.loop-alloc.invariant.0 refl) c.in_ok-read.ensures

pub reading::read_inside-read_components-requires : goal.reading::read_inside-read_components-requires
reading::read_inside-read_components-requires t c =
    let same : ty_view c.args.ty.now ≡ Shape.sequence c.in-Sequence.field-0 (components_view c.deref.result.now) = ap ty_view c.in-Sequence.is ∙ (ty-Sequence c.in-Sequence.field-0 c.in-Sequence.fields ∙ ap (λ l. Shape.sequence c.in-Sequence.field-0 (components_view l)) (sym c.deref.ensures.value)) in
    (search (rules, node.the_lemmas), good_components c.in-Sequence.field-0 c.deref.result.now (subst IsGoodType same c.requires))

pub reading::read_inside-read_members-requires : goal.reading::read_inside-read_members-requires
reading::read_inside-read_members-requires t c =
    let same : ty_view c.args.ty.now ≡ Shape.set c.in-Set.field-0 (components_view c.deref-in-Set.result.now) = ap ty_view c.in-Set.is ∙ (ty-Set c.in-Set.field-0 c.in-Set.fields ∙ ap (λ l. Shape.set c.in-Set.field-0 (components_view l)) (sym c.deref-in-Set.ensures.value)) in
    (search (rules, node.the_lemmas), good_members c.in-Set.field-0 c.deref-in-Set.result.now (subst IsGoodType same c.requires))

pub reading::read_inside-returns-in-Sequence : goal.reading::read_inside-returns-in-Sequence
reading::read_inside-returns-in-Sequence t c =
    let octets = c.args.inside.now.octets.now in
    let v = c.read_components.new.value in
    let same : ty_view c.args.ty.now ≡ Shape.sequence c.in-Sequence.field-0 (components_view c.deref.result.now) = ap ty_view c.in-Sequence.is ∙ (ty-Sequence c.in-Sequence.field-0 c.in-Sequence.fields ∙ ap (λ l. Shape.sequence c.in-Sequence.field-0 (components_view l)) (sym c.deref.ensures.value)) in
    IfSome-map c.read_components.result _ (λ used. AreContentsRead c.args.levels (ty_view c.args.ty.now) octets v used)
    (λ used h. subst (λ shape. AreContentsRead c.args.levels shape octets v used) (sym same) (h c.in-Sequence.field-0)) c.read_components.ensures

pub reading::read_inside-returns-in-Set : goal.reading::read_inside-returns-in-Set
reading::read_inside-returns-in-Set t c =
    let octets = c.args.inside.now.octets.now in
    let v = c.read_members.new.value in
    let same : ty_view c.args.ty.now ≡ Shape.set c.in-Set.field-0 (components_view c.deref-in-Set.result.now) = ap ty_view c.in-Set.is ∙ (ty-Set c.in-Set.field-0 c.in-Set.fields ∙ ap (λ l. Shape.set c.in-Set.field-0 (components_view l)) (sym c.deref-in-Set.ensures.value)) in
    IfSome-map c.read_members.result _ (λ used. AreContentsRead c.args.levels (ty_view c.args.ty.now) octets v used)
    (λ used h. subst (λ shape. AreContentsRead c.args.levels shape octets v used) (sym same) (h c.in-Set.field-0)) c.read_members.ensures

pub explicit::read_within-returns : goal.explicit::read_within-returns
explicit::read_within-returns t c =
    let octets = c.args.octets.now in
    let type = Shape.explicit c.args.tag (ty_view c.args.ty.now) in
    let inside = c.args.inside.now in
    let used = c.in_ok-used.used in
    let v = c.read_tagged.new.value in
    let come = explicit_contents (c.args.levels - 1) c.args.tag (ty_view c.args.ty.now) inside.octets.now v used c.in_ok-used.ensures in
    both_of (λ n. n ≤ length octets) (λ n. (tag : Tag) → IsOpened tag octets inside → IsConstructed ber tag (take used inside.octets.now) (take n octets)) (λ n. IsRead c.args.levels type octets v n)
    c.close.result c.close.ensures.there c.close.ensures.value
    (λ n there whole. constructed_read c.args.levels c.args.tag type octets inside.octets.now v used n c.requires.good (search rules) refl come there (whole c.args.tag c.requires.opened))
