-- What is answered of the readers of a SET.
use Rattle.std.proofs.Common.{rules, ◌≡◌, ◌-◌, ◌++◌, List, Some, None, length, map, take, drop, true, false, sym, refl, subst, subst₂, arith}
use Rattle.std.proofs.lemmas.List.{take_rest, length-drop}
use Rattle.octets.specs.Rule.{rule_of}
use Rattle.types.specs.declared.ty.Field.{Field}
use Rattle.types.specs.View.{ty_view, field_view}
use Rattle.types.specs.declared.ty.Ty as node
use Rattle.types.specs.declared.ty.Field as field
use Rattle.encoding_parts.specs.HeldParts.{members_view}
use Rattle.encoding_parts.specs.Parts.{IsGoodType, IsGoodComponent}
use Rattle.encoding_parts.proofs.SetComponentLemmas.{NoneDue, AreFilled, members_in_slots, vacant_below}
use Rattle.strict.specs.Head.{EndsHere}
use Rattle.strict.specs.Components.{IsFront, IsPresentRead}
use Rattle.strict.specs.Members.{IsOrderTagOf}
use Rattle.strict.proofs.BarsLemmas.{due_strictly, refused_for_good, refused_behind, refused_through}
use Rattle.strict.proofs.PresentLemmas.{present_some}
use Rattle.strict.proofs.FieldLemmas.{field_type}
use Rattle.strict.proofs.DueLemmas.{found_at, found_below, members_begin, members_filled, none_goes_on, present_due, none_before, component_all}
use Rattle.strict.proofs.SetLemmas.{no_members, due_there, member_more, set_read}
use Rattle.strict.proofs.EndingLemmas.{fewer_behind, less_behind}
use Rattle.strict.proofs.+reading.Goals as goal

pub members::read_members-loop-set_components-init : goal.members::read_members-loop-set_components-init
members::read_members-loop-set_components-init t c =
    (no_members (rule_of c.args.rule) (map field_view c.args.fields.now) c.args.inside.now.definite c.args.inside.now.room c.args.octets.now c.in-Ok.slots.items c.in-Ok.ensures, refl)

pub members::read_members-returns-in_err-tag-clause-refused : goal.members::read_members-returns-in_err-tag-clause-refused
members::read_members-returns-in_err-tag-clause-refused t c =
    let octets = c.args.octets.now in
    let rule = rule_of c.args.rule in
    let fields = c.args.fields.now in
    let cs = map field_view fields in
    let d = c.args.inside.now.definite in
    let room = c.args.inside.now.room in
    let at = c.loop-set_components.at in
    let slots = c.loop-set_components.set_components.slots.items in
    let last = c.loop-set_components.last in
    let read = c.loop-set_components.invariant.0 in
    refused_through c.from_residual.result c.from_residual.ensures.1
    (refused_behind at c.in_err-tag.ensures.refused (λ more h. members_begin rule cs slots last d (room - at) (drop at octets ++ more) c.requires.good (read.forth more h)) (λ k. fewer_behind d room at octets read.within read.there k))

pub members::read_members-returns-in_err-place-clause-refused : goal.members::read_members-returns-in_err-place-clause-refused
members::read_members-returns-in_err-place-clause-refused t c =
    let octets = c.args.octets.now in
    let rule = rule_of c.args.rule in
    let fields = c.args.fields.now in
    let cs = map field_view fields in
    let d = c.args.inside.now.definite in
    let room = c.args.inside.now.room in
    let at = c.loop-set_components.at in
    let slots = c.loop-set_components.set_components.slots.items in
    let last = c.loop-set_components.last in
    let read = c.loop-set_components.invariant.0 in
    let tag = c.in-Some.tag in
    let front : IsFront (Some tag) d (room - at) (drop at octets) = subst₂ (λ f x. IsFront f d (room - at) x) c.in-Some.is (take_rest octets at) c.in_ok-tag.ensures.value in
    let none = subst (λ (l : List Field). NoneDue tag (members_view l slots)) c.loop-set_components.invariant.1 c.in_err-place.ensures.never in
    refused_through c.from_residual-in_err-place.result c.from_residual-in_err-place.ensures.1
    (refused_for_good (due_strictly _ c.in_err-place.ensures.numbers) (λ more h. none_goes_on rule cs slots last d (room - at) (drop at octets) more tag front none (read.forth more h)))

pub members::read_members-offset_bounds-fields-place : goal.members::read_members-offset_bounds-fields-place
members::read_members-offset_bounds-fields-place t c = search (rules, found_below c.loop-set_components.set_components.fields.now c.args.fields.now c.loop-set_components.set_components.slots.items c.in_ok-place.place (ty_view c.in_ok-place.field-0-1.now) c.loop-set_components.invariant.1 c.in_ok-place.ensures.value.0)

pub members::read_members-bounds-fields-place : goal.members::read_members-bounds-fields-place
members::read_members-bounds-fields-place t c = found_below c.loop-set_components.set_components.fields.now c.args.fields.now c.loop-set_components.set_components.slots.items c.in_ok-place.place (ty_view c.in_ok-place.field-0-1.now) c.loop-set_components.invariant.1 c.in_ok-place.ensures.value.0

pub members::read_members-order_tag-order-requires : goal.members::read_members-order_tag-order-requires
members::read_members-order_tag-order-requires t c =
    let fields = c.args.fields.now in
    let cs = map field_view fields in
    let tag = c.in-Some.tag in
    let place = c.in_ok-place.place in
    let f = c.index-fields-place.result in
    let view = field_view f in
    let own = c.loop-set_components.set_components in
    let found = found_at own.fields.now fields own.slots.items place (ty_view c.in_ok-place.field-0-1.now) f tag c.loop-set_components.invariant.1 c.in_ok-place.ensures.value c.index-fields-place.is in
    let good = component_all IsGoodComponent cs place view found.here c.requires.good in
    subst IsGoodType (field_type f) good.type

pub members::read_members-returns-then-not-comes_behind-clause-refused : goal.members::read_members-returns-then-not-comes_behind-clause-refused
members::read_members-returns-then-not-comes_behind-clause-refused t c = refused_for_good (tt, tt) (λ more h.
    let octets = c.args.octets.now in
    let rule = rule_of c.args.rule in
    let d = c.args.inside.now.definite in
    let room = c.args.inside.now.room in
    let l = c.loop-set_components in
    let place = c.in_ok-place.place in
    let f = c.index-fields-place.result in
    let order = c.order_tag-order.result in
    let due = due_there place (ty_view c.in_ok-place.field-0-1.now) f order c.requires.distinct l.invariant.0 l.invariant.1 c.in-Some.is c.in_ok-tag.ensures.value c.in_ok-place.ensures.value c.index-fields-place.is c.order_tag-order.ensures in
    let cs = map field_view c.args.fields.now in
    let slots = l.set_components.slots.items in
    let off : c.comes_behind.result ≡ false = search rules in
    none_before rule cs slots l.last place (field_view f) order c.comes_behind.result d (room - l.at) (drop l.at octets ++ more) c.comes_behind.ensures off (due more h))

pub members::read_members-index_mut-requires : goal.members::read_members-index_mut-requires
members::read_members-index_mut-requires t c =
    let own = c.loop-set_components.set_components in
    omega (arith, vacant_below (members_view own.fields.now own.slots.items) c.in_ok-place.place (ty_view c.in_ok-place.field-0-1.now) c.in_ok-place.ensures.value.0, members_in_slots own.fields.now own.slots.items)

pub members::read_members-read_present-requires : goal.members::read_members-read_present-requires
members::read_members-read_present-requires t c =
    let fields = c.args.fields.now in
    let cs = map field_view fields in
    let tag = c.in-Some.tag in
    let place = c.in_ok-place.place in
    let f = c.index-fields-place.result in
    let view = field_view f in
    let own = c.loop-set_components.set_components in
    let found = found_at own.fields.now fields own.slots.items place (ty_view c.in_ok-place.field-0-1.now) f tag c.loop-set_components.invariant.1 c.in_ok-place.ensures.value c.index-fields-place.is in
    let good = component_all IsGoodComponent cs place view found.here c.requires.good in
    (search (rules, node.the_lemmas, field.the_lemmas, found_below own.fields.now fields own.slots.items place (ty_view c.in_ok-place.field-0-1.now) c.loop-set_components.invariant.1 c.in_ok-place.ensures.value.0, c.index-fields-place.is), (good, omega (arith, c.requires.room)))

pub members::read_members-returns-in_err-at-clause-refused : goal.members::read_members-returns-in_err-at-clause-refused
members::read_members-returns-in_err-at-clause-refused t c =
    let octets = c.args.octets.now in
    let rule = rule_of c.args.rule in
    let d = c.args.inside.now.definite in
    let room = c.args.inside.now.room in
    let l = c.loop-set_components in
    let place = c.in_ok-place.place in
    let f = c.index-fields-place.result in
    let order = c.order_tag-order.result in
    let due = due_there place (ty_view c.in_ok-place.field-0-1.now) f order c.requires.distinct l.invariant.0 l.invariant.1 c.in-Some.is c.in_ok-tag.ensures.value c.in_ok-place.ensures.value c.index-fields-place.is c.order_tag-order.ensures in
    let cs = map field_view c.args.fields.now in
    let slots = l.set_components.slots.items in
    let read = l.invariant.0 in
    refused_through c.from_residual-in_err-at.result c.from_residual-in_err-at.ensures.1
    (refused_behind l.at c.in_err-at.ensures.refused (λ more h. present_due rule cs slots l.last place (field_view f) order d (room - l.at) (drop l.at octets ++ more) (due more h)) (λ k. less_behind d room l.at octets read.within read.there k))

pub members::read_members-overflow_add-set_components : goal.members::read_members-overflow_add-set_components
members::read_members-overflow_add-set_components t c = search (rules, found_below c.loop-set_components.set_components.fields.now c.args.fields.now c.loop-set_components.set_components.slots.items c.in_ok-place.place (ty_view c.in_ok-place.field-0-1.now) c.loop-set_components.invariant.1 c.in_ok-place.ensures.value.0)

pub members::read_members-loop-set_components-smaller : goal.members::read_members-loop-set_components-smaller
members::read_members-loop-set_components-smaller t c =
    let octets = c.args.octets.now in
    let rule = rule_of c.args.rule in
    let fields = c.args.fields.now in
    let cs = map field_view fields in
    let room = c.args.inside.now.room in
    let at = c.loop-set_components.at in
    let read = c.loop-set_components.invariant.0 in
    let tag = c.in-Some.tag in
    let place = c.in_ok-place.place in
    let f = c.index-fields-place.result in
    let view = field_view f in
    let own = c.loop-set_components.set_components in
    let found = found_at own.fields.now fields own.slots.items place (ty_view c.in_ok-place.field-0-1.now) f tag c.loop-set_components.invariant.1 c.in_ok-place.ensures.value c.index-fields-place.is in
    let good = component_all IsGoodComponent cs place view found.here c.requires.good in
    let used = c.in_ok-at.field-0 in
    let one = subst (λ x. IsPresentRead rule view (room - at) x c.read_present.new.slot used) (take_rest octets at) c.in_ok-at.ensures.value in
    let some = present_some rule view (room - at) (drop at octets) c.read_present.new.slot used good.type one in
    omega (arith, some.0, some.1, length-drop at octets, read.there)

pub members::read_members-loop-set_components-preserved : goal.members::read_members-loop-set_components-preserved
members::read_members-loop-set_components-preserved t c =
    let octets = c.args.octets.now in
    let rule = rule_of c.args.rule in
    let fields = c.args.fields.now in
    let cs = map field_view fields in
    let d = c.args.inside.now.definite in
    let room = c.args.inside.now.room in
    let at = c.loop-set_components.at in
    let slots = c.loop-set_components.set_components.slots.items in
    let last = c.loop-set_components.last in
    let read = c.loop-set_components.invariant.0 in
    let inner = take (length octets - at) (drop at octets) in
    let all : inner ≡ drop at octets = take_rest octets at in
    let tag = c.in-Some.tag in
    let front : IsFront (Some tag) d (room - at) (drop at octets) = subst₂ (λ f x. IsFront f d (room - at) x) c.in-Some.is all c.in_ok-tag.ensures.value in
    let place = c.in_ok-place.place in
    let f = c.index-fields-place.result in
    let view = field_view f in
    let own = c.loop-set_components.set_components in
    let found = found_at own.fields.now fields own.slots.items place (ty_view c.in_ok-place.field-0-1.now) f tag c.loop-set_components.invariant.1 c.in_ok-place.ensures.value c.index-fields-place.is in
    let good = component_all IsGoodComponent cs place view found.here c.requires.good in
    let order = c.order_tag-order.result in
    let ordered : IsOrderTagOf rule view.type tag order = subst (λ t. IsOrderTagOf rule t tag order) (sym (field_type f)) c.order_tag-order.ensures in
    let used = c.in_ok-at.field-0 in
    let on : c.comes_behind.result ≡ true = search rules in
    let one = subst (λ x. IsPresentRead rule view (room - at) x c.read_present.new.slot used) all c.in_ok-at.ensures.value in
    (member_more c.args.rule cs slots last place view tag order c.comes_behind.result d room octets c.read_present.new.slot at used good.type c.requires.distinct front found ordered c.comes_behind.ensures on read one, c.loop-set_components.invariant.1)

pub members::read_members-returns-then-not-are_filled-clause-refused : goal.members::read_members-returns-then-not-are_filled-clause-refused
members::read_members-returns-then-not-are_filled-clause-refused t c = refused_for_good (tt, tt) (λ more h.
    let octets = c.args.octets.now in
    let rule = rule_of c.args.rule in
    let fields = c.args.fields.now in
    let cs = map field_view fields in
    let d = c.args.inside.now.definite in
    let room = c.args.inside.now.room in
    let at = c.loop-set_components.at in
    let slots = c.loop-set_components.set_components.slots.items in
    let last = c.loop-set_components.last in
    let read = c.loop-set_components.invariant.0 in
    let none : c.in_ok-tag.field-0 ≡ None = c.in_default-2.is in
    let ends : EndsHere d (room - at) (drop at octets) = subst₂ (λ f x. IsFront f d (room - at) x) none (take_rest octets at) c.in_ok-tag.ensures.value in
    let filled = members_filled rule cs slots last d (room - at) (drop at octets) more c.requires.good ends (read.forth more h) in
    let yes : c.are_filled.result ≡ true = c.are_filled.ensures.1 (subst (λ (l : List Field). AreFilled (members_view l slots)) (sym c.loop-set_components.invariant.1) filled) in
    search (rules, yes))

pub members::read_members-returns-clause-value : goal.members::read_members-returns-clause-value
members::read_members-returns-clause-value t c = λ tag.
    let octets = c.args.octets.now in
    let rule = rule_of c.args.rule in
    let fields = c.args.fields.now in
    let d = c.args.inside.now.definite in
    let room = c.args.inside.now.room in
    let at = c.loop-set_components.at in
    let none : c.in_ok-tag.field-0 ≡ None = c.in_default-2.is in
    let ends : EndsHere d (room - at) (drop at octets) = subst₂ (λ f x. IsFront f d (room - at) x) none (take_rest octets at) c.in_ok-tag.ensures.value in
    let on : c.are_filled.result ≡ true = search rules in
    let filled = subst (λ (l : List Field). AreFilled (members_view l c.loop-set_components.set_components.slots.items)) c.loop-set_components.invariant.1 (c.are_filled.ensures.0 on) in
    set_read rule tag fields d room octets c.loop-set_components.set_components.slots c.loop-set_components.last at filled c.loop-set_components.invariant.0 ends
