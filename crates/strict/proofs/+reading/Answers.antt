use Rattle.std.proofs.Common.{rules, ◌≡◌, ◌+◌, ◌-◌, ◌≤◌, ◌<◌, inl, inr, ◌⊎◌, ◌++◌, ◌∷◌, ℕ, List, [], Option, Some, None, Err, length, map, take, drop, set, MatchOption, IfOk, true, false, sym, ap, ◌∙◌, subst, subst₂, arith, refl}
use Rattle.std.specs.Ordering.{nat_cmp, is_lt}
use Rattle.std.specs.Cmp.Lexicographic.{slice_cmp}
use Rattle.std.proofs.lemmas.List.{take_rest, take_more_set, length-set, length-drop, length-take-le}
use Rattle.octets.specs.declared.tag.Tag.{Tag}
use Rattle.octets.specs.Rule.{rule_of}
use Rattle.types.specs.Shape.{Shape, Val}
use Rattle.types.specs.View.{ty_view, value_view, field_view, components_view, alternative_view, alternatives_view}
use Rattle.types.specs.Conforms.{MayBeAbsent}
use Rattle.types.specs.declared.value.Value.{Value}
use Rattle.types.specs.declared.value.Value as value
use Rattle.types.specs.declared.ty.Ty as node
use Rattle.types.specs.declared.ty.Field as field
use Rattle.types.specs.declared.ty.Alternative as alternative
use Rattle.octets.proofs.ResultLemmas.{IfOk-map, IfErr-map}
use Rattle.types.proofs.LimitLemmas.{alternative_type}
use Rattle.types.proofs.ViewLemmas.{ty-Sequence, ty-Set, ty-SequenceOf, ty-SetOf}
use Rattle.encoding_parts.specs.Parts.{IsGoodType, IsSlotOf}
use Rattle.encoding_parts.specs.Renewed.{new_items}
use Rattle.encoding_parts.specs.Segments.{BeginsAboveZero}
use Rattle.strict.specs.Begun.{IsBegun}
use Rattle.strict.specs.Head.{EndsHere, IsEndKnown, AreFewer}
use Rattle.strict.specs.Reading.{IsRead, HasPart, RefusesPart}
use Rattle.strict.specs.Components.{IsFront, HasComponents, AreComponentsRead, HasComponentFirst}
use Rattle.strict.specs.Bars.{RefusesStrictly}
use Rattle.strict.specs.Inside.{HasInside, IsInsideRead, list_of}
use Rattle.strict.specs.Items.{AreItemsRead, between}
use Rattle.strict.proofs.BarsLemmas.{refused_of, refused_for_good, refused_by, refused_behind, refused_named, refused_through}
use Rattle.strict.proofs.PartLemmas.{read_some}
use Rattle.strict.proofs.FieldLemmas.{field_type, field_requirement, run_at, first_of, whole_of}
use Rattle.strict.proofs.FrontLemmas.{IsStandingKnown, front_known}
use Rattle.strict.proofs.PresentLemmas.{part_of_present, present_within, rest_within, rest_size, rest_behind, none_spelt_out}
use Rattle.strict.proofs.ComponentLemmas.{ends_or_begins}
use Rattle.strict.proofs.SequenceLemmas.{absent_read, stands_read, present_first, none_read, component_more, good_components, components_inside, all_read, ends_left, sequence_read}
use Rattle.strict.proofs.ItemLemmas.{item_or_end, item_stands, no_items, item_read, none_out_of_order, list_read, items_inside}
use Rattle.strict.proofs.ConstructedLemmas.{node_of_parts, can_of_parts, constructed_of, inside_of, constructed_read}
use Rattle.strict.proofs.ChosenLemmas.{tag_of_part, choice_of_part, this_at, none_there, good_at, place_chosen, chosen_read}
use Rattle.strict.proofs.AloneLemmas.{constructed_under_tag, alone_under_tag, ends_alone, explicit_read, part_alone}
use Rattle.strict.proofs.EndingLemmas.{fewer_behind, begun_short, begun_constructed, begun_around, begun_chosen}
use Rattle.strict.proofs.+reading.Goals as goal
use Rattle.strict.proofs.+reading.Goals.{components::read_each-in-Some, components::read_each-in-None+in_ok-used-in-None, components::read_component-else-may_be_absent-via-then-may_be_absent+in_ok-stands_next+else-not-branch, components::read_component-else-may_be_absent-via-else-may_be_absent, items::read_items-in-Ok, items::read_items-in-Err}
use Rattle.strict.proofs.SetLemmas.{members_inside, good_members}
use Rattle.strict.proofs.+reading.Answers.Members as set
mod Members

pub items::read_items-returns-clause-value : goal.items::read_items-returns-clause-value
items::read_items-returns-clause-value t c = elim c.match-read.branch [
  | items::read_items-in-Ok w ↦
      let rule = c.args.rule in
      let ordered = c.args.ordered in
      let type = ty_view c.args.inner.now in
      let d = c.args.inside.now.definite in
      let room = c.args.inside.now.room in
      let octets = c.args.octets.now in
      let items = w.into_items.result in
      subst (λ held. IfOk c.read_listed-read.result (λ used. (tag : Tag) → IsInsideRead (rule_of rule) (list_of ordered tag type) d room octets (value.Items held) used)) (sym w.t-22-is)
      (IfOk-map c.read_listed-read.result _ (λ used. (tag : Tag) → IsInsideRead (rule_of rule) (list_of ordered tag type) d room octets (value.Items items) used)
      (λ used h tag. list_read rule ordered tag type d room octets items h.0 used (subst (λ l. AreItemsRead (rule_of rule) type ordered d room octets l h.0 used) (sym w.into_items.ensures) h.1) h.2)
      c.read_listed-read.ensures.value)
  | items::read_items-in-Err w ↦ search (rules, w.in-Err.is)
]

pub items::read_listed-loop-alloc-init : goal.items::read_listed-loop-alloc-init
items::read_listed-loop-alloc-init t c =
    let octets = c.args.octets.now in
    let rule = rule_of c.args.rule in
    let type = ty_view c.args.inner.now in
    let d = c.args.inside.now.definite in
    let room = c.args.inside.now.room in
    let none : 0 ≡ length octets - length octets = omega arith in
    (0, subst (AreItemsRead rule type c.args.ordered d room octets (new_items c.args.list.now) 0) none (no_items rule type c.args.ordered d room octets (new_items c.args.list.now) c.requires.fresh), ap (between octets 0) none, ap (λ k. drop k octets) none, omega arith)

pub items::read_listed-returns-in_err-ends-clause-refused : goal.items::read_listed-returns-in_err-ends-clause-refused
items::read_listed-returns-in_err-ends-clause-refused t c =
    let octets = c.args.octets.now in
    let rule = rule_of c.args.rule in
    let type = ty_view c.args.inner.now in
    let d = c.args.inside.now.definite in
    let room = c.args.inside.now.room in
    let rest = c.loop-alloc.rest.now in
    let at = length octets - length rest in
    let before = c.loop-alloc.invariant.0 in
    let so_far = c.loop-alloc.invariant.1 in
    let last_is = c.loop-alloc.invariant.2 in
    let rest_is = c.loop-alloc.invariant.3 in
    let room_is = c.loop-alloc.invariant.4 in
    let there = rest_within octets rest rest_is in
    refused_through c.from_residual.result c.from_residual.ensures.1
    (refused_by c.in_err-ends.ensures.refused (λ more h. subst₂ (λ n x. EndsHere d n (x ++ more) ⊎ BeginsAboveZero (x ++ more)) (sym room_is) (sym rest_is) (item_or_end rule type c.args.ordered d (room - at) (between octets before at) (drop at octets ++ more) c.requires.good (so_far.forth more h)))
    (λ k. omega (arith, k, so_far.within, there, room_is)))

pub items::read_listed-returns-in_err-used-clause-refused : goal.items::read_listed-returns-in_err-used-clause-refused
items::read_listed-returns-in_err-used-clause-refused t c =
    let octets = c.args.octets.now in
    let rule = rule_of c.args.rule in
    let type = ty_view c.args.inner.now in
    let d = c.args.inside.now.definite in
    let room = c.args.inside.now.room in
    let rest = c.loop-alloc.rest.now in
    let at = length octets - length rest in
    let before = c.loop-alloc.invariant.0 in
    let so_far = c.loop-alloc.invariant.1 in
    let last_is = c.loop-alloc.invariant.2 in
    let rest_is = c.loop-alloc.invariant.3 in
    let room_is = c.loop-alloc.invariant.4 in
    let there = rest_within octets rest rest_is in
    let off : c.in_ok-ends.field-0 ≡ false = search rules in
    let known : IsEndKnown false d c.loop-alloc.room rest = subst (λ b. IsEndKnown b d c.loop-alloc.room rest) off c.in_ok-ends.ensures.value in
    refused_through c.from_residual-in_err-used.result c.from_residual-in_err-used.ensures.1
    (refused_by c.in_err-used.ensures.refused (λ more h.
    let goes = subst₂ (λ n x. EndsHere d n (x ++ more) → ⊥) room_is rest_is (known more) in
    subst₂ (λ n x. HasPart rule type n (x ++ more)) (sym room_is) (sym rest_is) (item_stands rule type c.args.ordered d (room - at) (between octets before at) (drop at octets ++ more) goes (so_far.forth more h)))
    (λ k. omega (arith, begun_short c.args.rule type c.loop-alloc.room rest k, so_far.within, there, room_is)))

pub items::read_listed-returns-then-is_out_of_order-clause-refused : goal.items::read_listed-returns-then-is_out_of_order-clause-refused
items::read_listed-returns-then-is_out_of_order-clause-refused t c = refused_for_good (tt, tt) (λ more h.
    let octets = c.args.octets.now in
    let rule = rule_of c.args.rule in
    let type = ty_view c.args.inner.now in
    let d = c.args.inside.now.definite in
    let room = c.args.inside.now.room in
    let rest = c.loop-alloc.rest.now in
    let at = length octets - length rest in
    let before = c.loop-alloc.invariant.0 in
    let so_far = c.loop-alloc.invariant.1 in
    let last_is = c.loop-alloc.invariant.2 in
    let rest_is = c.loop-alloc.invariant.3 in
    let room_is = c.loop-alloc.invariant.4 in
    let there = rest_within octets rest rest_is in
    let used = c.in_ok-used.used in
    let item = c.in_ok-used.ensures.value in
    let read = subst₂ (λ n x. IsRead rule type n x item.0 used) room_is rest_is item.2 in
    let told = subst₂ (λ x l. c.is_out_of_order.result ≡ true → (c.args.ordered ≡ true) × (is_lt (slice_cmp nat_cmp (take used x) l) ≡ true)) rest_is last_is c.is_out_of_order.ensures.0 c.if-is_out_of_order.true in
    none_out_of_order rule type c.args.ordered d room octets more (new_items c.loop-alloc.list) item.0 before at used c.requires.good so_far read told.0 told.1 h)

pub items::read_listed-loop-alloc-smaller : goal.items::read_listed-loop-alloc-smaller
items::read_listed-loop-alloc-smaller t c =
    let rule = rule_of c.args.rule in
    let type = ty_view c.args.inner.now in
    let rest = c.loop-alloc.rest.now in
    let used = c.in_ok-used.used in
    let item = c.in_ok-used.ensures.value in
    let some = read_some rule type c.loop-alloc.room rest item.0 used c.requires.good item.2 in
    let less : length (take (length rest - used) (drop used rest)) < length rest = omega (arith, some, item.2.0, ap length (take_rest rest used), length-drop used rest) in
    less

pub items::read_listed-loop-alloc-preserved : goal.items::read_listed-loop-alloc-preserved
items::read_listed-loop-alloc-preserved t c =
    let octets = c.args.octets.now in
    let rule = rule_of c.args.rule in
    let type = ty_view c.args.inner.now in
    let d = c.args.inside.now.definite in
    let room = c.args.inside.now.room in
    let rest = c.loop-alloc.rest.now in
    let at = length octets - length rest in
    let before = c.loop-alloc.invariant.0 in
    let so_far = c.loop-alloc.invariant.1 in
    let last_is = c.loop-alloc.invariant.2 in
    let rest_is = c.loop-alloc.invariant.3 in
    let room_is = c.loop-alloc.invariant.4 in
    let there = rest_within octets rest rest_is in
    let used = c.in_ok-used.used in
    let item = c.in_ok-used.ensures.value in
    let below = item.2.0 in
    let read = subst₂ (λ n x. IsRead rule type n x item.0 used) room_is rest_is item.2 in
    let told = subst₂ (λ x l. c.is_out_of_order.result ≡ false → c.args.ordered ≡ true → is_lt (slice_cmp nat_cmp (take used x) l) ≡ false) rest_is last_is c.is_out_of_order.ensures.1 c.if-is_out_of_order.false in
    let more = item_read rule type c.args.ordered d room octets (new_items c.loop-alloc.list) item.0 before at used c.requires.good so_far read told in
    let size = rest_size used octets rest below rest_is in
    let own : used ≡ (at + used) - at = omega arith in
    (at, subst₂ (λ l k. AreItemsRead rule type c.args.ordered d room octets l at k) (sym item.1) size more, ap (take used) rest_is ∙ (ap (λ n. take n (drop at octets)) own ∙ ap (between octets at) size), rest_behind used octets rest below rest_is, omega (arith, room_is, size))

pub items::read_listed-returns-clause-value : goal.items::read_listed-returns-clause-value
items::read_listed-returns-clause-value t c =
    let octets = c.args.octets.now in
    let rule = rule_of c.args.rule in
    let type = ty_view c.args.inner.now in
    let d = c.args.inside.now.definite in
    let room = c.args.inside.now.room in
    let rest = c.loop-alloc.rest.now in
    let at = length octets - length rest in
    let before = c.loop-alloc.invariant.0 in
    let so_far = c.loop-alloc.invariant.1 in
    let last_is = c.loop-alloc.invariant.2 in
    let rest_is = c.loop-alloc.invariant.3 in
    let room_is = c.loop-alloc.invariant.4 in
    let there = rest_within octets rest rest_is in
    let on : c.in_ok-ends.field-0 ≡ true = search rules in
    let ends = subst₂ (λ n x. EndsHere d n x) room_is rest_is (subst (λ b. IsEndKnown b d c.loop-alloc.room rest) on c.in_ok-ends.ensures.value) in
    (before, so_far, ends)

pub parts::read_chosen-returns-in_err-tag-clause-refused : goal.parts::read_chosen-returns-in_err-tag-clause-refused
parts::read_chosen-returns-in_err-tag-clause-refused t c =
    let octets = c.args.octets.now in
    let rule = c.args.rule in
    let room = c.args.room in
    let shape = Shape.choice (alternatives_view c.args.alternatives.now) in
    let why = c.in_err-tag.ensures in
    refused_through c.from_residual.result c.from_residual.ensures.1
    (refused_of (HasPart (rule_of rule) shape room) (IsBegun rule shape room) octets
    (λ same h. let k = tag_of_part (rule_of rule) shape room octets c.requires.good h in why.truncated (ap Err same) k.tag k.within k.head)
    (λ same. inl (why.cut (ap Err same)))
    (λ final more h. let k = tag_of_part (rule_of rule) shape room (octets ++ more) c.requires.good h in why.never final more k.tag k.within k.head)
    why.numbers)

pub parts::read_chosen-returns-in_default-clause-refused : goal.parts::read_chosen-returns-in_default-clause-refused
parts::read_chosen-returns-in_default-clause-refused t c = record {
  bars = λ more may h.
      let rule = rule_of c.args.rule in
      let xs = c.args.alternatives.now in
      let octets = c.args.octets.now in
      none_there rule xs c.args.room octets more c.in_ok-tag.tag c.in_ok-tag.field-0-1 c.in_ok-tag.field-0-2 c.in_ok-tag.ensures.value c.in_default.ensures (choice_of_part rule (map alternative_view xs) c.args.room (octets ++ more) h);
  cut = search rules;
  numbers = search rules;
}

pub parts::read_chosen-read_one-requires : goal.parts::read_chosen-read_one-requires
parts::read_chosen-read_one-requires t c =
    let xs = c.args.alternatives.now in
    let a = c.in-Some.alternative.now in
    let bound = c.in-Some.ensures.0 in
    let is = c.in-Some.ensures.1 in
    let good = subst IsGoodType (alternative_type a) (good_at xs c.in-Some.which a bound is c.requires.good) in
    (search (rules, node.the_lemmas, alternative.the_lemmas, bound, is), (good, c.requires.room))

pub parts::read_chosen-returns-clause-refused : goal.parts::read_chosen-returns-clause-refused
parts::read_chosen-returns-clause-refused t c =
    let octets = c.args.octets.now in
    let rule = rule_of c.args.rule in
    let xs = c.args.alternatives.now in
    let room = c.args.room in
    let which = c.in-Some.which in
    let a = c.in-Some.alternative.now in
    let found = c.in-Some.ensures in
    IfErr-map c.read_one.result (RefusesPart c.args.rule (ty_view a.ty) room octets) (RefusesPart c.args.rule (Shape.choice (alternatives_view xs)) room octets)
    (λ refusal h. refused_by h
    (λ more k. this_at rule xs which a room octets more c.in_ok-tag.tag c.in_ok-tag.field-0-1 c.in_ok-tag.field-0-2 found.0 found.1 c.requires.good.tags.0 c.in_ok-tag.ensures.value found.2 (choice_of_part rule (map alternative_view xs) room (octets ++ more) k))
    (λ k. begun_chosen c.args.rule xs which a room octets found.0 found.1 k))
    c.read_one.ensures.refused

pub parts::read_chosen-returns-clause-value : goal.parts::read_chosen-returns-clause-value
unfolding value.out-Value denote.Hole.Carrier.out
parts::read_chosen-returns-clause-value t c =
    let octets = c.args.octets.now in
    let rule = rule_of c.args.rule in
    let xs = c.args.alternatives.now in
    let room = c.args.room in
    let which = c.in-Some.which in
    let a = c.in-Some.alternative.now in
    let found = c.in-Some.ensures in
    let v = c.read_one.new.value in
    let place : c.in-Chosen.field-0 ≡ which = place_chosen which c.in-Chosen.field-0 c.in-Chosen.boxed c.choose.new.value (c.choose.ensures c.if-not-choose.false) c.in-Chosen.is in
    IfOk-map c.read_one.result (λ used. IsRead rule (ty_view a.ty) room octets v used) (λ used. IsRead rule (Shape.choice (alternatives_view xs)) room octets _ used)
    (λ used h. chosen_read rule xs which a room octets v _ used found.0 found.1 (search (rules, value.the_lemmas) ∙ ap (λ n. Val.chosen n (value_view v)) place) h)
    c.read_one.ensures.value

pub components::read_each-loop-place-init : goal.components::read_each-loop-place-init
components::read_each-loop-place-init t c =
    let octets = c.args.octets.now in
    let rule = rule_of c.args.rule in
    let fields = c.args.fields.now in
    let d = c.args.inside.now.definite in
    let room = c.args.inside.now.room in
    let none : 0 ≡ length octets - length octets = omega arith in
    let all = map field_view fields in
    (subst (AreComponentsRead rule [] all d room octets []) none (none_read rule all d room octets [] refl), c.requires.slots, ap (λ k. drop k octets) none, omega arith, refl)

pub components::read_each-read_component-requires : goal.components::read_each-read_component-requires
components::read_each-read_component-requires t c =
    let octets = c.args.octets.now in
    let rule = rule_of c.args.rule in
    let fields = c.args.fields.now in
    let d = c.args.inside.now.definite in
    let room = c.args.inside.now.room in
    let rest = c.loop-place.rest.now in
    let left = c.loop-place.left in
    let at = length octets - length rest in
    let rest_is = c.loop-place.invariant.2 in
    let room_is = c.loop-place.invariant.3 in
    let form_is = c.loop-place.invariant.4 in
    let i = c.loop-place.place in
    let f = c.index-fields-place.result in
    let bound : i < length fields = c.loop-place-test.true in
    let is = c.index-fields-place.is in
    let run = run_at fields i f bound is c.requires.good c.requires.runs in
    (search (rules, node.the_lemmas, field.the_lemmas, bound, is), (run.good, omega (arith, c.requires.room, room_is)))

pub components::read_each-returns-in_err-used-in-None-clause-refused : goal.components::read_each-returns-in_err-used-in-None-clause-refused
components::read_each-returns-in_err-used-in-None-clause-refused t c =
    let octets = c.args.octets.now in
    let rule = rule_of c.args.rule in
    let fields = c.args.fields.now in
    let d = c.args.inside.now.definite in
    let room = c.args.inside.now.room in
    let rest = c.loop-place.rest.now in
    let left = c.loop-place.left in
    let at = length octets - length rest in
    let rest_is = c.loop-place.invariant.2 in
    let room_is = c.loop-place.invariant.3 in
    let form_is = c.loop-place.invariant.4 in
    let i = c.loop-place.place in
    let f = c.index-fields-place.result in
    let bound : i < length fields = c.loop-place-test.true in
    let is = c.index-fields-place.is in
    let run = run_at fields i f bound is c.requires.good c.requires.runs in
    let view = field_view f in
    let others = map field_view (drop (i + 1) fields) in
    let so_far = subst (λ l. AreComponentsRead rule (map field_view (take i fields)) l d room octets (take i c.loop-place.slots) at) run.here c.loop-place.invariant.0 in
    let there = rest_within octets rest rest_is in
    let first = λ (more : List ℕ) (h : HasComponents rule (map field_view fields) d room (octets ++ more)).
    subst (λ b. HasComponentFirst rule view b left.room (rest ++ more)) (sym form_is) (subst₂ (λ n x. HasComponentFirst rule view d n (x ++ more)) (sym room_is) (sym rest_is) (others, run.runs, run.goods, so_far.forth more (subst (λ l. HasComponents rule l d room (octets ++ more)) (whole_of fields i f bound is) h))) in
    refused_through c.from_residual.result c.from_residual.ensures.1
    (refused_by c.in_err-used-in-None.ensures.refused first
    (λ k. omega (arith, subst (λ b. AreFewer b left.room rest) form_is k, so_far.within, there, room_is)))

-- the octets of the component that was read are within what is left
used_at : (t : ℕ) (c : goal.components::read_each-After-row_known-1 t) → (c.match-read_shortly_present.used ≤ c.loop-place.left.room) × (c.match-read_shortly_present.used ≤ length c.loop-place.rest.now)
used_at t c =
    let fields = c.args.fields.now in
    let rest = c.loop-place.rest.now in
    let room = c.loop-place.left.room in
    let i = c.loop-place.place in
    let f = c.index-fields-place.result in
    let run = run_at fields i f c.loop-place-test.true c.index-fields-place.is c.requires.good c.requires.runs in
    elim c.match-read_shortly_present.branch [
      | components::read_each-in-Some w ↦
          subst (λ k. (k ≤ room) × (k ≤ length rest)) (sym w.used-is) (present_within (rule_of c.args.rule) (field_view f) room rest c.read_shortly_present.new.slot w.in-Some.used (w.in-Some.ensures c.args.rule))
      | components::read_each-in-None+in_ok-used-in-None w ↦
          let one = w.in_ok-used-in-None.ensures.value (map field_view (drop (i + 1) fields)) run.runs run.goods in
          subst (λ k. (k ≤ room) × (k ≤ length rest)) (sym w.used-is) (one.within, one.there)
    ]

pub components::read_each-overflow_sub-left : goal.components::read_each-overflow_sub-left
components::read_each-overflow_sub-left t c = (used_at t c).0

pub components::read_each-slice_bounds-rest-count : goal.components::read_each-slice_bounds-rest-count
components::read_each-slice_bounds-rest-count t c = (used_at t c).1

pub components::read_each-slice_bounds-rest-start : goal.components::read_each-slice_bounds-rest-start
components::read_each-slice_bounds-rest-start t c = (used_at t c).1

-- the component that was read, at once or not
component_at : (t : ℕ) (c : goal.components::read_each-After-rest-1 t) → (slot : Option Value) × (c.match-read_shortly_present.slots ≡ set c.loop-place.slots c.loop-place.place slot)
    × AreComponentsRead (rule_of c.args.rule) (field_view c.index-fields-place.result ∷ []) (map field_view (drop (c.loop-place.place + 1) c.args.fields.now)) c.loop-place.left.definite c.loop-place.left.room c.loop-place.rest.now (slot ∷ []) c.match-read_shortly_present.used
component_at t c =
    let rule = rule_of c.args.rule in
    let fields = c.args.fields.now in
    let rest = c.loop-place.rest.now in
    let left = c.loop-place.left in
    let i = c.loop-place.place in
    let f = c.index-fields-place.result in
    let bound : i < length fields = c.loop-place-test.true in
    let is = c.index-fields-place.is in
    let run = run_at fields i f bound is c.requires.good c.requires.runs in
    let view = field_view f in
    let others = map field_view (drop (i + 1) fields) in
    elim c.match-read_shortly_present.branch [
      | components::read_each-in-Some w ↦
          let slot = c.read_shortly_present.new.slot in
          (slot, w.slots-is, subst (AreComponentsRead rule (view ∷ []) others left.definite left.room rest (slot ∷ [])) (sym w.used-is) (stands_read c.args.rule view others left.definite left.room rest slot w.in-Some.used run.good.type run.runs run.goods (w.in-Some.ensures c.args.rule)))
      | components::read_each-in-None+in_ok-used-in-None w ↦
          let slot = w.read_component.new.slot in
          (slot, w.slots-is, subst (AreComponentsRead rule (view ∷ []) others left.definite left.room rest (slot ∷ [])) (sym w.used-is) (w.in_ok-used-in-None.ensures.value others run.runs run.goods))
    ]

pub components::read_each-loop-place-preserved : goal.components::read_each-loop-place-preserved
components::read_each-loop-place-preserved t c =
    let octets = c.args.octets.now in
    let rule = rule_of c.args.rule in
    let fields = c.args.fields.now in
    let d = c.args.inside.now.definite in
    let room = c.args.inside.now.room in
    let rest = c.loop-place.rest.now in
    let left = c.loop-place.left in
    let at = length octets - length rest in
    let rest_is = c.loop-place.invariant.2 in
    let room_is = c.loop-place.invariant.3 in
    let form_is = c.loop-place.invariant.4 in
    let i = c.loop-place.place in
    let f = c.index-fields-place.result in
    let bound : i < length fields = c.loop-place-test.true in
    let is = c.index-fields-place.is in
    let run = run_at fields i f bound is c.requires.good c.requires.runs in
    let view = field_view f in
    let others = map field_view (drop (i + 1) fields) in
    let slots = c.loop-place.slots in
    let so_far = subst (λ l. AreComponentsRead rule (map field_view (take i fields)) l d room octets (take i slots) at) run.here c.loop-place.invariant.0 in
    let used = c.match-read_shortly_present.used in
    let one = component_at t c in
    let slot = one.0 in
    let below = one.2.there in
    let here = subst (λ b. AreComponentsRead rule (view ∷ []) others b (room - at) (drop at octets) (slot ∷ []) used) form_is (subst₂ (λ n x. AreComponentsRead rule (view ∷ []) others left.definite n x (slot ∷ []) used) room_is rest_is one.2) in
    let size = rest_size used octets rest below rest_is in
    let more = subst (AreComponentsRead rule (map field_view (take i fields) ++ (view ∷ [])) others d room octets (take i slots ++ (slot ∷ []))) size (component_more rule (map field_view (take i fields)) view others d room octets (take i slots) slot at used so_far here) in
    let filled : take (i + 1) (set slots i slot) ≡ take i slots ++ (slot ∷ []) = take_more_set slots i slot (omega (arith, bound, c.loop-place.invariant.1)) in (
      subst₂ (λ first l. AreComponentsRead rule first others d room octets l (length octets - length (take (length rest - used) (drop used rest)))) (sym (first_of fields i f bound is)) (sym (ap (take (i + 1)) one.1 ∙ filled)) more,
      ap length one.1 ∙ (length-set slots i slot ∙ c.loop-place.invariant.1),
      rest_behind used octets rest below rest_is,
      omega (arith, room_is, size),
      form_is,
    )

pub components::read_each-returns-in_err-tag-clause-refused : goal.components::read_each-returns-in_err-tag-clause-refused
components::read_each-returns-in_err-tag-clause-refused t c =
    let octets = c.args.octets.now in
    let rule = rule_of c.args.rule in
    let fields = c.args.fields.now in
    let d = c.args.inside.now.definite in
    let room = c.args.inside.now.room in
    let rest = c.loop-place.rest.now in
    let left = c.loop-place.left in
    let slots = c.loop-place.slots in
    let at = length octets - length rest in
    let rest_is = c.loop-place.invariant.2 in
    let room_is = c.loop-place.invariant.3 in
    let form_is = c.loop-place.invariant.4 in
    let all = all_read rule fields c.loop-place.place d room octets slots at c.loop-place-test.false c.loop-place.invariant.1 c.loop-place.invariant.0 in
    refused_through c.from_residual-in_err-tag.result c.from_residual-in_err-tag.ensures.1
    (refused_by c.in_err-tag.ensures.refused (λ more h. inl (ends_left rule (map field_view fields) d left.definite room left.room octets rest more slots all rest_is room_is form_is h))
    (λ k. omega (arith, subst (λ b. AreFewer b left.room rest) form_is k, all.within, rest_within octets rest rest_is, room_is)))

pub components::read_each-returns-in-Some-2-clause-refused : goal.components::read_each-returns-in-Some-2-clause-refused
components::read_each-returns-in-Some-2-clause-refused t c = refused_for_good (c.left_over.ensures.never, c.left_over.ensures.numbers) (λ more h.
    let octets = c.args.octets.now in
    let rule = rule_of c.args.rule in
    let fields = c.args.fields.now in
    let d = c.args.inside.now.definite in
    let room = c.args.inside.now.room in
    let rest = c.loop-place.rest.now in
    let left = c.loop-place.left in
    let slots = c.loop-place.slots in
    let at = length octets - length rest in
    let rest_is = c.loop-place.invariant.2 in
    let room_is = c.loop-place.invariant.3 in
    let form_is = c.loop-place.invariant.4 in
    let all = all_read rule fields c.loop-place.place d room octets slots at c.loop-place-test.false c.loop-place.invariant.1 c.loop-place.invariant.0 in
    let front : IsFront (Some c.in-Some-2.tag) left.definite left.room rest = subst (λ f. IsFront f left.definite left.room rest) c.in-Some-2.is c.in_ok-tag.ensures.value in
    front.1 more (ends_left rule (map field_view fields) d left.definite room left.room octets rest more slots all rest_is room_is form_is h))

pub components::read_each-returns-in-None-2-clause-value : goal.components::read_each-returns-in-None-2-clause-value
components::read_each-returns-in-None-2-clause-value t c =
    let octets = c.args.octets.now in
    let rule = rule_of c.args.rule in
    let fields = c.args.fields.now in
    let d = c.args.inside.now.definite in
    let room = c.args.inside.now.room in
    let rest = c.loop-place.rest.now in
    let left = c.loop-place.left in
    let slots = c.loop-place.slots in
    let at = length octets - length rest in
    let rest_is = c.loop-place.invariant.2 in
    let room_is = c.loop-place.invariant.3 in
    let form_is = c.loop-place.invariant.4 in
    let all = all_read rule fields c.loop-place.place d room octets slots at c.loop-place-test.false c.loop-place.invariant.1 c.loop-place.invariant.0 in
    let ends : EndsHere left.definite left.room rest = subst (λ f. IsFront f left.definite left.room rest) c.in-None-2.is c.in_ok-tag.ensures.value in
    (all, subst (λ b. EndsHere b (room - at) (drop at octets)) form_is (subst₂ (λ n x. EndsHere left.definite n x) room_is rest_is ends))

pub components::read_component-returns-in_err-stands_next-clause-refused : goal.components::read_component-returns-in_err-stands_next-clause-refused
components::read_component-returns-in_err-stands_next-clause-refused t c =
    let octets = c.args.octets.now in
    let rule = c.args.rule in
    let view = field_view c.args.field.now in
    let d = c.args.inside.now.definite in
    let room = c.args.inside.now.room in
    refused_through c.from_residual.result c.from_residual.ensures.1
    (refused_by c.in_err-stands_next.ensures.refused (λ more h. ends_or_begins rule (view ∷ h.0) d room (octets ++ more) (c.requires.good, h.2) h.3) (λ k. k))

pub components::read_component-returns-then-not-branch-clause-value : goal.components::read_component-returns-then-not-branch-clause-value
components::read_component-returns-then-not-branch-clause-value t c = λ others runs goods.
    let octets = c.args.octets.now in
    let f = c.args.field.now in
    let view = field_view f in
    let d = c.args.inside.now.definite in
    let room = c.args.inside.now.room in
    let front = c.in_ok-stands_next.ensures.value in
    let known : IsStandingKnown false view.type d room octets = subst₂ (λ b t. IsStandingKnown b t d room octets) c.if-not-branch.true (sym (field_type f)) (front_known front.0 c.in_ok-stands_next.field-0 (ty_view f.ty) d room octets front.1 front.2) in
    let may : MayBeAbsent view.requirement = subst MayBeAbsent (sym (field_requirement f)) (c.may_be_absent.ensures.0 c.if-may_be_absent.true) in
    absent_read c.args.rule view others d room octets c.leave_out.new.slot c.leave_out.ensures may c.requires.good.type known

pub components::read_component-returns-in-Err-clause-refused : goal.components::read_component-returns-in-Err-clause-refused
components::read_component-returns-in-Err-clause-refused t c =
    let octets = c.args.octets.now in
    let rule = rule_of c.args.rule in
    let f = c.args.field.now in
    let view = field_view f in
    let d = c.args.inside.now.definite in
    let room = c.args.inside.now.room in
    let known : MayBeAbsent view.requirement → IsStandingKnown true view.type d room octets = λ may. elim c.else-may_be_absent.branch [
      | components::read_component-else-may_be_absent-via-then-may_be_absent+in_ok-stands_next+else-not-branch w ↦
          let front = w.in_ok-stands_next.ensures.value in
          subst₂ (λ b t. IsStandingKnown b t d room octets) w.if-not-branch.false (sym (field_type f)) (front_known front.0 w.in_ok-stands_next.field-0 (ty_view f.ty) d room octets front.1 front.2)
      | components::read_component-else-may_be_absent-via-else-may_be_absent w ↦
          let yes : c.may_be_absent.result ≡ true = c.may_be_absent.ensures.1 (subst MayBeAbsent (field_requirement f) may) in
          let no : c.may_be_absent.result ≡ false = w.if-may_be_absent.false in
          absurd cc
    ] in
    let first = λ (more : List ℕ) (h : HasComponentFirst rule view d room (octets ++ more)). present_first c.args.rule view h.0 d room octets more h.1 h.2 known h.3 in
    elim c.why_not_read.ensures [
      | inl same ↦ subst (RefusesStrictly (HasComponentFirst rule view d room) (AreFewer d room) octets) (sym same) (refused_by c.in-Err.ensures.refused first (λ k. omega (arith, k)))
      | inr other ↦ refused_by (other c.args.rule) (λ more h. subst (λ t. HasPart rule t room (octets ++ more)) (field_type f) (part_of_present rule view room (octets ++ more) (first more h))) (λ k. k)
    ]

pub components::read_component-returns-in-Ok-clause-value : goal.components::read_component-returns-in-Ok-clause-value
components::read_component-returns-in-Ok-clause-value t c = λ others runs goods.
    stands_read c.args.rule (field_view c.args.field.now) others c.args.inside.now.definite c.args.inside.now.room c.args.octets.now c.read_wholly_present.new.slot c.in-Ok.used c.requires.good.type runs goods c.in-Ok.ensures.value

pub components::read_wholly_present-returns-in_err-used-clause-refused : goal.components::read_wholly_present-returns-in_err-used-clause-refused
components::read_wholly_present-returns-in_err-used-clause-refused t c =
    let octets = c.args.octets.now in
    let rule = rule_of c.args.rule in
    let f = c.args.field.now in
    let room = c.args.room in
    refused_through c.from_residual.result c.from_residual.ensures.1
    (refused_by c.in_err-used.ensures.refused (λ more h. subst (λ t. HasPart rule t room (octets ++ more)) (field_type f) (part_of_present rule (field_view f) room (octets ++ more) h)) (λ k. begun_short c.args.rule (ty_view f.ty) room octets k))

pub components::read_wholly_present-returns-then-is_default-clause-refused : goal.components::read_wholly_present-returns-then-is_default-clause-refused
components::read_wholly_present-returns-then-is_default-clause-refused t c = refused_for_good (tt, tt) (λ more h.
    let octets = c.args.octets.now in
    let rule = rule_of c.args.rule in
    let f = c.args.field.now in
    let view = field_view f in
    let room = c.args.room in
    let same : ty_view f.ty ≡ view.type = sym (field_type f) in
    let v = c.read_wholly.new.value in
    let on : c.is_default.result ≡ true = search rules in
    let spelt = subst (λ r. IsSlotOf r (value_view v) None) (sym (field_requirement f)) (c.is_default.ensures.default on) in
    let read = subst (λ t. IsRead rule t room octets v c.in_ok-used.used) same c.in_ok-used.ensures.value in
    none_spelt_out rule view room octets more v c.in_ok-used.used c.requires.good read spelt h)

pub members::read_members-loop-set_components-init : goal.members::read_members-loop-set_components-init
members::read_members-loop-set_components-init = set.members::read_members-loop-set_components-init

pub members::read_members-returns-in_err-tag-clause-refused : goal.members::read_members-returns-in_err-tag-clause-refused
members::read_members-returns-in_err-tag-clause-refused = set.members::read_members-returns-in_err-tag-clause-refused

pub members::read_members-returns-in_err-place-clause-refused : goal.members::read_members-returns-in_err-place-clause-refused
members::read_members-returns-in_err-place-clause-refused = set.members::read_members-returns-in_err-place-clause-refused

pub members::read_members-offset_bounds-fields-place : goal.members::read_members-offset_bounds-fields-place
members::read_members-offset_bounds-fields-place = set.members::read_members-offset_bounds-fields-place

pub members::read_members-bounds-fields-place : goal.members::read_members-bounds-fields-place
members::read_members-bounds-fields-place = set.members::read_members-bounds-fields-place

pub members::read_members-order_tag-order-requires : goal.members::read_members-order_tag-order-requires
members::read_members-order_tag-order-requires = set.members::read_members-order_tag-order-requires

pub members::read_members-returns-then-not-comes_behind-clause-refused : goal.members::read_members-returns-then-not-comes_behind-clause-refused
members::read_members-returns-then-not-comes_behind-clause-refused = set.members::read_members-returns-then-not-comes_behind-clause-refused

pub members::read_members-index_mut-requires : goal.members::read_members-index_mut-requires
members::read_members-index_mut-requires = set.members::read_members-index_mut-requires

pub members::read_members-read_present-requires : goal.members::read_members-read_present-requires
members::read_members-read_present-requires = set.members::read_members-read_present-requires

pub members::read_members-returns-in_err-at-clause-refused : goal.members::read_members-returns-in_err-at-clause-refused
members::read_members-returns-in_err-at-clause-refused = set.members::read_members-returns-in_err-at-clause-refused

pub members::read_members-overflow_add-set_components : goal.members::read_members-overflow_add-set_components
members::read_members-overflow_add-set_components = set.members::read_members-overflow_add-set_components

pub members::read_members-loop-set_components-smaller : goal.members::read_members-loop-set_components-smaller
members::read_members-loop-set_components-smaller = set.members::read_members-loop-set_components-smaller

pub members::read_members-loop-set_components-preserved : goal.members::read_members-loop-set_components-preserved
members::read_members-loop-set_components-preserved = set.members::read_members-loop-set_components-preserved

pub members::read_members-returns-clause-value : goal.members::read_members-returns-clause-value
members::read_members-returns-clause-value = set.members::read_members-returns-clause-value

pub members::read_members-returns-then-not-are_filled-clause-refused : goal.members::read_members-returns-then-not-are_filled-clause-refused
members::read_members-returns-then-not-are_filled-clause-refused = set.members::read_members-returns-then-not-are_filled-clause-refused

pub parts::read_inside-read_components-requires : goal.parts::read_inside-read_components-requires
parts::read_inside-read_components-requires t c =
    let same : ty_view c.args.ty.now ≡ Shape.sequence c.in-Sequence.field-0 (components_view c.deref.result.now) = ap ty_view c.in-Sequence.is ∙ (ty-Sequence c.in-Sequence.field-0 c.in-Sequence.fields ∙ ap (λ l. Shape.sequence c.in-Sequence.field-0 (components_view l)) (sym c.deref.ensures.value)) in
    let good = subst IsGoodType same c.requires.good in
    (search (rules, node.the_lemmas), (good_components c.in-Sequence.field-0 c.deref.result.now good, (good.tags.0.1, c.requires.room)))

pub parts::read_inside-read_members-requires : goal.parts::read_inside-read_members-requires
parts::read_inside-read_members-requires t c =
    let same : ty_view c.args.ty.now ≡ Shape.set c.in-Set.field-0 (components_view c.deref-in-Set.result.now) = ap ty_view c.in-Set.is ∙ (ty-Set c.in-Set.field-0 c.in-Set.fields ∙ ap (λ l. Shape.set c.in-Set.field-0 (components_view l)) (sym c.deref-in-Set.ensures.value)) in
    let good = subst IsGoodType same c.requires.good in
    (search (rules, node.the_lemmas), (good_members c.in-Set.field-0 c.deref-in-Set.result.now good, (good.tags.0.1, c.requires.room)))

pub parts::read_parts-returns-in_err-inside-clause-refused : goal.parts::read_parts-returns-in_err-inside-clause-refused
parts::read_parts-returns-in_err-inside-clause-refused t c =
    let parts = c.requires.parts in
    let octets = c.args.octets.now in
    let rule = c.args.rule in
    let type = ty_view c.args.ty.now in
    let room = c.args.room in
    let tag = c.in-Some.tag in
    refused_through c.from_residual.result c.from_residual.ensures.1
    (refused_by c.in_err-inside.ensures.refused (λ more h. constructed_of (rule_of rule) type tag room (octets ++ more) parts c.in-Some.ensures.value h)
    (λ k. begun_constructed rule type tag room octets (node_of_parts type tag parts c.in-Some.ensures.value) (can_of_parts rule type parts) k))

pub parts::read_parts-returns-in-Ok-clause-value : goal.parts::read_parts-returns-in-Ok-clause-value
parts::read_parts-returns-in-Ok-clause-value t c =
    let octets = c.args.octets.now in
    let rule = rule_of c.args.rule in
    let type = ty_view c.args.ty.now in
    let inside = c.in_ok-inside.inside in
    let used = c.in-Ok.used in
    let slot = c.read_inside.new.value in
    let read = subst (λ x. IsInsideRead rule type inside.definite inside.room x slot used) (take_rest octets inside.start) c.in-Ok.ensures.value in
    constructed_read rule type c.in-Some.tag c.args.room octets inside slot used c.close.result c.in-Some.ensures.value c.in_ok-inside.ensures.value read c.close.ensures

pub parts::read_parts-returns-in-Err-clause-refused : goal.parts::read_parts-returns-in-Err-clause-refused
parts::read_parts-returns-in-Err-clause-refused t c =
    let parts = c.requires.parts in
    let octets = c.args.octets.now in
    let rule = c.args.rule in
    let type = ty_view c.args.ty.now in
    let room = c.args.room in
    let tag = c.in-Some.tag in
    let tagged = c.in-Some.ensures.value in
    let inside = c.in_ok-inside.inside in
    let opened = c.in_ok-inside.ensures.value in
    refused_named c.refusal_inside.ensures
    (refused_behind inside.start c.in-Err.ensures.refused (λ more h. inside_of (rule_of rule) type tag room octets more inside parts tagged opened h)
    (λ k. begun_around rule type tag room octets inside (node_of_parts type tag parts tagged) (can_of_parts rule type parts) opened k))

pub parts::read_inside-returns-in-Sequence-clause-value : goal.parts::read_inside-returns-in-Sequence-clause-value
parts::read_inside-returns-in-Sequence-clause-value t c =
    let octets = c.args.octets.now in
    let rule = c.args.rule in
    let d = c.args.inside.now.definite in
    let room = c.args.inside.now.room in
    let same : ty_view c.args.ty.now ≡ Shape.sequence c.in-Sequence.field-0 (components_view c.deref.result.now) = ap ty_view c.in-Sequence.is ∙ (ty-Sequence c.in-Sequence.field-0 c.in-Sequence.fields ∙ ap (λ l. Shape.sequence c.in-Sequence.field-0 (components_view l)) (sym c.deref.ensures.value)) in
    IfOk-map c.read_components.result _ (λ used. IsInsideRead (rule_of rule) (ty_view c.args.ty.now) d room octets c.read_components.new.value used)
    (λ used h. subst (λ shape. IsInsideRead (rule_of rule) shape d room octets c.read_components.new.value used) (sym same) (h c.in-Sequence.field-0)) c.read_components.ensures.value

pub parts::read_inside-returns-in-Sequence-clause-refused : goal.parts::read_inside-returns-in-Sequence-clause-refused
parts::read_inside-returns-in-Sequence-clause-refused t c =
    let octets = c.args.octets.now in
    let rule = c.args.rule in
    let d = c.args.inside.now.definite in
    let room = c.args.inside.now.room in
    let same : ty_view c.args.ty.now ≡ Shape.sequence c.in-Sequence.field-0 (components_view c.deref.result.now) = ap ty_view c.in-Sequence.is ∙ (ty-Sequence c.in-Sequence.field-0 c.in-Sequence.fields ∙ ap (λ l. Shape.sequence c.in-Sequence.field-0 (components_view l)) (sym c.deref.ensures.value)) in
    IfErr-map c.read_components.result _ (RefusesStrictly (HasInside (rule_of rule) (ty_view c.args.ty.now) d room) (AreFewer d room) octets)
    (λ refusal h. refused_by h (λ more k. components_inside (rule_of rule) c.in-Sequence.field-0 (map field_view c.deref.result.now) d room (octets ++ more) (subst (λ shape. HasInside (rule_of rule) shape d room (octets ++ more)) same k)) (λ k. k)) c.read_components.ensures.refused

pub parts::read_inside-returns-in-Set-clause-value : goal.parts::read_inside-returns-in-Set-clause-value
parts::read_inside-returns-in-Set-clause-value t c =
    let octets = c.args.octets.now in
    let rule = c.args.rule in
    let d = c.args.inside.now.definite in
    let room = c.args.inside.now.room in
    let same : ty_view c.args.ty.now ≡ Shape.set c.in-Set.field-0 (components_view c.deref-in-Set.result.now) = ap ty_view c.in-Set.is ∙ (ty-Set c.in-Set.field-0 c.in-Set.fields ∙ ap (λ l. Shape.set c.in-Set.field-0 (components_view l)) (sym c.deref-in-Set.ensures.value)) in
    IfOk-map c.read_members.result _ (λ used. IsInsideRead (rule_of rule) (ty_view c.args.ty.now) d room octets c.read_members.new.value used)
    (λ used h. subst (λ shape. IsInsideRead (rule_of rule) shape d room octets c.read_members.new.value used) (sym same) (h c.in-Set.field-0)) c.read_members.ensures.value

pub parts::read_inside-returns-in-Set-clause-refused : goal.parts::read_inside-returns-in-Set-clause-refused
parts::read_inside-returns-in-Set-clause-refused t c =
    let octets = c.args.octets.now in
    let rule = c.args.rule in
    let d = c.args.inside.now.definite in
    let room = c.args.inside.now.room in
    let same : ty_view c.args.ty.now ≡ Shape.set c.in-Set.field-0 (components_view c.deref-in-Set.result.now) = ap ty_view c.in-Set.is ∙ (ty-Set c.in-Set.field-0 c.in-Set.fields ∙ ap (λ l. Shape.set c.in-Set.field-0 (components_view l)) (sym c.deref-in-Set.ensures.value)) in
    IfErr-map c.read_members.result _ (RefusesStrictly (HasInside (rule_of rule) (ty_view c.args.ty.now) d room) (AreFewer d room) octets)
    (λ refusal h. refused_by h (λ more k. members_inside rule c.in-Set.field-0 (map field_view c.deref-in-Set.result.now) d room (octets ++ more) (subst (λ shape. HasInside (rule_of rule) shape d room (octets ++ more)) same k)) (λ k. k)) c.read_members.ensures.refused

pub parts::read_inside-returns-in-SequenceOf-clause-value : goal.parts::read_inside-returns-in-SequenceOf-clause-value
parts::read_inside-returns-in-SequenceOf-clause-value t c =
    let octets = c.args.octets.now in
    let rule = c.args.rule in
    let d = c.args.inside.now.definite in
    let room = c.args.inside.now.room in
    let same : ty_view c.args.ty.now ≡ Shape.sequence_of c.in-SequenceOf.field-0 (ty_view c.deref-in-SequenceOf.result.now) = ap ty_view c.in-SequenceOf.is ∙ (ty-SequenceOf c.in-SequenceOf.field-0 c.in-SequenceOf.inner ∙ ap (λ l. Shape.sequence_of c.in-SequenceOf.field-0 (ty_view l)) (sym c.deref-in-SequenceOf.ensures)) in
    IfOk-map c.read_items.result _ (λ used. IsInsideRead (rule_of rule) (ty_view c.args.ty.now) d room octets c.read_items.new.value used)
    (λ used h. subst (λ shape. IsInsideRead (rule_of rule) shape d room octets c.read_items.new.value used) (sym same) (h c.in-SequenceOf.field-0)) c.read_items.ensures.value

pub parts::read_inside-returns-in-SequenceOf-clause-refused : goal.parts::read_inside-returns-in-SequenceOf-clause-refused
parts::read_inside-returns-in-SequenceOf-clause-refused t c =
    let octets = c.args.octets.now in
    let rule = c.args.rule in
    let d = c.args.inside.now.definite in
    let room = c.args.inside.now.room in
    let same : ty_view c.args.ty.now ≡ Shape.sequence_of c.in-SequenceOf.field-0 (ty_view c.deref-in-SequenceOf.result.now) = ap ty_view c.in-SequenceOf.is ∙ (ty-SequenceOf c.in-SequenceOf.field-0 c.in-SequenceOf.inner ∙ ap (λ l. Shape.sequence_of c.in-SequenceOf.field-0 (ty_view l)) (sym c.deref-in-SequenceOf.ensures)) in
    IfErr-map c.read_items.result _ (RefusesStrictly (HasInside (rule_of rule) (ty_view c.args.ty.now) d room) (AreFewer d room) octets)
    (λ refusal h. refused_by h (λ more k. items_inside rule false c.in-SequenceOf.field-0 (ty_view c.deref-in-SequenceOf.result.now) d room (octets ++ more) (subst (λ shape. HasInside (rule_of rule) shape d room (octets ++ more)) same k)) (λ k. k)) c.read_items.ensures.refused

pub parts::read_inside-returns-in-SetOf-clause-value : goal.parts::read_inside-returns-in-SetOf-clause-value
parts::read_inside-returns-in-SetOf-clause-value t c =
    let octets = c.args.octets.now in
    let rule = c.args.rule in
    let d = c.args.inside.now.definite in
    let room = c.args.inside.now.room in
    let same : ty_view c.args.ty.now ≡ Shape.set_of c.in-SetOf.field-0 (ty_view c.deref-in-SetOf.result.now) = ap ty_view c.in-SetOf.is ∙ (ty-SetOf c.in-SetOf.field-0 c.in-SetOf.inner ∙ ap (λ l. Shape.set_of c.in-SetOf.field-0 (ty_view l)) (sym c.deref-in-SetOf.ensures)) in
    IfOk-map c.read_items-in-SetOf.result _ (λ used. IsInsideRead (rule_of rule) (ty_view c.args.ty.now) d room octets c.read_items-in-SetOf.new.value used)
    (λ used h. subst (λ shape. IsInsideRead (rule_of rule) shape d room octets c.read_items-in-SetOf.new.value used) (sym same) (h c.in-SetOf.field-0)) c.read_items-in-SetOf.ensures.value

pub parts::read_inside-returns-in-SetOf-clause-refused : goal.parts::read_inside-returns-in-SetOf-clause-refused
parts::read_inside-returns-in-SetOf-clause-refused t c =
    let octets = c.args.octets.now in
    let rule = c.args.rule in
    let d = c.args.inside.now.definite in
    let room = c.args.inside.now.room in
    let same : ty_view c.args.ty.now ≡ Shape.set_of c.in-SetOf.field-0 (ty_view c.deref-in-SetOf.result.now) = ap ty_view c.in-SetOf.is ∙ (ty-SetOf c.in-SetOf.field-0 c.in-SetOf.inner ∙ ap (λ l. Shape.set_of c.in-SetOf.field-0 (ty_view l)) (sym c.deref-in-SetOf.ensures)) in
    IfErr-map c.read_items-in-SetOf.result _ (RefusesStrictly (HasInside (rule_of rule) (ty_view c.args.ty.now) d room) (AreFewer d room) octets)
    (λ refusal h. refused_by h (λ more k. items_inside rule true c.in-SetOf.field-0 (ty_view c.deref-in-SetOf.result.now) d room (octets ++ more) (subst (λ shape. HasInside (rule_of rule) shape d room (octets ++ more)) same k)) (λ k. k)) c.read_items-in-SetOf.ensures.refused

pub explicit::read_under_tag-returns-in_err-inside-clause-refused : goal.explicit::read_under_tag-returns-in_err-inside-clause-refused
explicit::read_under_tag-returns-in_err-inside-clause-refused t c =
    let octets = c.args.octets.now in
    let rule = c.args.rule in
    let tag = c.args.tag in
    let inner = ty_view c.args.ty.now in
    let room = c.args.room in
    refused_through c.from_residual.result c.from_residual.ensures.1
    (refused_by c.in_err-inside.ensures.refused (λ more h. constructed_under_tag (rule_of rule) tag inner room (octets ++ more) h) (λ k. begun_constructed rule (Shape.explicit tag inner) tag room octets (refl, refl) tt k))

pub explicit::read_under_tag-returns-in-Ok-clause-value : goal.explicit::read_under_tag-returns-in-Ok-clause-value
explicit::read_under_tag-returns-in-Ok-clause-value t c =
    let octets = c.args.octets.now in
    let rule = rule_of c.args.rule in
    let inner = ty_view c.args.ty.now in
    let inside = c.in_ok-inside.inside in
    let used = c.in-Ok.used in
    let slot = c.read_alone.new.value in
    let read = subst (λ x. IsRead rule inner inside.room x slot used × EndsHere inside.definite (inside.room - used) (drop used x)) (take_rest octets inside.start) c.in-Ok.ensures.value in
    explicit_read rule c.args.tag inner c.args.room octets inside slot used c.close.result c.in_ok-inside.ensures.value read.0 read.1 c.close.ensures

pub explicit::read_under_tag-returns-in-Err-clause-refused : goal.explicit::read_under_tag-returns-in-Err-clause-refused
explicit::read_under_tag-returns-in-Err-clause-refused t c =
    let octets = c.args.octets.now in
    let rule = c.args.rule in
    let tag = c.args.tag in
    let inner = ty_view c.args.ty.now in
    let room = c.args.room in
    let inside = c.in_ok-inside.inside in
    let opened = c.in_ok-inside.ensures.value in
    refused_named c.refusal_inside.ensures
    (refused_behind inside.start c.in-Err.ensures.refused (λ more h. alone_under_tag (rule_of rule) tag inner room octets more inside opened h)
    (λ k. begun_around rule (Shape.explicit tag inner) tag room octets inside (refl, refl) tt opened k))

pub explicit::read_alone-returns-in_err-used-clause-refused : goal.explicit::read_alone-returns-in_err-used-clause-refused
explicit::read_alone-returns-in_err-used-clause-refused t c =
    let octets = c.args.octets.now in
    let rule = rule_of c.args.rule in
    let type = ty_view c.args.ty.now in
    let d = c.args.inside.now.definite in
    let room = c.args.inside.now.room in
    refused_through c.from_residual.result c.from_residual.ensures.1
    (refused_by c.in_err-used.ensures.refused (λ more h. part_alone rule type d room (octets ++ more) h) (λ k. let short = begun_short c.args.rule type room octets k in omega (arith, short)))

pub explicit::read_alone-returns-in_err-front_tag-clause-refused : goal.explicit::read_alone-returns-in_err-front_tag-clause-refused
explicit::read_alone-returns-in_err-front_tag-clause-refused t c =
    let octets = c.args.octets.now in
    let rule = rule_of c.args.rule in
    let type = ty_view c.args.ty.now in
    let d = c.args.inside.now.definite in
    let room = c.args.inside.now.room in
    let used = c.in_ok-used.used in
    let read = c.in_ok-used.ensures.value in
    refused_through c.from_residual-in_err-front_tag.result c.from_residual-in_err-front_tag.ensures.1
    (refused_behind used c.in_err-front_tag.ensures.refused (λ more h. inl (ends_alone rule type d room octets more c.read_tagged.new.value used c.requires.good read h)) (λ k. fewer_behind d room used octets read.1 read.0 k))

pub explicit::read_alone-returns-in-Some-clause-refused : goal.explicit::read_alone-returns-in-Some-clause-refused
explicit::read_alone-returns-in-Some-clause-refused t c = refused_for_good (tt, tt) (λ more h.
    let octets = c.args.octets.now in
    let rule = rule_of c.args.rule in
    let type = ty_view c.args.ty.now in
    let d = c.args.inside.now.definite in
    let room = c.args.inside.now.room in
    let used = c.in_ok-used.used in
    let inner = take (length octets - used) (drop used octets) in
    let front : IsFront (Some c.in-Some.field-0) d (room - used) inner = subst (λ f. IsFront f d (room - used) inner) c.in-Some.is c.in_ok-front_tag.ensures.value in
    front.1 more (subst (λ x. EndsHere d (room - used) (x ++ more)) (sym (take_rest octets used)) (ends_alone rule type d room octets more c.read_tagged.new.value used c.requires.good c.in_ok-used.ensures.value h)))
