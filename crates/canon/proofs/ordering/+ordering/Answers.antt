use Rattle.std.specs.List.{AllByRecursion, AllZip}
use Rattle.std.proofs.Common.{◌≡◌, ◌∙◌, ◌+◌, ◌<◌, ◌++◌, ◌∷◌, [], ℕ, List, All, Option, Some, None, Vec, Global, inl, inr, length, take, get_or, map, refl, sym, ap, subst, subst₂, arith, rules}
use Rattle.std.proofs.lemmas.List.{length-map, take_all}
use Rattle.types.specs.declared.ty.Ty.{Ty}
use Rattle.types.specs.declared.ty.Ty as node
use Rattle.types.specs.declared.ty.Field.{Field}
use Rattle.types.specs.declared.ty.Field as field
use Rattle.types.specs.declared.ty.Alternative as alternative
use Rattle.types.specs.declared.value.Value.{Value}
use Rattle.types.specs.declared.value.Value as node_value
use Rattle.types.specs.Shape.{Val, Shape, Slots, listed}
use Rattle.types.specs.View.{ty_view, value_view, components_view, slots_view, items_view, alternatives_view}
use Rattle.types.specs.Conforms.{Conforms}
use Rattle.types.specs.Order.{Ascends}
use Rattle.types.specs.WellFormed.{nodes_of, HasGoodDefaults}
use Rattle.types.proofs.ViewLemmas.{ty-SequenceOf, ty-SetOf, ty-Choice, value-Fields, value-Items, value-Chosen, listed-items_view}
use Rattle.canon.specs.declared.ordering.Placed.{Placed}
use Rattle.canon.specs.declared.spans.Keyed.{Keyed}
use Rattle.canon.specs.Keyed.{with_key, HasKey}
use Rattle.canon.specs.Node.{HasGoodNodes}
use Rattle.canon.specs.Ordered.{IsOrderedFrom, AreOrderedFrom, AreItemsOrderedFrom, IsSound}
use Rattle.canon.specs.Span.{part_of}
use Rattle.canon.proofs.NodeLemmas.{choice_parts, has_items, has_slots}
use Rattle.octets.proofs.ResultLemmas.{IfOk-map}
use Rattle.canon.proofs.OrderedLemmas.{slotted_view, OrderedUpTo, IsPlaced, alternative_defaults, field_defaults, chosen_ordered, record_ordered, list_ordered, set_list_ordered, present_ordered, absent_ordered, slots_ordered, item_ordered, item_placed, placed_keys, items_sorted, few_sorted}
use Rattle.canon.proofs.SameValueLemmas.{same_conforms}
use Rattle.canon.proofs.StepLemmas.{item_conforms, as_many_slots, present_at}
use Rattle.canon.proofs.WritableLemmas.{stands_at}
use Rattle.canon.proofs.ordering.+ordering.Goals as goal
use Rattle.canon.proofs.ordering.+ordering.Goals.{order_slots-in-Some+in_ok-value-in-Some+in_ok-push-in-Some, order_slots-in-None+in_ok-push-in-None}

pub order_items-order_value-requires : goal.order_items-order_value-requires
order_items-order_value-requires t c =
    let conforms = item_conforms (ty_view c.args.ty.now) c.args.items.now c.loop-item.item-index c.item-item.result (omega arith) c.item-item.is c.requires.conform in
    (search (rules, node.the_lemmas), (c.requires.sound, conforms))

pub order_items-loop-item-preserved : goal.order_items-loop-item-preserved
order_items-loop-item-preserved t c =
    let xs = c.args.items.now in
    let i = c.loop-item.item-index in
    let type = ty_view c.args.ty.now in
    let more = item_ordered type xs c.loop-item.ordered.items i c.item-item.result c.in_ok-value.value (omega arith) c.item-item.is c.loop-item.invariant c.in_ok-value.ensures in
    subst (λ (done : List Value). AllZip (IsOrderedFrom type) (map value_view (take (i + 1) xs)) (map value_view done)) (sym c.in_ok-push.ensures.items) more

pub order_slots-order_value-requires : goal.order_slots-order_value-requires
order_slots-order_value-requires t c =
    let fields = c.args.fields.now in
    let slots = c.args.slots.now in
    let place = c.loop-place.place in
    let bound : place < length fields = omega (arith, c.min-count.ensures) in
    let f = c.index-fields-place.result in
    let at : f ≡ get_or fields place f = c.index-fields-place.is in
    let stands = stands_at slots place c.index-slots-place.result (Some c.in-Some.value) c.index-slots-place.is c.in-Some.is in
    let here = present_at fields slots place f c.in-Some.value (omega (arith, c.min-count.ensures)) at stands c.requires.conform c.requires.sound.nodes in
    let good : IsSound (ty_view f.ty) = record { nodes = here.nodes; defaults = field_defaults fields place f bound at c.requires.sound.defaults } in
    (search (rules, node.the_lemmas, field.the_lemmas, bound, at), (subst (λ (g : Field). IsSound (ty_view g.ty)) at good, subst (λ (g : Field). Conforms (ty_view g.ty) (value_view c.in-Some.value)) at here.conforms))

pub order_slots-loop-place-preserved : goal.order_slots-loop-place-preserved
order_slots-loop-place-preserved t c =
    let fields = c.args.fields.now in
    let slots = c.args.slots.now in
    let i = c.loop-place.place in
    let many = as_many_slots fields slots c.requires.conform in
    let there : i < length fields = omega (arith, many, c.min-count.ensures) in
    let here : i < length slots = omega (arith, many, c.min-count.ensures) in
    elim c.match-slots-place.branch [
      | order_slots-in-Some+in_ok-value-in-Some+in_ok-push-in-Some w ↦
          let v = w.in-Some.value in
          let f = w.index-fields-place.result in
          let stands = stands_at slots i c.index-slots-place.result (Some v) c.index-slots-place.is w.in-Some.is in
          let y = w.in_ok-value-in-Some.value in
          let from : IsOrderedFrom (ty_view f.ty) (value_view v) (value_view y) = subst (λ (g : Field). IsOrderedFrom (ty_view g.ty) (value_view v) (value_view y)) (sym w.index-fields-place.is) w.in_ok-value-in-Some.ensures in
          let more = present_ordered fields slots i f v y c.loop-place.ordered.items there here w.index-fields-place.is stands from c.loop-place.invariant in
          subst (λ (done : List (Option Value)). OrderedUpTo fields slots (i + 1) done) (sym (ap (λ (x : Vec (Option Value) Global). x.items) w.ordered-is ∙ w.in_ok-push-in-Some.ensures.items)) more
      | order_slots-in-None+in_ok-push-in-None w ↦
          let stands = stands_at slots i c.index-slots-place.result None c.index-slots-place.is w.in-None.is in
          let more = absent_ordered fields slots i c.loop-place.ordered.items there here stands c.loop-place.invariant in
          subst (λ (done : List (Option Value)). OrderedUpTo fields slots (i + 1) done) (sym (ap (λ (x : Vec (Option Value) Global). x.items) w.ordered-is ∙ w.in_ok-push-in-None.ensures.items)) more
    ]

pub order_slots-returns : goal.order_slots-returns
order_slots-returns t c =
    let many = as_many_slots c.args.fields.now c.args.slots.now c.requires.conform in
    slots_ordered c.args.fields.now c.args.slots.now c.loop-place.place c.loop-place.ordered.items (omega (arith, c.min-count.ensures, many)) many c.loop-place.invariant

pub order_value-index-requires : goal.order_value-index-requires
order_value-index-requires t c =
    let alternatives = c.in-Choice.alternatives in
    let is = ap ty_view c.in-Choice.is ∙ ty-Choice alternatives in
    let parts = choice_parts alternatives.items (value_view c.args.value.now) (subst (λ (s : Shape). Conforms s (value_view c.args.value.now)) is c.requires.conforms) (subst HasGoodNodes is c.requires.sound.nodes) in
    let told = c.in-Some.ensures parts.which parts.value parts.is in
    omega (arith, told.0, parts.alternative.there, alternatives.ok.0)

pub order_value-order_value-requires : goal.order_value-order_value-requires
order_value-order_value-requires t c =
    let alternatives = c.in-Choice.alternatives in
    let is = ap ty_view c.in-Choice.is ∙ ty-Choice alternatives in
    let parts = choice_parts alternatives.items (value_view c.args.value.now) (subst (λ (s : Shape). Conforms s (value_view c.args.value.now)) is c.requires.conforms) (subst HasGoodNodes is c.requires.sound.nodes) in
    let told = c.in-Some.ensures parts.which parts.value parts.is in
    let a = c.index.result.now in
    let at : a ≡ get_or alternatives.items parts.which a = c.index.ensures ∙ ap (λ k. get_or alternatives.items k a) told.0 in
    let all : AllByRecursion HasGoodDefaults (nodes_of (Shape.choice (alternatives_view alternatives.items))) = subst (λ (s : Shape). AllByRecursion HasGoodDefaults (nodes_of s)) is c.requires.sound.defaults in
    let good : IsSound (ty_view a.ty) = record { nodes = parts.alternative.nodes a at; defaults = alternative_defaults alternatives.items parts.which a parts.alternative.there at all.1 } in
    (search (rules, node.the_lemmas, alternative.the_lemmas), (good, subst (Conforms (ty_view a.ty)) (sym told.1) (parts.alternative.conforms a at)))

pub order_value-returns-in_ok-new-in-Choice : goal.order_value-returns-in_ok-new-in-Choice
order_value-returns-in_ok-new-in-Choice t c =
    let v = value_view c.args.value.now in
    let alternatives = c.in-Choice.alternatives in
    let is = ap ty_view c.in-Choice.is ∙ ty-Choice alternatives in
    let parts = choice_parts alternatives.items v (subst (λ (s : Shape). Conforms s v) is c.requires.conforms) (subst HasGoodNodes is c.requires.sound.nodes) in
    let told = c.in-Some.ensures parts.which parts.value parts.is in
    let a = c.index.result.now in
    let at : a ≡ get_or alternatives.items parts.which a = c.index.ensures ∙ ap (λ k. get_or alternatives.items k a) told.0 in
    let y = c.in_ok-ordered-in-Choice.ordered in
    let boxed = c.in_ok-new-in-Choice.field-0 in
    let from : IsOrderedFrom (ty_view a.ty) parts.value (value_view y) = subst (λ (w : Val). IsOrderedFrom (ty_view a.ty) w (value_view y)) told.1 c.in_ok-ordered-in-Choice.ensures in
    let whole = chosen_ordered alternatives.items parts.which a parts.value (value_view y) parts.alternative.there at from in
    let made : value_view (node_value.Chosen c.in-Some.which boxed) ≡ Val.chosen parts.which (value_view y) =
    value-Chosen c.in-Some.which boxed ∙ ap (λ k. Val.chosen k (value_view boxed.value)) told.0 ∙ ap (λ (x : Value). Val.chosen parts.which (value_view x)) c.in_ok-new-in-Choice.ensures.ok in
    subst₂ (λ (s : Shape) (w : Val). IsOrderedFrom s w (value_view (node_value.Chosen c.in-Some.which boxed))) (sym is) (sym parts.is)
    (subst (IsOrderedFrom (Shape.choice (alternatives_view alternatives.items)) (Val.chosen parts.which parts.value)) (sym made) whole)

pub order_value-returns-in_ok-order_slots-in-Sequence : goal.order_value-returns-in_ok-order_slots-in-Sequence
order_value-returns-in_ok-order_slots-in-Sequence t c =
    let v = value_view c.args.value.now in
    let components = components_view c.in-Sequence.fields.items in
    let of = slotted_view c.args.ty.now c.in-Sequence.fields c.in-Sequence.is in
    let parts = has_slots of.0 components (ty_view c.args.ty.now) v of.1 c.requires.conforms c.requires.sound.nodes in
    let made = c.in_ok-order_slots-in-Sequence.field-0 in
    let ws = slots_view made.items in
    let both = subst₂ (λ (fs : List Field) (vs : Slots). AreOrderedFrom (components_view fs) vs ws) c.deref-in-Sequence.ensures.value (sym (c.slots_in.ensures parts.slots parts.is)) c.in_ok-order_slots-in-Sequence.ensures in
    let whole = record_ordered of.0 components (ty_view c.args.ty.now) parts.slots ws of.1 both in
    subst (λ (w : Val). IsOrderedFrom (ty_view c.args.ty.now) w (value_view (node_value.Fields made))) (sym parts.is)
    (subst (IsOrderedFrom (ty_view c.args.ty.now) (Val.fields parts.slots)) (sym (value-Fields made)) whole)

pub order_value-returns-in_ok-order_items-in-SequenceOf : goal.order_value-returns-in_ok-order_items-in-SequenceOf
order_value-returns-in_ok-order_items-in-SequenceOf t c =
    let tag = c.in-SequenceOf.field-0 in
    let inner = c.in-SequenceOf.inner in
    let type = ty_view inner.value in
    let v = value_view c.args.value.now in
    let is : ty_view c.args.ty.now ≡ Shape.sequence_of tag type = ap ty_view c.in-SequenceOf.is ∙ ty-SequenceOf tag inner in
    let parts = has_items tag type (ty_view c.args.ty.now) v (inl is) c.requires.conforms c.requires.sound.nodes in
    let made = c.in_ok-order_items-in-SequenceOf.field-0 in
    let ws = map value_view made.items in
    let both = subst₂ (λ (e : Ty) (vs : List Val). AllZip (IsOrderedFrom (ty_view e)) vs ws) c.deref.ensures (sym (c.items_in.ensures parts.items parts.is)) c.in_ok-order_items-in-SequenceOf.ensures in
    let whole = list_ordered tag type parts.items (items_view made.items) (subst (AllZip (IsOrderedFrom type) (listed parts.items)) (sym (listed-items_view made.items)) both) in
    subst₂ (λ (s : Shape) (w : Val). IsOrderedFrom s w (value_view (node_value.Items made))) (sym is) (sym parts.is) (subst (IsOrderedFrom (Shape.sequence_of tag type) (Val.items parts.items)) (sym (value-Items made)) whole)

pub order_value-returns-in_ok-sort_items-in-SetOf : goal.order_value-returns-in_ok-sort_items-in-SetOf
order_value-returns-in_ok-sort_items-in-SetOf t c =
    let tag = c.in-SetOf.field-0 in
    let inner = c.in-SetOf.inner in
    let type = ty_view inner.value in
    let v = value_view c.args.value.now in
    let is : ty_view c.args.ty.now ≡ Shape.set_of tag type = ap ty_view c.in-SetOf.is ∙ ty-SetOf tag inner in
    let parts = has_items tag type (ty_view c.args.ty.now) v (inr is) c.requires.conforms c.requires.sound.nodes in
    let made = c.in_ok-sort_items-in-SetOf.field-0 in
    let ws = map value_view made.items in
    let both = subst₂ (λ (e : Ty) (vs : List Val). AreItemsOrderedFrom (ty_view e) vs ws) c.deref-in-SetOf.ensures (sym (c.items_in-in-SetOf.ensures parts.items parts.is)) c.in_ok-sort_items-in-SetOf.ensures in
    let whole = set_list_ordered tag type parts.items (items_view made.items) (subst (AreItemsOrderedFrom type (listed parts.items)) (sym (listed-items_view made.items)) both) in
    subst₂ (λ (s : Shape) (w : Val). IsOrderedFrom s w (value_view (node_value.Items made))) (sym is) (sym parts.is) (subst (IsOrderedFrom (Shape.set_of tag type) (Val.items parts.items)) (sym (value-Items made)) whole)

pub sort_items-order_value-requires : goal.sort_items-order_value-requires
sort_items-order_value-requires t c =
    let conforms = item_conforms (ty_view c.args.ty.now) c.args.items.now c.loop-item.item-index c.item-item.result (omega arith) c.item-item.is c.requires.conform in
    (search (rules, node.the_lemmas), (c.requires.sound, conforms))

pub sort_items-returns-then-items-lt2 : goal.sort_items-returns-then-items-lt2
sort_items-returns-then-items-lt2 t c =
    let items = c.args.items.now in
    let few : length (map value_view items) < 2 = omega (arith, c.if-items-lt2.true, length-map items value_view) in
    IfOk-map c.order_items.result _ _ (λ ordered h. few_sorted (ty_view c.args.ty.now) (map value_view items) (map value_view ordered.items) few h) c.order_items.ensures

pub sort_items-put_span-requires : goal.sort_items-put_span-requires
sort_items-put_span-requires t c =
    let type = ty_view c.args.ty.now in
    let x = c.item-item.result in
    let conforms = item_conforms type c.args.items.now c.loop-item.item-index x (omega arith) c.item-item.is c.requires.conform in
    record { nodes = c.requires.sound.nodes; conforms = same_conforms type (value_view x) (value_view c.in_ok-value.value) c.requires.sound.defaults c.in_ok-value.ensures.same conforms }

pub sort_items-loop-item-preserved : goal.sort_items-loop-item-preserved
sort_items-loop-item-preserved t c =
    let xs = c.args.items.now in
    let i = c.loop-item.item-index in
    let type = ty_view c.args.ty.now in
    let new = c.put_span.new.out.items in
    let span = c.in_ok-span.span in
    let one : c.with_key_of-keyed.result ≡ with_key new span = c.with_key_of-keyed.ensures ∙ ap (λ (b : List ℕ). with_key b span) c.deref.ensures.value in
    let more = item_placed type xs c.loop-item.placed.items i c.item-item.result c.in_ok-value.value (with_key new span) c.loop-item.octets.items new (omega arith) c.item-item.is c.loop-item.invariant c.in_ok-value.ensures c.in_ok-span.ensures.put refl in
    subst (λ (done : List Placed). AllZip (IsPlaced type new) (map value_view (take (i + 1) xs)) done) (sym (c.in_ok-push.ensures.items ∙ ap (λ (k : Keyed ℕ). c.loop-item.placed.items ++ record { value = c.in_ok-value.value; keyed = k } ∷ []) one)) more

pub sort_items-sort_up-requires : goal.sort_items-sort_up-requires
sort_items-sort_up-requires t c =
    let xs = c.args.items.now in
    let type = ty_view c.args.ty.now in
    let buffer = c.loop-item.octets.items in
    let keys : All (HasKey buffer) (map (λ (p : Placed). p.keyed) c.loop-item.placed.items) = placed_keys type buffer (map value_view (take c.loop-item.item-index xs)) c.loop-item.placed.items c.loop-item.invariant in
    record { keys = subst (λ (b : List ℕ). All (HasKey b) (map (λ (p : Placed). p.keyed) c.loop-item.placed.items)) (sym c.deref-2.ensures.value) keys }

pub sort_items-returns : goal.sort_items-returns
sort_items-returns t c =
    let xs = c.args.items.now in
    let type = ty_view c.args.ty.now in
    let buffer = c.loop-item.octets.items in
    let sorted = c.sort_up.new.items.items in
    let up : Ascends (map (λ (p : Placed). part_of buffer p.keyed.span) sorted) = subst (λ (b : List ℕ). Ascends (map (λ (p : Placed). part_of b p.keyed.span) sorted)) c.deref-2.ensures.value c.sort_up.ensures.ascends in
    let all : take c.loop-item.item-index xs ≡ xs = take_all c.loop-item.item-index xs (omega arith) in
    let placed : AllZip (IsPlaced type buffer) (map value_view xs) c.loop-item.placed.items = subst (λ (vs : List Value). AllZip (IsPlaced type buffer) (map value_view vs) c.loop-item.placed.items) all c.loop-item.invariant in
    IfOk-map c.values_of.result _ _ (λ values is. items_sorted type buffer (map value_view xs) c.loop-item.placed.items sorted values.items placed c.sort_up.ensures.permutation up is) c.values_of.ensures
