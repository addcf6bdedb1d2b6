use Rattle.std.proofs.Common.{◌≡◌, ◌∙◌, ◌+◌, ◌-◌, ◌<◌, List, Some, None, length, drop, get_or, map, min, sym, ap, subst, subst₂, arith, rules}
use Rattle.octets.specs.Rule.{rule_of}
use Rattle.types.specs.declared.ty.Ty.{Ty}
use Rattle.types.specs.declared.ty.Ty as node
use Rattle.types.specs.declared.ty.Field.{Field}
use Rattle.types.specs.declared.ty.Field as field
use Rattle.types.specs.declared.ty.Alternative as alternative
use Rattle.types.specs.Shape.{Val, Shape, Slots}
use Rattle.types.specs.View.{ty_view, value_view, components_view, slots_view}
use Rattle.types.specs.Conforms.{Conforms}
use Rattle.types.specs.Encoding.{IsEncoding}
use Rattle.octets.proofs.RuleLemmas.{rule_is_canonical}
use Rattle.types.proofs.ViewLemmas.{ty-Choice, ty-Explicit}
use Rattle.canon.specs.Node.{HasGoodNodes, AreItems, AreComponents}
use Rattle.canon.specs.Size.{HasSize}
use Rattle.canon.specs.Writes.{AreWritable}
use Rattle.canon.proofs.AlikeLemmas.{size_alike}
use Rattle.canon.proofs.LeafLemmas.{leaf_alike}
use Rattle.canon.proofs.NodeLemmas.{choice_parts, has_items, has_slots, has_inner, explicit_alike}
use Rattle.canon.proofs.NodeSizeLemmas.{around_size}
use Rattle.canon.proofs.StepLemmas.{item_size, as_many_slots, present_at, size_from_end, present_size, absent_size_any}
use Rattle.canon.proofs.TyLemmas.{leaf_of, list_view, record_view, list_size, record_size}
use Rattle.canon.proofs.ForwardLemmas.{chosen_in_choice}
use Rattle.canon.proofs.WritableLemmas.{stands_at, item_writable, part_writable}
use Rattle.canon.proofs.size_of.+size.Goals as goal
use Rattle.canon.proofs.size_of.+size.Goals.{size_of_components-in-Some, size_of_components-in-None}

pub size_of-index-requires : goal.size_of-index-requires
size_of-index-requires t c =
    let alternatives = c.in-Choice.alternatives in
    let is = ap ty_view c.in-Choice.is ∙ ty-Choice alternatives in
    let parts = choice_parts alternatives.items (value_view c.args.value.now) (subst (λ (s : Shape). Conforms s (value_view c.args.value.now)) is c.requires.conforms) (subst HasGoodNodes is c.requires.nodes) in
    let told = c.in-Some-chosen_in.ensures parts.which parts.value parts.is in
    omega (arith, told.0, parts.alternative.there, alternatives.ok.0)

pub size_of-size_of-requires : goal.size_of-size_of-requires
size_of-size_of-requires t c =
    let alternatives = c.in-Choice.alternatives in
    let is = ap ty_view c.in-Choice.is ∙ ty-Choice alternatives in
    let parts = choice_parts alternatives.items (value_view c.args.value.now) (subst (λ (s : Shape). Conforms s (value_view c.args.value.now)) is c.requires.conforms) (subst HasGoodNodes is c.requires.nodes) in
    let here = chosen_in_choice (rule_of c.args.rule) alternatives.items (ty_view c.args.ty.now) (value_view c.args.value.now) c.in-Some-chosen_in.which (value_view c.in-Some-chosen_in.chosen.now) c.index.result.now is parts (c.in-Some-chosen_in.ensures parts.which parts.value parts.is) c.index.ensures in
    (search (rules, node.the_lemmas, alternative.the_lemmas), here.writable)

pub size_of-returns-in-Some-chosen_in-clause-size : goal.size_of-returns-in-Some-chosen_in-clause-size
size_of-returns-in-Some-chosen_in-clause-size t c =
    let v = value_view c.args.value.now in
    let alternatives = c.in-Choice.alternatives in
    let is = ap ty_view c.in-Choice.is ∙ ty-Choice alternatives in
    let parts = choice_parts alternatives.items v (subst (λ (s : Shape). Conforms s v) is c.requires.conforms) (subst HasGoodNodes is c.requires.nodes) in
    let here = chosen_in_choice (rule_of c.args.rule) alternatives.items (ty_view c.args.ty.now) v c.in-Some-chosen_in.which (value_view c.in-Some-chosen_in.chosen.now) c.index.result.now is parts (c.in-Some-chosen_in.ensures parts.which parts.value parts.is) c.index.ensures in
    size_alike _ _ c.size_of.result here.alike c.size_of.ensures.size

pub size_of-size_of_items-contents-requires : goal.size_of-size_of_items-contents-requires
size_of-size_of_items-contents-requires t c =
    let inner = c.in-SequenceOf.inner in
    let shape = list_view c.args.ty.now c.in-SequenceOf.tag inner c.in-SequenceOf.is in
    let parts = has_items c.in-SequenceOf.tag (ty_view inner.value) (ty_view c.args.ty.now) (value_view c.args.value.now) shape c.requires.conforms c.requires.nodes in
    (search (rules, node.the_lemmas), subst₂ (λ (e : Ty) (vs : List Val). AreWritable (ty_view e) vs) (sym c.deref-in-SequenceOf.ensures) (c.items_in.ensures parts.items parts.is) record { nodes = parts.nodes; conform = parts.conform })

pub size_of-returns-in-SequenceOf-clause-size : goal.size_of-returns-in-SequenceOf-clause-size
size_of-returns-in-SequenceOf-clause-size t c =
    let rule = rule_of c.args.rule in
    let inner = c.in-SequenceOf.inner in
    let shape = list_view c.args.ty.now c.in-SequenceOf.tag inner c.in-SequenceOf.is in
    let parts = has_items c.in-SequenceOf.tag (ty_view inner.value) (ty_view c.args.ty.now) (value_view c.args.value.now) shape c.requires.conforms c.requires.nodes in
    let n = c.size_of_items-contents.result in
    let items = subst₂ (λ (e : Ty) (vs : List Val). HasSize (AreItems (IsEncoding rule (ty_view e)) vs) n) c.deref-in-SequenceOf.ensures (sym (c.items_in.ensures parts.items parts.is)) c.size_of_items-contents.ensures.size in
    list_size rule c.in-SequenceOf.tag (ty_view inner.value) (ty_view c.args.ty.now) (value_view c.args.value.now) n c.size_of_constructed-in-SequenceOf.result (rule_is_canonical c.args.rule) shape parts items c.size_of_constructed-in-SequenceOf.ensures.more c.size_of_constructed-in-SequenceOf.ensures.size

pub size_of-returns-in-Sequence-clause-size : goal.size_of-returns-in-Sequence-clause-size
size_of-returns-in-Sequence-clause-size t c =
    let rule = rule_of c.args.rule in
    let components = components_view c.in-Sequence.fields.items in
    let shape = record_view c.args.ty.now c.in-Sequence.tag c.in-Sequence.fields c.in-Sequence.is in
    let parts = has_slots c.in-Sequence.tag components (ty_view c.args.ty.now) (value_view c.args.value.now) shape c.requires.conforms c.requires.nodes in
    let n = c.size_of_components-contents.result in
    let size = c.size_of_constructed-in-Sequence.result in
    let here = subst₂ (λ (fs : List Field) (s : Slots). HasSize (AreComponents rule (components_view fs) s) n) c.deref-in-Sequence.ensures.value (sym (c.slots_in.ensures parts.slots parts.is)) c.size_of_components-contents.ensures.size in
    record_size rule c.in-Sequence.tag components (ty_view c.args.ty.now) (value_view c.args.value.now) n size (rule_is_canonical c.args.rule) shape c.requires.nodes parts here c.size_of_constructed-in-Sequence.ensures.more c.size_of_constructed-in-Sequence.ensures.size

pub size_of-returns-in-Explicit-clause-size : goal.size_of-returns-in-Explicit-clause-size
size_of-returns-in-Explicit-clause-size t c =
    let rule = rule_of c.args.rule in
    let tag = c.in-Explicit.tag in
    let inner = ty_view c.in-Explicit.inner.value in
    let v = value_view c.args.value.now in
    let is : ty_view c.args.ty.now ≡ Shape.explicit tag inner = ap ty_view c.in-Explicit.is ∙ ty-Explicit tag c.in-Explicit.inner in
    let parts = has_inner tag inner (ty_view c.args.ty.now) v is c.requires.conforms c.requires.nodes in
    let n = c.size_of-contents.result in
    let size = c.size_of_constructed.result in
    let here : HasSize (IsEncoding rule inner v) n = subst (λ (e : Ty). HasSize (IsEncoding rule (ty_view e) v) n) c.deref.ensures c.size_of-contents.ensures.size in
    subst (λ (s : Shape). HasSize (IsEncoding rule s v) size) (sym is)
    (size_alike _ _ size (explicit_alike rule tag inner v) (around_size (IsEncoding rule inner v) rule tag n size parts.kept here c.size_of_constructed.ensures.more c.size_of_constructed.ensures.size))

pub size_of-returns-in-Some-clause-size : goal.size_of-returns-in-Some-clause-size
size_of-returns-in-Some-clause-size t c =
    let shape = ty_view c.args.ty.now in
    let v = value_view c.args.value.now in
    size_alike _ _ c.size_of_leaf.result (leaf_alike (rule_of c.args.rule) (rule_is_canonical c.args.rule) c.in-Some.tag shape v (leaf_of c.in-Some.tag shape c.in-Some.ensures.leaf c.in-Some.ensures.tag) c.requires.conforms) c.size_of_leaf.ensures.size

pub size_of_items-size_of-requires : goal.size_of_items-size_of-requires
size_of_items-size_of-requires t c =
    (search rules, item_writable (ty_view c.args.ty.now) c.args.items.now (length c.args.items.now - 1 - c.loop-done.done) c.index-items-count.result (omega arith) c.index-items-count.is c.requires)

pub size_of_items-loop-done-preserved : goal.size_of_items-loop-done-preserved
size_of_items-loop-done-preserved t c =
    let rule = rule_of c.args.rule in
    let IsItem = IsEncoding rule (ty_view c.args.ty.now) in
    let items = c.args.items.now in
    let i = length items - (c.loop-done.done + 1) in
    let place : length items - 1 - c.loop-done.done ≡ i = omega arith in
    let at : c.index-items-count.result ≡ get_or items i c.index-items-count.result = c.index-items-count.is ∙ ap (λ k. get_or items k c.index-items-count.result) place in
    let size = item_size IsItem items i (length items - c.loop-done.done) c.index-items-count.result c.size_of.result c.loop-done.total (omega arith) (omega arith) at c.size_of.ensures.size c.loop-done.invariant.size in
    let capped : min (c.loop-done.total + c.size_of.result) 1_048_577 ≡ c.min-total.result = omega (arith, c.min-total.ensures) in
    record { at_most = omega (arith, c.min-total.ensures); size = subst (HasSize (AreItems IsItem (map value_view (drop i items)))) capped size }

pub size_of_components-loop-done-init : goal.size_of_components-loop-done-init
size_of_components-loop-done-init t c =
    let many = as_many_slots c.args.fields.now c.args.slots.now c.requires.conform in
    record {
      at_most = omega arith;
      size = size_from_end (rule_of c.args.rule) c.args.fields.now c.args.slots.now (c.min-count.result - 0) (omega (arith, c.min-count.ensures, many)) many;
    }

pub size_of_components-size_of-size-requires : goal.size_of_components-size_of-size-requires
size_of_components-size_of-size-requires t c =
    let place = c.min-count.result - 1 - c.loop-done.done in
    let bound : place < length c.args.fields.now = omega (arith, c.min-count.ensures) in
    let at = c.index-fields-place.is in (
      search (rules, node.the_lemmas, field.the_lemmas, bound, at),
      part_writable c.args.fields.now c.args.slots.now place c.index-fields-place.result c.index-slots-place.result c.in-Some.value (omega (arith, c.min-count.ensures)) at c.index-slots-place.is c.in-Some.is c.requires,
    )

pub size_of_components-loop-done-preserved : goal.size_of_components-loop-done-preserved
size_of_components-loop-done-preserved t c =
    let rule = rule_of c.args.rule in
    let fields = c.args.fields.now in
    let slots = c.args.slots.now in
    let many = as_many_slots fields slots c.requires.conform in
    let count = c.min-count.result in
    let i = count - (c.loop-done.done + 1) in
    let j = count - c.loop-done.done in
    let place : count - 1 - c.loop-done.done ≡ i = omega arith in
    let there : i < length fields = omega (arith, many, c.min-count.ensures) in
    let here : i < length slots = omega (arith, many, c.min-count.ensures) in
    let slot = c.index-slots-place.result in
    let slot_is : slot ≡ get_or slots i slot = c.index-slots-place.is ∙ ap (λ k. get_or slots k slot) place in
    elim c.match-slots-place.branch [
      | size_of_components-in-Some w ↦
          let v = w.in-Some.value in
          let f = w.index-fields-place.result in
          let stands = stands_at slots i slot (Some v) slot_is w.in-Some.is in
          let at : f ≡ get_or fields i f = w.index-fields-place.is ∙ ap (λ k. get_or fields k f) place in
          let is = present_at fields slots i f v here at stands c.requires.conform c.requires.nodes in
          let size = present_size rule fields slots i j f v w.size_of-size.result c.loop-done.total there here (omega arith) at stands is (subst (λ (g : Field). HasSize (IsEncoding rule (ty_view g.ty) (value_view v)) w.size_of-size.result) (sym w.index-fields-place.is) w.size_of-size.ensures.size) c.loop-done.invariant.size in
          let capped : min (c.loop-done.total + w.size_of-size.result) 1_048_577 ≡ c.match-slots-place.total = omega (arith, w.min-total.ensures, w.total-is) in
          record { at_most = omega (arith, w.min-total.ensures, w.total-is); size = subst (λ n. HasSize (AreComponents rule (components_view (drop i fields)) (slots_view (drop i slots))) n) capped size }
      | size_of_components-in-None w ↦
          let stands = stands_at slots i slot None slot_is w.in-None.is in
          let size = absent_size_any rule fields slots i j c.loop-done.total there here (omega arith) stands (rule_is_canonical c.args.rule) c.requires.conform c.loop-done.invariant.size in
          record { at_most = omega (arith, w.total-is, c.loop-done.invariant.at_most); size = subst (λ n. HasSize (AreComponents rule (components_view (drop i fields)) (slots_view (drop i slots))) n) (sym w.total-is) size }
    ]

pub size_of_components-returns-clause-size : goal.size_of_components-returns-clause-size
size_of_components-returns-clause-size t c =
    let none_left : c.min-count.result - c.loop-done.done ≡ 0 = omega arith in
    subst (λ k. HasSize (AreComponents (rule_of c.args.rule) (components_view (drop k c.args.fields.now)) (slots_view (drop k c.args.slots.now))) c.loop-done.total) none_left c.loop-done.invariant.size
