use Rattle.std.proofs.Common.{AllPairs, true, ◌≡◌, ◌∙◌, ◌+◌, ◌-◌, ◌<◌, ℕ, suc, List, [], ◌∷◌, ◌++◌, Option, Some, None, Vec, Global, length, take, get_or, map, inl, inr, refl, sym, ap, subst, subst₂, arith, rules}
use Rattle.std.proofs.lemmas.List.{length-map, take_all}
use Rattle.std.specs.declared.result.Result.{Result}
use Rattle.octets.specs.declared.no_memory.NoMemory.{NoMemory}
use Rattle.octets.specs.declared.tag.Tag.{Tag}
use Rattle.octets.specs.Front.{Appends}
use Rattle.octets.specs.Rule.{Rule, rule_of}
use Rattle.octets.proofs.ResultLemmas.{OnOk-map}
use Rattle.octets.proofs.RuleLemmas.{rule_is_canonical}
use Rattle.types.specs.declared.ty.Ty.{Ty}
use Rattle.types.specs.declared.ty.Ty as node
use Rattle.types.specs.declared.ty.Alternative.{Alternative}
use Rattle.types.specs.declared.ty.Alternative as alternative
use Rattle.types.specs.declared.ty.Field.{Field}
use Rattle.types.specs.declared.ty.Field as field
use Rattle.types.specs.declared.value.Value.{Value}
use Rattle.types.specs.Encoding.{IsEncoding}
use Rattle.types.specs.Order.{IsOrderTag}
use Rattle.types.specs.Shape.{Shape, Slots, Val}
use Rattle.types.specs.View.{slots_view, ty_view, value_view, alternatives_view, components_view}
use Rattle.types.proofs.ViewLemmas.{ty-Sequence, ty-Set, ty-SequenceOf, ty-SetOf, ty-Choice, ty-Explicit}
use Rattle.canon.specs.declared.spans.Keyed.{Keyed}
use Rattle.canon.specs.Keyed.{with_key}
use Rattle.canon.specs.Node.{ArePartsOf, AreItems, AreItemsInOrder, AreComponents, AreComponentsByTag}
use Rattle.canon.specs.Part.{AreLaid, IsPut, Keeps}
use Rattle.canon.specs.Span.{part_of}
use Rattle.canon.specs.Writes.{IsWritable, AreWritable, Writes}
use Rattle.canon.proofs.JoinLemmas.{BeginsComponents, none_joined, present_joined, absent_joined, all_joined}
use Rattle.canon.proofs.KeptLemmas.{kept, keeps_more, keeps_chain, keeps_taken}
use Rattle.canon.proofs.LeafLemmas.{leaf_alike, leaf_conforms}
use Rattle.canon.proofs.LeavesLemmas.{leaves_conform, leaves_alike, item_behind}
use Rattle.canon.proofs.NestedLemmas.{behind_smaller, none_opened, opened_keeps, opened_writable, value_inside}
use Rattle.canon.proofs.NodeLemmas.{choice_parts, explicit_alike, has_items, has_slots, parts_around}
use Rattle.canon.proofs.OpeningLemmas.{opened_kept}
use Rattle.canon.proofs.PartLemmas.{part_put}
use Rattle.canon.proofs.PutLemmas.{laid_more, laid_cut, laid_keys, order_made}
use Rattle.canon.proofs.StepLemmas.{as_many_slots, present_at}
use Rattle.canon.proofs.ForwardLemmas.{chosen_in_choice}
use Rattle.octets.specs.Tag.{ComesBefore}
use Rattle.types.specs.FirstTags.{tags_of_components}
use Rattle.canon.specs.Node.{HasGoodNodes}
use Rattle.canon.proofs.TagOrderLemmas.{in_declared_order}
use Rattle.canon.proofs.TagPutLemmas.{LaidTo, none_laid_by_tag, present_laid, absent_laid, all_laid, tagged_cut, by_tag_made, distinct_drop}
use Rattle.canon.proofs.TurnedLemmas.{none_turned, turned_more}
use Rattle.canon.proofs.TyLemmas.{framed_view, leaf_of}
use Rattle.canon.proofs.WritableLemmas.{stands_at, item_writable, part_writable}
use Rattle.canon.proofs.WritesLemmas.{few_in_order, written_by, refused, written_around, put_as}
use Rattle.canon.proofs.+writing.Goals as goal
use Rattle.canon.proofs.+writing.Goals.{writer::Writer::put_parts-in-Set, writer::Writer::put_parts-in_default-matches, writer::Writer::put_parts-else-matches-via-then-matches+else-not-are_declared_by_tag, writer::Writer::put_parts-else-matches-via-else-matches}

-- the encoding of a value under an explicit tag
written_as_explicit : {shape : Shape} {v : Val} {r : Result (Unit {0}) NoMemory} {old new : List ℕ} {type inner : Ty} (rule : Rule) (tag : Tag) → type ≡ inner → shape ≡ Shape.explicit tag (ty_view inner) → Writes (IsEncoding rule (Shape.explicit tag (ty_view type)) v) r old new → Writes (IsEncoding rule shape v) r old new
written_as_explicit {v = v} {r = r} {old = old} {new = new} rule tag same is put =
    subst (λ (s : Shape). Writes (IsEncoding rule s v) r old new) (sym is) (subst (λ (e : Ty). Writes (IsEncoding rule (Shape.explicit tag (ty_view e)) v) r old new) same put)

-- a type that is a CHOICE, by its alternatives
as_choice : {type : Ty} (alternatives : Vec Alternative Global) {listed : List Alternative} → type ≡ node.Choice alternatives → listed ≡ alternatives.items → ty_view type ≡ Shape.choice (alternatives_view listed)
as_choice alternatives is same = ap ty_view is ∙ (ty-Choice alternatives ∙ ap (λ l. Shape.choice (alternatives_view l)) (sym same))

-- no value in a slot
no_slot_there : (slot : Option Value) → ((v : Value) → ¬ (slot ≡ Some v)) → slot ≡ None
no_slot_there None h = refl
no_slot_there (Some v) h = absurd (h v refl)

pub writer::Writer::put_value-put_leaf-requires-clause-leaf : goal.writer::Writer::put_value-put_leaf-requires-clause-leaf
writer::Writer::put_value-put_leaf-requires-clause-leaf t c = leaf_conforms c.in-Some.tag (ty_view c.args.ty.now) (value_view c.args.value.now) (leaf_of c.in-Some.tag (ty_view c.args.ty.now) c.in-Some.ensures.leaf c.in-Some.ensures.tag) c.requires.conforms

pub writer::Writer::put_value-returns-in-Some : goal.writer::Writer::put_value-returns-in-Some
writer::Writer::put_value-returns-in-Some t c =
    let alike = leaf_alike (rule_of c.args.self.rule) (rule_is_canonical c.args.self.rule) c.in-Some.tag (ty_view c.args.ty.now) (value_view c.args.value.now) (leaf_of c.in-Some.tag (ty_view c.args.ty.now) c.in-Some.ensures.leaf c.in-Some.ensures.tag) c.requires.conforms in
    written_by c.put_leaf.ensures alike.to

pub writer::Writer::put_alternative-offset_bounds-alternatives-which : goal.writer::Writer::put_alternative-offset_bounds-alternatives-which
writer::Writer::put_alternative-offset_bounds-alternatives-which t c =
    let parts = choice_parts c.args.alternatives.now (value_view c.args.value.now) c.requires.conforms c.requires.nodes in
    let told = c.in-Some.ensures parts.which parts.value parts.is in
    let bound : c.in-Some.which < length c.args.alternatives.now = omega (arith, told.0, parts.alternative.there) in
    search (rules, bound)

pub writer::Writer::put_alternative-bounds-alternatives-which : goal.writer::Writer::put_alternative-bounds-alternatives-which
writer::Writer::put_alternative-bounds-alternatives-which t c =
    let parts = choice_parts c.args.alternatives.now (value_view c.args.value.now) c.requires.conforms c.requires.nodes in
    let told = c.in-Some.ensures parts.which parts.value parts.is in
    omega (arith, told.0, parts.alternative.there)

pub writer::Writer::put_alternative-put_value-requires : goal.writer::Writer::put_alternative-put_value-requires
writer::Writer::put_alternative-put_value-requires t c =
    let alternatives = c.args.alternatives.now in
    let v = value_view c.args.value.now in
    let parts = choice_parts alternatives v c.requires.conforms c.requires.nodes in
    let here = chosen_in_choice (rule_of c.args.self.rule) alternatives (Shape.choice (alternatives_view alternatives)) v c.in-Some.which (value_view c.in-Some.chosen.now) c.index-alternatives-which.result refl parts (c.in-Some.ensures parts.which parts.value parts.is) c.index-alternatives-which.is in
    (search (rules, node.the_lemmas, alternative.the_lemmas), subst (λ (x : Alternative). IsWritable (ty_view x.ty) (value_view c.in-Some.chosen.now)) c.index-alternatives-which.is here.writable)

pub writer::Writer::put_alternative-returns : goal.writer::Writer::put_alternative-returns
writer::Writer::put_alternative-returns t c =
    let alternatives = c.args.alternatives.now in
    let v = value_view c.args.value.now in
    let parts = choice_parts alternatives v c.requires.conforms c.requires.nodes in
    let here = chosen_in_choice (rule_of c.args.self.rule) alternatives (Shape.choice (alternatives_view alternatives)) v c.in-Some.which (value_view c.in-Some.chosen.now) c.index-alternatives-which.result refl parts (c.in-Some.ensures parts.which parts.value parts.is) c.index-alternatives-which.is in
    written_by c.put_value.ensures (subst (λ (x : Alternative). (b : List ℕ) → IsEncoding (rule_of c.args.self.rule) (ty_view x.ty) (value_view c.in-Some.chosen.now) b → IsEncoding (rule_of c.args.self.rule) (Shape.choice (alternatives_view alternatives)) v b) c.index-alternatives-which.is here.alike.to)

pub writer::Writer::put_constructed-put_alternative-requires : goal.writer::Writer::put_constructed-put_alternative-requires
writer::Writer::put_constructed-put_alternative-requires t c =
    (search (rules, node.the_lemmas), subst (λ (s : Shape). IsWritable s (value_view c.args.value.now)) (as_choice c.in-Choice.alternatives c.in-Choice.is c.deref.ensures.value) c.requires.writable)

pub writer::Writer::put_constructed-returns-in-Choice : goal.writer::Writer::put_constructed-returns-in-Choice
writer::Writer::put_constructed-returns-in-Choice t c =
    subst (λ (s : Shape). Writes (IsEncoding (rule_of c.args.self.rule) s (value_view c.args.value.now)) c.put_alternative.result c.args.out.now.items c.put_alternative.new.out.items) (sym (as_choice c.in-Choice.alternatives c.in-Choice.is c.deref.ensures.value)) c.put_alternative.ensures

pub writer::Writer::put_constructed-returns-in_ok-put_parts-in-Sequence : goal.writer::Writer::put_constructed-returns-in_ok-put_parts-in-Sequence
writer::Writer::put_constructed-returns-in_ok-put_parts-in-Sequence t c =
    let rule = rule_of c.args.self.rule in
    let shape = ty_view c.args.ty.now in
    let v = value_view c.args.value.now in
    let tag = c.in-Sequence.tag in
    written_around c.put_closing.result rule tag (ArePartsOf rule shape v) (IsEncoding rule shape v) c.in_ok-place-in-Sequence.place c.args.out.now.items c.put_opening.new.out.items c.put_parts.new.out.items c.put_closing.new.out.items c.in_ok-place-in-Sequence.ensures.opened
    c.in_ok-put_parts-in-Sequence.ensures.appended (parts_around rule tag shape v (rule_is_canonical c.args.self.rule) (framed_view c.args.ty.now tag c.in-Sequence.is) c.requires.writable.conforms) c.put_closing.ensures.closed c.put_closing.ensures.kept

pub writer::Writer::put_constructed-returns-in_err-put_parts-in-Sequence : goal.writer::Writer::put_constructed-returns-in_err-put_parts-in-Sequence
writer::Writer::put_constructed-returns-in_err-put_parts-in-Sequence t c =
    let old = c.args.out.now.items in
    let one = c.put_opening.new.out.items in
    refused _ c.from_residual-in_err-put_parts-in-Sequence.ensures.1
    (keeps_chain old one c.put_parts.new.out.items (opened_kept c.in-Sequence.tag true old one c.in_ok-place-in-Sequence.place c.in_ok-place-in-Sequence.ensures.opened) c.in_err-put_parts-in-Sequence.ensures.kept)

pub writer::Writer::put_parts-returns-then-not-are_declared_by_tag : goal.writer::Writer::put_parts-returns-then-not-are_declared_by_tag
writer::Writer::put_parts-returns-then-not-are_declared_by_tag t c =
    let rule = rule_of c.args.self.rule in
    let fields = c.in-Sequence.fields in
    let components = components_view fields.items in
    elim c.match-matches.branch [
      | writer::Writer::put_parts-in-Set w ↦
          elim c.in-Sequence.is [
            | inl sequence ↦ let same = sym sequence.1 ∙ w.in-Set.is in cc
            | inr set ↦
                let is : ty_view c.args.ty.now ≡ Shape.set set.0 components = ap ty_view set.1 ∙ ty-Set set.0 fields in
                let parts = has_slots set.0 components (ty_view c.args.ty.now) (value_view c.args.value.now) (inr is) c.requires.conforms c.requires.nodes in
                put_as rule is parts.is (subst₂ (λ (fs : List Field) (s : Slots). Writes (AreComponentsByTag rule (components_view fs) s) c.put_by_tag.result c.args.out.now.items c.put_by_tag.new.out.items) c.deref-then-not-are_declared_by_tag.ensures.value (sym (c.slots_in-slots.ensures parts.slots parts.is)) c.put_by_tag.ensures)
          ]
      | writer::Writer::put_parts-in_default-matches w ↦ let truth = c.if-matches.true in let other = w.matches-is in cc
    ]

pub writer::Writer::put_parts-returns-else-matches : goal.writer::Writer::put_parts-returns-else-matches
writer::Writer::put_parts-returns-else-matches t c =
    let rule = rule_of c.args.self.rule in
    let fields = c.in-Sequence.fields in
    let components = components_view fields.items in
    let put = λ (slots : Slots) (is : slots ≡ slots_view c.slots_in-slots.result.now). subst₂ (λ (fs : List Field) (s : Slots). Writes (AreComponents rule (components_view fs) s) c.put_components.result c.args.out.now.items c.put_components.new.out.items) c.deref-in-Sequence.ensures.value (sym is) c.put_components.ensures in
    elim c.in-Sequence.is [
      | inl sequence ↦
          let is : ty_view c.args.ty.now ≡ Shape.sequence sequence.0 components = ap ty_view sequence.1 ∙ ty-Sequence sequence.0 fields in
          let parts = has_slots sequence.0 components (ty_view c.args.ty.now) (value_view c.args.value.now) (inl is) c.requires.conforms c.requires.nodes in
          put_as rule is parts.is (put parts.slots (c.slots_in-slots.ensures parts.slots parts.is))
      | inr set ↦
          let is : ty_view c.args.ty.now ≡ Shape.set set.0 components = ap ty_view set.1 ∙ ty-Set set.0 fields in
          let parts = has_slots set.0 components (ty_view c.args.ty.now) (value_view c.args.value.now) (inr is) c.requires.conforms c.requires.nodes in
          elim c.else-matches.branch [
            | writer::Writer::put_parts-else-matches-via-then-matches+else-not-are_declared_by_tag w ↦
                let rise : AllPairs ComesBefore (tags_of_components components) = subst (λ (fs : List Field). AllPairs ComesBefore (tags_of_components (components_view fs))) w.deref-then-matches.ensures.value (w.are_declared_by_tag.ensures (search rules)) in
                let good : HasGoodNodes (Shape.set set.0 components) = subst HasGoodNodes is c.requires.nodes in
                put_as rule is parts.is (written_by (put parts.slots (c.slots_in-slots.ensures parts.slots parts.is)) (λ octets h. in_declared_order rule components parts.slots octets (rule_is_canonical c.args.self.rule) good.tags.0.1 rise h))
            | writer::Writer::put_parts-else-matches-via-else-matches w ↦ elim c.match-matches.branch [
              | writer::Writer::put_parts-in-Set x ↦ let truth = w.if-matches.false in let other = x.matches-is in cc
              | writer::Writer::put_parts-in_default-matches x ↦ absurd (x.in_default-matches.not-Set set.0 fields set.1)
            ]
          ]
    ]

pub writer::Writer::put_parts-returns-in-SequenceOf : goal.writer::Writer::put_parts-returns-in-SequenceOf
writer::Writer::put_parts-returns-in-SequenceOf t c =
    let rule = rule_of c.args.self.rule in
    let tag = c.in-SequenceOf.field-0 in
    let inner = c.in-SequenceOf.inner in
    let is : ty_view c.args.ty.now ≡ Shape.sequence_of tag (ty_view inner.value) = ap ty_view c.in-SequenceOf.is ∙ ty-SequenceOf tag inner in
    let parts = has_items tag (ty_view inner.value) (ty_view c.args.ty.now) (value_view c.args.value.now) (inl is) c.requires.conforms c.requires.nodes in
    put_as rule is parts.is (subst₂ (λ (e : Ty) (vs : List Val). Writes (AreItems (IsEncoding rule (ty_view e)) vs) c.put_items.result c.args.out.now.items c.put_items.new.out.items) c.deref.ensures (sym (c.items_in.ensures parts.items parts.is)) c.put_items.ensures)

pub writer::Writer::put_parts-returns-in-SetOf : goal.writer::Writer::put_parts-returns-in-SetOf
writer::Writer::put_parts-returns-in-SetOf t c =
    let rule = rule_of c.args.self.rule in
    let tag = c.in-SetOf.field-0 in
    let inner = c.in-SetOf.inner in
    let is : ty_view c.args.ty.now ≡ Shape.set_of tag (ty_view inner.value) = ap ty_view c.in-SetOf.is ∙ ty-SetOf tag inner in
    let parts = has_items tag (ty_view inner.value) (ty_view c.args.ty.now) (value_view c.args.value.now) (inr is) c.requires.conforms c.requires.nodes in
    put_as rule is parts.is (subst₂ (λ (e : Ty) (vs : List Val). Writes (AreItemsInOrder (IsEncoding rule (ty_view e)) vs) c.put_in_order.result c.args.out.now.items c.put_in_order.new.out.items) c.deref-in-SetOf.ensures (sym (c.items_in-in-SetOf.ensures parts.items parts.is)) c.put_in_order.ensures)

pub writer::Writer::put_items-put_leaves-requires-clause-leaves : goal.writer::Writer::put_items-put_leaves-requires-clause-leaves
writer::Writer::put_items-put_leaves-requires-clause-leaves t c = leaves_conform c.in-Some.tag (ty_view c.args.ty.now) (leaf_of c.in-Some.tag (ty_view c.args.ty.now) c.in-Some.ensures.leaf c.in-Some.ensures.tag) (map value_view c.args.items.now) c.requires.conform

pub writer::Writer::put_items-returns-in-Some : goal.writer::Writer::put_items-returns-in-Some
writer::Writer::put_items-returns-in-Some t c =
    let alike = leaves_alike c.in-Some.tag (ty_view c.args.ty.now) (leaf_of c.in-Some.tag (ty_view c.args.ty.now) c.in-Some.ensures.leaf c.in-Some.ensures.tag) (rule_of c.args.self.rule) (rule_is_canonical c.args.self.rule) (map value_view c.args.items.now) c.requires.conform in
    written_by c.put_leaves.ensures alike.to

pub writer::Writer::put_items-put_alternatives-requires : goal.writer::Writer::put_items-put_alternatives-requires
writer::Writer::put_items-put_alternatives-requires t c =
    (search (rules, node.the_lemmas), subst (λ (s : Shape). AreWritable s (map value_view c.args.items.now)) (as_choice c.in-Choice.alternatives c.in-Choice.is c.deref.ensures.value) c.requires)

pub writer::Writer::put_items-returns-in-Choice : goal.writer::Writer::put_items-returns-in-Choice
writer::Writer::put_items-returns-in-Choice t c =
    subst (λ (s : Shape). Writes (AreItems (IsEncoding (rule_of c.args.self.rule) s) (map value_view c.args.items.now)) c.put_alternatives.result c.args.out.now.items c.put_alternatives.new.out.items) (sym (as_choice c.in-Choice.alternatives c.in-Choice.is c.deref.ensures.value)) c.put_alternatives.ensures

pub writer::Writer::put_alternatives-put_alternative-requires : goal.writer::Writer::put_alternatives-put_alternative-requires
writer::Writer::put_alternatives-put_alternative-requires t c =
    (search (rules, node.the_lemmas), item_writable (Shape.choice (alternatives_view c.args.alternatives.now)) c.args.items.now c.loop-item.item-index c.item-item.result (omega arith) c.item-item.is c.requires)

pub writer::Writer::put_alternatives-loop-item-preserved : goal.writer::Writer::put_alternatives-loop-item-preserved
writer::Writer::put_alternatives-loop-item-preserved t c =
    item_behind (IsEncoding (rule_of c.args.self.rule) (Shape.choice (alternatives_view c.args.alternatives.now))) c.args.items.now c.loop-item.item-index c.item-item.result c.args.out.now.items c.loop-item.out.items c.put_alternative.new.out.items (omega arith) c.item-item.is c.loop-item.invariant c.in_ok-put_alternative.ensures.appended

pub writer::Writer::put_alternatives-returns-in_err-put_alternative : goal.writer::Writer::put_alternatives-returns-in_err-put_alternative
writer::Writer::put_alternatives-returns-in_err-put_alternative t c =
    let so_far = c.loop-item.invariant in
    refused _ c.from_residual.ensures.1 (keeps_chain c.args.out.now.items c.loop-item.out.items c.put_alternative.new.out.items (so_far.0, so_far.1, tt) c.in_err-put_alternative.ensures.kept)

pub writer::Writer::put_items-put_constructed-requires : goal.writer::Writer::put_items-put_constructed-requires
writer::Writer::put_items-put_constructed-requires t c =
    (search (rules, node.the_lemmas), (c.in_default.ensures.none refl, item_writable (ty_view c.args.ty.now) c.args.items.now c.loop-item.item-index c.item-item.result (omega arith) c.item-item.is c.requires))

pub writer::Writer::put_items-loop-item-preserved : goal.writer::Writer::put_items-loop-item-preserved
writer::Writer::put_items-loop-item-preserved t c =
    item_behind (IsEncoding (rule_of c.args.self.rule) (ty_view c.args.ty.now)) c.args.items.now c.loop-item.item-index c.item-item.result c.args.out.now.items c.loop-item.out.items c.put_constructed.new.out.items (omega arith) c.item-item.is c.loop-item.invariant c.in_ok-put_constructed.ensures.appended

pub writer::Writer::put_items-returns-in_err-put_constructed : goal.writer::Writer::put_items-returns-in_err-put_constructed
writer::Writer::put_items-returns-in_err-put_constructed t c =
    let so_far = c.loop-item.invariant in
    refused _ c.from_residual.ensures.1 (keeps_chain c.args.out.now.items c.loop-item.out.items c.put_constructed.new.out.items (so_far.0, so_far.1, tt) c.in_err-put_constructed.ensures.kept)

pub writer::Writer::put_components-loop-place-init : goal.writer::Writer::put_components-loop-place-init
writer::Writer::put_components-loop-place-init t c = none_joined (rule_of c.args.self.rule) c.args.fields.now c.args.slots.now c.args.out.now.items

pub writer::Writer::put_components-returns : goal.writer::Writer::put_components-returns
writer::Writer::put_components-returns t c =
    let many = as_many_slots c.args.fields.now c.args.slots.now c.requires.conform in
    let whole = all_joined (rule_of c.args.self.rule) c.args.fields.now c.args.slots.now c.loop-place.place c.args.out.now.items c.loop-place.out.items (omega (arith, c.min-count.ensures, many)) many c.loop-place.invariant in
    record { appended = whole; kept = tt }

pub writer::Writer::put_components-put_value-requires : goal.writer::Writer::put_components-put_value-requires
writer::Writer::put_components-put_value-requires t c =
    let place = c.loop-place.place in
    let bound : place < length c.args.fields.now = omega (arith, c.min-count.ensures) in
    let at = c.index-fields-place.is in (
      search (rules, node.the_lemmas, field.the_lemmas, bound, at),
      part_writable c.args.fields.now c.args.slots.now place c.index-fields-place.result c.index-slots-place.result c.in-Some.value (omega (arith, c.min-count.ensures)) at c.index-slots-place.is c.in-Some.is c.requires,
    )

pub writer::Writer::put_components-loop-place-preserved-in_default : goal.writer::Writer::put_components-loop-place-preserved-in_default
writer::Writer::put_components-loop-place-preserved-in_default t c =
    let rule = rule_of c.args.self.rule in
    let fields = c.args.fields.now in
    let slots = c.args.slots.now in
    let old = c.args.out.now.items in
    let new = c.loop-place.out.items in
    let i = c.loop-place.place in
    let next : suc i ≡ i + 1 = omega arith in
    let slot = c.index-slots-place.result in
    let stands = stands_at slots i slot None c.index-slots-place.is (no_slot_there slot c.in_default.not-Some) in
    subst (λ n. Appends (BeginsComponents rule fields slots n) old new) next
    (absent_joined rule fields slots i old new (omega (arith, c.min-count.ensures)) (omega (arith, c.min-count.ensures)) stands (rule_is_canonical c.args.self.rule) c.requires.conform c.loop-place.invariant)

pub writer::Writer::put_components-loop-place-preserved : goal.writer::Writer::put_components-loop-place-preserved
writer::Writer::put_components-loop-place-preserved t c =
    let rule = rule_of c.args.self.rule in
    let fields = c.args.fields.now in
    let slots = c.args.slots.now in
    let old = c.args.out.now.items in
    let mid = c.loop-place.out.items in
    let i = c.loop-place.place in
    let next : suc i ≡ i + 1 = omega arith in
    let there : i < length fields = omega (arith, c.min-count.ensures) in
    let here : i < length slots = omega (arith, c.min-count.ensures) in
    let v = c.in-Some.value in
    let f = c.index-fields-place.result in
    let at = c.index-fields-place.is in
    let type = ty_view (get_or fields i f).ty in
    let slot = c.index-slots-place.result in
    let stands = stands_at slots i slot (Some v) c.index-slots-place.is c.in-Some.is in
    let is = present_at fields slots i f v here at stands c.requires.conform c.requires.nodes in
    let one = subst (λ (g : Field). Appends (IsEncoding rule (ty_view g.ty) (value_view v)) mid c.put_value.new.out.items) (sym at) c.in_ok-put_value.ensures.appended in
    subst (λ n. Appends (BeginsComponents rule fields slots n) old c.put_value.new.out.items) next (present_joined rule fields slots i f v old mid c.put_value.new.out.items there here at stands is c.loop-place.invariant one)

pub writer::Writer::put_components-returns-in_err-put_value : goal.writer::Writer::put_components-returns-in_err-put_value
writer::Writer::put_components-returns-in_err-put_value t c =
    let so_far = c.loop-place.invariant in
    refused _ c.from_residual.ensures.1 (keeps_chain c.args.out.now.items c.loop-place.out.items c.put_value.new.out.items (so_far.0, so_far.1, tt) c.in_err-put_value.ensures.kept)

pub writer::Writer::put_in_order-returns-then-items-lt2 : goal.writer::Writer::put_in_order-returns-then-items-lt2
writer::Writer::put_in_order-returns-then-items-lt2 t c =
    let items = c.args.items.now in
    let few : length (map value_view items) < 2 = omega (arith, c.if-items-lt2.true, length-map items value_view) in
    written_by c.put_items.ensures (λ octets. few_in_order (IsEncoding (rule_of c.args.self.rule) (ty_view c.args.ty.now)) (map value_view items) octets few)

pub writer::Writer::put_in_order-put_span-requires : goal.writer::Writer::put_in_order-put_span-requires
writer::Writer::put_in_order-put_span-requires t c =
    (search (rules, node.the_lemmas), item_writable (ty_view c.args.ty.now) c.args.items.now c.loop-item.item-index c.item-item.result (omega arith) c.item-item.is c.requires)

pub writer::Writer::put_in_order-loop-item-preserved : goal.writer::Writer::put_in_order-loop-item-preserved
writer::Writer::put_in_order-loop-item-preserved t c =
    let items = c.args.items.now in
    let i = c.loop-item.item-index in
    let IsItem = IsEncoding (rule_of c.args.self.rule) (ty_view c.args.ty.now) in
    let old = c.args.out.now.items in
    let new = c.put_span.new.out.items in
    let span = c.in_ok-span.span in
    let one : c.with_key_of.result ≡ with_key new span = c.with_key_of.ensures ∙ ap (λ (b : List ℕ). with_key b span) c.deref.ensures.value in
    let laid = laid_more IsItem items i c.item-item.result c.loop-item.parts.items (with_key new span) old c.loop-item.out.items new (omega arith) c.item-item.is c.loop-item.invariant c.in_ok-span.ensures.put refl in
    subst (λ (ps : List (Keyed ℕ)). AreLaid IsItem (map value_view (take (i + 1) items)) ps old new) (sym (c.in_ok-push.ensures.items ∙ ap (λ p. c.loop-item.parts.items ++ p ∷ []) one)) laid

pub writer::Writer::put_in_order-arrange-requires : goal.writer::Writer::put_in_order-arrange-requires
writer::Writer::put_in_order-arrange-requires t c =
    let parts = c.loop-item.parts.items in
    let old = c.args.out.now.items in
    let new = c.loop-item.out.items in
    record { cut = laid_cut _ _ parts old new c.loop-item.invariant c.len-from.result (omega (arith, c.len-from.ensures)); keys = laid_keys _ _ parts old new c.loop-item.invariant }

pub writer::Writer::put_in_order-returns : goal.writer::Writer::put_in_order-returns
writer::Writer::put_in_order-returns t c =
    let items = c.args.items.now in
    let IsItem = IsEncoding (rule_of c.args.self.rule) (ty_view c.args.ty.now) in
    let old = c.args.out.now.items in
    let mid = c.loop-item.out.items in
    let new = c.arrange.new.out.items in
    let parts = c.loop-item.parts.items in
    let from = c.len-from.result in
    let at : from ≡ length old = omega (arith, c.len-from.ensures) in
    let all : take c.loop-item.item-index items ≡ items = take_all c.loop-item.item-index items (omega arith) in
    let laid : AreLaid IsItem (map value_view items) parts old mid = subst (λ (vs : List Value). AreLaid IsItem (map value_view vs) parts old mid) all c.loop-item.invariant in
    record {
      appended = OnOk-map c.arrange.result _ _ (λ made. order_made IsItem (map value_view items) parts old mid laid new from at made) c.arrange.ensures.arranged;
      kept = kept c.arrange.result (Keeps (take from mid) new) (Keeps old new) (keeps_taken old _ mid new from at c.loop-item.invariant.is) c.arrange.ensures.kept;
    }

pub writer::Writer::put_in_order-returns-in_err-span : goal.writer::Writer::put_in_order-returns-in_err-span
writer::Writer::put_in_order-returns-in_err-span t c =
    refused _ c.from_residual-in_err-span.ensures.1 (keeps_chain c.args.out.now.items c.loop-item.out.items c.put_span.new.out.items (_, c.loop-item.invariant.is, tt) c.in_err-span.ensures.kept)

pub writer::Writer::put_in_order-returns-in_err-push : goal.writer::Writer::put_in_order-returns-in_err-push
writer::Writer::put_in_order-returns-in_err-push t c =
    let put = c.in_ok-span.ensures.put in
    refused _ c.from_residual-in_err-push.ensures.1 (keeps_more c.args.out.now.items c.loop-item.out.items c.put_span.new.out.items put.octets (_, c.loop-item.invariant.is, tt) put.is)

pub writer::Writer::put_by_tag-loop-index-init : goal.writer::Writer::put_by_tag-loop-index-init
writer::Writer::put_by_tag-loop-index-init t c =
    let rule = rule_of c.args.self.rule in
    let old = c.args.out.now.items in
    subst (λ (ts : List (Keyed Tag)). LaidTo rule c.args.fields.now c.args.slots.now 0 ts old old) (sym (c.in_ok-reserve.ensures.items ∙ c.new-parts.ensures.items)) (none_laid_by_tag rule c.args.fields.now c.args.slots.now old)

pub writer::Writer::put_by_tag-put_span-requires : goal.writer::Writer::put_by_tag-put_span-requires
writer::Writer::put_by_tag-put_span-requires t c =
    let place = c.loop-index.index in
    let bound : place < length c.args.fields.now = omega (arith, c.min-count.ensures) in
    let at = c.index-fields-index.is in (
      search (rules, node.the_lemmas, field.the_lemmas, bound, at),
      part_writable c.args.fields.now c.args.slots.now place c.index-fields-index.result c.index-slots-index.result c.in-Some.value (omega (arith, c.min-count.ensures)) at c.index-slots-index.is c.in-Some.is c.requires.slots,
    )

pub writer::Writer::put_by_tag-order_tag-tag-requires : goal.writer::Writer::put_by_tag-order_tag-tag-requires
writer::Writer::put_by_tag-order_tag-tag-requires t c =
    let here = part_writable c.args.fields.now c.args.slots.now c.loop-index.index c.index-fields-index.result c.index-slots-index.result c.in-Some.value (omega (arith, c.min-count.ensures)) c.index-fields-index.is c.index-slots-index.is c.in-Some.is c.requires.slots in
    here.nodes

pub writer::Writer::put_by_tag-loop-index-preserved-in_default : goal.writer::Writer::put_by_tag-loop-index-preserved-in_default
writer::Writer::put_by_tag-loop-index-preserved-in_default t c =
    let rule = rule_of c.args.self.rule in
    let fields = c.args.fields.now in
    let slots = c.args.slots.now in
    let old = c.args.out.now.items in
    let new = c.loop-index.out.items in
    let i = c.loop-index.index in
    let next : suc i ≡ i + 1 = omega arith in
    let slot = c.index-slots-index.result in
    let stands = stands_at slots i slot None c.index-slots-index.is (no_slot_there slot c.in_default.not-Some) in
    subst (λ n. LaidTo rule fields slots n c.loop-index.parts.items old new) next
    (absent_laid rule fields slots i c.loop-index.parts.items old new (omega (arith, c.min-count.ensures)) (omega (arith, c.min-count.ensures)) stands (rule_is_canonical c.args.self.rule) c.requires.slots.conform (distinct_drop fields i c.requires.distinct) c.loop-index.invariant)

pub writer::Writer::put_by_tag-loop-index-preserved : goal.writer::Writer::put_by_tag-loop-index-preserved
writer::Writer::put_by_tag-loop-index-preserved t c =
    let rule = rule_of c.args.self.rule in
    let fields = c.args.fields.now in
    let slots = c.args.slots.now in
    let old = c.args.out.now.items in
    let mid = c.loop-index.out.items in
    let new = c.put_span.new.out.items in
    let i = c.loop-index.index in
    let next : suc i ≡ i + 1 = omega arith in
    let there : i < length fields = omega (arith, c.min-count.ensures) in
    let here : i < length slots = omega (arith, c.min-count.ensures) in
    let v = c.in-Some.value in
    let f = c.index-fields-index.result in
    let at = c.index-fields-index.is in
    let stands = stands_at slots i c.index-slots-index.result (Some v) c.index-slots-index.is c.in-Some.is in
    let is = present_at fields slots i f v here at stands c.requires.slots.conform c.requires.slots.nodes in
    let span = c.in_ok-span.span in
    let put : IsPut (IsEncoding rule (ty_view f.ty) (value_view v)) mid new span = subst (λ (g : Field). IsPut (IsEncoding rule (ty_view g.ty) (value_view v)) mid new span) (sym at) c.in_ok-span.ensures.put in
    let stood : c.part.result.now ≡ put.octets = c.part.ensures ∙ ap (λ (b : List ℕ). part_of b span) c.deref.ensures.value ∙ part_put (IsEncoding rule (ty_view f.ty) (value_view v)) mid new span put in
    let encodes = subst (λ (g : Field). IsEncoding rule (ty_view g.ty) (value_view v) c.part.result.now) at (subst (IsEncoding rule (ty_view f.ty) (value_view v)) (sym stood) put.holds) in
    let tag = c.order_tag-tag.result in
    let ordered = subst (λ (g : Field). IsOrderTag rule (ty_view g.ty) c.part.result.now tag) (sym at) (c.order_tag-tag.ensures (value_view v) encodes) in
    let order : IsOrderTag rule (ty_view f.ty) put.octets tag = subst (λ (b : List ℕ). IsOrderTag rule (ty_view f.ty) b tag) stood ordered in
    let t : Keyed Tag = record { key = tag; span = span } in
    let laid = present_laid rule fields slots i f v c.loop-index.parts.items t old mid new there here at stands (rule_is_canonical c.args.self.rule) is (distinct_drop fields i c.requires.distinct) c.loop-index.invariant put order in
    subst₂ (λ n (ts : List (Keyed Tag)). LaidTo rule fields slots n ts old new) next (sym c.in_ok-push.ensures.items) laid

pub writer::Writer::put_by_tag-arrange_by_tag-requires : goal.writer::Writer::put_by_tag-arrange_by_tag-requires
writer::Writer::put_by_tag-arrange_by_tag-requires t c =
    tagged_cut (rule_of c.args.self.rule) c.args.fields.now c.args.slots.now c.loop-index.parts.items c.args.out.now.items c.loop-index.out.items c.loop-index.index c.len-from.result (omega (arith, c.len-from.ensures)) c.loop-index.invariant

pub writer::Writer::put_by_tag-returns : goal.writer::Writer::put_by_tag-returns
writer::Writer::put_by_tag-returns t c =
    let rule = rule_of c.args.self.rule in
    let fields = c.args.fields.now in
    let slots = c.args.slots.now in
    let old = c.args.out.now.items in
    let mid = c.loop-index.out.items in
    let new = c.arrange_by_tag.new.out.items in
    let parts = c.loop-index.parts.items in
    let from = c.len-from.result in
    let at : from ≡ length old = omega (arith, c.len-from.ensures) in
    let many = as_many_slots fields slots c.requires.slots.conform in
    let all = all_laid rule fields slots c.loop-index.index parts old mid (omega (arith, c.min-count.ensures, many)) many c.loop-index.invariant in
    record {
      appended = OnOk-map c.arrange_by_tag.result _ _ (λ made. by_tag_made rule fields slots parts old mid c.loop-index.index from at c.loop-index.invariant new all made) c.arrange_by_tag.ensures.arranged;
      kept = kept c.arrange_by_tag.result (Keeps (take from mid) new) (Keeps old new) (keeps_taken old _ mid new from at c.loop-index.invariant.is) c.arrange_by_tag.ensures.kept;
    }

pub writer::Writer::put_by_tag-returns-in_err-span : goal.writer::Writer::put_by_tag-returns-in_err-span
writer::Writer::put_by_tag-returns-in_err-span t c =
    refused _ c.from_residual-in_err-span.ensures.1 (keeps_chain c.args.out.now.items c.loop-index.out.items c.put_span.new.out.items (_, c.loop-index.invariant.is, tt) c.in_err-span.ensures.kept)

pub writer::Writer::put_by_tag-returns-in_err-push : goal.writer::Writer::put_by_tag-returns-in_err-push
writer::Writer::put_by_tag-returns-in_err-push t c =
    let put = c.in_ok-span.ensures.put in
    refused _ c.from_residual-in_err-push.ensures.1 (keeps_more c.args.out.now.items c.loop-index.out.items c.put_span.new.out.items put.octets (_, c.loop-index.invariant.is, tt) put.is)

pub writer::Writer::put_span-returns-clause-put : goal.writer::Writer::put_span-returns-clause-put
writer::Writer::put_span-returns-clause-put t c =
    let put = c.in_ok-put_value.ensures.appended in
    record { octets = put.0; is = put.1; holds = put.2; start = search rules; end = search rules }

pub writer::Writer::put_constructed-returns-in-Explicit : goal.writer::Writer::put_constructed-returns-in-Explicit
writer::Writer::put_constructed-returns-in-Explicit t c =
    let rule = rule_of c.args.self.rule in
    let tag = c.in-Explicit.tag in
    let inner = c.in-Explicit.inner in
    let is : ty_view c.args.ty.now ≡ Shape.explicit tag (ty_view inner.value) = ap ty_view c.in-Explicit.is ∙ ty-Explicit tag inner in
    written_as_explicit rule tag c.deref-in-Explicit.ensures is c.put_explicit.ensures

pub writer::Writer::put_node-returns-in-Explicit : goal.writer::Writer::put_node-returns-in-Explicit
writer::Writer::put_node-returns-in-Explicit t c =
    let rule = rule_of c.args.self.rule in
    let tag = c.in-Explicit.tag in
    let inner = c.in-Explicit.inner in
    let is : ty_view c.args.ty.now ≡ Shape.explicit tag (ty_view inner.value) = ap ty_view c.in-Explicit.is ∙ ty-Explicit tag inner in
    written_as_explicit rule tag c.deref.ensures is c.put_explicit.ensures

pub writer::Writer::put_explicit-returns-then-moves_often : goal.writer::Writer::put_explicit-returns-then-moves_often
writer::Writer::put_explicit-returns-then-moves_often t c =
    let shape = Shape.explicit c.args.tag (ty_view c.args.ty.now) in
    subst (λ (r : Rule). Writes (IsEncoding r shape (value_view c.args.value.now)) c.put_from_inside.result c.args.out.now.items c.put_from_inside.new.out.items) (sym (c.moves_often.ensures c.if-moves_often.true)) c.put_from_inside.ensures

pub writer::Writer::put_tagged-returns : goal.writer::Writer::put_tagged-returns
writer::Writer::put_tagged-returns t c =
    let rule = rule_of c.args.self.rule in
    let type = ty_view c.args.ty.now in
    let v = value_view c.args.value.now in
    let tag = c.args.tag in
    written_around c.put_closing.result rule tag (IsEncoding rule type v) (IsEncoding rule (Shape.explicit tag type) v) c.in_ok-place.place c.args.out.now.items c.put_opening.new.out.items c.put_inside.new.out.items c.put_closing.new.out.items c.in_ok-place.ensures.opened
    c.in_ok-put_inside.ensures.appended (explicit_alike rule tag type v).to c.put_closing.ensures.closed c.put_closing.ensures.kept

pub writer::Writer::put_tagged-returns-in_err-put_inside : goal.writer::Writer::put_tagged-returns-in_err-put_inside
writer::Writer::put_tagged-returns-in_err-put_inside t c =
    let old = c.args.out.now.items in
    let one = c.put_opening.new.out.items in
    refused _ c.from_residual-in_err-put_inside.ensures.1
    (keeps_chain old one c.put_inside.new.out.items (opened_kept c.args.tag true old one c.in_ok-place.place c.in_ok-place.ensures.opened) c.in_err-put_inside.ensures.kept)

pub writer::Writer::put_under_tags-put_value-requires-2 : goal.writer::Writer::put_under_tags-put_value-requires-2
writer::Writer::put_under_tags-put_value-requires-2 t c =
    let opened = c.in_ok-inner.ensures.opened in
    let behind = c.in_ok-inner.ensures.behind in
    (omega (arith, c.decreases, behind_smaller behind.0 c.args.ty.now c.in_ok-inner.inner.now behind.1), opened_writable opened.0 (ty_view c.args.ty.now) (ty_view c.in_ok-inner.inner.now) (value_view c.args.value.now) c.args.out.now.items c.open_tags.new.out.items opened.1 c.requires)

pub writer::Writer::put_under_tags-returns-in_err-put_value : goal.writer::Writer::put_under_tags-returns-in_err-put_value
writer::Writer::put_under_tags-returns-in_err-put_value t c =
    let opened = c.in_ok-inner.ensures.opened in
    let old = c.args.out.now.items in
    let mid = c.open_tags.new.out.items in
    refused _ c.from_residual-in_err-put_value.ensures.1 (keeps_chain old mid c.put_value-2.new.out.items (opened_keeps opened.0 (ty_view c.args.ty.now) (ty_view c.in_ok-inner.inner.now) old mid opened.1) c.in_err-put_value.ensures.kept)

pub writer::Writer::put_under_tags-returns-then-end-start : goal.writer::Writer::put_under_tags-returns-then-end-start
writer::Writer::put_under_tags-returns-then-end-start t c =
    let opened = c.in_ok-inner.ensures.opened in
    let old = c.args.out.now.items in
    let mid = c.open_tags.new.out.items in
    let same : mid ≡ old = none_opened opened.0 (ty_view c.args.ty.now) (ty_view c.in_ok-inner.inner.now) old mid opened.1 (omega (arith, c.if-end-start.true, c.len-start.ensures, c.len-end.ensures)) in
    subst (λ (b : List ℕ). Writes (IsEncoding (rule_of c.args.self.rule) (ty_view c.args.ty.now) (value_view c.args.value.now)) c.put_value.result b c.put_value.new.out.items) same c.put_value.ensures

pub writer::Writer::put_under_tags-close_tags-requires : goal.writer::Writer::put_under_tags-close_tags-requires
writer::Writer::put_under_tags-close_tags-requires t c =
    let opened = c.in_ok-inner.ensures.opened in (
      ty_view c.args.ty.now,
      value_view c.args.value.now,
      c.args.out.now.items,
      value_inside (rule_of c.args.self.rule) (ty_view c.args.ty.now) (value_view c.args.value.now) c.len-start.result c.len-end.result c.args.out.now.items opened.0 (ty_view c.in_ok-inner.inner.now) c.open_tags.new.out.items c.put_value-2.new.out.items opened.1 (omega (arith, c.len-start.ensures)) (omega (arith, c.len-end.ensures)) c.in_ok-put_value.ensures.appended,
    )

pub writer::Writer::put_under_tags-returns : goal.writer::Writer::put_under_tags-returns
writer::Writer::put_under_tags-returns t c =
    let opened = c.in_ok-inner.ensures.opened in
    c.close_tags.ensures (ty_view c.args.ty.now) (value_view c.args.value.now) c.args.out.now.items
    (value_inside (rule_of c.args.self.rule) (ty_view c.args.ty.now) (value_view c.args.value.now) c.len-start.result c.len-end.result c.args.out.now.items opened.0 (ty_view c.in_ok-inner.inner.now) c.open_tags.new.out.items c.put_value-2.new.out.items opened.1 (omega (arith, c.len-start.ensures)) (omega (arith, c.len-end.ensures)) c.in_ok-put_value.ensures.appended)

pub explicit::put_turned-returns-in_ok-put_value-in_default : goal.explicit::put_turned-returns-in_ok-put_value-in_default
explicit::put_turned-returns-in_ok-put_value-in_default t c =
    record { put = none_turned _ c.args.out.now.items c.put_value.new.out.items c.len.result c.in_ok-put_value-in_default.ensures.appended (omega (arith, c.len.ensures, c.put_value.new.out.ok)); kept = tt }

pub explicit::put_turned_around-returns-clause-put : goal.explicit::put_turned_around-returns-clause-put
explicit::put_turned_around-returns-clause-put t c =
    turned_more c.args.tag (ty_view c.args.ty.now) (value_view c.args.value.now) (c.len.result - c.len-start.result) c.in_ok-from.from c.args.out.now.items c.put_turned.new.out.items c.put_turned_head.new.out.items c.in_ok-from.ensures.put c.in_ok-put_turned_head.ensures.appended
    (omega (arith, c.len.ensures, c.len-start.ensures, c.put_turned.new.out.ok, c.args.out.now.ok))
