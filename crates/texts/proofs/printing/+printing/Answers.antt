use Rattle.std.proofs.Common.{◌≡◌, ◌∙◌, ◌++◌, ◌+◌, ◌<◌, ◌≤◌, suc, List, ◌∷◌, Bool, Option, Some, None, String, Global, cond, codes, get_or, length, string_bytes, sym, ap, ap₂, arith, subst, subst₂, append-nil}
use Rattle.types.specs.declared.value.Value.{Value}
use Rattle.types.specs.View.{ty_view, value_view, components_view, slots_view}
use Rattle.types.proofs.ViewLemmas.{ty-Sequence, ty-Set, ty-SequenceOf, ty-SetOf, ty-Choice, value-Fields, value-Items, value-Chosen}
use Rattle.types.specs.declared.ty.Alternative.{Alternative}
use Rattle.std.proofs.lemmas.Bool.{ltb-true, ltb-false}
use Rattle.texts.specs.Text.{led, text_of, component_texts}
use Rattle.texts.proofs.TextLemmas.{Added, text_along, chosen_added, no_alternative_past, texts_from, present_at, absent_at, none_past, one_more, braced, items_added, slots_added}
use Rattle.texts.proofs.printing.+printing.Goals as goal
use Rattle.texts.proofs.printing.+printing.Goals.{put_components-in-Some+in_ok-put_lead-in-Some+in_ok-put_component-in-Some, put_components-in-None}

pub put_value-returns-in_default-get : goal.put_value-returns-in_default-get
put_value-returns-in_default-get t c =
    let alternatives = c.in-Choice-Chosen.alternatives in
    let which = c.in-Choice-Chosen.which in
    let inner = c.in-Choice-Chosen.inner in
    let old = string_bytes c.args.out.now in
    let here = ltb-false which (length c.deref-in-Choice-Chosen.result.now) (sym c.in_default-get.ensures.lookup.0) in
    let past : length alternatives.items ≤ which = subst (λ (xs : List Alternative). length xs ≤ which) c.deref-in-Choice-Chosen.ensures.value here in
    let none = no_alternative_past alternatives.items which (value_view inner.value) past in
    let text = ap₂ text_of (ap ty_view c.in-Choice-Chosen.is-0 ∙ ty-Choice alternatives) (ap value_view c.in-Choice-Chosen.is-1 ∙ value-Chosen which inner) ∙ none in
    sym (append-nil old) ∙ ap (λ x. old ++ x) (sym text)

pub put_value-returns-in-Sequence-Fields : goal.put_value-returns-in-Sequence-Fields
put_value-returns-in-Sequence-Fields t c =
    let arm = c.in-Sequence-Fields in
    text_along c.put_components.result (string_bytes c.args.out.now) (string_bytes c.put_components.new.out) _ _ _ _ (ap ty_view arm.is-0 ∙ ty-Sequence arm.field-0-0 arm.fields) (ap value_view arm.is-1 ∙ value-Fields arm.slots)
    (slots_added c.put_components.result (string_bytes c.args.out.now) (string_bytes c.put_components.new.out) _ _ _ _ c.deref-in-Sequence-Fields.ensures.value c.deref-in-Sequence-Fields-2.ensures.value c.put_components.ensures)

pub put_value-returns-in-Set-Fields : goal.put_value-returns-in-Set-Fields
put_value-returns-in-Set-Fields t c =
    let arm = c.in-Set-Fields in
    text_along c.put_components-in-Set-Fields.result (string_bytes c.args.out.now) (string_bytes c.put_components-in-Set-Fields.new.out) _ _ _ _ (ap ty_view arm.is-0 ∙ ty-Set arm.field-0-0 arm.fields) (ap value_view arm.is-1 ∙ value-Fields arm.slots)
    (slots_added c.put_components-in-Set-Fields.result (string_bytes c.args.out.now) (string_bytes c.put_components-in-Set-Fields.new.out) _ _ _ _ c.deref-in-Set-Fields.ensures.value c.deref-in-Set-Fields-2.ensures.value c.put_components-in-Set-Fields.ensures)

pub put_value-returns-in-SequenceOf-Items : goal.put_value-returns-in-SequenceOf-Items
put_value-returns-in-SequenceOf-Items t c =
    let arm = c.in-SequenceOf-Items in
    text_along c.put_items.result (string_bytes c.args.out.now) (string_bytes c.put_items.new.out) _ _ _ _ (ap ty_view arm.is-0 ∙ ty-SequenceOf arm.field-0-0 arm.inner) (ap value_view arm.is-1 ∙ value-Items arm.items)
    (items_added c.put_items.result (string_bytes c.args.out.now) (string_bytes c.put_items.new.out) _ _ _ _ c.deref-in-SequenceOf-Items.ensures c.deref-in-SequenceOf-Items-2.ensures.value c.put_items.ensures)

pub put_value-returns-in-SetOf-Items : goal.put_value-returns-in-SetOf-Items
put_value-returns-in-SetOf-Items t c =
    let arm = c.in-SetOf-Items in
    text_along c.put_items-in-SetOf-Items.result (string_bytes c.args.out.now) (string_bytes c.put_items-in-SetOf-Items.new.out) _ _ _ _ (ap ty_view arm.is-0 ∙ ty-SetOf arm.field-0-0 arm.inner) (ap value_view arm.is-1 ∙ value-Items arm.items)
    (items_added c.put_items-in-SetOf-Items.result (string_bytes c.args.out.now) (string_bytes c.put_items-in-SetOf-Items.new.out) _ _ _ _ c.deref-in-SetOf-Items.ensures c.deref-in-SetOf-Items-2.ensures.value c.put_items-in-SetOf-Items.ensures)

pub put_value-returns-in_ok-push_str-in-Choice-Chosen-2 : goal.put_value-returns-in_ok-push_str-in-Choice-Chosen-2
put_value-returns-in_ok-push_str-in-Choice-Chosen-2 t c =
    let alternatives = c.in-Choice-Chosen.alternatives in
    let which = c.in-Choice-Chosen.which in
    let inner = c.in-Choice-Chosen.inner in
    let a = c.in-Some.alternative.now in
    let found = c.in-Some.ensures.lookup in
    let listed = c.deref-in-Choice-Chosen.ensures.value in
    let below : which < length alternatives.items = subst (λ (xs : List Alternative). which < length xs) listed (ltb-true which (length c.deref-in-Choice-Chosen.result.now) (sym found.0)) in
    let at : a ≡ get_or alternatives.items which a = found.1 ∙ ap (λ (xs : List Alternative). get_or xs which a) listed in
    text_along c.put_value.result (string_bytes c.args.out.now) (string_bytes c.put_value.new.out) _ _ _ _ (ap ty_view c.in-Choice-Chosen.is-0 ∙ ty-Choice alternatives) (ap value_view c.in-Choice-Chosen.is-1 ∙ value-Chosen which inner)
    (chosen_added c.put_value.result (string_bytes c.args.out.now) (string_bytes c.push_str-in-Choice-Chosen.new.self) (string_bytes c.push_str-in-Choice-Chosen-2.new.self) (string_bytes c.put_value.new.out) alternatives.items which a (value_view inner.value) below at
    (c.in_ok-push_str-in-Choice-Chosen.ensures.bytes ∙ ap (λ n. string_bytes c.args.out.now ++ n) c.as_str.ensures) c.in_ok-push_str-in-Choice-Chosen-2.ensures.bytes
    (subst (λ (w : Value). Added c.put_value.result (string_bytes c.push_str-in-Choice-Chosen-2.new.self) (text_of (ty_view a.ty) (value_view w)) (string_bytes c.put_value.new.out)) c.deref-in-Choice-Chosen-2.ensures c.put_value.ensures))

pub put_components-loop-place-preserved : goal.put_components-loop-place-preserved
put_components-loop-place-preserved t c =
    let fields = c.args.fields.now in
    let slots = c.args.slots.now in
    let i = c.loop-place.place in
    let now = string_bytes c.loop-place.out in
    let lead = cond c.loop-place.is_first (codes " ") (codes ", ") in
    let whole = string_bytes c.push_str.new.self ++ led (codes " ") (component_texts (components_view fields) (slots_view slots)) in
    let next : suc i ≡ i + 1 = omega arith in
    let there : i < length fields = omega (arith, c.min-count.ensures) in
    let here : i < length slots = omega (arith, c.min-count.ensures) in
    elim c.match-slots-place.branch [
      | put_components-in-Some+in_ok-put_lead-in-Some+in_ok-put_component-in-Some w ↦
          let v = w.in-Some.value in
          let f = w.index-fields-place.result in
          let stands : Some v ≡ get_or slots i (Some v) = sym w.in-Some.is ∙ c.index-slots-place.is ∙ ap (λ (d : Option Value). get_or slots i d) w.in-Some.is in
          let one = ap (λ k. (f.name ++ codes " " ++ text_of (ty_view f.ty) (value_view v)) ∷ texts_from fields slots k) next in
          let new = string_bytes w.put_component.new.out in
          subst₂ (λ (o : String Global) (b : Bool). string_bytes o ++ led (cond b (codes " ") (codes ", ")) (texts_from fields slots (i + 1)) ≡ whole) (sym w.out-is) (sym w.is_first-is)
          (one_more c.loop-place.is_first whole now (string_bytes w.put_lead.new.out) new f.name (text_of (ty_view f.ty) (value_view v)) (texts_from fields slots i) (texts_from fields slots (i + 1)) c.loop-place.invariant
          (present_at fields slots i f v there here w.index-fields-place.is stands ∙ one) w.in_ok-put_lead-in-Some.ensures w.in_ok-put_component-in-Some.ensures)
      | put_components-in-None w ↦
          let stands : None ≡ get_or slots i None = sym w.in-None.is ∙ c.index-slots-place.is ∙ ap (λ (d : Option Value). get_or slots i d) w.in-None.is in
          subst₂ (λ (o : String Global) (b : Bool). string_bytes o ++ led (cond b (codes " ") (codes ", ")) (texts_from fields slots (i + 1)) ≡ whole) (sym w.out-is) (sym w.is_first-is)
          (ap (λ ts. now ++ led lead ts) (sym (absent_at fields slots i there here stands ∙ ap (λ k. texts_from fields slots k) next)) ∙ c.loop-place.invariant)
    ]

pub put_components-returns : goal.put_components-returns
put_components-returns t c =
    let fields = c.args.fields.now in
    let slots = c.args.slots.now in
    let none = none_past fields slots c.loop-place.place (omega (arith, c.min-count.ensures)) in
    let mid = string_bytes c.loop-place.out in
    let lead = cond c.loop-place.is_first (codes " ") (codes ", ") in
    braced (string_bytes c.args.out.now) (string_bytes c.push_str.new.self) mid (string_bytes c.push_str-2.new.self) (component_texts (components_view fields) (slots_view slots)) c.in_ok-push_str.ensures.bytes
    (subst (λ ts. mid ++ led lead ts ≡ string_bytes c.push_str.new.self ++ led (codes " ") (component_texts (components_view fields) (slots_view slots))) none c.loop-place.invariant) c.in_ok-push_str-2.ensures.bytes
