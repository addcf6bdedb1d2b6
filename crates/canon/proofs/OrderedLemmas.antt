-- Lemmas on how values are put in order, part by part.
use Rattle.std.specs.List.{AllByRecursion, AllZip}
use Rattle.std.proofs.Common.{◌≡◌, ◌⊎◌, inl, inr, ◌+◌, ◌-◌, ◌<◌, ◌≤◌, ℕ, zero, suc, List, [], ◌∷◌, ◌++◌, Option, Some, None, Vec, Global, length, take, drop, get_or, map, refl, sym, ap, ◌∙◌, subst, arith, append_assoc, append-nil, length-append, All, IsPermutation}
use Rattle.std.proofs.lemmas.List.{take_more, map-append}
use Rattle.std.proofs.lemmas.List.Elements.{All-map, All-from_recursion}
use Rattle.std.proofs.lemmas.List.Sorted.{IsPermutation-refl}
use Rattle.std.proofs.lemmas.Simd.{map-map}
use Rattle.octets.specs.Rule.{der}
use Rattle.octets.specs.declared.tag.Tag.{Tag}
use Rattle.types.specs.declared.ty.Alternative.{Alternative}
use Rattle.types.specs.declared.ty.Field.{Field}
use Rattle.types.specs.declared.ty.Ty.{Ty}
use Rattle.types.specs.declared.ty.Ty as node
use Rattle.types.specs.declared.value.Value.{Value}
use Rattle.types.specs.Shape.{Val, Slots, Items, absent, present, listed, Shape, Components, component, Alternatives}
use Rattle.types.specs.View.{ty_view, value_view, field_view, alternative_view, alternatives_view, components_view, slots_view, AlternativeView}
use Rattle.types.specs.WellFormed.{IsWellFormed, nodes_of, nodes_of_components, nodes_of_alternatives, HasGoodDefaults}
use Rattle.types.specs.Order.{Ascends}
use Rattle.types.specs.Encoding.{IsEncoding}
use Rattle.types.specs.Same.{IsSame, IsSameAlternative}
use Rattle.types.proofs.BeginningLemmas.{all_zip}
use Rattle.types.proofs.ListLemmas.{all_append}
use Rattle.types.proofs.ViewLemmas.{alternative_is}
use Rattle.types.proofs.ZipLemmas.{zip_length, zip_map, zip_permutes}
use Rattle.canon.specs.declared.ordering.Placed.{Placed}
use Rattle.canon.specs.declared.spans.Keyed.{Keyed}
use Rattle.canon.specs.Keyed.{HasKey}
use Rattle.canon.specs.Leaf.{IsLeafOf}
use Rattle.canon.specs.Ordered.{IsOrdered, IsOrderedAlternative, IsOrderedFrom, AreOrderedFrom, AreItemsOrderedFrom, IsSound}
use Rattle.canon.specs.Part.{IsPut}
use Rattle.canon.specs.Span.{part_of, key_of}
use Rattle.canon.proofs.AcceptedLemmas.{good_nodes}
use Rattle.canon.proofs.NodeLemmas.{IsRecordOf}
use Rattle.canon.proofs.PartLemmas.{part_put}
use Rattle.canon.proofs.StepLemmas.{drop_all, element, components_from, slots_from_present, slots_from_absent, type_of_field}
use Rattle.canon.proofs.TyLemmas.{record_view}

pub sound : (shape : Shape) → IsWellFormed shape → IsSound shape
sound shape well = record { nodes = good_nodes shape well; defaults = well.defaults }

-- by the kind of type
pub slotted_view : (ty : Ty) (fields : Vec Field Global) → ((tag : Tag) × (ty ≡ node.Sequence tag fields)) ⊎ ((tag : Tag) × (ty ≡ node.Set tag fields)) → (tag : Tag) × IsRecordOf tag (components_view fields.items) (ty_view ty)
slotted_view ty fields (inl h) = (h.0, record_view ty h.0 fields (inl h.1))
slotted_view ty fields (inr h) = (h.0, record_view ty h.0 fields (inr h.1))

pub leaf_ordered : (tag : Tag) (shape : Shape) (v w : Val) → IsLeafOf tag shape → w ≡ v → IsOrderedFrom shape v w
leaf_ordered tag shape v w (inl h) is = subst (λ s. IsOrderedFrom s v w) (sym h.1) record { same = sym is; ordered = tt }
leaf_ordered tag shape v w (inr h) is = subst (λ s. IsOrderedFrom s v w) (sym h.1) record { same = sym is; ordered = tt }

pub record_ordered : (tag : Tag) (components : Components) (shape : Shape) (vs ws : Slots) → IsRecordOf tag components shape → AreOrderedFrom components vs ws → IsOrderedFrom shape (Val.fields vs) (Val.fields ws)
record_ordered tag components shape vs ws (inl is) h = subst (λ s. IsOrderedFrom s (Val.fields vs) (Val.fields ws)) (sym is) record { same = h.same; ordered = h.ordered }
record_ordered tag components shape vs ws (inr is) h = subst (λ s. IsOrderedFrom s (Val.fields vs) (Val.fields ws)) (sym is) record { same = h.same; ordered = h.ordered }

pub list_ordered : (tag : Tag) (type : Shape) (vs ws : Items) → AllZip (IsOrderedFrom type) (listed vs) (listed ws) → IsOrderedFrom (Shape.sequence_of tag type) (Val.items vs) (Val.items ws)
list_ordered tag type vs ws h = record {
  same = zip_map (IsOrderedFrom type) (IsSame type) (λ x y o. o.same) (listed vs) (listed ws) h;
  ordered = all_zip (IsOrderedFrom type) (IsOrdered type) (λ x y o. o.ordered) (listed vs) (listed ws) h;
}

pub set_list_ordered : (tag : Tag) (type : Shape) (vs ws : Items) → AreItemsOrderedFrom type (listed vs) (listed ws) → IsOrderedFrom (Shape.set_of tag type) (Val.items vs) (Val.items ws)
set_list_ordered tag type vs ws h = record { same = h.same; ordered = (h.each, h.order) }

pub explicit_ordered : (tag : Tag) (type : Shape) (v w : Val) → IsOrderedFrom type v w → IsOrderedFrom (Shape.explicit tag type) v w
explicit_ordered tag type v w h = record { same = h.same; ordered = h.ordered }

type_of_alternative : (a : Alternative) → (alternative_view a).type ≡ ty_view a.ty
type_of_alternative a = ap (λ (w : AlternativeView). w.type) (alternative_is a)

-- a chosen alternative
record IsOrderedChosen (alternatives : Alternatives) (which : ℕ) (v w : Val) : Type 0 where
  pub same : IsSameAlternative alternatives which v w
  pub ordered : IsOrderedAlternative alternatives which w

chosen_parts : (alternatives : List Alternative) (which : ℕ) (a : Alternative) (v w : Val) → which < length alternatives → a ≡ get_or alternatives which a → IsOrderedFrom (ty_view a.ty) v w → IsOrderedChosen (alternatives_view alternatives) which v w
chosen_parts [] which a v w there at h = absurd (omega arith)
chosen_parts (x ∷ others) zero a v w there at h =
    let here : IsOrderedFrom (alternative_view x).type v w = subst (λ s. IsOrderedFrom s v w) (ap (λ (y : Alternative). ty_view y.ty) at ∙ sym (type_of_alternative x)) h in
    record { same = here.same; ordered = here.ordered }
chosen_parts (x ∷ others) (suc which) a v w there at h =
    let rest = chosen_parts others which a v w (omega arith) at h in
    record { same = rest.same; ordered = rest.ordered }

pub chosen_ordered : (alternatives : List Alternative) (which : ℕ) (a : Alternative) (v w : Val) → which < length alternatives → a ≡ get_or alternatives which a → IsOrderedFrom (ty_view a.ty) v w
    → IsOrderedFrom (Shape.choice (alternatives_view alternatives)) (Val.chosen which v) (Val.chosen which w)
chosen_ordered alternatives which a v w there at h =
    let parts = chosen_parts alternatives which a v w there at h in
    record { same = (refl, parts.same); ordered = parts.ordered }

-- good defaults of the parts
pub alternative_defaults : (alternatives : List Alternative) (which : ℕ) (a : Alternative) → which < length alternatives → a ≡ get_or alternatives which a → AllByRecursion HasGoodDefaults (nodes_of_alternatives (alternatives_view alternatives))
    → AllByRecursion HasGoodDefaults (nodes_of (ty_view a.ty))
alternative_defaults [] which a there at h = absurd (omega arith)
alternative_defaults (x ∷ others) zero a there at h =
    subst (λ s. AllByRecursion HasGoodDefaults (nodes_of s)) (type_of_alternative x ∙ sym (ap (λ (y : Alternative). ty_view y.ty) at))
    (all_append HasGoodDefaults (nodes_of (alternative_view x).type) (nodes_of_alternatives (alternatives_view others)) h).0
alternative_defaults (x ∷ others) (suc which) a there at h =
    alternative_defaults others which a (omega arith) at (all_append HasGoodDefaults (nodes_of (alternative_view x).type) (nodes_of_alternatives (alternatives_view others)) h).1

pub field_defaults : (fields : List Field) (i : ℕ) (f : Field) → i < length fields → f ≡ get_or fields i f → AllByRecursion HasGoodDefaults (nodes_of_components (components_view fields)) → AllByRecursion HasGoodDefaults (nodes_of (ty_view f.ty))
field_defaults [] i f there at h = absurd (omega arith)
field_defaults (x ∷ others) zero f there at h =
    subst (λ s. AllByRecursion HasGoodDefaults (nodes_of s)) (type_of_field x ∙ sym (ap (λ (y : Field). ty_view y.ty) at))
    (all_append HasGoodDefaults (nodes_of (field_view x).type) (nodes_of_components (components_view others)) h).0
field_defaults (x ∷ others) (suc i) f there at h = field_defaults others i f (omega arith) at (all_append HasGoodDefaults (nodes_of (field_view x).type) (nodes_of_components (components_view others)) h).1

-- slots: those that are done, before any that are in order after them
module _ (fields : List Field) (slots : List (Option Value)) where
  abbrev pub OrderedUpTo : ℕ → List (Option Value) → Type 0
  OrderedUpTo i done = (rest : List (Option Value)) → AreOrderedFrom (components_view (drop i fields)) (slots_view (drop i slots)) (slots_view rest) → AreOrderedFrom (components_view fields) (slots_view slots) (slots_view (done ++ rest))

  pub no_slots_ordered : OrderedUpTo 0 []
  no_slots_ordered = λ rest h. h

  pub present_ordered : (i : ℕ) (f : Field) (v w : Value) (done : List (Option Value)) → i < length fields → i < length slots → f ≡ get_or fields i f → Some v ≡ get_or slots i (Some v) → IsOrderedFrom (ty_view f.ty) (value_view v) (value_view w)
      → OrderedUpTo i done → OrderedUpTo (i + 1) (done ++ Some w ∷ [])
  present_ordered i f v w done l k at stands h g = λ rest r.
      let next : i + 1 ≡ suc i = omega arith in
      let later : AreOrderedFrom (components_view (drop (suc i) fields)) (slots_view (drop (suc i) slots)) (slots_view rest) = subst (λ j. AreOrderedFrom (components_view (drop j fields)) (slots_view (drop j slots)) (slots_view rest)) next r in
      let here : IsOrderedFrom (field_view f).type (value_view v) (value_view w) = subst (λ s. IsOrderedFrom s (value_view v) (value_view w)) (sym (type_of_field f)) h in
      let whole : AreOrderedFrom (component (field_view f).name (field_view f).type (field_view f).requirement (components_view (drop (suc i) fields))) (present (value_view v) (slots_view (drop (suc i) slots))) (present (value_view w) (slots_view rest)) =
      record { same = (here.same, later.same); ordered = (here.ordered, later.ordered) } in
      let one = subst (λ (c : Components). AreOrderedFrom c (present (value_view v) (slots_view (drop (suc i) slots))) (slots_view (Some w ∷ rest))) (sym (components_from fields i f l at)) whole in
      let both = subst (λ (s : Slots). AreOrderedFrom (components_view (drop i fields)) s (slots_view (Some w ∷ rest))) (sym (slots_from_present slots i v k stands)) one in
      subst (λ (ss : List (Option Value)). AreOrderedFrom (components_view fields) (slots_view slots) (slots_view ss)) (sym (append_assoc done (Some w ∷ []) rest)) (g (Some w ∷ rest) both)

  pub absent_ordered : (i : ℕ) (done : List (Option Value)) → i < length fields → i < length slots → None ≡ get_or slots i None → OrderedUpTo i done → OrderedUpTo (i + 1) (done ++ None ∷ [])
  absent_ordered i done l k stands g = λ rest r.
      let e = element fields i l in
      let f = e.0 in
      let next : i + 1 ≡ suc i = omega arith in
      let later : AreOrderedFrom (components_view (drop (suc i) fields)) (slots_view (drop (suc i) slots)) (slots_view rest) = subst (λ j. AreOrderedFrom (components_view (drop j fields)) (slots_view (drop j slots)) (slots_view rest)) next r in
      let whole : AreOrderedFrom (component (field_view f).name (field_view f).type (field_view f).requirement (components_view (drop (suc i) fields))) (absent (slots_view (drop (suc i) slots))) (absent (slots_view rest)) =
      record { same = later.same; ordered = later.ordered } in
      let one = subst (λ (c : Components). AreOrderedFrom c (absent (slots_view (drop (suc i) slots))) (slots_view (None ∷ rest))) (sym (components_from fields i f l e.1)) whole in
      let both = subst (λ (s : Slots). AreOrderedFrom (components_view (drop i fields)) s (slots_view (None ∷ rest))) (sym (slots_from_absent slots i k stands)) one in
      subst (λ (ss : List (Option Value)). AreOrderedFrom (components_view fields) (slots_view slots) (slots_view ss)) (sym (append_assoc done (None ∷ []) rest)) (g (None ∷ rest) both)

  pub slots_ordered : (n : ℕ) (done : List (Option Value)) → n ≡ length slots → length slots ≡ length fields → OrderedUpTo n done → AreOrderedFrom (components_view fields) (slots_view slots) (slots_view done)
  slots_ordered n done all same g =
      let none_left : drop n slots ≡ [] = ap (λ k. drop k slots) all ∙ drop_all slots in
      let none_there : drop n fields ≡ [] = ap (λ k. drop k fields) (all ∙ same) ∙ drop_all fields in
      let nothing : AreOrderedFrom (components_view []) (slots_view []) (slots_view []) = record { same = tt; ordered = tt } in
      let one = subst (λ (fs : List Field). AreOrderedFrom (components_view fs) (slots_view []) (slots_view [])) (sym none_there) nothing in
      let both = subst (λ (ss : List (Option Value)). AreOrderedFrom (components_view (drop n fields)) (slots_view ss) (slots_view [])) (sym none_left) one in
      subst (λ (ss : List (Option Value)). AreOrderedFrom (components_view fields) (slots_view slots) (slots_view ss)) (append-nil done) (g [] both)

-- items, one after another
pub zip_push : {X Y : Type 0} (R : X → Y → Type 0) (xs : List X) (ys : List Y) (x : X) (y : Y) → AllZip R xs ys → R x y → AllZip R (xs ++ x ∷ []) (ys ++ y ∷ [])
zip_push R [] [] x y h r = (r, tt)
zip_push R [] (z ∷ ys) x y h r = elim h [ ]
zip_push R (z ∷ xs) [] x y h r = elim h [ ]
zip_push R (w ∷ xs) (z ∷ ys) x y h r = (h.0, zip_push R xs ys x y h.1 r)

pub taken : (xs : List Value) (i : ℕ) (x : Value) → i < length xs → x ≡ get_or xs i x → map value_view (take (i + 1) xs) ≡ map value_view (take i xs) ++ value_view x ∷ []
taken xs i x l at = ap (map value_view) (take_more xs i x l ∙ ap (λ y. take i xs ++ y ∷ []) (sym at)) ∙ map-append value_view (take i xs) (x ∷ [])

pub item_ordered : (type : Shape) (xs done : List Value) (i : ℕ) (x y : Value) → i < length xs → x ≡ get_or xs i x → AllZip (IsOrderedFrom type) (map value_view (take i xs)) (map value_view done) → IsOrderedFrom type (value_view x) (value_view y)
    → AllZip (IsOrderedFrom type) (map value_view (take (i + 1) xs)) (map value_view (done ++ y ∷ []))
item_ordered type xs done i x y l at h g =
    subst (λ (vs : List Val). AllZip (IsOrderedFrom type) vs (map value_view (done ++ y ∷ []))) (sym (taken xs i x l at))
    (subst (AllZip (IsOrderedFrom type) (map value_view (take i xs) ++ value_view x ∷ [])) (sym (map-append value_view done (y ∷ [])))
    (zip_push (IsOrderedFrom type) (map value_view (take i xs)) (map value_view done) (value_view x) (value_view y) h g))

-- an item in order whose encoding stands in the buffer, with its key
pub record IsPlaced (type : Shape) (buffer : List ℕ) (v : Val) (p : Placed) : Type 0 where
  pub from : IsOrderedFrom type v (value_view p.value)
  pub encodes : IsEncoding der type (value_view p.value) (part_of buffer p.keyed.span)
  pub within : p.keyed.span.start + (p.keyed.span.end - p.keyed.span.start) ≤ length buffer
  pub key : HasKey buffer p.keyed

take_grown : (xs ys : List ℕ) (n : ℕ) → n ≤ length xs → take n (xs ++ ys) ≡ take n xs
take_grown xs ys zero h = refl
take_grown [] ys (suc n) h = absurd (omega arith)
take_grown (x ∷ xs) ys (suc n) h = ap (λ s. x ∷ s) (take_grown xs ys n (omega arith))

part_grown : (xs ys : List ℕ) (start n : ℕ) → start + n ≤ length xs → take n (drop start (xs ++ ys)) ≡ take n (drop start xs)
part_grown xs ys zero n h = take_grown xs ys n (omega arith)
part_grown [] ys (suc start) n h = absurd (omega arith)
part_grown (x ∷ xs) ys (suc start) n h = part_grown xs ys start n (omega arith)

placed_grown : (type : Shape) (old added : List ℕ) (v : Val) (p : Placed) → IsPlaced type old v p → IsPlaced type (old ++ added) v p
placed_grown type old added v p h =
    let span = p.keyed.span in
    let stays : part_of old span ≡ part_of (old ++ added) span = sym (part_grown old added span.start (span.end - span.start) h.within) in
    record {
      from = h.from;
      encodes = subst (IsEncoding der type (value_view p.value)) stays h.encodes;
      within = omega (arith, h.within, length-append old added);
      key = h.key ∙ ap (key_of 16) stays;
    }

pub item_placed : (type : Shape) (xs : List Value) (done : List Placed) (i : ℕ) (x y : Value) (keyed : Keyed ℕ) (old new : List ℕ) → i < length xs → x ≡ get_or xs i x → AllZip (IsPlaced type old) (map value_view (take i xs)) done
    → IsOrderedFrom type (value_view x) (value_view y) → IsPut (IsEncoding der type (value_view y)) old new keyed.span → HasKey new keyed
    → AllZip (IsPlaced type new) (map value_view (take (i + 1) xs)) (done ++ record { value = y; keyed = keyed } ∷ [])
item_placed type xs done i x y keyed old new l at h from put key =
    let grown = zip_map (IsPlaced type old) (IsPlaced type (old ++ put.octets)) (λ v p q. placed_grown type old put.octets v p q) (map value_view (take i xs)) done h in
    let kept : AllZip (IsPlaced type new) (map value_view (take i xs)) done = subst (λ b. AllZip (IsPlaced type b) (map value_view (take i xs)) done) (sym put.is) grown in
    let one : IsPlaced type new (value_view x) (record { value = y; keyed = keyed }) = record {
      from = from;
      encodes = subst (IsEncoding der type (value_view y)) (sym (part_put (IsEncoding der type (value_view y)) old new keyed.span put)) put.holds;
      within = omega (arith, put.start, put.end, ap length put.is, length-append old put.octets);
      key = key;
    } in
    subst (λ (vs : List Val). AllZip (IsPlaced type new) vs (done ++ record { value = y; keyed = keyed } ∷ [])) (sym (taken xs i x l at))
    (zip_push (IsPlaced type new) (map value_view (take i xs)) done (value_view x) (record { value = y; keyed = keyed }) kept one)

zip_right : {X Y Z : Type 0} (P : X → Y → Type 0) (Q : X → Z → Type 0) (f : Y → Z) → ((x : X) (y : Y) → P x y → Q x (f y)) → (xs : List X) (ys : List Y) → AllZip P xs ys → AllZip Q xs (map f ys)
zip_right P Q f g [] [] h = tt
zip_right P Q f g [] (y ∷ ys) h = elim h [ ]
zip_right P Q f g (x ∷ xs) [] h = elim h [ ]
zip_right P Q f g (x ∷ xs) (y ∷ ys) h = (g x y h.0, zip_right P Q f g xs ys h.1)

values_encode : (type : Shape) (buffer : List ℕ) (vs : List Val) (ps : List Placed) → AllZip (IsPlaced type buffer) vs ps
    → AllZip (IsEncoding der type) (map (λ (p : Placed). value_view p.value) ps) (map (λ (p : Placed). part_of buffer p.keyed.span) ps)
values_encode type buffer [] [] h = tt
values_encode type buffer [] (p ∷ ps) h = elim h [ ]
values_encode type buffer (v ∷ vs) [] h = elim h [ ]
values_encode type buffer (v ∷ vs) (p ∷ ps) h = (h.0.encodes, values_encode type buffer vs ps h.1)

-- the keys of placed items
pub placed_keys : (type : Shape) (buffer : List ℕ) (vs : List Val) (ps : List Placed) → AllZip (IsPlaced type buffer) vs ps → All (HasKey buffer) (map (λ (p : Placed). p.keyed) ps)
placed_keys type buffer vs ps h =
    let keyed = λ (p : Placed). p.keyed in
    let each : AllByRecursion (λ p. HasKey buffer (keyed p)) ps = all_zip (IsPlaced type buffer) (λ p. HasKey buffer (keyed p)) (λ v p q. q.key) vs ps h in
    All-map (HasKey buffer) keyed ps (All-from_recursion (λ p. HasKey buffer (keyed p)) ps each)

-- placed items that were sorted by their encodings
pub items_sorted : (type : Shape) (buffer : List ℕ) (vs : List Val) (placed sorted : List Placed) (values : List Value) → AllZip (IsPlaced type buffer) vs placed → IsPermutation placed sorted → Ascends (map (λ (p : Placed). part_of buffer p.keyed.span) sorted)
    → values ≡ map (λ (p : Placed). p.value) sorted → AreItemsOrderedFrom type vs (map value_view values)
items_sorted type buffer vs placed sorted values h moved up is =
    let places = zip_permutes (IsPlaced type buffer) vs placed sorted h moved in
    let views = λ (p : Placed). value_view p.value in
    let each = zip_right (IsPlaced type buffer) (IsOrderedFrom type) views (λ v p q. q.from) places.0 sorted places.2 in
    let whole : AreItemsOrderedFrom type vs (map views sorted) = record {
      same = record { order = places.0; permutes = places.1; each = zip_map (IsOrderedFrom type) (IsSame type) (λ x y o. o.same) places.0 (map views sorted) each };
      each = all_zip (IsOrderedFrom type) (IsOrdered type) (λ x y o. o.ordered) places.0 (map views sorted) each;
      order = inr record { encodings = map (λ (p : Placed). part_of buffer p.keyed.span) sorted; each = values_encode type buffer places.0 sorted places.2; ascends = up };
    } in
    subst (AreItemsOrderedFrom type vs) (sym (ap (map value_view) is ∙ map-map value_view (λ (p : Placed). p.value) sorted)) whole

-- of one item there is nothing to sort
pub few_sorted : (type : Shape) (vs ws : List Val) → length vs < 2 → AllZip (IsOrderedFrom type) vs ws → AreItemsOrderedFrom type vs ws
few_sorted type vs ws few h = record {
  same = record { order = vs; permutes = IsPermutation-refl vs; each = zip_map (IsOrderedFrom type) (IsSame type) (λ x y o. o.same) vs ws h };
  each = all_zip (IsOrderedFrom type) (IsOrdered type) (λ x y o. o.ordered) vs ws h;
  order = inl (omega (arith, few, zip_length (IsOrderedFrom type) vs ws h));
}
