-- Lemmas on CER and DER: a value of a well-formed type has at most one encoding.
use Rattle.std.specs.List.{AllByRecursion, AllZip, concat}
use Rattle.std.proofs.Common.{◌≡◌, ◌⊎◌, inl, inr, ℕ, zero, suc, List, [], ◌∷◌, Option, Some, None, refl, sym, ap, ap₂, ◌∙◌, subst, subst₂, arith, Contains, IsPermutation}
use Rattle.std.proofs.lemmas.List.Sorted.{IsPermutation-sym, IsPermutation-trans, Contains-permutation}
use Rattle.octets.specs.declared.tag.Tag.{Tag}
use Rattle.octets.specs.Rule.{Rule, ber, cer, der, IsCanonical}
use Rattle.octets.specs.Tag.{ComesBefore}
use Rattle.types.specs.Shape.{Val, Slots, Items, no_slot, absent, present, listed, Shape, Components, no_component, component, Alternatives, no_alternative, alternative}
use Rattle.types.specs.FirstTags.{first_tags, HasDistinctTags}
use Rattle.types.specs.WellFormed.{nodes_of, nodes_of_components, nodes_of_alternatives, levels_of}
use Rattle.types.specs.Depth.{IsNested}
use Rattle.types.specs.Order.{IsPaddedAtMost, Ascends, AscendsByTag, BeginsWithOneOf, IsOrderTag, IsOrderTagIn}
use Rattle.types.specs.Encoding.{Meaning, IsEncoding, AreSlotEncodings, IsAlternativeEncoding, standing}
use Rattle.types.specs.Laws.{OneCanonicalEncoding}
use Rattle.types.proofs.ListLemmas.{all_append, not_in_nil, contains_cases}
use Rattle.types.proofs.BeginningLemmas.{encoding_begins}
use Rattle.types.proofs.OrderLemmas.{nested_tie, ComesBefore-asym, least_tag}
use Rattle.types.proofs.SortedLemmas.{sorted_unique}
use Rattle.types.proofs.DepthLemmas.{absent_is_none, canonical_nested}
use Rattle.types.proofs.OneLeafEncodingLemmas.{one_constructed, one_simple, one_string}

fields-injective : (x y : Slots) → Val.fields x ≡ Val.fields y → x ≡ y
fields-injective x y h = cc

items-injective : (x y : Items) → Val.items x ≡ Val.items y → x ≡ y
items-injective x y h = cc

-- items in order have one list of encodings, where each has one
zip_unique : (Encodes : Meaning) → ((v : Val) (a b : List ℕ) → Encodes v a → Encodes v b → a ≡ b) → (vs : List Val) (as' bs : List (List ℕ)) → AllZip Encodes vs as' → AllZip Encodes vs bs → as' ≡ bs
zip_unique Encodes one [] [] [] h g = refl
zip_unique Encodes one [] [] (b ∷ bs) h g = elim g [ ]
zip_unique Encodes one [] (a ∷ as') bs h g = elim h [ ]
zip_unique Encodes one (v ∷ vs) [] bs h g = elim h [ ]
zip_unique Encodes one (v ∷ vs) (a ∷ as') [] h g = elim g [ ]
zip_unique Encodes one (v ∷ vs) (a ∷ as') (b ∷ bs) h g = ap₂ (λ x xs. x ∷ xs) (one v a b h.0 g.0) (zip_unique Encodes one vs as' bs h.1 g.1)

-- an encoding of items is one of an item
zip_value : (Encodes : Meaning) (vs : List Val) (as' : List (List ℕ)) (a : List ℕ) → AllZip Encodes vs as' → Contains as' a → (v : Val) × Encodes v a
zip_value Encodes [] [] a h c = absurd (not_in_nil a c)
zip_value Encodes [] (b ∷ bs) a h c = elim h [ ]
zip_value Encodes (v ∷ vs) [] a h c = elim h [ ]
zip_value Encodes (v ∷ vs) (b ∷ bs) a h c = found (contains_cases b a bs c) (λ later. zip_value Encodes vs bs a h.1 later)
  where
    found : (b ≡ a) ⊎ Contains bs a → (Contains bs a → (w : Val) × Encodes w a) → (w : Val) × Encodes w a
    found (inl e) more = (v, subst (Encodes v) e h.0)
    found (inr later) more = more later

-- octets that begin with a tag of a type have an order tag
pub order_tag_of : (rule : Rule) (type : Shape) (octets : List ℕ) → IsCanonical rule → BeginsWithOneOf (first_tags type) octets → (tag : Tag) × IsOrderTag rule type octets tag
order_tag_of ber type octets canonical h = absurd (canonical refl)
order_tag_of cer type octets canonical h = least_tag (first_tags type) h.0 h.1
order_tag_of der type octets canonical h = (h.0, h.2)

-- and so has each encoding that stands in a SET
pub order_tag_in : (rule : Rule) (components : Components) (slots : Slots) (encodings : List (Option (List ℕ))) (octets : List ℕ) → IsCanonical rule → AreSlotEncodings rule components slots encodings → Contains (standing encodings) octets → (tag : Tag) × IsOrderTagIn rule components octets tag
order_tag_in rule no_component no_slot [] octets canonical h c = absurd (not_in_nil octets c)
order_tag_in rule no_component no_slot (encoding ∷ encodings) octets canonical h c = elim h [ ]
order_tag_in rule no_component (absent slots) encodings octets canonical h c = elim h [ ]
order_tag_in rule no_component (present value slots) encodings octets canonical h c = elim h [ ]
order_tag_in rule (component name type requirement others) no_slot encodings octets canonical h c = elim h [ ]
order_tag_in rule (component name type requirement others) (absent slots) [] octets canonical h c = elim h [ ]
order_tag_in rule (component name type requirement others) (absent slots) (None ∷ encodings) octets canonical h c =
    let later = order_tag_in rule others slots encodings octets canonical h.1 c in (later.0, inr later.1)
order_tag_in rule (component name type requirement others) (absent slots) (Some first ∷ encodings) octets canonical h c =
    let none : Some first ≡ None = absent_is_none rule requirement (IsEncoding rule type) (Some first) canonical h.0 in cc
order_tag_in rule (component name type requirement others) (present value slots) [] octets canonical h c = elim h [ ]
order_tag_in rule (component name type requirement others) (present value slots) (None ∷ encodings) octets canonical h c = elim h [ ]
order_tag_in rule (component name type requirement others) (present value slots) (Some first ∷ encodings) octets canonical h c =
    found (contains_cases first octets (standing encodings) c) (λ later. order_tag_in rule others slots encodings octets canonical h.2 later)
  where
    found : (first ≡ octets) ⊎ Contains (standing encodings) octets → (Contains (standing encodings) octets → (tag : Tag) × IsOrderTagIn rule others octets tag) → (tag : Tag) × IsOrderTagIn rule (component name type requirement others) octets tag
    found (inl e) more =
        let begins = subst (BeginsWithOneOf (first_tags type)) e (encoding_begins rule type value first h.0) in
        let tag = order_tag_of rule type octets canonical begins in
        (tag.0, inl (begins, tag.1))
    found (inr later) more = let tag = more later in (tag.0, inr tag.1)

-- the encodings of a SET come in one order
one_order : (rule : Rule) (components : Components) (slots : Slots) (encodings : List (Option (List ℕ))) (xs ys : List (List ℕ)) → IsCanonical rule → AreSlotEncodings rule components slots encodings
    → IsPermutation (standing encodings) xs → IsPermutation (standing encodings) ys → AscendsByTag rule components xs → AscendsByTag rule components ys → xs ≡ ys
one_order rule components slots encodings xs ys canonical h p q f g =
    let back : IsPermutation xs (standing encodings) = IsPermutation-sym (standing encodings) xs p in
    let R = λ (a b : List ℕ). (t u : Tag) → IsOrderTagIn rule components a t → IsOrderTagIn rule components b u → ComesBefore t u in
    sorted_unique R xs ys (IsPermutation-trans xs (standing encodings) ys back q) f g
    (λ a b m n below above.
    let t = order_tag_in rule components slots encodings a canonical h (Contains-permutation xs (standing encodings) a back m) in
    let u = order_tag_in rule components slots encodings b canonical h (Contains-permutation xs (standing encodings) b back n) in
    absurd (ComesBefore-asym t.0 u.0 (below t.0 u.0 t.1 u.1) (above u.0 t.0 u.1 t.1)))

-- and so do those of a SET OF
one_ascending : (IsItem : Meaning) → ((v : Val) (a : List ℕ) → IsItem v a → (n : ℕ) × IsNested n a) → (vs : List Val) (encodings xs ys : List (List ℕ)) → AllZip IsItem vs encodings
    → IsPermutation encodings xs → IsPermutation encodings ys → Ascends xs → Ascends ys → xs ≡ ys
one_ascending IsItem nested vs encodings xs ys h p q f g =
    let back : IsPermutation xs encodings = IsPermutation-sym encodings xs p in
    sorted_unique IsPaddedAtMost xs ys (IsPermutation-trans xs encodings ys back q) f g
    (λ a b m n below above.
    let v = zip_value IsItem vs encodings a h (Contains-permutation xs encodings a back m) in
    let w = zip_value IsItem vs encodings b h (Contains-permutation xs encodings b back n) in
    let one = nested v.0 a v.1 in
    let other = nested w.0 b w.1 in
    nested_tie one.0 other.0 a b one.1 other.1 below above)

module _ (rule : Rule) (canonical : IsCanonical rule) where
  mutual
    pub one_encoding : (shape : Shape) (v : Val) (a b : List ℕ) → AllByRecursion HasDistinctTags (nodes_of shape) → IsEncoding rule shape v a → IsEncoding rule shape v b → a ≡ b
    one_encoding (Shape.simple tag type) v a b well h g = one_simple rule tag type v a b canonical h g
    one_encoding (Shape.string tag type) v a b well h g = one_string rule tag type v a b canonical h g
    one_encoding (Shape.sequence tag components) v a b well h g =
        let same : h.slots ≡ g.slots = fields-injective h.slots g.slots (sym h.is ∙ g.is) in
        let encodings : h.encodings ≡ g.encodings = one_slots components g.slots h.encodings g.encodings well.1 (subst (λ s. AreSlotEncodings rule components s h.encodings) same h.each) g.each in
        one_constructed rule tag (concat (standing h.encodings)) (concat (standing g.encodings)) a b canonical (ap (λ e. concat (standing e)) encodings) h.whole g.whole
    one_encoding (Shape.set tag components) v a b well h g =
        let same : h.slots ≡ g.slots = fields-injective h.slots g.slots (sym h.is ∙ g.is) in
        let encodings : h.encodings ≡ g.encodings = one_slots components g.slots h.encodings g.encodings well.1 (subst (λ s. AreSlotEncodings rule components s h.encodings) same h.each) g.each in
        let order : h.order ≡ g.order =
        one_order rule components g.slots g.encodings h.order g.order canonical g.each (subst (λ e. IsPermutation (standing e) h.order) encodings h.permutes) g.permutes (h.ascends canonical) (g.ascends canonical) in
        one_constructed rule tag (concat h.order) (concat g.order) a b canonical (ap concat order) h.whole g.whole
    one_encoding (Shape.sequence_of tag type) v a b well h g =
        let same : h.items ≡ g.items = items-injective h.items g.items (sym h.is ∙ g.is) in
        let encodings : h.encodings ≡ g.encodings =
        zip_unique (IsEncoding rule type) (λ w x y m n. one_encoding type w x y well.1 m n) (listed g.items) h.encodings g.encodings (subst (λ i. AllZip (IsEncoding rule type) (listed i) h.encodings) same h.each) g.each in
        one_constructed rule tag (concat h.encodings) (concat g.encodings) a b canonical (ap concat encodings) h.whole g.whole
    one_encoding (Shape.set_of tag type) v a b well h g =
        let same : h.items ≡ g.items = items-injective h.items g.items (sym h.is ∙ g.is) in
        let encodings : h.encodings ≡ g.encodings =
        zip_unique (IsEncoding rule type) (λ w x y m n. one_encoding type w x y well.1 m n) (listed g.items) h.encodings g.encodings (subst (λ i. AllZip (IsEncoding rule type) (listed i) h.encodings) same h.each) g.each in
        let order : h.order ≡ g.order =
        one_ascending (IsEncoding rule type) (λ w x m. (suc (levels_of type), canonical_nested rule type w x (levels_of type) canonical well.1 (omega arith) m)) (listed g.items) g.encodings h.order g.order g.each
        (subst (λ e. IsPermutation e h.order) encodings h.permutes) g.permutes (h.ascends canonical) (g.ascends canonical) in
        one_constructed rule tag (concat h.order) (concat g.order) a b canonical (ap concat order) h.whole g.whole
    one_encoding (Shape.choice alternatives) v a b well h g =
        let same : Val.chosen h.which h.value ≡ Val.chosen g.which g.value = sym h.is ∙ g.is in
        let which : h.which ≡ g.which = cc in
        let value : h.value ≡ g.value = cc in
        one_alternative alternatives g.which g.value a b well.1 (subst₂ (λ i w. IsAlternativeEncoding rule alternatives i w a) which value h.chosen) g.chosen
    one_encoding (Shape.explicit tag type) v a b well h g =
        one_constructed rule tag h.inner g.inner a b canonical (one_encoding type v h.inner g.inner well.1 h.encodes g.encodes) h.whole g.whole

    one_slots : (components : Components) (slots : Slots) (es ds : List (Option (List ℕ))) → AllByRecursion HasDistinctTags (nodes_of_components components) → AreSlotEncodings rule components slots es → AreSlotEncodings rule components slots ds → es ≡ ds
    one_slots no_component no_slot [] [] well h g = refl
    one_slots no_component no_slot [] (d ∷ ds) well h g = elim g [ ]
    one_slots no_component no_slot (e ∷ es) ds well h g = elim h [ ]
    one_slots no_component (absent slots) es ds well h g = elim h [ ]
    one_slots no_component (present value slots) es ds well h g = elim h [ ]
    one_slots (component name type requirement others) no_slot es ds well h g = elim h [ ]
    one_slots (component name type requirement others) (absent slots) [] ds well h g = elim h [ ]
    one_slots (component name type requirement others) (absent slots) (e ∷ es) [] well h g = elim g [ ]
    one_slots (component name type requirement others) (absent slots) (e ∷ es) (d ∷ ds) well h g =
        let parts = all_append HasDistinctTags (nodes_of type) (nodes_of_components others) well in
        let left : e ≡ None = absent_is_none rule requirement (IsEncoding rule type) e canonical h.0 in
        let right : d ≡ None = absent_is_none rule requirement (IsEncoding rule type) d canonical g.0 in
        ap₂ (λ x xs. x ∷ xs) (left ∙ sym right) (one_slots others slots es ds parts.1 h.1 g.1)
    one_slots (component name type requirement others) (present value slots) [] ds well h g = elim h [ ]
    one_slots (component name type requirement others) (present value slots) (None ∷ es) ds well h g = elim h [ ]
    one_slots (component name type requirement others) (present value slots) (Some a ∷ es) [] well h g = elim g [ ]
    one_slots (component name type requirement others) (present value slots) (Some a ∷ es) (None ∷ ds) well h g = elim g [ ]
    one_slots (component name type requirement others) (present value slots) (Some a ∷ es) (Some b ∷ ds) well h g =
        let parts = all_append HasDistinctTags (nodes_of type) (nodes_of_components others) well in
        ap₂ (λ x xs. x ∷ xs) (ap Some (one_encoding type value a b parts.0 h.0 g.0)) (one_slots others slots es ds parts.1 h.2 g.2)

    one_alternative : (alternatives : Alternatives) (which : ℕ) (v : Val) (a b : List ℕ) → AllByRecursion HasDistinctTags (nodes_of_alternatives alternatives) → IsAlternativeEncoding rule alternatives which v a → IsAlternativeEncoding rule alternatives which v b → a ≡ b
    one_alternative no_alternative which v a b well h g = elim h [ ]
    one_alternative (alternative name type others) zero v a b well h g = one_encoding type v a b (all_append HasDistinctTags (nodes_of type) (nodes_of_alternatives others) well).0 h g
    one_alternative (alternative name type others) (suc which) v a b well h g = one_alternative others which v a b (all_append HasDistinctTags (nodes_of type) (nodes_of_alternatives others) well).1 h g

pub one_canonical : OneCanonicalEncoding
one_canonical rule shape v a b well canonical h g = one_encoding rule canonical shape v a b well.tags h g
