-- Lemmas on the order of a SET: the order tags of its encodings, and that parts sorted by them are in it.
use Rattle.std.proofs.Common.{◌≡◌, ◌≢◌, ◌⊎◌, inl, inr, ◌<◌, ◌≤◌, ℕ, List, [], ◌∷◌, ◌++◌, Option, Some, None, length, get_or, map, refl, sym, ap, ◌∙◌, subst, arith, All, AllPairs, Contains, IsPermutation}
use Rattle.std.proofs.lemmas.List.Elements.{All-nil, All-cons, All-weaker}
use Rattle.std.proofs.lemmas.List.Kept.{AllPairs-cons}
use Rattle.std.proofs.lemmas.List.Sorted.{IsPermutation-map, All-permutation}
use Rattle.octets.specs.declared.tag.Tag.{Tag}
use Rattle.octets.specs.Rule.{Rule, ber, cer, der, IsCanonical}
use Rattle.octets.specs.Tag.{ComesBefore}
use Rattle.types.specs.Shape.{Slots, no_slot, absent, present, Requirement, Shape, Components, no_component, component}
use Rattle.types.specs.FirstTags.{first_tags, tags_of_components, AreDistinct}
use Rattle.types.specs.Order.{AscendsByTag, BeginsWithOneOf, IsLeast, IsOrderTag, IsOrderTagIn}
use Rattle.types.specs.Encoding.{IsEncoding, AreSlotEncodings, standing}
use Rattle.types.proofs.ListLemmas.{AllPairs-nil, contains_left, contains_right, distinct_apart, distinct_right}
use Rattle.types.proofs.BeginningLemmas.{encoding_begins, begins_once}
use Rattle.types.proofs.SlotLemmas.{begin_apart}
use Rattle.types.proofs.DepthLemmas.{absent_is_none}
use Rattle.types.proofs.OrderLemmas.{ComesBefore-total}
use Rattle.types.proofs.PairLemmas.{AllPairs-map, AllPairs-from_map, AllPairs-permutation}
use Rattle.types.proofs.OneEncodingLemmas.{order_tag_of}

-- the least of some tags is one tag
least_once : (tags : List Tag) (t u : Tag) → IsLeast tags t → IsLeast tags u → t ≡ u
least_once tags t u h g = by_order (ComesBefore-total t u)
  where
    by_order : ComesBefore t u ⊎ ((t ≡ u) ⊎ ComesBefore u t) → t ≡ u
    by_order (inl before) = absurd (g.1 t h.0 before)
    by_order (inr (inl same)) = same
    by_order (inr (inr after)) = absurd (h.1 u g.0 after)

order_tag_once : (rule : Rule) (type : Shape) (octets : List ℕ) (t u : Tag) → IsCanonical rule → IsOrderTag rule type octets t → IsOrderTag rule type octets u → t ≡ u
order_tag_once ber type octets t u canonical h g = absurd (canonical refl)
order_tag_once cer type octets t u canonical h g = least_once (first_tags type) t u h g
order_tag_once der type octets t u canonical h g = begins_once t u octets h g

-- and one of the type's first tags
order_tag_first : (rule : Rule) (type : Shape) (octets : List ℕ) (t : Tag) → IsCanonical rule → BeginsWithOneOf (first_tags type) octets → IsOrderTag rule type octets t → Contains (first_tags type) t
order_tag_first ber type octets t canonical begins h = absurd (canonical refl)
order_tag_first cer type octets t canonical begins h = h.0
order_tag_first der type octets t canonical begins h = subst (Contains (first_tags type)) (begins_once begins.0 t octets begins.2 h) begins.1

order_tag_begins : (rule : Rule) (components : Components) (octets : List ℕ) (t : Tag) → IsOrderTagIn rule components octets t → BeginsWithOneOf (tags_of_components components) octets
order_tag_begins rule no_component octets t h = elim h [ ]
order_tag_begins rule (component name type requirement others) octets t (inl h) = (h.0.0, contains_left (first_tags type) (tags_of_components others) h.0.0 h.0.1, h.0.2)
order_tag_begins rule (component name type requirement others) octets t (inr h) =
    let later = order_tag_begins rule others octets t h in
    (later.0, contains_right (first_tags type) (tags_of_components others) later.0 later.1, later.2)

order_tag_among : (rule : Rule) (components : Components) (octets : List ℕ) (t : Tag) → IsCanonical rule → IsOrderTagIn rule components octets t → Contains (tags_of_components components) t
order_tag_among rule no_component octets t canonical h = elim h [ ]
order_tag_among rule (component name type requirement others) octets t canonical (inl h) = contains_left (first_tags type) (tags_of_components others) t (order_tag_first rule type octets t canonical h.0 h.1)
order_tag_among rule (component name type requirement others) octets t canonical (inr h) = contains_right (first_tags type) (tags_of_components others) t (order_tag_among rule others octets t canonical h)

-- an encoding in a SET has one order tag
pub one_order_tag : (rule : Rule) (components : Components) (octets : List ℕ) (t u : Tag) → IsCanonical rule → AreDistinct (tags_of_components components) → IsOrderTagIn rule components octets t → IsOrderTagIn rule components octets u → t ≡ u
one_order_tag rule no_component octets t u canonical distinct h g = elim h [ ]
one_order_tag rule (component name type requirement others) octets t u canonical distinct (inl h) (inl g) = order_tag_once rule type octets t u canonical h.1 g.1
one_order_tag rule (component name type requirement others) octets t u canonical distinct (inl h) (inr g) =
    absurd (begin_apart (first_tags type) (tags_of_components others) octets distinct h.0 (order_tag_begins rule others octets u g))
one_order_tag rule (component name type requirement others) octets t u canonical distinct (inr h) (inl g) =
    absurd (begin_apart (first_tags type) (tags_of_components others) octets distinct g.0 (order_tag_begins rule others octets t h))
one_order_tag rule (component name type requirement others) octets t u canonical distinct (inr h) (inr g) =
    one_order_tag rule others octets t u canonical (distinct_right (first_tags type) (tags_of_components others) distinct) h g

-- parts that carry their order tags, each before all later ones, come in the order of a SET
pub ascends_by_tag : {X : Type 0} (rule : Rule) (components : Components) (tag : X → Tag) (octets : X → List ℕ) (parts : List X) → IsCanonical rule → AreDistinct (tags_of_components components)
    → All (λ x. IsOrderTagIn rule components (octets x) (tag x)) parts → AllPairs (λ x y. ComesBefore (tag x) (tag y)) parts → AscendsByTag rule components (map octets parts)
ascends_by_tag rule components tag octets parts canonical distinct carried ascending =
    AllPairs-map (λ a b. (t u : Tag) → IsOrderTagIn rule components a t → IsOrderTagIn rule components b u → ComesBefore t u) octets parts
    (λ i j d less below t u h g.
    let first : tag (get_or parts i d) ≡ t = one_order_tag rule components (octets (get_or parts i d)) (tag (get_or parts i d)) t canonical distinct (carried i d (omega arith)) h in
    let second : tag (get_or parts j d) ≡ u = one_order_tag rule components (octets (get_or parts j d)) (tag (get_or parts j d)) u canonical distinct (carried j d below) g in
    subst (λ s. ComesBefore s u) first (subst (ComesBefore (tag (get_or parts i d))) second (ascending i j d less below)))

-- tags that differ and of which no later one comes before an earlier one ascend
pub tags_ascend_strictly : {X : Type 0} (tag : X → Tag) (parts : List X) → AllPairs (λ x y. tag x ≢ tag y) parts → AllPairs (λ x y. ¬ ComesBefore (tag y) (tag x)) parts → AllPairs (λ x y. ComesBefore (tag x) (tag y)) parts
tags_ascend_strictly tag parts differ sorted =
    λ i j d less below. by_order (tag (get_or parts i d)) (tag (get_or parts j d)) (differ i j d less below) (sorted i j d less below) (ComesBefore-total (tag (get_or parts i d)) (tag (get_or parts j d)))
  where
    by_order : (t u : Tag) → t ≢ u → ¬ ComesBefore u t → ComesBefore t u ⊎ ((t ≡ u) ⊎ ComesBefore u t) → ComesBefore t u
    by_order t u other none (inl before) = before
    by_order t u other none (inr (inl same)) = absurd (other same)
    by_order t u other none (inr (inr after)) = absurd (none after)

-- the encodings that stand in a SET, each with its order tag
pub record AreTagged (rule : Rule) (components : Components) (encodings : List (List ℕ)) : Type 0 where
  pub parts : List (Tag × List ℕ)
  pub octets : map (λ x. x.1) parts ≡ encodings
  pub carried : All (λ x. IsOrderTagIn rule components x.1 x.0) parts
  pub differ : AllPairs (λ x y. x.0 ≢ y.0) parts

abbrev tagged_later : (rule : Rule) (name : List ℕ) (type : Shape) (requirement : Requirement) (others : Components) (encodings : List (List ℕ)) → AreTagged rule others encodings → AreTagged rule (component name type requirement others) encodings
tagged_later rule name type requirement others encodings h = record {
  parts = h.parts;
  octets = h.octets;
  carried = All-weaker (λ (x : Tag × List ℕ). IsOrderTagIn rule others x.1 x.0) (λ x. IsOrderTagIn rule (component name type requirement others) x.1 x.0) (λ x later. inr later) h.parts h.carried;
  differ = h.differ;
}

tagged_more : (rule : Rule) (name : List ℕ) (type : Shape) (requirement : Requirement) (others : Components) (first : List ℕ) (encodings : List (List ℕ)) → IsCanonical rule
    → AreDistinct (first_tags type ++ tags_of_components others) → BeginsWithOneOf (first_tags type) first → AreTagged rule others encodings → AreTagged rule (component name type requirement others) (first ∷ encodings)
tagged_more rule name type requirement others first encodings canonical distinct begins h =
    let tag = order_tag_of rule type first canonical begins in
    let later = tagged_later rule name type requirement others encodings h in
    record {
      parts = (tag.0, first) ∷ h.parts;
      octets = ap (λ l. first ∷ l) h.octets;
      carried = All-cons (λ (x : Tag × List ℕ). IsOrderTagIn rule (component name type requirement others) x.1 x.0) (tag.0, first) h.parts (inl (begins, tag.1)) later.carried;
      differ = AllPairs-cons (λ (x y : Tag × List ℕ). x.0 ≢ y.0) (tag.0, first) h.parts
          (All-weaker (λ (x : Tag × List ℕ). IsOrderTagIn rule others x.1 x.0) (λ x. tag.0 ≢ x.0)
          (λ x carried same. distinct_apart (first_tags type) (tags_of_components others) distinct tag.0 (order_tag_first rule type first tag.0 canonical begins tag.1)
          (subst (Contains (tags_of_components others)) (sym same) (order_tag_among rule others x.1 x.0 canonical carried)))
          h.parts h.carried) h.differ;
    }

pub tagged : (rule : Rule) (components : Components) (slots : Slots) (encodings : List (Option (List ℕ))) → IsCanonical rule → AreDistinct (tags_of_components components) → AreSlotEncodings rule components slots encodings → AreTagged rule components (standing encodings)
tagged rule no_component no_slot [] canonical distinct h = record { parts = []; octets = refl; carried = All-nil (λ (x : Tag × List ℕ). ⊥); differ = AllPairs-nil (λ (x y : Tag × List ℕ). x.0 ≢ y.0) }
tagged rule no_component no_slot (encoding ∷ encodings) canonical distinct h = elim h [ ]
tagged rule no_component (absent slots) encodings canonical distinct h = elim h [ ]
tagged rule no_component (present value slots) encodings canonical distinct h = elim h [ ]
tagged rule (component name type requirement others) no_slot encodings canonical distinct h = elim h [ ]
tagged rule (component name type requirement others) (absent slots) [] canonical distinct h = elim h [ ]
tagged rule (component name type requirement others) (absent slots) (None ∷ encodings) canonical distinct h =
    tagged_later rule name type requirement others (standing encodings) (tagged rule others slots encodings canonical (distinct_right (first_tags type) (tags_of_components others) distinct) h.1)
tagged rule (component name type requirement others) (absent slots) (Some first ∷ encodings) canonical distinct h =
    let none : Some first ≡ None = absent_is_none rule requirement (IsEncoding rule type) (Some first) canonical h.0 in cc
tagged rule (component name type requirement others) (present value slots) [] canonical distinct h = elim h [ ]
tagged rule (component name type requirement others) (present value slots) (None ∷ encodings) canonical distinct h = elim h [ ]
tagged rule (component name type requirement others) (present value slots) (Some first ∷ encodings) canonical distinct h =
    tagged_more rule name type requirement others first (standing encodings) canonical distinct (encoding_begins rule type value first h.0)
    (tagged rule others slots encodings canonical (distinct_right (first_tags type) (tags_of_components others) distinct) h.2)

-- the order tags of two encodings that stand differ
pub order_tags_differ : (rule : Rule) (components : Components) (slots : Slots) (encodings : List (Option (List ℕ))) → IsCanonical rule → AreDistinct (tags_of_components components) → AreSlotEncodings rule components slots encodings
    → AllPairs (λ a b. (t u : Tag) → IsOrderTagIn rule components a t → IsOrderTagIn rule components b u → t ≢ u) (standing encodings)
order_tags_differ rule components slots encodings canonical distinct h =
    let all = tagged rule components slots encodings canonical distinct h in
    let R = λ (a b : List ℕ). (t u : Tag) → IsOrderTagIn rule components a t → IsOrderTagIn rule components b u → t ≢ u in
    subst (AllPairs R) all.octets
    (AllPairs-map R (λ x. x.1) all.parts (λ i j d less below t u m n same.
    let one = one_order_tag rule components (get_or all.parts i d).1 (get_or all.parts i d).0 t canonical distinct (all.carried i d (omega arith)) m in
    let other = one_order_tag rule components (get_or all.parts j d).1 (get_or all.parts j d).0 u canonical distinct (all.carried j d below) n in
    all.differ i j d less below (one ∙ (same ∙ sym other))))

-- the encodings that stand in a SET, carried by parts with their order tags, once these are sorted by them
pub record AreInSetOrder (rule : Rule) (components : Components) (encodings order : List (List ℕ)) : Type 0 where
  pub permutes : IsPermutation encodings order
  pub ascends : AscendsByTag rule components order

pub set_order-from_sorted : {X : Type 0} (rule : Rule) (components : Components) (slots : Slots) (encodings : List (Option (List ℕ))) (tag : X → Tag) (octets : X → List ℕ) (parts sorted : List X)
    → IsCanonical rule → AreDistinct (tags_of_components components) → AreSlotEncodings rule components slots encodings
    → map octets parts ≡ standing encodings → All (λ x. IsOrderTagIn rule components (octets x) (tag x)) parts → IsPermutation parts sorted
    → ((i j : ℕ) (d : X) → i ≤ j → j < length sorted → ¬ ComesBefore (tag (get_or sorted j d)) (tag (get_or sorted i d))) → AreInSetOrder rule components (standing encodings) (map octets sorted)
set_order-from_sorted rule components slots encodings tag octets parts sorted canonical distinct h is carried permutes ascending =
    let R = λ (a b : List ℕ). (t u : Tag) → IsOrderTagIn rule components a t → IsOrderTagIn rule components b u → t ≢ u in
    let apart = AllPairs-from_map R octets parts (subst (AllPairs R) (sym is) (order_tags_differ rule components slots encodings canonical distinct h)) in
    let tags_differ : AllPairs (λ x y. tag x ≢ tag y) parts =
    λ i j d less below. apart i j d less below (tag (get_or parts i d)) (tag (get_or parts j d)) (carried i d (omega arith)) (carried j d below) in
    let differ = AllPairs-permutation (λ x y. tag x ≢ tag y) (λ x y other same. other (sym same)) parts sorted permutes tags_differ in
    record {
      permutes = subst (λ l. IsPermutation l (map octets sorted)) is (IsPermutation-map octets parts sorted permutes);
      ascends = ascends_by_tag rule components tag octets sorted canonical distinct (All-permutation (λ x. IsOrderTagIn rule components (octets x) (tag x)) parts sorted permutes carried)
          (tags_ascend_strictly tag sorted differ (λ i j d less below. ascending i j d (omega arith) below));
    }
