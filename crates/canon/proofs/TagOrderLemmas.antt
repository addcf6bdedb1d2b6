-- Lemmas on the tags by which the components of a SET are ordered.
use Rattle.std.proofs.Common.{suc, ◌+◌, ◌*◌, ◌^◌, ◌<◌, ◌≡◌, ◌≢◌, ◌⊎◌, inl, inr, ℕ, Bool, true, false, Decides, List, [], ◌∷◌, ◌++◌, Option, Some, None, length, get_or, map, refl, sym, ap, ◌∙◌, subst, arith, All, AllPairs, Contains, IsPermutation}
use Rattle.std.proofs.lemmas.List.Elements.{All-nil, All-cons}
use Rattle.std.proofs.lemmas.List.Kept.{AllPairs-cons}
use Rattle.std.proofs.lemmas.List.Sorted.{All-permutation, IsPermutation-map, IsPermutation-refl}
use Rattle.std.specs.List.{concat}
use Rattle.std.specs.Ordering.{MatchOrdering}
use Rattle.std.specs.declared.cmp.Ordering.{Ordering}
use Rattle.std.specs.declared.cmp.Ordering.TheVariants.{Less, Equal, Greater}
use Rattle.std.proofs.lemmas.Bool.Decides.{same_from_decides}
use Rattle.std.proofs.lemmas.Map.Keys.{IsDistinct-from_apart, IsDistinct-IsPermutation, apart_from_distinct}
use Rattle.octets.specs.declared.tag.Tag.{Tag}
use Rattle.octets.specs.Rule.{Rule, ber, cer, der, IsCanonical}
use Rattle.octets.specs.declared.tag.Class.{Class}
use Rattle.octets.specs.declared.tag.Class.TheVariants.{Universal, Application, Context, Private}
use Rattle.octets.specs.Identifier.{class_bits}
use Rattle.octets.specs.Tag.{place_of, ComesBefore}
use Rattle.octets.proofs.TagLemmas.{tag_order, tag_order-means}
use Rattle.types.specs.Shape.{Val, Slots, no_slot, absent, present, Requirement, Shape, Components, no_component, component}
use Rattle.types.specs.FirstTags.{first_tags, tags_of_components, AreDistinct}
use Rattle.types.specs.Order.{BeginsWithOneOf, IsLeast, IsOrderTag, IsOrderTagIn, AscendsByTag}
use Rattle.types.specs.Encoding.{IsEncoding, AreSlotEncodings, standing}
use Rattle.types.proofs.BeginningLemmas.{begins_once, encoding_begins}
use Rattle.types.proofs.DepthLemmas.{absent_is_none}
use Rattle.types.proofs.ListLemmas.{AllPairs-nil, contains_cases, contains_left, contains_right, distinct_apart, distinct_right, not_in_nil}
use Rattle.types.proofs.OrderLemmas.{ComesBefore-total, ComesBefore-trans, ComesBefore-irrefl, least_tag}
use Rattle.types.proofs.SlotLemmas.{begin_apart}
use Rattle.types.proofs.SortedLemmas.{AllPairs-first, AllPairs-rest}
use Rattle.canon.specs.Node.{AreComponents, AreComponentsByTag}
use Rattle.canon.specs.Size.{HasSize}
use Rattle.canon.proofs.NodeSizeLemmas.{length_permuted}
use Rattle.canon.proofs.SortLemmas.{put_in_order, pairs_at}

-- an encoding and its order tag
pub record TaggedOctets : Type 0 where
  pub tag : Tag
  pub octets : List ℕ

pub least_once : (tags : List Tag) (t u : Tag) → IsLeast tags t → IsLeast tags u → t ≡ u
least_once tags t u h g = elim (ComesBefore-total t u) [
  | inl before ↦ absurd (g.1 t h.0 before)
  | inr other ↦ elim other [ inl same ↦ same | inr after ↦ absurd (h.1 u g.0 after) ]
]

pub order_tag_once : (rule : Rule) (type : Shape) (octets : List ℕ) (t u : Tag) → IsCanonical rule → IsOrderTag rule type octets t → IsOrderTag rule type octets u → t ≡ u
order_tag_once ber type octets t u canonical h g = absurd (canonical refl)
order_tag_once cer type octets t u canonical h g = least_once (first_tags type) t u h g
order_tag_once der type octets t u canonical h g = begins_once t u octets h g

pub order_tag_among : (rule : Rule) (type : Shape) (v : Val) (octets : List ℕ) (t : Tag) → IsCanonical rule → IsEncoding rule type v octets → IsOrderTag rule type octets t → Contains (first_tags type) t
order_tag_among ber type v octets t canonical e h = absurd (canonical refl)
order_tag_among cer type v octets t canonical e h = h.0
order_tag_among der type v octets t canonical e h =
    let begins = encoding_begins der type v octets e in
    subst (Contains (first_tags type)) (begins_once begins.0 t octets begins.2 h) begins.1

pub order_tag_there : (rule : Rule) (type : Shape) (v : Val) (octets : List ℕ) → IsCanonical rule → IsEncoding rule type v octets → (t : Tag) × IsOrderTag rule type octets t
order_tag_there ber type v octets canonical e = absurd (canonical refl)
order_tag_there cer type v octets canonical e = let begins = encoding_begins cer type v octets e in least_tag (first_tags type) begins.0 begins.1
order_tag_there der type v octets canonical e = let begins = encoding_begins der type v octets e in (begins.0, begins.2)

order_tag_begins : (rule : Rule) (components : Components) (octets : List ℕ) (t : Tag) → IsOrderTagIn rule components octets t → BeginsWithOneOf (tags_of_components components) octets
order_tag_begins rule no_component octets t h = elim h [ ]
order_tag_begins rule (component name type requirement others) octets t (inl h) = (h.0.0, contains_left (first_tags type) (tags_of_components others) h.0.0 h.0.1, h.0.2)
order_tag_begins rule (component name type requirement others) octets t (inr h) =
    let rest = order_tag_begins rule others octets t h in
    (rest.0, contains_right (first_tags type) (tags_of_components others) rest.0 rest.1, rest.2)

is_same : Ordering → Bool
is_same Less = false
is_same Equal = true
is_same Greater = false

told : (a b : Tag) (o : Ordering) → MatchOrdering o (ComesBefore a b) (a ≡ b) (ComesBefore b a) → Decides (is_same o) (a ≡ b)
unfolding is_same
told a b Less h = (λ test. cc, λ same. absurd (ComesBefore-irrefl b (subst (λ t. ComesBefore t b) same h)))
told a b Equal h = (λ test. h, λ same. refl)
told a b Greater h = (λ test. cc, λ same. absurd (ComesBefore-irrefl b (subst (ComesBefore b) same h)))

-- a test whether two tags are equal
same_tag : TaggedOctets → TaggedOctets → Bool
same_tag p q = is_same (tag_order p.tag q.tag)

same_tag-told : (p q : TaggedOctets) → Decides (same_tag p q) (p.tag ≡ q.tag)
unfolding same_tag
same_tag-told p q = told p.tag q.tag (tag_order p.tag q.tag) (tag_order-means p.tag q.tag)

same_tag-flips : (p q : TaggedOctets) → same_tag p q ≡ same_tag q p
same_tag-flips p q =
    let back = same_tag-told q p in
    same_from_decides (same_tag p q) (same_tag q p) (same_tag-told p q) (λ test. sym (back.0 test), λ same. back.1 (sym same))

not_told : (r : Bool) (P : Type 0) → Decides r P → (P → ⊥) → r ≡ false
not_told false P h none = refl
not_told true P h none = absurd (none (h.0 refl))

-- tags that differ differ in every order
pub differ_permuted : (xs ys : List TaggedOctets) → IsPermutation xs ys → AllPairs (λ p q. p.tag ≢ q.tag) xs → AllPairs (λ p q. p.tag ≢ q.tag) ys
differ_permuted xs ys moves differ = λ i j d less below same.
    let apart = IsDistinct-from_apart same_tag xs (λ i j d l b. not_told (same_tag (get_or xs i d) (get_or xs j d)) ((get_or xs i d).tag ≡ (get_or xs j d).tag) (same_tag-told (get_or xs i d) (get_or xs j d)) (differ i j d l b)) in
    let test : same_tag (get_or ys i d) (get_or ys j d) ≡ false = apart_from_distinct same_tag ys i j d (IsDistinct-IsPermutation same_tag same_tag-flips xs ys moves apart) less below in
    let other : same_tag (get_or ys i d) (get_or ys j d) ≡ true = (same_tag-told (get_or ys i d) (get_or ys j d)).1 same in
    cc

-- encodings of components with their order tags, which differ
pub record AreTagged (rule : Rule) (components : Components) (parts : List TaggedOctets) : Type 0 where
  pub among : All (λ p. Contains (tags_of_components components) p.tag) parts
  pub begins : All (λ p. BeginsWithOneOf (tags_of_components components) p.octets) parts
  pub only : All (λ p. (u : Tag) → IsOrderTagIn rule components p.octets u → u ≡ p.tag) parts
  pub differ : AllPairs (λ p q. p.tag ≢ q.tag) parts

pub no_tagged : (rule : Rule) (components : Components) → AreTagged rule components []
no_tagged rule components = record {
  among = All-nil (λ (p : TaggedOctets). Contains (tags_of_components components) p.tag);
  begins = All-nil (λ (p : TaggedOctets). BeginsWithOneOf (tags_of_components components) p.octets);
  only = All-nil (λ (p : TaggedOctets). (u : Tag) → IsOrderTagIn rule components p.octets u → u ≡ p.tag);
  differ = AllPairs-nil (λ (p q : TaggedOctets). p.tag ≢ q.tag);
}

pub later_tagged : (rule : Rule) (name : List ℕ) (type : Shape) (requirement : Requirement) (others : Components) (parts : List TaggedOctets) → AreDistinct (first_tags type ++ tags_of_components others) → AreTagged rule others parts
    → AreTagged rule (component name type requirement others) parts
later_tagged rule name type requirement others parts distinct h = record {
  among = λ k d l. contains_right (first_tags type) (tags_of_components others) (get_or parts k d).tag (h.among k d l);
  begins = λ k d l. let b = h.begins k d l in (b.0, contains_right (first_tags type) (tags_of_components others) b.0 b.1, b.2);
  only = λ k d l u is. elim is [
    | inl here ↦ absurd (begin_apart (first_tags type) (tags_of_components others) (get_or parts k d).octets distinct here.0 (h.begins k d l))
    | inr later ↦ h.only k d l u later
  ];
  differ = h.differ;
}

pub more_tagged : (rule : Rule) (name : List ℕ) (type : Shape) (requirement : Requirement) (others : Components) (v : Val) (t : Tag) (octets : List ℕ) (parts : List TaggedOctets) → IsCanonical rule → AreDistinct (first_tags type ++ tags_of_components others)
    → IsEncoding rule type v octets → IsOrderTag rule type octets t → AreTagged rule others parts → AreTagged rule (component name type requirement others) (record { tag = t; octets = octets } ∷ parts)
more_tagged rule name type requirement others v t octets parts canonical distinct e order h =
    let p : TaggedOctets = record { tag = t; octets = octets } in
    let rest = later_tagged rule name type requirement others parts distinct h in
    let one = order_tag_among rule type v octets t canonical e order in
    let begins = encoding_begins rule type v octets e in
    record {
      among = All-cons (λ (q : TaggedOctets). Contains (first_tags type ++ tags_of_components others) q.tag) p parts (contains_left (first_tags type) (tags_of_components others) t one) rest.among;
      begins = All-cons (λ (q : TaggedOctets). BeginsWithOneOf (first_tags type ++ tags_of_components others) q.octets) p parts (begins.0, contains_left (first_tags type) (tags_of_components others) begins.0 begins.1, begins.2) rest.begins;
      only = All-cons (λ (q : TaggedOctets). (u : Tag) → IsOrderTagIn rule (component name type requirement others) q.octets u → u ≡ q.tag) p parts
          (λ u is. elim is [
            | inl here ↦ order_tag_once rule type octets u t canonical here.1 order
            | inr later ↦ absurd (begin_apart (first_tags type) (tags_of_components others) octets distinct begins (order_tag_begins rule others octets u later))
          ])
          rest.only;
      differ = AllPairs-cons (λ (a b : TaggedOctets). a.tag ≢ b.tag) p parts
          (λ k d l same. distinct_apart (first_tags type) (tags_of_components others) distinct t one (subst (Contains (tags_of_components others)) (sym same) (h.among k d l)))
          h.differ;
    }

-- parts whose tags ascend, in the order of tags
pub ascends_by_tag : (rule : Rule) (components : Components) (parts : List TaggedOctets) → All (λ p. (u : Tag) → IsOrderTagIn rule components p.octets u → u ≡ p.tag) parts → AllPairs (λ p q. ComesBefore p.tag q.tag) parts
    → AscendsByTag rule components (map (λ p. p.octets) parts)
ascends_by_tag rule components parts only ascend =
    pairs_at (λ (p : TaggedOctets). p.octets) (λ a b. (t u : Tag) → IsOrderTagIn rule components a t → IsOrderTagIn rule components b u → ComesBefore t u) parts
    (λ i j d less below t u h g.
    subst (λ x. ComesBefore x u) (sym (only i d (omega arith) t h)) (subst (λ y. ComesBefore (get_or parts i d).tag y) (sym (only j d below u g)) (ascend i j d less below)))

-- parts with order tags that do not fall, in that order
pub in_tag_order : (rule : Rule) (components : Components) (parts order : List TaggedOctets) → AreTagged rule components parts → IsPermutation parts order → AllPairs (λ p q. ComesBefore q.tag p.tag → ⊥) order
    → AscendsByTag rule components (map (λ p. p.octets) order)
in_tag_order rule components parts order h moves up =
    let differ = differ_permuted parts order moves h.differ in
    let only = All-permutation (λ (p : TaggedOctets). (u : Tag) → IsOrderTagIn rule components p.octets u → u ≡ p.tag) parts order moves h.only in
    ascends_by_tag rule components order only (λ i j d less below.
    elim (ComesBefore-total (get_or order i d).tag (get_or order j d).tag) [
      | inl before ↦ before
      | inr other ↦ elim other [ inl same ↦ absurd (differ i j d less below same) | inr after ↦ absurd (up i j d less below after) ]
    ])

rises_total : (p q : TaggedOctets) → (ComesBefore q.tag p.tag → ⊥) ⊎ (ComesBefore p.tag q.tag → ⊥)
rises_total p q = elim (ComesBefore-total p.tag q.tag) [
  | inl before ↦ inl (λ after. ComesBefore-irrefl p.tag (ComesBefore-trans p.tag q.tag p.tag before after))
  | inr other ↦ elim other [
    | inl same ↦ inl (λ after. ComesBefore-irrefl q.tag (subst (ComesBefore q.tag) same after))
    | inr after ↦ inr (λ before. ComesBefore-irrefl p.tag (ComesBefore-trans p.tag q.tag p.tag before after))
  ]
]

rises_chain : (p q r : TaggedOctets) → (ComesBefore q.tag p.tag → ⊥) → (ComesBefore r.tag q.tag → ⊥) → ComesBefore r.tag p.tag → ⊥
rises_chain p q r h g back = elim (ComesBefore-total p.tag q.tag) [
  | inl before ↦ g (ComesBefore-trans r.tag p.tag q.tag back before)
  | inr other ↦ elim other [ inl same ↦ g (subst (ComesBefore r.tag) same back) | inr after ↦ h after ]
]

before_across : (xs ys : List Tag) (x y : Tag) → AllPairs ComesBefore (xs ++ ys) → Contains xs x → Contains ys y → ComesBefore x y
before_across [] ys x y h l r = absurd (not_in_nil x l)
before_across (a ∷ xs) ys x y h l r =
    elim (contains_cases a x xs l) [
      | inl same ↦ subst (λ t. ComesBefore t y) same (AllPairs-first ComesBefore a y (xs ++ ys) h (contains_right xs ys y r))
      | inr later ↦ before_across xs ys x y (AllPairs-rest ComesBefore a (xs ++ ys) h) later r
    ]

rise_right : (xs ys : List Tag) → AllPairs ComesBefore (xs ++ ys) → AllPairs ComesBefore ys
rise_right [] ys h = h
rise_right (x ∷ xs) ys h = rise_right xs ys (AllPairs-rest ComesBefore x (xs ++ ys) h)

-- no part has a tag that comes before that of an earlier one
abbrev pub DoNotFall : List TaggedOctets → Type 0
DoNotFall parts = AllPairs (λ (p q : TaggedOctets). ComesBefore q.tag p.tag → ⊥) parts

-- the encodings that stand have order tags, which do not fall where the components are declared in their order
pub tagged_there : (rule : Rule) (components : Components) (slots : Slots) (encodings : List (Option (List ℕ))) → IsCanonical rule → AreDistinct (tags_of_components components) → AreSlotEncodings rule components slots encodings
    → (parts : List TaggedOctets) × AreTagged rule components parts × (map (λ p. p.octets) parts ≡ standing encodings) × (AllPairs ComesBefore (tags_of_components components) → DoNotFall parts)
tagged_there rule no_component no_slot [] canonical distinct h = ([], no_tagged rule no_component, refl, λ rise. AllPairs-nil (λ (p q : TaggedOctets). ComesBefore q.tag p.tag → ⊥))
tagged_there rule no_component no_slot (e ∷ es) canonical distinct h = elim h [ ]
tagged_there rule no_component (absent slots) encodings canonical distinct h = elim h [ ]
tagged_there rule no_component (present v slots) encodings canonical distinct h = elim h [ ]
tagged_there rule (component name type requirement others) no_slot encodings canonical distinct h = elim h [ ]
tagged_there rule (component name type requirement others) (absent slots) [] canonical distinct h = elim h [ ]
tagged_there rule (component name type requirement others) (absent slots) (e ∷ es) canonical distinct h =
    let none : e ≡ None = absent_is_none rule requirement (IsEncoding rule type) e canonical h.0 in
    let rest = tagged_there rule others slots es canonical (distinct_right (first_tags type) (tags_of_components others) distinct) h.1 in
    (rest.0, later_tagged rule name type requirement others rest.0 distinct rest.1, rest.2 ∙ sym (ap (λ x. standing (x ∷ es)) none), λ rise. rest.3 (rise_right (first_tags type) (tags_of_components others) rise))
tagged_there rule (component name type requirement others) (present v slots) [] canonical distinct h = elim h [ ]
tagged_there rule (component name type requirement others) (present v slots) (None ∷ es) canonical distinct h = elim h [ ]
tagged_there rule (component name type requirement others) (present v slots) (Some octets ∷ es) canonical distinct h =
    let rest = tagged_there rule others slots es canonical (distinct_right (first_tags type) (tags_of_components others) distinct) h.2 in
    let order = order_tag_there rule type v octets canonical h.0 in
    let p : TaggedOctets = record { tag = order.0; octets = octets } in
    let among = order_tag_among rule type v octets order.0 canonical h.0 order.1 in (
      p ∷ rest.0,
      more_tagged rule name type requirement others v order.0 octets rest.0 canonical distinct h.0 order.1 rest.1,
      ap (λ x. octets ∷ x) rest.2,
      λ rise. AllPairs-cons (λ (q r : TaggedOctets). ComesBefore r.tag q.tag → ⊥) p rest.0
          (λ k d l back.
          let later = before_across (first_tags type) (tags_of_components others) order.0 (get_or rest.0 k d).tag rise among (rest.1.among k d l) in
          ComesBefore-irrefl order.0 (ComesBefore-trans order.0 (get_or rest.0 k d).tag order.0 later back))
          (rest.3 (rise_right (first_tags type) (tags_of_components others) rise)),
    )

-- components that are declared in the order of their tags, in that order
pub in_declared_order : (rule : Rule) (components : Components) (slots : Slots) (octets : List ℕ) → IsCanonical rule → AreDistinct (tags_of_components components) → AllPairs ComesBefore (tags_of_components components) → AreComponents rule components slots octets
    → AreComponentsByTag rule components slots octets
in_declared_order rule components slots octets canonical distinct rise h =
    let parts = tagged_there rule components slots h.encodings canonical distinct h.each in
    record {
      encodings = h.encodings;
      each = h.each;
      order = standing h.encodings;
      permutes = IsPermutation-refl (standing h.encodings);
      ascends = subst (AscendsByTag rule components) parts.2 (in_tag_order rule components parts.0 parts.0 parts.1 (IsPermutation-refl parts.0) (parts.3 rise));
      joined = h.joined;
    }

-- a tag before such tags
pub rise_before : (before tag : Tag) (tags : List Tag) → ComesBefore before tag → AllPairs ComesBefore (tag ∷ tags) → AllPairs ComesBefore (before ∷ tag ∷ tags)
rise_before before tag tags first h =
    AllPairs-cons ComesBefore before (tag ∷ tags)
    (All-cons (ComesBefore before) tag tags first (λ k d l. ComesBefore-trans before tag (get_or tags k d) first (h 0 (suc k) d (omega arith) (omega (arith, l)))))
    h

-- in the order of tags they are as many octets
pub by_tag_size : (rule : Rule) (components : Components) (slots : Slots) (n : ℕ) → IsCanonical rule → AreDistinct (tags_of_components components) → HasSize (AreComponents rule components slots) n → HasSize (AreComponentsByTag rule components slots) n
by_tag_size rule components slots n canonical distinct h = record {
  each = λ octets w. omega (arith, h.each (concat (standing w.encodings)) record { encodings = w.encodings; each = w.each; joined = refl }, length_permuted (standing w.encodings) w.order w.permutes, ap length w.joined);
  there = λ within.
      let some = h.there within in
      let parts = tagged_there rule components slots some.1.encodings canonical distinct some.1.each in
      let order = put_in_order (λ (p q : TaggedOctets). ComesBefore q.tag p.tag → ⊥) rises_total rises_chain parts.0 in
      let moved = IsPermutation-map (λ (p : TaggedOctets). p.octets) parts.0 order.0 order.1 in (
        concat (map (λ p. p.octets) order.0),
        record {
          encodings = some.1.encodings;
          each = some.1.each;
          order = map (λ p. p.octets) order.0;
          permutes = subst (λ (x : List (List ℕ)). IsPermutation x (map (λ (p : TaggedOctets). p.octets) order.0)) parts.2 moved;
          ascends = in_tag_order rule components parts.0 order.0 parts.1 order.1 order.2;
          joined = refl;
        },
      );
}

-- classes in their order, by their bits
bits_by_place : (c : Class) → class_bits c + 64 ≡ 64 * place_of c
bits_by_place Universal = refl
bits_by_place Application = refl
bits_by_place Context = refl
bits_by_place Private = refl

-- which of two tags comes first, where each is one number
pub before_by_number : (a b : Tag) → b.number < 2 ^ 32 → class_bits a.class * 2 ^ 56 + a.number < class_bits b.class * 2 ^ 56 + b.number → ComesBefore a b
before_by_number a b fit less = elim (ComesBefore-total a b) [
  | inl before ↦ before
  | inr other ↦ elim other [
    | inl same ↦ absurd (omega (arith, less, ap (λ (t : Tag). class_bits t.class * 2 ^ 56 + t.number) same))
    | inr after ↦ elim after [
      | inl higher ↦ absurd (omega (arith, less, fit, higher, bits_by_place a.class, bits_by_place b.class))
      | inr within ↦ absurd (omega (arith, less, ap class_bits within.0, within.1))
    ]
  ]
]
