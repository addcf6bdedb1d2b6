-- Lemmas on values in order: two that are the same are equal.
use Rattle.std.specs.List.{AllByRecursion, AllZip}
use Rattle.std.proofs.Common.{◌≡◌, ◌≤◌, ◌⊎◌, inl, inr, ℕ, zero, suc, length, List, [], ◌∷◌, refl, sym, ap, ap₂, subst, arith, Contains, IsPermutation}
use Rattle.std.proofs.lemmas.List.Sorted.{Contains-permutation, length_permutation}
use Rattle.octets.specs.Rule.{der}
use Rattle.octets.proofs.RuleLemmas.{der_is_canonical}
use Rattle.types.specs.Shape.{Val, Slots, no_slot, absent, present, Items, no_item, item, listed, Shape, Components, no_component, component, Alternatives, no_alternative, alternative}
use Rattle.types.specs.Depth.{IsNested}
use Rattle.types.specs.WellFormed.{nodes_of, nodes_of_components, nodes_of_alternatives, levels_of}
use Rattle.types.specs.Order.{IsPaddedAtMost}
use Rattle.types.specs.Same.{IsSame, AreSameSlots, IsSameAlternative, AreSameInSomeOrder}
use Rattle.types.specs.Encoding.{IsEncoding}
use Rattle.types.proofs.BeginningLemmas.{all_zip}
use Rattle.types.proofs.BerLemmas.{encoding_by_ber}
use Rattle.types.proofs.DepthLemmas.{canonical_nested}
use Rattle.types.proofs.EncodingLemmas.{AreWell, well_within, well_left, well_right, value_unique}
use Rattle.types.proofs.ListLemmas.{not_in_nil, contains_cases, contains_first}
use Rattle.types.proofs.OneEncodingLemmas.{one_encoding}
use Rattle.types.proofs.OrderLemmas.{nested_tie}
use Rattle.types.proofs.SameLemmas.{encoding_moves, same_sym}
use Rattle.types.proofs.SortedLemmas.{sorted_unique}
use Rattle.types.proofs.ZipLemmas.{zip_trans, zip_flip, zip_join, zip_length, zip_permutes}
use Rattle.canon.specs.Ordered.{IsOrdered, AreOrderedSlots, IsOrderedAlternative, AreInOrder, AreAscending}
use Rattle.canon.specs.Laws.{EqualInOrderExactlyIfSame}
use Rattle.canon.proofs.SameValueLemmas.{same_trans}

listed-injective : (vs ws : Items) → listed vs ≡ listed ws → vs ≡ ws
listed-injective no_item no_item h = refl
listed-injective no_item (item w ws) h = cc
listed-injective (item v vs) no_item h = cc
listed-injective (item v vs) (item w ws) h =
    let first : v ≡ w = cc in
    let rest : listed vs ≡ listed ws = cc in
    ap₂ item first (listed-injective vs ws rest)

each_equal : (type : Shape) → ((v w : Val) → IsSame type v w → IsOrdered type v → IsOrdered type w → v ≡ w) → (vs ws : List Val) → AllZip (IsSame type) vs ws → AllByRecursion (IsOrdered type) vs → AllByRecursion (IsOrdered type) ws → vs ≡ ws
each_equal type f [] [] h p q = refl
each_equal type f [] (w ∷ ws) h p q = elim h [ ]
each_equal type f (v ∷ vs) [] h p q = elim h [ ]
each_equal type f (v ∷ vs) (w ∷ ws) h p q = ap₂ (λ x xs. x ∷ xs) (f v w h.0 p.0 q.0) (each_equal type f vs ws h.1 p.1 q.1)

zip_equal : {X : Type 0} (xs ys : List X) → AllZip (λ x y. x ≡ y) xs ys → xs ≡ ys
zip_equal [] [] h = refl
zip_equal [] (y ∷ ys) h = elim h [ ]
zip_equal (x ∷ xs) [] h = elim h [ ]
zip_equal (x ∷ xs) (y ∷ ys) h = ap₂ (λ z zs. z ∷ zs) h.0 (zip_equal xs ys h.1)

all_contained : {X : Type 0} (P : X → Type 0) (xs : List X) (x : X) → AllByRecursion P xs → Contains xs x → P x
all_contained P [] x h c = absurd (not_in_nil x c)
all_contained P (y ∷ ys) x h c = found (contains_cases y x ys c) (λ later. all_contained P ys x h.1 later)
  where
    found : (y ≡ x) ⊎ Contains ys x → (Contains ys x → P x) → P x
    found (inl same) more = subst P same h.0
    found (inr later) more = more later

-- one item has one order
one_moved : (vs order : List Val) → length vs ≤ 1 → IsPermutation vs order → vs ≡ order
one_moved [] [] few moved = refl
one_moved [] (x ∷ order) few moved = absurd (omega (arith, length_permutation [] (x ∷ order) moved))
one_moved (v ∷ []) [] few moved = absurd (omega (arith, length_permutation (v ∷ []) [] moved))
one_moved (v ∷ []) (x ∷ []) few moved = ap (λ y. y ∷ []) (only (contains_cases x v [] (Contains-permutation (v ∷ []) (x ∷ []) v moved (contains_first v v [] refl))))
  where
    only : (x ≡ v) ⊎ Contains [] v → v ≡ x
    only (inl same) = sym same
    only (inr later) = absurd (not_in_nil v later)
one_moved (v ∷ []) (x ∷ y ∷ order) few moved = absurd (omega (arith, length_permutation (v ∷ []) (x ∷ y ∷ order) moved))
one_moved (v ∷ w ∷ vs) order few moved = absurd (omega (arith, few))

few_pair : (type : Shape) (vs ws : List Val) → length vs ≤ 1 → AreSameInSomeOrder (IsSame type) vs ws → AllZip (IsSame type) vs ws
few_pair type vs ws few same = subst (λ xs. AllZip (IsSame type) xs ws) (sym (one_moved vs same.order few same.permutes)) same.each

-- items that ascend are related one by one
ascending_pair : (type : Shape) (vs ws : List Val) → AreWell (nodes_of type) → AreSameInSomeOrder (IsSame type) vs ws → AreAscending (IsEncoding der type) vs → AreAscending (IsEncoding der type) ws → AllZip (IsSame type) vs ws
ascending_pair type vs ws well same p q =
    let Encodes = IsEncoding der type in
    let moved = zip_permutes (λ c x. Encodes x c) p.encodings vs same.order (zip_flip Encodes vs p.encodings p.each) same.permutes in
    let others = zip_trans (λ y x. IsSame type x y) Encodes Encodes (λ y x c s f. encoding_moves der type x y c well.defaults s f) ws same.order moved.0 (zip_flip (IsSame type) same.order ws same.each) (zip_flip (λ c x. Encodes x c) moved.0 same.order moved.2) in
    let one : moved.0 ≡ q.encodings = zip_equal moved.0 q.encodings
    (zip_trans (λ c y. Encodes y c) Encodes (λ c d. c ≡ d) (λ c y d h g. one_encoding der der_is_canonical type y c d well.tags h g) moved.0 ws q.encodings (zip_flip Encodes ws moved.0 others) q.each) in
    let permuted : IsPermutation p.encodings q.encodings = subst (IsPermutation p.encodings) one moved.1 in
    let nested = all_zip Encodes (IsNested (suc (levels_of type))) (λ x c h. canonical_nested der type x c (levels_of type) der_is_canonical well.tags (omega arith) h) vs p.encodings p.each in
    let equal : p.encodings ≡ q.encodings = sorted_unique IsPaddedAtMost p.encodings q.encodings permuted p.ascends q.ascends
    (λ a b m n below above. nested_tie (suc (levels_of type)) (suc (levels_of type)) a b (all_contained (IsNested (suc (levels_of type))) p.encodings a nested m) (all_contained (IsNested (suc (levels_of type))) p.encodings b nested n) below above) in
    zip_join Encodes Encodes (IsSame type) (λ x y c h g. value_unique type x y c well (encoding_by_ber der type x c h) (encoding_by_ber der type y c g)) vs ws q.encodings (subst (AllZip Encodes vs) equal p.each) q.each

-- items in order are related one by one
items_pair : (type : Shape) (vs ws : List Val) → AreWell (nodes_of type) → AreSameInSomeOrder (IsSame type) vs ws → AreInOrder (IsEncoding der type) vs → AreInOrder (IsEncoding der type) ws → AllZip (IsSame type) vs ws
items_pair type vs ws well same (inl few) q = few_pair type vs ws few same
items_pair type vs ws well same (inr p) (inl few) = few_pair type vs ws (omega (arith, few, length_permutation vs same.order same.permutes, zip_length (IsSame type) same.order ws same.each)) same
items_pair type vs ws well same (inr p) (inr q) = ascending_pair type vs ws well same p q

mutual
  pub ordered_once : (type : Shape) (v w : Val) → AreWell (nodes_of type) → IsSame type v w → IsOrdered type v → IsOrdered type w → v ≡ w
  ordered_once (Shape.simple tag type) v w well same p q = same
  ordered_once (Shape.string tag type) v w well same p q = same
  ordered_once (Shape.sequence tag components) (Val.fields vs) (Val.fields ws) well same p q = ap Val.fields (slots_once components vs ws (well_within (Shape.sequence tag components) (nodes_of_components components) well) same p q)
  ordered_once (Shape.sequence tag components) (Val.fields vs) _ well same p q = elim same [ ]
  ordered_once (Shape.sequence tag components) _ w well same p q = elim same [ ]
  ordered_once (Shape.set tag components) (Val.fields vs) (Val.fields ws) well same p q = ap Val.fields (slots_once components vs ws (well_within (Shape.set tag components) (nodes_of_components components) well) same p q)
  ordered_once (Shape.set tag components) (Val.fields vs) _ well same p q = elim same [ ]
  ordered_once (Shape.set tag components) _ w well same p q = elim same [ ]
  ordered_once (Shape.sequence_of tag type) (Val.items vs) (Val.items ws) well same p q =
      let within = well_within (Shape.sequence_of tag type) (nodes_of type) well in
      ap Val.items (listed-injective vs ws (each_equal type (λ x y s f g. ordered_once type x y within s f g) (listed vs) (listed ws) same p q))
  ordered_once (Shape.sequence_of tag type) (Val.items vs) _ well same p q = elim same [ ]
  ordered_once (Shape.sequence_of tag type) _ w well same p q = elim same [ ]
  ordered_once (Shape.set_of tag type) (Val.items vs) (Val.items ws) well same p q =
      let within = well_within (Shape.set_of tag type) (nodes_of type) well in
      ap Val.items (listed-injective vs ws (each_equal type (λ x y s f g. ordered_once type x y within s f g) (listed vs) (listed ws) (items_pair type (listed vs) (listed ws) within same p.1 q.1) p.0 q.0))
  ordered_once (Shape.set_of tag type) (Val.items vs) _ well same p q = elim same [ ]
  ordered_once (Shape.set_of tag type) _ w well same p q = elim same [ ]
  ordered_once (Shape.choice alternatives) (Val.chosen i v) (Val.chosen j w) well same p q =
      let value = alternative_once alternatives i v w (well_within (Shape.choice alternatives) (nodes_of_alternatives alternatives) well) same.1 p (subst (λ k. IsOrderedAlternative alternatives k w) (sym same.0) q) in
      ap₂ Val.chosen same.0 value
  ordered_once (Shape.choice alternatives) (Val.chosen i v) _ well same p q = elim same [ ]
  ordered_once (Shape.choice alternatives) _ w well same p q = elim same [ ]
  ordered_once (Shape.explicit tag type) v w well same p q = ordered_once type v w (well_within (Shape.explicit tag type) (nodes_of type) well) same p q

  slots_once : (components : Components) (vs ws : Slots) → AreWell (nodes_of_components components) → AreSameSlots components vs ws → AreOrderedSlots components vs → AreOrderedSlots components ws → vs ≡ ws
  slots_once no_component no_slot no_slot well same p q = refl
  slots_once no_component no_slot _ well same p q = elim same [ ]
  slots_once no_component _ ws well same p q = elim same [ ]
  slots_once (component name type requirement others) no_slot ws well same p q = elim same [ ]
  slots_once (component name type requirement others) (absent vs) (absent ws) well same p q = ap absent (slots_once others vs ws (well_right (nodes_of type) (nodes_of_components others) well) same p q)
  slots_once (component name type requirement others) (absent vs) _ well same p q = elim same [ ]
  slots_once (component name type requirement others) (present v vs) (present w ws) well same p q =
      ap₂ present (ordered_once type v w (well_left (nodes_of type) (nodes_of_components others) well) same.0 p.0 q.0) (slots_once others vs ws (well_right (nodes_of type) (nodes_of_components others) well) same.1 p.1 q.1)
  slots_once (component name type requirement others) (present v vs) _ well same p q = elim same [ ]

  alternative_once : (alternatives : Alternatives) (which : ℕ) (v w : Val) → AreWell (nodes_of_alternatives alternatives) → IsSameAlternative alternatives which v w → IsOrderedAlternative alternatives which v → IsOrderedAlternative alternatives which w → v ≡ w
  alternative_once no_alternative which v w well same p q = elim same [ ]
  alternative_once (alternative name type others) zero v w well same p q = ordered_once type v w (well_left (nodes_of type) (nodes_of_alternatives others) well) same p q
  alternative_once (alternative name type others) (suc which) v w well same p q = alternative_once others which v w (well_right (nodes_of type) (nodes_of_alternatives others) well) same p q

pub equal_in_order : EqualInOrderExactlyIfSame
equal_in_order shape v w a b well h p g q = (
  λ equal. same_trans shape v b w (subst (IsSame shape v) equal h) (same_sym shape w b g),
  λ same. ordered_once shape a b (record { tags = well.tags; defaults = well.defaults }) (same_trans shape a v b (same_sym shape v a h) (same_trans shape v w b same g)) p q,
)
