-- Lemmas on lists in order: those that a sort made, and that each list has one in order.
use Rattle.std.proofs.Common.{◌≡◌, ◌⊎◌, inl, inr, ◌+◌, ◌<◌, ℕ, zero, suc, Bool, true, false, List, [], ◌∷◌, length, get_or, map, refl, sym, ap, subst, arith, All, AllPairs, Contains, IsPermutation}
use Rattle.std.specs.Prelude.{not, MatchBool, slice_index_or}
use Rattle.std.specs.List.{AllAdjacentBelow, IsAllAdjacentAnswer}
use Rattle.std.specs.Ordering.{nat_cmp, is_lt, ordering_then, MatchOrdering}
use Rattle.std.specs.declared.cmp.Ordering.{Ordering}
use Rattle.std.specs.declared.cmp.Ordering.TheVariants.{Less, Equal, Greater}
use Rattle.std.specs.Cmp.{ranked, IsStrictWeakOrder}
use Rattle.std.specs.Cmp.Lexicographic.{slice_cmp, nat_list_cmp_total}
use Rattle.std.specs.List.Sorted.{IsSortedBy}
use Rattle.std.specs.Fn.{Called, ComparesAs, ComputesOnPairs}
use Rattle.std.proofs.lemmas.Fn.{always_returns_same}
use Rattle.std.proofs.lemmas.List.{get_or-map, length-map}
use Rattle.std.proofs.lemmas.List.Elements.{All-nil, All-cons}
use Rattle.std.proofs.lemmas.List.Kept.{AllPairs-cons}
use Rattle.std.proofs.lemmas.List.Sorted.{ranks_by, sorted_far, IsPermutation-refl, IsPermutation-sym, IsPermutation-trans, IsPermutation-cons, IsPermutation-middle, Contains-permutation}
use denote.Ref.{Bor}
use denote.Param.Members.{Mut}
use Rattle.octets.specs.declared.tag.Tag.{Tag}
use Rattle.octets.specs.Tag.{ComesBefore}
use Rattle.octets.proofs.TagLemmas.{tag_order, tag_order-means, tag_order-total, tag_order-is, tags_are_ordered}
use Rattle.types.specs.Order.{IsPaddedAtMost, Ascends}
use Rattle.types.proofs.ListLemmas.{AllPairs-nil, not_in_nil, contains_cases}
use Rattle.types.proofs.SortedLemmas.{AllPairs-first, AllPairs-rest, AllPairs-from_first}
use Rattle.canon.specs.Span.{RisesByTag}

-- a list that is not greater is at most the other as padded octets
le_step : (x y : ℕ) (xs ys : List ℕ) (o r : Ordering) → o ≡ nat_cmp y x → MatchOrdering o (y < x) (y ≡ x) (x < y) → is_lt (ordering_then o r) ≡ false → (is_lt r ≡ false → IsPaddedAtMost xs ys) → IsPaddedAtMost (x ∷ xs) (y ∷ ys)
le_step x y xs ys Less r e m h k = cc
le_step x y xs ys Equal r e m h k = inr (sym m, k h)
le_step x y xs ys Greater r e m h k = inl m

le_from_cmp : (xs ys : List ℕ) → is_lt (slice_cmp nat_cmp ys xs) ≡ false → IsPaddedAtMost xs ys
le_from_cmp [] ys h = tt
le_from_cmp (x ∷ xs) [] h = cc
le_from_cmp (x ∷ xs) (y ∷ ys) h = le_step x y xs ys (nat_cmp y x) (slice_cmp nat_cmp ys xs) refl (ranked y x (nat_cmp y x) refl) h (le_from_cmp xs ys)

-- what holds of each pair of a list, by its places
module _ {X Y : Type 0} (f : X → Y) where
  pub all_at : (P : Y → Type 0) (xs : List X) → ((j : ℕ) (d : X) → j < length xs → P (f (get_or xs j d))) → All P (map f xs)
  all_at P [] h = All-nil P
  all_at P (x ∷ xs) h = All-cons P (f x) (map f xs) (h zero x (omega arith)) (all_at P xs (λ j d l. h (suc j) d (omega arith)))

  pub pairs_at : (R : Y → Y → Type 0) (xs : List X) → ((i j : ℕ) (d : X) → i < j → j < length xs → R (f (get_or xs i d)) (f (get_or xs j d))) → AllPairs R (map f xs)
  pairs_at R [] h = AllPairs-nil R
  pairs_at R (x ∷ xs) h =
      AllPairs-cons R (f x) (map f xs) (all_at (R (f x)) xs (λ j d l. h zero (suc j) d (omega arith) (omega arith))) (pairs_at R xs (λ i j d p q. h (suc i) (suc j) d (omega arith) (omega arith)))

is_false : (b : Bool) → true ≡ not b → b ≡ false
is_false true h = h
is_false false h = refl

at_true : (P Q : Type 0) (r : Bool) → r ≡ true → MatchBool r P Q → P
at_true P Q true is h = h
at_true P Q false is h = cc

-- what `is_sorted_by` ensures at true, where each call tells that the second is not less than the first
pub sorted_from_adjacent : {X F : Type 0} {g : Mut F (Bor X × (Bor X × Unit {0})) Bool} {s : F} (lt : X → X → Bool) (xs : List X) (r : Bool)
    → ((e : X → X → Bool) → ComputesOnPairs g e s → IsAllAdjacentAnswer (λ x y b. b ≡ e x y) xs r)
    → ((a : Bor X × (Bor X × Unit {0})) (b : Bool) (s' : F) → Called g s a b s' → (b ≡ not (lt a.1.0.now a.0.now)) × (s' ≡ s)) → r ≡ true → IsSortedBy lt xs
sorted_from_adjacent {g = g} {s = s} lt xs r told h is =
    let answer = told (λ x y. not (lt y x)) (always_returns_same g (λ a b. b ≡ not (lt a.1.0.now a.0.now)) s h) in
    let each : AllAdjacentBelow (λ x y. true ≡ not (lt y x)) xs (length xs) = at_true _ _ r is answer in
    λ k d low below. is_false (lt (slice_index_or xs (k + 1) d) (slice_index_or xs k d)) (each k d below)

module _ {X : Type 0} (f : X → List ℕ) where
  -- the test by which a sort puts the least first
  abbrev pub rises : X → X → Bool
  rises a b = is_lt (slice_cmp nat_cmp (f a) (f b))

  rises_order : IsStrictWeakOrder rises
  rises_order = ranks_by nat_list_cmp_total f

  -- where the order of what f gives is that of some octets
  pub ascends_by : (octets : X → List ℕ) (Good : X → Type 0) (xs : List X) → ((a b : X) → Good a → Good b → IsPaddedAtMost (f a) (f b) → IsPaddedAtMost (octets a) (octets b)) → All Good xs → IsSortedBy rises xs → Ascends (map octets xs)
  ascends_by octets Good xs decides good h =
      pairs_at octets IsPaddedAtMost xs (λ i j d p q.
      decides (get_or xs i d) (get_or xs j d) (good i d (omega arith)) (good j d q) (le_from_cmp (f (get_or xs i d)) (f (get_or xs j d)) (sorted_far rises rises_order xs h i j d (omega arith) q)))

  sorted_by_calls : {F : Type 0} {g : Mut F (Bor X × (Bor X × Unit {0})) Ordering} {s : F} (xs : List X)
      → ((lt : X → X → Bool) → IsStrictWeakOrder lt → ComparesAs g lt s → IsSortedBy lt xs)
      → ((a : Bor X × (Bor X × Unit {0})) (r : Ordering) (s' : F) → Called g s a r s' → (r ≡ slice_cmp nat_cmp (f a.0.now) (f a.1.0.now)) × (s' ≡ s)) → IsSortedBy rises xs
  sorted_by_calls {g = g} {s = s} xs up h = up rises rises_order (always_returns_same g (λ a r. is_lt r ≡ rises a.0.now a.1.0.now) s (λ a r s' k. (ap is_lt (h a r s' k).0, (h a r s' k).1)))

  -- what `sort_unstable_by` ensures, where each call compares what f gives of the two, whose order is that of some octets
  pub ascends_from_sort_by : {F : Type 0} {g : Mut F (Bor X × (Bor X × Unit {0})) Ordering} {s : F} (octets : X → List ℕ) (Good : X → Type 0) (xs : List X)
      → ((a b : X) → Good a → Good b → IsPaddedAtMost (f a) (f b) → IsPaddedAtMost (octets a) (octets b)) → All Good xs → ((lt : X → X → Bool) → IsStrictWeakOrder lt → ComparesAs g lt s → IsSortedBy lt xs)
      → ((a : Bor X × (Bor X × Unit {0})) (r : Ordering) (s' : F) → Called g s a r s' → (r ≡ slice_cmp nat_cmp (f a.0.now) (f a.1.0.now)) × (s' ≡ s)) → Ascends (map octets xs)
  ascends_from_sort_by octets Good xs decides good up h = ascends_by octets Good xs decides good (sorted_by_calls xs up h)

-- what holds of all that f gives
pub all_from_map : {X Y : Type 0} (P : Y → Type 0) (f : X → Y) (xs : List X) → All P (map f xs) → All (λ x. P (f x)) xs
all_from_map P f xs h = λ i d below. subst P (get_or-map f xs i d (f d) below) (h i (f d) (omega (arith, below, length-map xs f)))

not_before : (a b : Tag) (o : Ordering) → MatchOrdering o (ComesBefore a b) (a ≡ b) (ComesBefore b a) → is_lt o ≡ false → ComesBefore a b → ⊥
not_before a b Less h test before = cc
not_before a b Equal h test before = tags_are_ordered.not_itself b (subst (λ t. ComesBefore t b) h before)
not_before a b Greater h test before = tags_are_ordered.not_itself a (tags_are_ordered.chain a b a before h)

module _ {X : Type 0} (tag : X → Tag) where
  abbrev pub rises_by_tag : X → X → Bool
  rises_by_tag x y = is_lt (tag_order (tag x) (tag y))

  rises_by_tag_order : IsStrictWeakOrder rises_by_tag
  rises_by_tag_order = ranks_by tag_order-total tag

  pub rises_from_sorted : (xs : List X) → IsSortedBy rises_by_tag xs → RisesByTag (map tag xs)
  rises_from_sorted xs h =
      pairs_at tag (λ a b. ComesBefore b a → ⊥) xs (λ i j d p q.
      not_before (tag (get_or xs j d)) (tag (get_or xs i d)) (tag_order (tag (get_or xs j d)) (tag (get_or xs i d))) (tag_order-means (tag (get_or xs j d)) (tag (get_or xs i d)))
      (sorted_far rises_by_tag rises_by_tag_order xs h i j d (omega arith) q))

  -- what `sort_unstable_by` ensures, where it compares tags
  pub rises_from_sort : {F : Type 0} {g : Mut F (Bor X × (Bor X × Unit {0})) Ordering} {s : F} (xs : List X)
      → ((lt : X → X → Bool) → IsStrictWeakOrder lt → ComparesAs g lt s → IsSortedBy lt xs)
      → ((a : Bor X × (Bor X × Unit {0})) (r : Ordering) (s' : F) → Called g s a r s' → MatchOrdering r (ComesBefore (tag a.0.now) (tag a.1.0.now)) (tag a.0.now ≡ tag a.1.0.now) (ComesBefore (tag a.1.0.now) (tag a.0.now)) × (s' ≡ s))
      → RisesByTag (map tag xs)
  rises_from_sort {g = g} {s = s} xs up h =
      rises_from_sorted xs (up rises_by_tag rises_by_tag_order
      (always_returns_same g (λ a r. is_lt r ≡ rises_by_tag a.0.now a.1.0.now) s (λ a r s' k. let both = h a r s' k in (ap is_lt (tag_order-is (tag a.0.now) (tag a.1.0.now) r both.0), both.1))))

-- by an order of all elements, each list can be put in order
module _ {X : Type 0} (R : X → X → Type 0) (total : (a b : X) → R a b ⊎ R b a) (chain : (a b c : X) → R a b → R b c → R a c) where
  inserted : (x : X) (ys : List X) → AllPairs R ys → (zs : List X) × IsPermutation (x ∷ ys) zs × AllPairs R zs
  inserted x [] h = (x ∷ [], IsPermutation-refl (x ∷ []), AllPairs-from_first R x [] (λ b c. absurd (not_in_nil b c)) (AllPairs-nil R))
  inserted x (y ∷ ys) h = placed (total x y) (inserted x ys (AllPairs-rest R y ys h))
    where
      first : R x y → (b : X) → (y ≡ b) ⊎ Contains ys b → R x b
      first r b (inl same) = subst (R x) same r
      first r b (inr later) = chain x y b r (AllPairs-first R y b ys h later)

      second : R y x → (b : X) → (x ≡ b) ⊎ Contains ys b → R y b
      second r b (inl same) = subst (R y) same r
      second r b (inr later) = AllPairs-first R y b ys h later

      placed : R x y ⊎ R y x → ((zs : List X) × IsPermutation (x ∷ ys) zs × AllPairs R zs) → (zs : List X) × IsPermutation (x ∷ y ∷ ys) zs × AllPairs R zs
      placed (inl r) rest = (x ∷ y ∷ ys, IsPermutation-refl (x ∷ y ∷ ys), AllPairs-from_first R x (y ∷ ys) (λ b c. first r b (contains_cases y b ys c)) h)
      placed (inr r) rest = (
        y ∷ rest.0,
        IsPermutation-trans (x ∷ y ∷ ys) (y ∷ x ∷ ys) (y ∷ rest.0) (IsPermutation-middle (x ∷ []) y ys) (IsPermutation-cons y (x ∷ ys) rest.0 rest.1),
        AllPairs-from_first R y rest.0 (λ b c. second r b (contains_cases x b ys (Contains-permutation rest.0 (x ∷ ys) b (IsPermutation-sym (x ∷ ys) rest.0 rest.1) c))) rest.2,
      )

  pub put_in_order : (xs : List X) → (ys : List X) × IsPermutation xs ys × AllPairs R ys
  put_in_order [] = ([], IsPermutation-refl [], AllPairs-nil R)
  put_in_order (x ∷ xs) =
      let rest = put_in_order xs in
      let whole = inserted x rest.0 rest.2 in
      (whole.0, IsPermutation-trans (x ∷ xs) (x ∷ rest.0) whole.0 (IsPermutation-cons x xs rest.0 rest.1) whole.1, whole.2)
