-- Lemmas on lists that a sort has put in the order of a SET OF.
use Rattle.std.proofs.Common.{◌≡◌, inl, inr, ◌<◌, ℕ, Bool, false, List, [], ◌∷◌, get_or, map, refl, sym, ap, arith}
use Rattle.std.specs.Prelude.{reverse}
use Rattle.std.specs.Ordering.{nat_cmp, is_lt, ordering_then, MatchOrdering}
use Rattle.std.specs.declared.cmp.Ordering.{Ordering}
use Rattle.std.specs.declared.cmp.Ordering.TheVariants.{Less, Equal, Greater}
use Rattle.std.specs.Cmp.{ranked, IsStrictWeakOrder}
use Rattle.std.specs.Cmp.Lexicographic.{slice_cmp, nat_list_cmp_total}
use Rattle.std.specs.Fn.{Called, ComparesAs}
use Rattle.std.specs.List.Sorted.{IsSortedBy}
use Rattle.std.proofs.lemmas.Fn.{always_returns_same}
use Rattle.std.proofs.lemmas.List.Sorted.{ranks_by, IsStrictWeakOrder-flip, sorted_far}
use denote.Param.Members.{Mut}
use denote.Ref.{Bor}
use Rattle.types.specs.Order.{IsPaddedAtMost, Ascends}
use Rattle.types.proofs.PairLemmas.{AllPairs-map, AllPairs-reverse}

padded_step : (x y : ℕ) (xs ys : List ℕ) (first rest : Ordering) → MatchOrdering first (y < x) (y ≡ x) (x < y) → is_lt (ordering_then first rest) ≡ false → (is_lt rest ≡ false → IsPaddedAtMost xs ys) → IsPaddedAtMost (x ∷ xs) (y ∷ ys)
padded_step x y xs ys Less rest m h k = cc
padded_step x y xs ys Equal rest m h k = inr (sym m, k h)
padded_step x y xs ys Greater rest m h k = inl m

-- octets that are not greater as a slice, without padding, are at most the others with it
pub padded_from_cmp : (xs ys : List ℕ) → is_lt (slice_cmp nat_cmp ys xs) ≡ false → IsPaddedAtMost xs ys
padded_from_cmp [] ys h = tt
padded_from_cmp (x ∷ xs) [] h = cc
padded_from_cmp (x ∷ xs) (y ∷ ys) h = padded_step x y xs ys (nat_cmp y x) (slice_cmp nat_cmp ys xs) (ranked y x (nat_cmp y x) refl) h (padded_from_cmp xs ys)

module _ {X : Type 0} (octets : X → List ℕ) where
  -- the test by which a sort puts the least first, and that by which it puts the greatest first
  abbrev pub is_less : X → X → Bool
  is_less a b = is_lt (slice_cmp nat_cmp (octets a) (octets b))

  abbrev pub is_greater : X → X → Bool
  is_greater a b = is_less b a

  pub is_less-order : IsStrictWeakOrder is_less
  is_less-order = ranks_by nat_list_cmp_total octets

  pub is_greater-order : IsStrictWeakOrder is_greater
  is_greater-order = IsStrictWeakOrder-flip is_less is_less-order

  pub ascends-from_sorted : (xs : List X) → IsSortedBy is_less xs → Ascends (map octets xs)
  ascends-from_sorted xs h =
      AllPairs-map IsPaddedAtMost octets xs (λ i j d less below. padded_from_cmp (octets (get_or xs i d)) (octets (get_or xs j d)) (sorted_far is_less is_less-order xs h i j d (omega arith) below))

  pub ascends-from_sorted_back : (xs : List X) → IsSortedBy is_greater xs → Ascends (reverse (map octets xs))
  ascends-from_sorted_back xs h =
      AllPairs-reverse IsPaddedAtMost (map octets xs)
      (AllPairs-map (λ a b. IsPaddedAtMost b a) octets xs (λ i j d less below. padded_from_cmp (octets (get_or xs j d)) (octets (get_or xs i d)) (sorted_far is_greater is_greater-order xs h i j d (omega arith) below)))

  -- after `sort_by` or `sort_unstable_by`, from its clause `sorted`, where each call compares the octets of the first with those of the second
  pub ascends-from_sort_by : {F : Type 0} {g : Mut F (Bor X × (Bor X × Unit {0})) Ordering} {f : F} (xs : List X)
      → ((lt : X → X → Bool) → IsStrictWeakOrder lt → ComparesAs g lt f → IsSortedBy lt xs)
      → ((a : Bor X × (Bor X × Unit {0})) (r : Ordering) (f' : F) → Called g f a r f' → (r ≡ slice_cmp nat_cmp (octets a.0.now) (octets a.1.0.now)) × (f' ≡ f)) → Ascends (map octets xs)
  ascends-from_sort_by {g = g} {f = f} xs sorted h =
      ascends-from_sorted xs (sorted is_less is_less-order (always_returns_same g (λ a r. is_lt r ≡ is_less a.0.now a.1.0.now) f (λ a r f' k. (ap is_lt (h a r f' k).0, (h a r f' k).1))))

  -- and where each call compares those of the second with those of the first
  pub ascends-from_sort_by_back : {F : Type 0} {g : Mut F (Bor X × (Bor X × Unit {0})) Ordering} {f : F} (xs : List X)
      → ((lt : X → X → Bool) → IsStrictWeakOrder lt → ComparesAs g lt f → IsSortedBy lt xs)
      → ((a : Bor X × (Bor X × Unit {0})) (r : Ordering) (f' : F) → Called g f a r f' → (r ≡ slice_cmp nat_cmp (octets a.1.0.now) (octets a.0.now)) × (f' ≡ f)) → Ascends (reverse (map octets xs))
  ascends-from_sort_by_back {g = g} {f = f} xs sorted h =
      ascends-from_sorted_back xs (sorted is_greater is_greater-order (always_returns_same g (λ a r. is_lt r ≡ is_greater a.0.now a.1.0.now) f (λ a r f' k. (ap is_lt (h a r f' k).0, (h a r f' k).1))))
