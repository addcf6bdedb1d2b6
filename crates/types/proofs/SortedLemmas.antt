-- Lemmas on lists in order: two of the same elements, where those that tie are equal, are one list.
use Rattle.std.proofs.Common.{◌≡◌, ◌⊎◌, inl, inr, ◌+◌, ◌<◌, ℕ, suc, Bool, true, false, cond, List, [], ◌∷◌, get_or, refl, sym, ap, ap₂, ◌∙◌, subst, arith, Contains, AllPairs, IsPermutation, sum_by, bytes_eq}
use Rattle.std.proofs.lemmas.List.{get_or_default}
use Rattle.std.proofs.lemmas.List.Kept.{AllPairs-cons}
use Rattle.std.proofs.lemmas.List.Sorted.{sum_by-IsPermutation}
use Rattle.std.proofs.lemmas.List.Sums.{sum_by-cons}
use Rattle.std.proofs.lemmas.Slice.Eq.{bytes_eq-Decides}
use Rattle.types.proofs.ListLemmas.{contains_first, contains_later, contains_cases}

-- what every pair of a list has, the first has with each later element
pub AllPairs-first : {X : Type 0} (R : X → X → Type 0) (a b : X) (as' : List X) → AllPairs R (a ∷ as') → Contains as' b → R a b
AllPairs-first R a b as' h c = subst (R a) c.2 (h 0 (suc c.0) b (omega arith) (omega (arith, c.1)))

pub AllPairs-rest : {X : Type 0} (R : X → X → Type 0) (a : X) (as' : List X) → AllPairs R (a ∷ as') → AllPairs R as'
AllPairs-rest R a as' h = λ i j d less below. h (suc i) (suc j) d (omega arith) (omega arith)

pub AllPairs-from_first : {X : Type 0} (R : X → X → Type 0) (a : X) (as' : List X) → ((b : X) → Contains as' b → R a b) → AllPairs R as' → AllPairs R (a ∷ as')
AllPairs-from_first R a as' first h = AllPairs-cons R a as' (λ k d below. first (get_or as' k d) (k, below, sym (get_or_default as' k d (get_or as' k d) below))) h

-- how often octets stand in a list
count : List ℕ → List (List ℕ) → ℕ
count octets list = sum_by (λ x. cond (bytes_eq x octets) 1 0) list

count-cons : (octets first : List ℕ) (list : List (List ℕ)) → count octets (first ∷ list) ≡ cond (bytes_eq first octets) 1 0 + count octets list
unfolding count
count-cons octets first list = sum_by-cons (λ x. cond (bytes_eq x octets) 1 0) first list

count-here : (octets : List ℕ) (list : List (List ℕ)) → count octets (octets ∷ list) ≡ 1 + count octets list
count-here octets list = count-cons octets octets list ∙ ap (λ b. cond b 1 0 + count octets list) ((bytes_eq-Decides octets octets).1 refl)

count-nil : (octets : List ℕ) → count octets [] ≡ 0
unfolding count
count-nil octets = refl

count-permutation : (octets : List ℕ) (xs ys : List (List ℕ)) → IsPermutation xs ys → count octets xs ≡ count octets ys
unfolding count
count-permutation octets xs ys p = sym (sum_by-IsPermutation (λ x. cond (bytes_eq x octets) 1 0) xs ys p)

contains-counted : (octets : List ℕ) (list : List (List ℕ)) → 0 < count octets list → Contains list octets
contains-counted octets [] h = absurd (omega (arith, count-nil octets, h))
contains-counted octets (first ∷ list) h = found (bytes_eq first octets) refl (rw count-cons at h) (contains-counted octets list)
  where
    found : (same : Bool) → bytes_eq first octets ≡ same → 0 < cond (bytes_eq first octets) 1 0 + count octets list → (0 < count octets list → Contains list octets) → Contains (first ∷ list) octets
    found true e some later = contains_first first octets list ((bytes_eq-Decides first octets).0 e)
    found false e some later =
        let less : 0 < cond false 1 0 + count octets list = subst (λ b. 0 < cond b 1 0 + count octets list) e some in
        contains_later first octets list (later (omega (arith, less)))

abbrev hit : List ℕ → List ℕ → ℕ
hit a octets = cond (bytes_eq a octets) 1 0

-- two lists of the same counts, both in an order in which what ties is equal, are one
counted_unique : (R : List ℕ → List ℕ → Type 0) (xs ys : List (List ℕ)) → ((octets : List ℕ) → count octets xs ≡ count octets ys) → AllPairs R xs → AllPairs R ys → ((a b : List ℕ) → Contains xs a → Contains xs b → R a b → R b a → a ≡ b) → xs ≡ ys
counted_unique R [] [] same h g tie = refl
counted_unique R [] (y ∷ ys) same h g tie = absurd (omega (arith, same y, count-nil y, count-here y ys))
counted_unique R (x ∷ xs) [] same h g tie = absurd (omega (arith, same x, count-nil x, count-here x xs))
counted_unique R (x ∷ xs) (y ∷ ys) same h g tie =
    let x_in : Contains (y ∷ ys) x = contains-counted x (y ∷ ys) (omega (arith, same x, count-here x xs)) in
    let y_in : Contains (x ∷ xs) y = contains-counted y (x ∷ xs) (omega (arith, same y, count-here y ys)) in
    let first : x ≡ y = both (contains_cases y x ys x_in) (contains_cases x y xs y_in) in
    let others : (octets : List ℕ) → count octets xs ≡ count octets ys = λ octets.
    let whole : hit x octets + count octets xs ≡ hit y octets + count octets ys = sym (count-cons octets x xs) ∙ (same octets ∙ count-cons octets y ys) in
    cancelled (hit x octets) (hit y octets) (count octets xs) (count octets ys) (ap (λ w. hit w octets) first) whole in
    let tie_later : (a b : List ℕ) → Contains xs a → Contains xs b → R a b → R b a → a ≡ b = λ a b m n. tie a b (contains_later x a xs m) (contains_later x b xs n) in
    ap₂ (λ a as'. a ∷ as') first (counted_unique R xs ys others (AllPairs-rest R x xs h) (AllPairs-rest R y ys g) tie_later)
  where
    cancelled : (a b m n : ℕ) → a ≡ b → a + m ≡ b + n → m ≡ n
    cancelled a b m n e f = omega arith

    both : (y ≡ x) ⊎ Contains ys x → (x ≡ y) ⊎ Contains xs y → x ≡ y
    both (inl e) later = sym e
    both (inr m) (inl e) = e
    both (inr m) (inr n) = tie x y (contains_first x x xs refl) (contains_later x y xs n) (AllPairs-first R x y xs h n) (AllPairs-first R y x ys g m)

pub sorted_unique : (R : List ℕ → List ℕ → Type 0) (xs ys : List (List ℕ)) → IsPermutation xs ys → AllPairs R xs → AllPairs R ys → ((a b : List ℕ) → Contains xs a → Contains xs b → R a b → R b a → a ≡ b) → xs ≡ ys
sorted_unique R xs ys p h g tie = counted_unique R xs ys (λ octets. count-permutation octets xs ys p) h g tie
