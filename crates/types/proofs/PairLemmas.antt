-- Lemmas on what holds of each element of a list and each later one: in a map, turned round and in another order.
use Rattle.std.proofs.Common.{◌≡◌, ◌≢◌, ◌⊎◌, inl, inr, ◌-◌, ◌<◌, ℕ, suc, List, [], ◌∷◌, length, get_or, map, refl, sym, ap, ◌∙◌, subst, subst₂, arith, set, All, AllPairs, IsPermutation, swap}
use Rattle.std.specs.Prelude.{reverse}
use Rattle.std.proofs.lemmas.List.{get_or-map, length-map, get_or-reverse, length-reverse, get_or-set_same, get_or-set_other, length-set}
use Rattle.std.proofs.lemmas.List.Edits.{swap_is, length-swap}
use Rattle.std.proofs.lemmas.List.Elements.{All-map}
use Rattle.std.proofs.lemmas.List.Kept.{AllPairs-cons}
use Rattle.std.proofs.lemmas.List.Sorted.{IsPermutation-keeps}
use Rattle.std.proofs.lemmas.Bool.{cases_eq}
use Rattle.types.proofs.ListLemmas.{AllPairs-nil}
use Rattle.types.proofs.SortedLemmas.{AllPairs-rest}

pub AllPairs-first_all : {X : Type 0} (R : X → X → Type 0) (a : X) (as' : List X) → AllPairs R (a ∷ as') → All (R a) as'
AllPairs-first_all R a as' h = λ k d below. h 0 (suc k) d (omega arith) (omega arith)

pub AllPairs-map : {X Y : Type 0} (R : Y → Y → Type 0) (f : X → Y) (xs : List X) → AllPairs (λ a b. R (f a) (f b)) xs → AllPairs R (map f xs)
AllPairs-map R f [] h = AllPairs-nil R
AllPairs-map R f (x ∷ xs) h =
    AllPairs-cons R (f x) (map f xs) (All-map (R (f x)) f xs (AllPairs-first_all (λ a b. R (f a) (f b)) x xs h)) (AllPairs-map R f xs (AllPairs-rest (λ a b. R (f a) (f b)) x xs h))

pub AllPairs-from_map : {X Y : Type 0} (R : Y → Y → Type 0) (f : X → Y) (xs : List X) → AllPairs R (map f xs) → AllPairs (λ a b. R (f a) (f b)) xs
AllPairs-from_map R f xs h = λ i j d less below.
    let size : length (map f xs) ≡ length xs = length-map xs f in
    subst₂ R (get_or-map f xs i d (f d) (omega arith)) (get_or-map f xs j d (f d) below) (h i j (f d) less (omega arith))

pub AllPairs-reverse : {X : Type 0} (R : X → X → Type 0) (xs : List X) → AllPairs (λ a b. R b a) xs → AllPairs R (reverse xs)
AllPairs-reverse R xs h = λ i j d less below.
    let size : length (reverse xs) ≡ length xs = length-reverse xs in
    let left : i < length xs = omega arith in
    let right : j < length xs = omega arith in
    subst₂ R (sym (get_or-reverse xs i d left)) (sym (get_or-reverse xs j d right)) (h (length xs - 1 - j) (length xs - 1 - i) d (omega arith) (omega arith))

-- where an element stood before two were exchanged
record WasAt (i j p m : ℕ) : Type 0 where
  first : p ≡ i → m ≡ j
  second : p ≡ j → m ≡ i
  other : p ≢ i → p ≢ j → m ≡ p

swapped : {X : Type 0} (xs : List X) (i j p : ℕ) (d : X) → i < length xs → j < length xs → get_or (swap xs i j) p d ≡ get_or (set (set xs i (get_or xs j d)) j (get_or xs i d)) p d
swapped xs i j p d left right = ap (λ l. get_or l p d) (sym (swap_is xs i j d left right))

was_at : {X : Type 0} (xs : List X) (i j p : ℕ) (d : X) → i < length xs → j < length xs → p < length xs → (m : ℕ) × (m < length xs) × (get_or (swap xs i j) p d ≡ get_or xs m d) × WasAt i j p m
was_at {X = X} xs i j p d left right below = by_place (cases_eq p i) (cases_eq p j)
  where
    once : List X
    once = set xs i (get_or xs j d)

    by_place : (p ≡ i) ⊎ (p ≡ i → ⊥) → (p ≡ j) ⊎ (p ≡ j → ⊥) → (m : ℕ) × (m < length xs) × (get_or (swap xs i j) p d ≡ get_or xs m d) × WasAt i j p m
    by_place first (inl e) =
        let size : j < length once = omega (arith, length-set xs i (get_or xs j d)) in
        let is : get_or (set once j (get_or xs i d)) p d ≡ get_or xs i d = subst (λ k. get_or (set once j (get_or xs i d)) k d ≡ get_or xs i d) (sym e) (get_or-set_same once j (get_or xs i d) d size) in
        (i, left, swapped xs i j p d left right ∙ is, record { first = λ s. omega arith; second = λ s. refl; other = λ s t. absurd (t e) })
    by_place (inl e) (inr n) =
        let is : get_or once p d ≡ get_or xs j d = subst (λ k. get_or once k d ≡ get_or xs j d) (sym e) (get_or-set_same xs i (get_or xs j d) d left) in
        (j, right, swapped xs i j p d left right ∙ (get_or-set_other once j p (get_or xs i d) d n ∙ is), record { first = λ s. refl; second = λ s. absurd (n s); other = λ s t. absurd (s e) })
    by_place (inr o) (inr n) =
        (p, below, swapped xs i j p d left right ∙ (get_or-set_other once j p (get_or xs i d) d n ∙ get_or-set_other xs i p (get_or xs j d) d o), record { first = λ s. absurd (o s); second = λ s. absurd (n s); other = λ s t. refl })

-- what does not depend on the order holds in every order
pub AllPairs-permutation : {X : Type 0} (R : X → X → Type 0) → ((a b : X) → R a b → R b a) → (xs ys : List X) → IsPermutation xs ys → AllPairs R xs → AllPairs R ys
AllPairs-permutation {X = X} R flip xs ys permutes h = IsPermutation-keeps xs (AllPairs R) h moved ys permutes
  where
    either : (l : List X) (m n : ℕ) (d : X) → AllPairs R l → (m < n) ⊎ (n < m) → m < length l → n < length l → R (get_or l m d) (get_or l n d)
    either l m n d all (inl less) f g = all m n d less g
    either l m n d all (inr less) f g = flip (get_or l n d) (get_or l m d) (all n m d less f)

    apart : (m n : ℕ) → (m ≡ n → ⊥) → (m < n) ⊎ (n < m)
    apart m n differ = grind arith

    moved : (l : List X) (i j : ℕ) → i < length l → j < length l → AllPairs R l → AllPairs R (swap l i j)
    moved l i j left right all = λ p q d less below.
        let size : length (swap l i j) ≡ length l = length-swap l i j in
        let was = was_at l i j p d left right (omega arith) in
        let were = was_at l i j q d left right (omega arith) in
        let before = was.3 in
        let after = were.3 in
        subst₂ R (sym was.2) (sym were.2) (either l was.0 were.0 d all (apart was.0 were.0 (differ i j p q was.0 were.0 less before after)) was.1 were.1)
      where
        differ : (i j p q m n : ℕ) → p < q → WasAt i j p m → WasAt i j q n → m ≡ n → ⊥
        differ i j p q m n less f g same = by_place (cases_eq p i) (cases_eq p j) (cases_eq q i) (cases_eq q j)
          where
            by_place : (p ≡ i) ⊎ (p ≡ i → ⊥) → (p ≡ j) ⊎ (p ≡ j → ⊥) → (q ≡ i) ⊎ (q ≡ i → ⊥) → (q ≡ j) ⊎ (q ≡ j → ⊥) → ⊥
            by_place (inl a) b (inl c) e = omega arith
            by_place (inl a) b (inr c) (inl e) = omega (arith, f.first a, g.second e)
            by_place (inl a) b (inr c) (inr e) = omega (arith, f.first a, g.other c e)
            by_place (inr a) (inl b) (inl c) e = omega (arith, f.second b, g.first c)
            by_place (inr a) (inl b) (inr c) (inl e) = omega arith
            by_place (inr a) (inl b) (inr c) (inr e) = omega (arith, f.second b, g.other c e)
            by_place (inr a) (inr b) (inl c) e = omega (arith, f.other a b, g.first c)
            by_place (inr a) (inr b) (inr c) (inl e) = omega (arith, f.other a b, g.second e)
            by_place (inr a) (inr b) (inr c) (inr e) = omega (arith, f.other a b, g.other c e)
