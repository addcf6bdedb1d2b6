-- Lemmas on lists in another order, of which one element is taken out.
use Rattle.std.proofs.Common.{◌≡◌, ◌+◌, ◌<◌, ℕ, Bool, true, false, List, [], ◌∷◌, ◌++◌, refl, sym, ap, ◌∙◌, subst, arith, cond, IsPermutation, sum_by}
use Rattle.std.specs.Str.{bytes_eq}
use Rattle.std.proofs.lemmas.Slice.Eq.{bytes_eq-Decides}
use Rattle.std.proofs.lemmas.List.Sorted.{IsPermutation-refl, IsPermutation-sym, IsPermutation-trans, IsPermutation-cons, IsPermutation-middle, sum_by-IsPermutation}
use Rattle.std.proofs.lemmas.List.Sums.{sum_by-append}

-- how often the octets are in the list
abbrev times : List ℕ → List (List ℕ) → ℕ
times x xs = sum_by (λ y. cond (bytes_eq x y) 1 0) xs

times_first : (x y : List ℕ) (xs : List (List ℕ)) → times x (y ∷ xs) ≡ cond (bytes_eq x y) 1 0 + times x xs
times_first x y xs = omega (arith, sum_by-append (λ z. cond (bytes_eq x z) 1 0) (y ∷ []) xs)

times_same : (x : List ℕ) (xs : List (List ℕ)) → times x (x ∷ xs) ≡ 1 + times x xs
times_same x xs = times_first x x xs ∙ ap (λ b. cond b 1 0 + times x xs) ((bytes_eq-Decides x x).1 refl)

-- a list that is parted at an element
record IsParted (x : List ℕ) (xs : List (List ℕ)) : Type 0 where
  before : List (List ℕ)
  after : List (List ℕ)
  is : xs ≡ before ++ (x ∷ after)

parted : (x : List ℕ) (xs : List (List ℕ)) → 0 < times x xs → IsParted x xs
parted x [] some = absurd (omega arith)
parted x (y ∷ xs) some = parted_at (bytes_eq x y) refl (λ later. parted x xs later)
  where
    parted_at : (b : Bool) → bytes_eq x y ≡ b → (0 < times x xs → IsParted x xs) → IsParted x (y ∷ xs)
    parted_at true e more = record { before = []; after = xs; is = ap (λ z. z ∷ xs) (sym ((bytes_eq-Decides x y).0 e)) }
    parted_at false e more =
        let none : times x (y ∷ xs) ≡ 0 + times x xs = times_first x y xs ∙ ap (λ b. cond b 1 0 + times x xs) e in
        let later = more (omega (arith, none)) in
        record { before = y ∷ later.before; after = later.after; is = ap (λ z. y ∷ z) later.is }

-- lists that have each element as often
as_often : (xs ys : List (List ℕ)) → ((x : List ℕ) → times x xs ≡ times x ys) → IsPermutation xs ys
as_often [] [] h = IsPermutation-refl []
as_often [] (y ∷ ys) h = absurd (omega (arith, h y, times_same y ys))
as_often (x ∷ xs) ys h =
    let split = parted x ys (omega (arith, h x, times_same x xs)) in
    let moved : IsPermutation ys (x ∷ (split.before ++ split.after)) = subst (λ l. IsPermutation l (x ∷ (split.before ++ split.after))) (sym split.is) (IsPermutation-middle split.before x split.after) in
    let others = as_often xs (split.before ++ split.after) (λ z. omega (arith, h z, times_first z x xs, times_first z x (split.before ++ split.after), sum_by-IsPermutation (λ y. cond (bytes_eq z y) 1 0) ys (x ∷ (split.before ++ split.after)) moved)) in
    IsPermutation-trans (x ∷ xs) (x ∷ (split.before ++ split.after)) ys (IsPermutation-cons x xs (split.before ++ split.after) others) (IsPermutation-sym ys (x ∷ (split.before ++ split.after)) moved)

-- of two lists in some order that begin alike the others are in some order
pub permutation_others : (x : List ℕ) (xs ys : List (List ℕ)) → IsPermutation (x ∷ xs) (x ∷ ys) → IsPermutation xs ys
permutation_others x xs ys h = as_often xs ys (λ z. omega (arith, times_first z x xs, times_first z x ys, sum_by-IsPermutation (λ y. cond (bytes_eq z y) 1 0) (x ∷ xs) (x ∷ ys) h))
