-- Lemmas on two lists whose elements are related one by one, and on lists in another order.
use Rattle.std.specs.List.{AllZip}
use Rattle.std.proofs.Common.{◌≡◌, ◌<◌, ℕ, zero, suc, List, [], ◌∷◌, length, get_or, set, swap, refl, ap, arith, IsPermutation}
use Rattle.std.proofs.lemmas.List.Sorted.{IsPermutation-refl, IsPermutation-trans, IsPermutation-swap, IsPermutation-keeps}

pub zip_trans : {A B C : Type 0} (P : A → B → Type 0) (Q : B → C → Type 0) (R : A → C → Type 0) → ((a : A) (b : B) (c : C) → P a b → Q b c → R a c)
    → (xs : List A) (ys : List B) (zs : List C) → AllZip P xs ys → AllZip Q ys zs → AllZip R xs zs
zip_trans P Q R f [] [] [] h g = tt
zip_trans P Q R f [] [] (z ∷ zs) h g = elim g [ ]
zip_trans P Q R f [] (y ∷ ys) zs h g = elim h [ ]
zip_trans P Q R f (x ∷ xs) [] zs h g = elim h [ ]
zip_trans P Q R f (x ∷ xs) (y ∷ ys) [] h g = elim g [ ]
zip_trans P Q R f (x ∷ xs) (y ∷ ys) (z ∷ zs) h g = (f x y z h.0 g.0, zip_trans P Q R f xs ys zs h.1 g.1)

pub zip_flip : {A B : Type 0} (R : A → B → Type 0) (xs : List A) (ys : List B) → AllZip R xs ys → AllZip (λ y x. R x y) ys xs
zip_flip R [] [] h = tt
zip_flip R [] (y ∷ ys) h = elim h [ ]
zip_flip R (x ∷ xs) [] h = elim h [ ]
zip_flip R (x ∷ xs) (y ∷ ys) h = (h.0, zip_flip R xs ys h.1)

pub zip_map : {A B : Type 0} (P Q : A → B → Type 0) → ((a : A) (b : B) → P a b → Q a b) → (xs : List A) (ys : List B) → AllZip P xs ys → AllZip Q xs ys
zip_map P Q f [] [] h = tt
zip_map P Q f [] (y ∷ ys) h = elim h [ ]
zip_map P Q f (x ∷ xs) [] h = elim h [ ]
zip_map P Q f (x ∷ xs) (y ∷ ys) h = (f x y h.0, zip_map P Q f xs ys h.1)

-- related to the same third list
pub zip_join : {A B C : Type 0} (P : A → C → Type 0) (Q : B → C → Type 0) (R : A → B → Type 0) → ((a : A) (b : B) (c : C) → P a c → Q b c → R a b)
    → (xs : List A) (ys : List B) (zs : List C) → AllZip P xs zs → AllZip Q ys zs → AllZip R xs ys
zip_join P Q R f xs ys zs h g = zip_trans P (λ c b. Q b c) R (λ a c b p q. f a b c p q) xs zs ys h (zip_flip Q ys zs g)

module _ {A B : Type 0} (R : A → B → Type 0) where
  pub zip_length : (xs : List A) (ys : List B) → AllZip R xs ys → length xs ≡ length ys
  zip_length [] [] h = refl
  zip_length [] (y ∷ ys) h = elim h [ ]
  zip_length (x ∷ xs) [] h = elim h [ ]
  zip_length (x ∷ xs) (y ∷ ys) h = ap suc (zip_length xs ys h.1)

  zip_at : (xs : List A) (ys : List B) (i : ℕ) (a : A) (b : B) → AllZip R xs ys → i < length xs → R (get_or xs i a) (get_or ys i b)
  zip_at [] ys i a b h l = absurd (omega arith)
  zip_at (x ∷ xs) [] i a b h l = elim h [ ]
  zip_at (x ∷ xs) (y ∷ ys) zero a b h l = h.0
  zip_at (x ∷ xs) (y ∷ ys) (suc i) a b h l = zip_at xs ys i a b h.1 (omega arith)

  zip_set : (xs : List A) (ys : List B) (i : ℕ) (a : A) (b : B) → AllZip R xs ys → R a b → AllZip R (set xs i a) (set ys i b)
  zip_set [] [] i a b h r = tt
  zip_set [] (y ∷ ys) i a b h r = elim h [ ]
  zip_set (x ∷ xs) [] i a b h r = elim h [ ]
  zip_set (x ∷ xs) (y ∷ ys) zero a b h r = (r, h.1)
  zip_set (x ∷ xs) (y ∷ ys) (suc i) a b h r = (h.0, zip_set xs ys i a b h.1 r)

  zip_swap : (xs : List A) (ys : List B) (i j : ℕ) → i < length xs → j < length xs → AllZip R xs ys → AllZip R (swap xs i j) (swap ys i j)
  zip_swap [] ys i j m n h = absurd (omega arith)
  zip_swap (x ∷ xs) [] i j m n h = elim h [ ]
  zip_swap (x ∷ xs) (y ∷ ys) i j m n h =
      zip_set (set (x ∷ xs) i (get_or (x ∷ xs) j x)) (set (y ∷ ys) i (get_or (y ∷ ys) j y)) j (get_or (x ∷ xs) i x) (get_or (y ∷ ys) i y)
      (zip_set (x ∷ xs) (y ∷ ys) i (get_or (x ∷ xs) j x) (get_or (y ∷ ys) j y) h (zip_at (x ∷ xs) (y ∷ ys) j x y h n))
      (zip_at (x ∷ xs) (y ∷ ys) i x y h m)

  -- the left list follows the right one into any order
  pub zip_permutes : (xs : List A) (ys zs : List B) → AllZip R xs ys → IsPermutation ys zs → (us : List A) × IsPermutation xs us × AllZip R us zs
  zip_permutes xs ys zs h p =
      IsPermutation-keeps ys (λ l. (us : List A) × IsPermutation xs us × AllZip R us l)
      (xs, IsPermutation-refl xs, h)
      (λ l i j m n g.
      let s : length g.0 ≡ length l = zip_length g.0 l g.2 in
      (swap g.0 i j, IsPermutation-trans xs g.0 (swap g.0 i j) g.1 (IsPermutation-swap g.0 (swap g.0 i j) i j (omega (arith, s)) (omega (arith, s)) refl), zip_swap g.0 l i j (omega (arith, s)) (omega (arith, s)) g.2))
      zs p
