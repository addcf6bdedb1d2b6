-- Lemmas on the order of two lists: the first place where they differ decides.
use Rattle.std.proofs.Common.{◌≡◌, ◌≢◌, ℕ, ◌<◌, ◌+◌, List, [], ◌∷◌, false, refl, length, drop, suc, add-one, arith, slice_index_or, nat_lt}
use Rattle.std.specs.Ordering.{nat_cmp, is_lt}
use Rattle.std.specs.Cmp.Lexicographic.{slice_cmp}
use Rattle.std.proofs.Math.Seq.{drop-cons}
use Rattle.std.proofs.lemmas.Bool.Decides.{nat_tests}

apart_first : (x y : ℕ) (xs ys : List ℕ) → (x ≢ y) → nat_lt x y ≡ is_lt (slice_cmp nat_cmp (x ∷ xs) (y ∷ ys))
apart_first x y xs ys apart = grind (arith, nat_tests)

alike_first : (x y : ℕ) (xs ys : List ℕ) → x ≡ y → slice_cmp nat_cmp (x ∷ xs) (y ∷ ys) ≡ slice_cmp nat_cmp xs ys
alike_first x y xs ys alike = grind (arith, nat_tests)

-- where they differ, what stands there decides
pub apart_at : (a b : List ℕ) (i : ℕ) → i < length a → i < length b → (slice_index_or a i 0 ≢ slice_index_or b i 0) → nat_lt (slice_index_or a i 0) (slice_index_or b i 0) ≡ is_lt (slice_cmp nat_cmp (drop i a) (drop i b))
apart_at a b i here there apart = rw (drop-cons a i 0, drop-cons b i 0) (apart_first _ _ (drop (suc i) a) (drop (suc i) b) apart)

-- where they do not, what is behind decides
pub alike_at : (a b : List ℕ) (i : ℕ) → i < length a → i < length b → slice_index_or a i 0 ≡ slice_index_or b i 0 → slice_cmp nat_cmp (drop i a) (drop i b) ≡ slice_cmp nat_cmp (drop (i + 1) a) (drop (i + 1) b)
alike_at a b i here there alike = rw (add-one, drop-cons a i 0, drop-cons b i 0) (alike_first _ _ (drop (suc i) a) (drop (suc i) b) alike)

-- nothing comes before no octets
pub none_before_none : (a b : List ℕ) → length b ≡ 0 → false ≡ is_lt (slice_cmp nat_cmp a b)
none_before_none [] [] none = refl
none_before_none (x ∷ xs) [] none = refl
none_before_none a (y ∷ ys) none = absurd (omega (arith, none))
