-- Lemmas on what a list contains and on lists whose elements differ.
use Rattle.std.specs.List.{AllByRecursion}
use Rattle.std.proofs.Common.{◌≡◌, ◌≢◌, ◌⊎◌, List, [], ◌∷◌, ◌++◌, inl, inr, sym, subst, ◌∙◌, arith, zero, suc, Contains, AllPairs}
use Rattle.std.proofs.lemmas.List.{get_or_default}
use Rattle.std.proofs.lemmas.List.Kept.{AllPairs-cons}

pub not_in_nil : {X : Type 0} (x : X) → Contains {X = X} [] x → ⊥
not_in_nil x h = absurd (omega (arith, h.1))

pub contains_first : {X : Type 0} (a x : X) (as' : List X) → a ≡ x → Contains (a ∷ as') x
contains_first a x as' h = (0, omega arith, h)

pub contains_later : {X : Type 0} (a x : X) (as' : List X) → Contains as' x → Contains (a ∷ as') x
contains_later a x as' h = (suc h.0, omega (arith, h.1), h.2)

pub contains_cases : {X : Type 0} (a x : X) (as' : List X) → Contains (a ∷ as') x → (a ≡ x) ⊎ Contains as' x
contains_cases a x as' (zero, below, is) = inl is
contains_cases a x as' (suc k, below, is) = inr (k, omega arith, is)

pub AllPairs-nil : {X : Type 0} (R : X → X → Type 0) → AllPairs R []
AllPairs-nil R = λ i j d less below. absurd (omega arith)

-- the first differs from all others
pub first_differs : {X : Type 0} (a : X) (as' : List X) → AllPairs (λ x y. x ≢ y) (a ∷ as') → Contains as' a → ⊥
first_differs a as' h c = h 0 (suc c.0) a (omega arith) (omega (arith, c.1)) (sym c.2)

pub others_differ : {X : Type 0} (a : X) (as' : List X) → AllPairs (λ x y. x ≢ y) (a ∷ as') → AllPairs (λ x y. x ≢ y) as'
others_differ a as' h = λ i j d less below. h (suc i) (suc j) d (omega arith) (omega arith)

pub all_differ-cons : {X : Type 0} (a : X) (as' : List X) → (Contains as' a → ⊥) → AllPairs (λ x y. x ≢ y) as' → AllPairs (λ x y. x ≢ y) (a ∷ as')
all_differ-cons a as' none h =
    AllPairs-cons (λ x y. x ≢ y) a as' (λ k d below same. none (k, below, sym (same ∙ get_or_default as' k d a below))) h

pub contains_left : {X : Type 0} (as' bs : List X) (x : X) → Contains as' x → Contains (as' ++ bs) x
contains_left [] bs x h = absurd (not_in_nil x h)
contains_left (a ∷ as') bs x h = contains_left_of (contains_cases a x as' h) (λ later. contains_left as' bs x later)
  where
    contains_left_of : (a ≡ x) ⊎ Contains as' x → (Contains as' x → Contains (as' ++ bs) x) → Contains (a ∷ (as' ++ bs)) x
    contains_left_of (inl same) more = contains_first a x (as' ++ bs) same
    contains_left_of (inr later) more = contains_later a x (as' ++ bs) (more later)

pub contains_right : {X : Type 0} (as' bs : List X) (x : X) → Contains bs x → Contains (as' ++ bs) x
contains_right [] bs x h = h
contains_right (a ∷ as') bs x h = contains_later a x (as' ++ bs) (contains_right as' bs x h)

-- elements of two lists that are distinct together are apart
pub distinct_apart : {X : Type 0} (as' bs : List X) → AllPairs (λ x y. x ≢ y) (as' ++ bs) → (x : X) → Contains as' x → Contains bs x → ⊥
distinct_apart [] bs h x l r = not_in_nil x l
distinct_apart (a ∷ as') bs h x l r = apart_of (contains_cases a x as' l) (λ later. distinct_apart as' bs (others_differ a (as' ++ bs) h) x later r)
  where
    apart_of : (a ≡ x) ⊎ Contains as' x → (Contains as' x → ⊥) → ⊥
    apart_of (inl same) more = first_differs a (as' ++ bs) h (contains_right as' bs a (subst (Contains bs) (sym same) r))
    apart_of (inr later) more = more later

pub distinct_left : {X : Type 0} (as' bs : List X) → AllPairs (λ x y. x ≢ y) (as' ++ bs) → AllPairs (λ x y. x ≢ y) as'
distinct_left [] bs h = λ i j d less within. absurd (omega (arith, within))
distinct_left (a ∷ as') bs h =
    all_differ-cons a as' (λ later. first_differs a (as' ++ bs) h (contains_left as' bs a later)) (distinct_left as' bs (others_differ a (as' ++ bs) h))

pub distinct_right : {X : Type 0} (as' bs : List X) → AllPairs (λ x y. x ≢ y) (as' ++ bs) → AllPairs (λ x y. x ≢ y) bs
distinct_right [] bs h = h
distinct_right (a ∷ as') bs h = distinct_right as' bs (others_differ a (as' ++ bs) h)

pub all_append : {X : Type 0} (P : X → Type 0) (as' bs : List X) → AllByRecursion P (as' ++ bs) → AllByRecursion P as' × AllByRecursion P bs
all_append P [] bs h = (tt, h)
all_append P (a ∷ as') bs h = let rest = all_append P as' bs h.1 in ((h.0, rest.0), rest.1)
