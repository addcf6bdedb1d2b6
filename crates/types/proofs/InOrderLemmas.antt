-- Lemmas on putting lists in order: each list has an ascending order.
use Rattle.std.proofs.Common.{◌⊎◌, inl, inr, ℕ, List, [], ◌∷◌, IsPermutation, AllPairs}
use Rattle.std.specs.List.{AllByRecursion}
use Rattle.std.proofs.lemmas.List.Elements.{All-from_recursion, recursion_from_All}
use Rattle.std.proofs.lemmas.List.Kept.{AllPairs-cons}
use Rattle.std.proofs.lemmas.List.Sorted.{IsPermutation-refl, IsPermutation-sym, IsPermutation-trans, IsPermutation-cons, IsPermutation-middle}
use Rattle.types.specs.Order.{IsPaddedAtMost, Ascends}
use Rattle.types.proofs.ListLemmas.{AllPairs-nil}
use Rattle.types.proofs.SortedLemmas.{AllPairs-rest}
use Rattle.types.proofs.PairLemmas.{AllPairs-first_all}
use Rattle.types.proofs.BeginningLemmas.{all_map, all_permutation}
use Rattle.types.proofs.OrderLemmas.{padded_total, padded_trans}

-- each element has R with each later one
abbrev pub InOrder : {X : Type 0} → (X → X → Type 0) → List X → Type 0
InOrder R [] = Unit {0}
InOrder R (x ∷ xs) = AllByRecursion (R x) xs × InOrder R xs

pub pairs_in_order : {X : Type 0} (R : X → X → Type 0) (xs : List X) → InOrder R xs → AllPairs R xs
pairs_in_order R [] h = AllPairs-nil R
pairs_in_order R (x ∷ xs) h = AllPairs-cons R x xs (All-from_recursion (R x) xs h.0) (pairs_in_order R xs h.1)

pub in_order_pairs : {X : Type 0} (R : X → X → Type 0) (xs : List X) → AllPairs R xs → InOrder R xs
in_order_pairs R [] h = tt
in_order_pairs R (x ∷ xs) h = (recursion_from_All (R x) xs (AllPairs-first_all R x xs h), in_order_pairs R xs (AllPairs-rest R x xs h))

-- the same elements in order
pub record IsPutInOrder {X : Type 0} (R : X → X → Type 0) (xs : List X) : Type 0 where
  pub order : List X
  pub permutes : IsPermutation xs order
  pub ascends : InOrder R order

module _ {X : Type 0} (Apart R : X → X → Type 0) (total : (a b : X) → Apart a b → R a b ⊎ R b a) (trans : (a b c : X) → R a b → R b c → R a c) where
  inserted : (x : X) (ys : List X) → AllByRecursion (Apart x) ys → InOrder R ys → IsPutInOrder R (x ∷ ys)
  inserted x [] apart h = record { order = x ∷ []; permutes = IsPermutation-refl (x ∷ []); ascends = (tt, tt) }
  inserted x (y ∷ ys) apart h = by_first (total x y apart.0) (inserted x ys apart.1 h.1)
    where
      by_first : R x y ⊎ R y x → IsPutInOrder R (x ∷ ys) → IsPutInOrder R (x ∷ y ∷ ys)
      by_first (inl less) rest =
          record { order = x ∷ y ∷ ys; permutes = IsPermutation-refl (x ∷ y ∷ ys); ascends = ((less, all_map (R y) (R x) (λ z k. trans x y z less k) ys h.0), h) }
      by_first (inr more) rest =
          let swapped = IsPermutation-sym (y ∷ x ∷ ys) (x ∷ y ∷ ys) (IsPermutation-middle (y ∷ []) x ys) in
          record {
            order = y ∷ rest.order;
            permutes = IsPermutation-trans (x ∷ y ∷ ys) (y ∷ x ∷ ys) (y ∷ rest.order) swapped (IsPermutation-cons y (x ∷ ys) rest.order rest.permutes);
            ascends = (all_permutation (R y) (x ∷ ys) rest.order rest.permutes (more, h.0), rest.ascends);
          }

  -- elements that are apart can be put in order
  pub put_in_order : (xs : List X) → InOrder Apart xs → IsPutInOrder R xs
  put_in_order [] apart = record { order = []; permutes = IsPermutation-refl []; ascends = tt }
  put_in_order (x ∷ xs) apart =
      let rest = put_in_order xs apart.1 in
      let whole = inserted x rest.order (all_permutation (Apart x) xs rest.order rest.permutes apart.0) rest.ascends in
      record { order = whole.order; permutes = IsPermutation-trans (x ∷ xs) (x ∷ rest.order) whole.order (IsPermutation-cons x xs rest.order rest.permutes) whole.permutes; ascends = whole.ascends }

always_apart : {X : Type 0} (xs : List X) → AllByRecursion (λ x. Unit {0}) xs
always_apart [] = tt
always_apart (x ∷ xs) = (tt, always_apart xs)

always_in_order : {X : Type 0} (xs : List X) → InOrder (λ x y. Unit {0}) xs
always_in_order [] = tt
always_in_order (x ∷ xs) = (always_apart xs, always_in_order xs)

-- the order of a SET OF
pub record HasAscendingOrder (encodings : List (List ℕ)) : Type 0 where
  pub order : List (List ℕ)
  pub permutes : IsPermutation encodings order
  pub ascends : Ascends order

pub ascending_order : (encodings : List (List ℕ)) → HasAscendingOrder encodings
ascending_order encodings =
    let put = put_in_order (λ a b. Unit {0}) IsPaddedAtMost (λ a b apart. padded_total a b) padded_trans encodings (always_in_order encodings) in
    record { order = put.order; permutes = put.permutes; ascends = pairs_in_order IsPaddedAtMost put.order put.ascends }
