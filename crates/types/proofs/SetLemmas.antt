-- Lemmas on the encodings that stand in a SET: two lists of them with the same elements.
use Rattle.std.proofs.Common.{◌≡◌, ◌⊎◌, ℕ, inl, inr, List, ◌∷◌, ◌++◌, Option, refl, sym, ◌∙◌, subst, Contains, IsPermutation}
use Rattle.std.proofs.lemmas.List.Sorted.{IsPermutation-sym, IsPermutation-trans, Contains-permutation}
use Rattle.octets.specs.Rule.{Rule}
use Rattle.types.specs.Shape.{Val, Slots, Shape, Components}
use Rattle.types.specs.FirstTags.{first_tags, tags_of_components, AreDistinct}
use Rattle.types.specs.Encoding.{IsEncoding, standing}
use Rattle.types.proofs.ListLemmas.{contains_first, contains_later, contains_cases}
use Rattle.types.proofs.BeginningLemmas.{encoding_begins}
use Rattle.types.proofs.SlotLemmas.{AreFilled, begin_apart, component_begins}

-- one that is not the first is among the others
others_of : (x y : List ℕ) (rest : List (List ℕ)) → Contains (x ∷ rest) y → (x ≡ y → ⊥) → Contains rest y
others_of x y rest c apart = others_of_cases (contains_cases x y rest c)
  where
    others_of_cases : (x ≡ y) ⊎ Contains rest y → Contains rest y
    others_of_cases (inl same) = absurd (apart same)
    others_of_cases (inr later) = later

-- one that is not among the others is the first
first_of : (x y : List ℕ) (rest : List (List ℕ)) → Contains (x ∷ rest) y → (Contains rest y → ⊥) → x ≡ y
first_of x y rest c apart = first_of_cases (contains_cases x y rest c)
  where
    first_of_cases : (x ≡ y) ⊎ Contains rest y → x ≡ y
    first_of_cases (inl same) = same
    first_of_cases (inr later) = absurd (apart later)

-- what either list has the other has too
pub record HaveSame (xs ys : List (List ℕ)) : Type 0 where
  pub to : (z : List ℕ) → Contains xs z → Contains ys z
  pub back : (z : List ℕ) → Contains ys z → Contains xs z

pub have_same : (xs ys order other : List (List ℕ)) → IsPermutation xs order → IsPermutation ys other → order ≡ other → HaveSame xs ys
have_same xs ys order other p q e =
    let moved : IsPermutation xs other = subst (IsPermutation xs) e p in
    let both = IsPermutation-trans xs other ys moved (IsPermutation-sym ys other q) in
    let back = IsPermutation-sym xs ys both in
    record { to = λ z c. Contains-permutation xs ys z both c; back = λ z c. Contains-permutation ys xs z back c }

-- the first ones are equal, and not among the others
have_same_others : (x y : List ℕ) (xs ys : List (List ℕ)) → x ≡ y → (Contains xs x → ⊥) → (Contains ys y → ⊥) → HaveSame (x ∷ xs) (y ∷ ys) → HaveSame xs ys
have_same_others x y xs ys e f g h = record {
  to = λ z c. others_of y z ys (h.to z (contains_later x z xs c)) (λ s. f (subst (Contains xs) (sym (e ∙ s)) c));
  back = λ z c. others_of x z xs (h.back z (contains_later y z ys c)) (λ s. g (subst (Contains ys) (sym (sym e ∙ s)) c));
}

-- an encoding of a component is none of the others
pub not_among_others : (rule : Rule) (type : Shape) (others : Components) (slots : Slots) (encodings : List (Option (List ℕ))) (value : Val) (octets : List ℕ)
    → AreDistinct (first_tags type ++ tags_of_components others) → IsEncoding rule type value octets → AreFilled rule others slots encodings → Contains (standing encodings) octets → ⊥
not_among_others rule type others slots encodings value octets distinct f h c =
    begin_apart (first_tags type) (tags_of_components others) octets distinct (encoding_begins rule type value octets f) (component_begins rule others slots encodings octets h c)

-- of two encodings of a component among the same ones
pub record IsSameFirst (x y : List ℕ) (xs ys : List (List ℕ)) : Type 0 where
  pub first : x ≡ y
  pub others : HaveSame xs ys

pub same_first : (rule : Rule) (type : Shape) (others : Components) (vs ws : Slots) (ds es : List (Option (List ℕ))) (v w : Val) (x y : List ℕ)
    → AreDistinct (first_tags type ++ tags_of_components others) → IsEncoding rule type v x → IsEncoding rule type w y → AreFilled rule others vs ds → AreFilled rule others ws es
    → HaveSame (x ∷ standing ds) (y ∷ standing es) → IsSameFirst x y (standing ds) (standing es)
same_first rule type others vs ws ds es v w x y distinct f g h k same =
    let left = λ (c : Contains (standing ds) x). not_among_others rule type others vs ds v x distinct f h c in
    let right = λ (c : Contains (standing es) y). not_among_others rule type others ws es w y distinct g k c in
    let here : Contains (y ∷ standing es) x = same.to x (contains_first x x (standing ds) refl) in
    let first : y ≡ x = first_of y x (standing es) here (λ c. not_among_others rule type others ws es v x distinct f k c) in
    record { first = sym first; others = have_same_others x y (standing ds) (standing es) (sym first) left right same }
