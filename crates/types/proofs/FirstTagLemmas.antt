-- Lemmas on the tags that the encodings of a type begin with: they are within the limit, and one is the least.
use Rattle.std.specs.List.{AllByRecursion}
use Rattle.std.proofs.Common.{◌≡◌, ◌+◌, inl, inr, ◌<◌, ◌≤◌, ℕ, zero, suc, List, [], ◌∷◌, ◌++◌, length, drop, get_or, refl, sym, ap, ◌∙◌, subst, arith, append-nil, Contains}
use Rattle.octets.specs.declared.tag.Tag.{Tag}
use Rattle.octets.specs.Tag.{ComesBefore}
use Rattle.types.specs.declared.ty.Alternative.{Alternative}
use Rattle.types.specs.Shape.{Shape, Alternatives, no_alternative, alternative}
use Rattle.types.specs.FirstTags.{first_tags, tags_of_alternatives}
use Rattle.types.specs.Order.{IsLeast}
use Rattle.types.specs.View.{ty_view, alternative_view, alternatives_view}
use Rattle.types.specs.WellFormed.{nodes_of, nodes_of_alternatives, IsNodeWithin, count_of_alternatives}
use Rattle.types.proofs.ListLemmas.{all_append, not_in_nil, contains_cases, contains_left, contains_right}
use Rattle.types.proofs.TagLemmas.{contains_either}
use Rattle.types.proofs.LimitLemmas.{alternative_type}
use Rattle.types.proofs.LoopLemmas.{left_at}
use Rattle.types.proofs.OrderLemmas.{ComesBefore-total, ComesBefore-trans}

one_within : (own tag : Tag) → own.number ≤ 268_435_455 → Contains (own ∷ []) tag → tag.number ≤ 268_435_455
one_within own tag within c = elim (contains_cases own tag [] c) [ inl same ↦ subst (λ (t : Tag). t.number ≤ 268_435_455) same within | inr later ↦ absurd (not_in_nil tag later) ]

mutual
  pub tag_within : (type : Shape) (tag : Tag) → AllByRecursion IsNodeWithin (nodes_of type) → Contains (first_tags type) tag → tag.number ≤ 268_435_455
  tag_within (Shape.simple own type) tag within c = one_within own tag within.0.0 c
  tag_within (Shape.string own type) tag within c = one_within own tag within.0.0 c
  tag_within (Shape.sequence own components) tag within c = one_within own tag within.0.0 c
  tag_within (Shape.set own components) tag within c = one_within own tag within.0.0 c
  tag_within (Shape.sequence_of own type) tag within c = one_within own tag within.0 c
  tag_within (Shape.set_of own type) tag within c = one_within own tag within.0 c
  tag_within (Shape.choice alternatives) tag within c = alternatives_within alternatives tag within.1 c
  tag_within (Shape.explicit own type) tag within c = one_within own tag within.0 c

  alternatives_within : (alternatives : Alternatives) (tag : Tag) → AllByRecursion IsNodeWithin (nodes_of_alternatives alternatives) → Contains (tags_of_alternatives alternatives) tag → tag.number ≤ 268_435_455
  alternatives_within no_alternative tag within c = absurd (not_in_nil tag c)
  alternatives_within (alternative name type others) tag within c =
      let both = all_append IsNodeWithin (nodes_of type) (nodes_of_alternatives others) within in
      elim (contains_either (first_tags type) (tags_of_alternatives others) tag c) [ inl here ↦ tag_within type tag both.0 here | inr later ↦ alternatives_within others tag both.1 later ]

-- of two least tags the one that comes first
least_before : (xs ys : List Tag) (a b : Tag) → IsLeast xs a → IsLeast ys b → ComesBefore a b → IsLeast (xs ++ ys) a
least_before xs ys a b h g before = (
  contains_left xs ys a h.0,
  λ other c less. elim (contains_either xs ys other c) [
    | inl left ↦ h.1 other left less
    | inr right ↦ g.1 other right (ComesBefore-trans other a b less before)
  ],
)

least_after : (xs ys : List Tag) (a b : Tag) → IsLeast xs a → IsLeast ys b → (ComesBefore a b → ⊥) → IsLeast (xs ++ ys) b
least_after xs ys a b h g not = (
  contains_right xs ys b g.0,
  λ other c less. elim (contains_either xs ys other c) [
    | inl left ↦ elim (ComesBefore-total a b) [
      | inl before ↦ not before
      | inr rest ↦ elim rest [ inl same ↦ h.1 other left (subst (ComesBefore other) (sym same) less) | inr after ↦ h.1 other left (ComesBefore-trans other b a less after) ]
    ]
    | inr right ↦ g.1 other right less
  ],
)

drop_one : (xs : List Alternative) (i : ℕ) (a : Alternative) → i < length xs → a ≡ get_or xs i a → drop i xs ≡ a ∷ drop (suc i) xs
drop_one xs i a l at = let next : i + 1 ≡ suc i = omega arith in left_at xs i a l at ∙ ap (λ n. a ∷ drop n xs) next

module _ (xs : List Alternative) where
  abbrev pub LeastFrom : ℕ → Tag → Type 0
  LeastFrom i tag = IsLeast (tags_of_alternatives (alternatives_view (drop i xs))) tag

  pub least_last : (i : ℕ) (a : Alternative) (tag : Tag) → i < length xs → length xs ≤ suc i → a ≡ get_or xs i a → IsLeast (first_tags (ty_view a.ty)) tag → LeastFrom i tag
  least_last i a tag l all at h =
      let none_left : drop (suc i) xs ≡ [] = beyond xs (suc i) all in
      let only : drop i xs ≡ a ∷ [] = drop_one xs i a l at ∙ ap (λ r. a ∷ r) none_left in
      let here : IsLeast (first_tags (alternative_view a).type) tag = subst (λ s. IsLeast (first_tags s) tag) (sym (alternative_type a)) h in
      subst (λ (as' : List Alternative). IsLeast (tags_of_alternatives (alternatives_view as')) tag) (sym only) (subst (λ ts. IsLeast ts tag) (sym (append-nil (first_tags (alternative_view a).type))) here)
    where
      beyond : (ys : List Alternative) (n : ℕ) → length ys ≤ n → drop n ys ≡ []
      beyond [] zero m = refl
      beyond [] (suc n) m = refl
      beyond (y ∷ ys) zero m = absurd (omega arith)
      beyond (y ∷ ys) (suc n) m = beyond ys n (omega arith)

  least_step : (i : ℕ) (a : Alternative) (tag : Tag) → i < length xs → a ≡ get_or xs i a → IsLeast (first_tags (alternative_view a).type ++ tags_of_alternatives (alternatives_view (drop (suc i) xs))) tag → LeastFrom i tag
  least_step i a tag l at h = subst (λ (as' : List Alternative). IsLeast (tags_of_alternatives (alternatives_view as')) tag) (sym (drop_one xs i a l at)) h

  pub least_sooner : (i j : ℕ) (a : Alternative) (tag least : Tag) → i < length xs → j ≡ suc i → a ≡ get_or xs i a → IsLeast (first_tags (ty_view a.ty)) tag → LeastFrom j least → ComesBefore tag least → LeastFrom i tag
  least_sooner i j a tag least l next at h g before =
      least_step i a tag l at (least_before _ _ tag least (subst (λ s. IsLeast (first_tags s) tag) (sym (alternative_type a)) h) (subst (λ k. LeastFrom k least) next g) before)

  pub least_stays : (i j : ℕ) (a : Alternative) (tag least : Tag) → i < length xs → j ≡ suc i → a ≡ get_or xs i a → IsLeast (first_tags (ty_view a.ty)) tag → LeastFrom j least → (ComesBefore tag least → ⊥) → LeastFrom i least
  least_stays i j a tag least l next at h g not =
      least_step i a least l at (least_after _ _ tag least (subst (λ s. IsLeast (first_tags s) tag) (sym (alternative_type a)) h) (subst (λ k. LeastFrom k least) next g) not)

pub alternative_within : (xs : List Alternative) (i : ℕ) (a : Alternative) → i < length xs → a ≡ get_or xs i a → AllByRecursion IsNodeWithin (nodes_of_alternatives (alternatives_view xs)) → AllByRecursion IsNodeWithin (nodes_of (ty_view a.ty))
alternative_within [] i a l at all = absurd (omega arith)
alternative_within (x ∷ xs) zero a l at all =
    let both = all_append IsNodeWithin (nodes_of (alternative_view x).type) (nodes_of_alternatives (alternatives_view xs)) all in
    subst (λ s. AllByRecursion IsNodeWithin (nodes_of s)) (alternative_type x ∙ ap (λ (y : Alternative). ty_view y.ty) (sym at)) both.0
alternative_within (x ∷ xs) (suc i) a l at all =
    let both = all_append IsNodeWithin (nodes_of (alternative_view x).type) (nodes_of_alternatives (alternatives_view xs)) all in
    alternative_within xs i a (omega arith) at both.1

pub as_many_alternatives : (xs : List Alternative) → count_of_alternatives (alternatives_view xs) ≡ length xs
as_many_alternatives [] = refl
as_many_alternatives (x ∷ xs) = ap suc (as_many_alternatives xs)
