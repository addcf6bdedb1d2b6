-- Lemmas on the least of tags.
use Rattle.std.proofs.Common.{◌≡◌, ◌<◌, ◌+◌, inl, inr, ℕ, List, [], ◌∷◌, ◌++◌, length, drop, get_or, refl, sym, subst, Contains}
use Rattle.octets.specs.declared.tag.Tag.{Tag}
use Rattle.octets.specs.Tag.{ComesBefore}
use Rattle.types.specs.declared.ty.Alternative.{Alternative}
use Rattle.types.specs.FirstTags.{first_tags, tags_of_alternatives}
use Rattle.types.specs.Order.{IsLeast}
use Rattle.types.specs.View.{ty_view, alternative_view, alternatives_view}
use Rattle.types.proofs.LimitLemmas.{alternative_type}
use Rattle.types.proofs.LoopLemmas.{left_at}
use Rattle.types.proofs.ListLemmas.{not_in_nil, contains_first, contains_later, contains_cases, contains_left, contains_right}
use Rattle.types.proofs.OrderLemmas.{ComesBefore-irrefl, ComesBefore-total, ComesBefore-trans}
use Rattle.types.proofs.TagLemmas.{contains_either}

pub alone_is_least : (t : Tag) → IsLeast (t ∷ []) t
alone_is_least t = (
  contains_first t t [] refl,
  λ other c before. elim (contains_cases t other [] c) [
    | inl same ↦ ComesBefore-irrefl t (subst (λ u. ComesBefore u t) (sym same) before)
    | inr later ↦ not_in_nil other later
  ],
)

-- the least of some tags stands for them
pub least_of_both : (xs ys : List Tag) (m r : Tag) → IsLeast xs m → IsLeast (m ∷ ys) r → IsLeast (xs ++ ys) r
least_of_both xs ys m r h g = (
  elim (contains_cases m r ys g.0) [
    | inl same ↦ contains_left xs ys r (subst (Contains xs) same h.0)
    | inr later ↦ contains_right xs ys r later
  ],
  λ other c before. elim (contains_either xs ys other c) [
    | inr right ↦ g.1 other (contains_later m other ys right) before
    | inl left ↦ elim (ComesBefore-total m r) [
      | inl less ↦ g.1 m (contains_first m m ys refl) less
      | inr rest ↦ elim rest [
        | inl same ↦ h.1 other left (subst (ComesBefore other) (sym same) before)
        | inr after ↦ h.1 other left (ComesBefore-trans other r m before after)
      ]
    ]
  ],
)

-- one that stands among them already may be left out
pub least_of_rest : (tags : List Tag) (tag r : Tag) → Contains tags tag → IsLeast (tag ∷ tags) r → IsLeast tags r
least_of_rest tags tag r there h = (
  elim (contains_cases tag r tags h.0) [ inl same ↦ subst (Contains tags) same there | inr later ↦ later ],
  λ other c. h.1 other (contains_later tag other tags c),
)

-- the tags of what is left of some alternatives, behind one more
abbrev pub tags_from : List Alternative → ℕ → Tag → List Tag
tags_from xs i tag = tag ∷ tags_of_alternatives (alternatives_view (drop i xs))

pub least_step : (xs : List Alternative) (i : ℕ) (a : Alternative) (m n r : Tag) → i < length xs → a ≡ get_or xs i a → IsLeast (m ∷ first_tags (ty_view a.ty)) n → IsLeast (tags_from xs (i + 1) n) r → IsLeast (tags_from xs i m) r
least_step xs i a m n r below at h g =
    let here : IsLeast (m ∷ first_tags (alternative_view a).type) n = subst (λ s. IsLeast (m ∷ first_tags s) n) (sym (alternative_type a)) h in
    subst (λ (l : List Alternative). IsLeast (m ∷ tags_of_alternatives (alternatives_view l)) r) (sym (left_at xs i a below at))
    (least_of_both (m ∷ first_tags (alternative_view a).type) (tags_of_alternatives (alternatives_view (drop (i + 1) xs))) n r here g)
