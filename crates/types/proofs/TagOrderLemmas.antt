-- Lemmas on the order of a SET: the encodings of its components have one by tag, under CER and under DER.
use Rattle.std.proofs.Common.{◌≡◌, ◌≢◌, ◌⊎◌, inl, inr, ℕ, List, map, Option, subst, IsPermutation}
use Rattle.std.proofs.lemmas.List.Sorted.{IsPermutation-map, All-permutation}
use Rattle.octets.specs.declared.tag.Tag.{Tag}
use Rattle.octets.specs.Rule.{Rule, IsCanonical}
use Rattle.octets.specs.Tag.{ComesBefore}
use Rattle.types.specs.Shape.{Slots, Components}
use Rattle.types.specs.FirstTags.{tags_of_components, AreDistinct}
use Rattle.types.specs.Order.{IsOrderTagIn, AscendsByTag}
use Rattle.types.specs.Encoding.{standing, AreSlotEncodings}
use Rattle.types.proofs.OrderLemmas.{ComesBefore-trans, ComesBefore-total}
use Rattle.types.proofs.InOrderLemmas.{in_order_pairs, pairs_in_order, put_in_order}
use Rattle.types.proofs.SetOrderLemmas.{tagged, ascends_by_tag}

-- the order of a SET
pub record HasTagOrder (rule : Rule) (components : Components) (encodings : List (List ℕ)) : Type 0 where
  pub order : List (List ℕ)
  pub permutes : IsPermutation encodings order
  pub ascends : AscendsByTag rule components order

-- encodings, each with its order tag
abbrev TagsDiffer : (Tag × List ℕ) → (Tag × List ℕ) → Type 0
TagsDiffer a b = a.0 ≢ b.0

abbrev TagBefore : (Tag × List ℕ) → (Tag × List ℕ) → Type 0
TagBefore a b = ComesBefore a.0 b.0

before_or_after : (a b : Tag × List ℕ) → TagsDiffer a b → TagBefore a b ⊎ TagBefore b a
before_or_after a b differ = by_order (ComesBefore-total a.0 b.0)
  where
    by_order : ComesBefore a.0 b.0 ⊎ ((a.0 ≡ b.0) ⊎ ComesBefore b.0 a.0) → TagBefore a b ⊎ TagBefore b a
    by_order (inl before) = inl before
    by_order (inr (inl same)) = absurd (differ same)
    by_order (inr (inr after)) = inr after

pub tag_order : (rule : Rule) (components : Components) (slots : Slots) (encodings : List (Option (List ℕ))) → IsCanonical rule → AreDistinct (tags_of_components components) → AreSlotEncodings rule components slots encodings → HasTagOrder rule components (standing encodings)
tag_order rule components slots encodings canonical distinct h =
    let all = tagged rule components slots encodings canonical distinct h in
    let put = put_in_order TagsDiffer TagBefore before_or_after (λ a b c l m. ComesBefore-trans a.0 b.0 c.0 l m) all.parts (in_order_pairs TagsDiffer all.parts all.differ) in
    let tag_of = λ (part : Tag × List ℕ). part.0 in
    let octets_of = λ (part : Tag × List ℕ). part.1 in
    let carried = All-permutation (λ part. IsOrderTagIn rule components (octets_of part) (tag_of part)) all.parts put.order put.permutes all.carried in
    record {
      order = map octets_of put.order;
      permutes = subst (λ x. IsPermutation x (map octets_of put.order)) all.octets (IsPermutation-map octets_of all.parts put.order put.permutes);
      ascends = ascends_by_tag rule components tag_of octets_of put.order canonical distinct carried (pairs_in_order TagBefore put.order put.ascends);
    }
