-- Lemmas on the tag by which an encoding is ordered.
use Rattle.std.proofs.Common.{◌≡◌, ◌⊎◌, inl, inr, ◌≤◌, ℕ, List, [], ◌∷◌, Contains, refl, sym, subst}
use Rattle.octets.specs.declared.canonical.Canonical.{Canonical}
use Rattle.octets.specs.declared.canonical.Canonical.TheVariants.{Cer, Der}
use Rattle.octets.specs.declared.identifier.Head.{Head}
use Rattle.octets.specs.declared.identifier.Head.TheVariants.{More, Bad}
use Rattle.octets.specs.declared.tag.Tag.{Tag}
use Rattle.octets.specs.Identifier.{AnswersIdentifier, IsSomeIdentifier}
use Rattle.octets.specs.Rule.{der, rule_of}
use Rattle.octets.specs.Tag.{ComesBefore}
use Rattle.octets.proofs.FrontLemmas.{HasFront-from_parts}
use Rattle.types.specs.Shape.{Val, Shape}
use Rattle.types.specs.FirstTags.{first_tags}
use Rattle.types.specs.Order.{BeginsWith, IsLeast, IsOrderTag}
use Rattle.types.specs.Encoding.{IsEncoding}
use Rattle.types.proofs.BeginningLemmas.{encoding_begins}
use Rattle.types.proofs.FirstTagLemmas.{tag_within}
use Rattle.types.proofs.ListLemmas.{not_in_nil, contains_first, contains_cases}
use Rattle.types.proofs.OrderLemmas.{ComesBefore-irrefl}
use Rattle.canon.specs.Node.{HasGoodNodes}

-- no identifier stands at the front
pub no_identifier : (octets : List ℕ) (h : Head) → (h ≡ More) ⊎ (h ≡ Bad) → AnswersIdentifier octets h → (t : Tag) → t.number ≤ 268_435_455 → BeginsWith t octets → ⊥
no_identifier octets h (inl is) told t within b =
    let answer = subst (AnswersIdentifier octets) is told in
    answer.0 (HasFront-from_parts IsSomeIdentifier b.identifier b.rest octets b.joined record { tag = t; constructed = b.constructed; within = within; identifier = b.tagged })
no_identifier octets h (inr is) told t within b =
    let answer = subst (AnswersIdentifier octets) is told in
    answer.0 (HasFront-from_parts IsSomeIdentifier b.identifier b.rest octets b.joined record { tag = t; constructed = b.constructed; within = within; identifier = b.tagged })

pub order_tag_at_front : (shape : Shape) (v : Val) (octets : List ℕ) (tag : Tag) → HasGoodNodes shape → ((t : Tag) → t.number ≤ 268_435_455 → BeginsWith t octets → BeginsWith tag octets) → IsEncoding der shape v octets → BeginsWith tag octets
order_tag_at_front shape v octets tag good told h =
    let begins = encoding_begins der shape v octets h in
    told begins.0 (tag_within shape begins.0 good.within begins.1) begins.2

-- a type with a tag of its own
pub own_order_tag : (rule : Canonical) (shape : Shape) (v : Val) (octets : List ℕ) (tag : Tag) → first_tags shape ≡ tag ∷ [] → IsEncoding (rule_of rule) shape v octets → IsOrderTag (rule_of rule) shape octets tag
own_order_tag Cer shape v octets tag one h =
    subst (λ tags. IsLeast tags tag) (sym one) (
      contains_first tag tag [] refl,
      λ other c before. elim (contains_cases tag other [] c) [
        | inl same ↦ ComesBefore-irrefl tag (subst (λ t. ComesBefore t tag) (sym same) before)
        | inr later ↦ absurd (not_in_nil other later)
      ],
    )
own_order_tag Der shape v octets tag one h =
    let begins = encoding_begins der shape v octets h in
    elim (contains_cases tag begins.0 [] (subst (λ tags. Contains tags begins.0) one begins.1)) [
      | inl same ↦ subst (λ t. BeginsWith t octets) (sym same) begins.2
      | inr later ↦ absurd (not_in_nil begins.0 later)
    ]
