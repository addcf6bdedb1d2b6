use Rattle.std.proofs.Common.{◌<◌, ◌^◌, ◌∷◌, List, rules, sym, ap, ◌∙◌, subst, subst₂, AllPairs}
use Rattle.octets.specs.declared.tag.Tag.{Tag}
use Rattle.octets.specs.Tag.{ComesBefore}
use Rattle.types.specs.FirstTags.{tags_of_components}
use Rattle.types.specs.View.{components_view}
use Rattle.canon.proofs.TagOrderLemmas.{rise_before, before_by_number}
use Rattle.canon.proofs.StepLemmas.{tags_with}
use Rattle.canon.proofs.tags.+rise_from.Goals as goal

pub returns-then-before-number : goal.returns-then-before-number
returns-then-before-number t c = λ is before numbered.
    let tag = c.in-Some-tag.tag in
    let number = c.number_of_tag-number.ensures in
    let later = tags_of_components (components_view c.in-Some.others.now) in
    let tags = ap (λ fs. tags_of_components (components_view fs)) c.in-Some.ensures.cases.0 ∙ tags_with c.in-Some.first.now c.in-Some.others.now tag c.in-Some-tag.ensures.value in
    let fit : tag.number < 2 ^ 32 = search (rules) in
    let first : ComesBefore before tag = before_by_number before tag fit (subst₂ (λ x y. x < y) numbered number c.if-before-number.true) in
    subst (λ (ts : List Tag). AllPairs ComesBefore (before ∷ ts)) (sym tags) (rise_before before tag later first (c.rise_from.ensures is tag number))
