use Rattle.std.proofs.Common.{List, sym, ap, ◌∙◌, subst, AllPairs}
use Rattle.octets.specs.declared.tag.Tag.{Tag}
use Rattle.octets.specs.Tag.{ComesBefore}
use Rattle.types.specs.FirstTags.{tags_of_components}
use Rattle.types.specs.View.{components_view}
use Rattle.canon.proofs.StepLemmas.{tags_with}
use Rattle.canon.proofs.tags.are_declared_by_tag.Goals as goal

pub returns-in-Some-tag : goal.returns-in-Some-tag
returns-in-Some-tag c = λ is.
    let tags = ap (λ fs. tags_of_components (components_view fs)) c.in-Some.ensures.cases.0 ∙ tags_with c.in-Some.first.now c.in-Some.others.now c.in-Some-tag.tag c.in-Some-tag.ensures.value in
    subst (λ (ts : List Tag). AllPairs ComesBefore ts) (sym tags) (c.rise_from.ensures is c.in-Some-tag.tag c.number_of_tag.ensures)
