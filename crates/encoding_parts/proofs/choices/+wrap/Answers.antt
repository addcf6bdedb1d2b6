use Rattle.std.proofs.Common.{rules}
use Rattle.types.specs.declared.ty.Ty as node
use Rattle.types.specs.declared.ty.Alternative as alternative
use Rattle.types.specs.View.{alternatives_view}
use Rattle.encoding_parts.proofs.ChoiceLemmas.{choice_leads, node_tag_of, good_choice, good_alternative, leads_here, choice_encodes}
use Rattle.encoding_parts.proofs.choices.+wrap.Goals as goal

pub returns-in_default-by_tag : goal.returns-in_default-by_tag
returns-in_default-by_tag t c =
    let xs = c.deref.result.now in
    let tag = c.args.tag in
    λ node octets h e. absurd (c.in_default-by_tag.ensures (node_tag_of tag (alternatives_view xs) node ((choice_leads c.args.ty.now c.in-Choice.alternatives xs tag node c.in-Choice.is c.deref.ensures.value).1 h)))

pub wrap-requires : goal.wrap-requires
wrap-requires t c =
    let xs = c.deref.result.now in
    let a = c.in-Some.alternative.now in
    let bound = c.in-Some.ensures.0 in
    let at = c.in-Some.ensures.1 in
    (search (rules, node.the_lemmas, alternative.the_lemmas, bound, at), good_alternative xs c.in-Some.which a bound at (good_choice c.args.ty.now c.in-Choice.alternatives xs c.in-Choice.is c.deref.ensures.value c.requires))

pub returns : goal.returns
returns t c =
    let xs = c.deref.result.now in
    let a = c.in-Some.alternative.now in
    let tag = c.args.tag in
    let found = c.in-Some.ensures in
    let good = good_choice c.args.ty.now c.in-Choice.alternatives xs c.in-Choice.is c.deref.ensures.value c.requires in
    λ node octets h e.
    let here = leads_here xs c.in-Some.which a tag node found.0 found.1 good.distinct found.2 ((choice_leads c.args.ty.now c.in-Choice.alternatives xs tag node c.in-Choice.is c.deref.ensures.value).1 h) in
    choice_encodes c.args.ty.now c.in-Choice.alternatives xs c.in-Some.which a c.in_ok-chosen.chosen c.in_ok-new.field-0 octets c.in-Choice.is c.deref.ensures.value found.0 found.1 c.in_ok-new.ensures.ok (c.in_ok-chosen.ensures node octets here e)
