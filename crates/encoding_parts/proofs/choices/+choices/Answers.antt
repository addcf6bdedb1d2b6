use Rattle.std.proofs.Common.{arith, Contains}
use Rattle.types.specs.FirstTags.{first_tags}
use Rattle.types.specs.View.{ty_view}
use Rattle.types.proofs.ListLemmas.{not_in_nil}
use Rattle.types.proofs.LoopLemmas.{begins, not_so}
use Rattle.encoding_parts.proofs.ChoiceLemmas.{ChoicesHave, passes, lacks, have_cases, have_later, have_at, found_tells, choice_has}
use Rattle.encoding_parts.proofs.choices.+choices.Goals as goal

pub begins-returns : goal.begins-returns
begins-returns t c =
    let xs = c.deref.result.now in
    let tag = c.args.tag in
    let has = choice_has c.args.ty.now c.in-Choice.alternatives xs tag c.in-Choice.is c.deref.ensures.value in
    let told = found_tells (ChoicesHave tag xs) _ c.by_tag.result c.is_some.result c.is_some.ensures c.by_tag.ensures (λ p found. have_at tag xs p.0 p.1.now found.0 found.1 found.2) in
    (λ yes. has.0 (told.0 yes), λ h. told.1 (has.1 h))

pub by_tag-loop-which-init : goal.by_tag-loop-which-init
by_tag-loop-which-init t c = begins (ChoicesHave c.args.tag) c.args.alternatives.now

pub by_tag-loop-which-preserved : goal.by_tag-loop-which-preserved
by_tag-loop-which-preserved t c =
    let a = c.index-alternatives-which.result in
    let xs = c.args.alternatives.now in
    let tag = c.args.tag in
    passes (ChoicesHave tag) (Contains (first_tags (ty_view a.ty)) tag) xs c.loop-which.which a c.loop-which-test.true c.index-alternatives-which.is (have_cases tag a _) (have_later tag a _)
    (not_so _ _ c.begins.ensures c.if-begins.false) c.loop-which.invariant

pub by_tag-returns : goal.by_tag-returns
by_tag-returns t c = lacks (ChoicesHave c.args.tag) c.args.alternatives.now c.loop-which.which (omega (arith, c.loop-which-test.false)) (not_in_nil c.args.tag) c.loop-which.invariant
