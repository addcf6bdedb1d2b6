use Rattle.std.proofs.Common.{arith}
use Rattle.types.specs.View.{ty_view}
use Rattle.types.specs.FirstTags.{first_tags}
use Rattle.types.proofs.LoopLemmas.{goes_on, stops, ends, is_so, is_not_so, so, not_so}
use Rattle.types.proofs.TagLemmas.{ApartFromChoices, apart_from_choices_first, apart_nil}
use Rattle.types.proofs.distinctness.is_apart_from_alternatives.Goals as goal

pub loop-other-preserved : goal.loop-other-preserved
loop-other-preserved c =
    let x = c.other-item.result in
    let tags = first_tags (ty_view c.args.ty.now) in
    goes_on (ApartFromChoices tags) _ c.args.others.now c.loop-other.other-index x (omega arith) c.other-item.is (apart_from_choices_first tags x _)
    (so _ _ c.are_apart.ensures c.if-not-are_apart.false) c.loop-other.invariant

pub returns-then-not-are_apart : goal.returns-then-not-are_apart
returns-then-not-are_apart c =
    let x = c.other-item.result in
    let tags = first_tags (ty_view c.args.ty.now) in
    is_not_so (stops (ApartFromChoices tags) _ c.args.others.now c.loop-other.other-index x (omega arith) c.other-item.is (apart_from_choices_first tags x _)
    (not_so _ _ c.are_apart.ensures c.if-not-are_apart.true) c.loop-other.invariant)

pub returns : goal.returns
returns c =
    let tags = first_tags (ty_view c.args.ty.now) in
    is_so (ends (ApartFromChoices tags) c.args.others.now c.loop-other.other-index (omega arith) (apart_nil tags) c.loop-other.invariant)
