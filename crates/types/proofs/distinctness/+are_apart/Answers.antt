use Rattle.std.proofs.Common.{arith, IsTrue, true, false}
use Rattle.types.specs.View.{ty_view}
use Rattle.types.specs.FirstTags.{first_tags}
use Rattle.types.proofs.LoopLemmas.{goes_on, stops, ends, is_so, is_not_so, so, not_so}
use Rattle.types.proofs.TagLemmas.{ChoicesApartFrom, choices_apart_first, choice_tags, apart_along, one_apart, nil_apart}
use Rattle.types.proofs.distinctness.+are_apart.Goals as goal

pub returns-in-Some : goal.returns-in-Some
returns-in-Some t c =
    let one = one_apart c.in-Some.tag (first_tags (ty_view c.args.other.now)) in
    apart_along (IsTrue c.never_begins.result) _ _ (first_tags (ty_view c.args.other.now)) c.in-Some.ensures.value
    (λ yes. one.0 (c.never_begins.ensures.0 yes), λ h. c.never_begins.ensures.1 (one.1 h))

pub loop-alternative-preserved : goal.loop-alternative-preserved
loop-alternative-preserved t c =
    let a = c.alternative-item.result in
    let tags = first_tags (ty_view c.args.other.now) in
    goes_on (ChoicesApartFrom tags) _ c.deref-alternative-items.result.now c.loop-alternative.alternative-index a (omega arith) c.alternative-item.is (choices_apart_first tags a _)
    (so _ _ c.are_apart.ensures c.if-not-are_apart.false) c.loop-alternative.invariant

pub returns-then-not-are_apart : goal.returns-then-not-are_apart
returns-then-not-are_apart t c =
    let a = c.alternative-item.result in
    let xs = c.deref-alternative-items.result.now in
    let tags = first_tags (ty_view c.args.other.now) in
    apart_along (IsTrue false) _ _ tags (choice_tags c.args.ty.now c.in-Choice.alternatives xs c.in-Choice.is c.deref-alternative-items.ensures.value)
    (is_not_so (stops (ChoicesApartFrom tags) _ xs c.loop-alternative.alternative-index a (omega arith) c.alternative-item.is (choices_apart_first tags a _)
    (not_so _ _ c.are_apart.ensures c.if-not-are_apart.true) c.loop-alternative.invariant))

pub returns : goal.returns
returns t c =
    let xs = c.deref-alternative-items.result.now in
    let tags = first_tags (ty_view c.args.other.now) in
    apart_along (IsTrue true) _ _ tags (choice_tags c.args.ty.now c.in-Choice.alternatives xs c.in-Choice.is c.deref-alternative-items.ensures.value)
    (is_so (ends (ChoicesApartFrom tags) xs c.loop-alternative.alternative-index (omega arith) (nil_apart tags) c.loop-alternative.invariant))
