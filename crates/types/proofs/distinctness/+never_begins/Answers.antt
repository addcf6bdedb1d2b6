use Rattle.std.proofs.Common.{arith, IsTrue, true, false}
use Rattle.types.proofs.LoopLemmas.{goes_on, stops, ends, is_so, is_not_so, so, not_so}
use Rattle.types.proofs.TagLemmas.{ChoicesLack, choices_lack_first, choice_tags, lack_along}
use Rattle.types.proofs.ListLemmas.{not_in_nil}
use Rattle.types.proofs.distinctness.+never_begins.Goals as goal

pub loop-alternative-preserved : goal.loop-alternative-preserved
loop-alternative-preserved t c =
    let a = c.alternative-item.result in
    goes_on (ChoicesLack c.args.tag) _ c.deref-alternative-items.result.now c.loop-alternative.alternative-index a (omega arith) c.alternative-item.is (choices_lack_first c.args.tag a _)
    (so _ _ c.never_begins.ensures c.if-not-never_begins.false) c.loop-alternative.invariant

pub returns-then-not-never_begins : goal.returns-then-not-never_begins
returns-then-not-never_begins t c =
    let a = c.alternative-item.result in
    let xs = c.deref-alternative-items.result.now in
    lack_along (IsTrue false) _ _ c.args.tag (choice_tags c.args.ty.now c.in-Choice.alternatives xs c.in-Choice.is c.deref-alternative-items.ensures.value)
    (is_not_so (stops (ChoicesLack c.args.tag) _ xs c.loop-alternative.alternative-index a (omega arith) c.alternative-item.is (choices_lack_first c.args.tag a _)
    (not_so _ _ c.never_begins.ensures c.if-not-never_begins.true) c.loop-alternative.invariant))

pub returns : goal.returns
returns t c =
    let xs = c.deref-alternative-items.result.now in
    lack_along (IsTrue true) _ _ c.args.tag (choice_tags c.args.ty.now c.in-Choice.alternatives xs c.in-Choice.is c.deref-alternative-items.ensures.value)
    (is_so (ends (ChoicesLack c.args.tag) xs c.loop-alternative.alternative-index (omega arith) (not_in_nil c.args.tag) c.loop-alternative.invariant))
