use Rattle.std.proofs.Common.{arith}
use Rattle.std.proofs.lemmas.List.{take_rest}
use Rattle.types.proofs.LoopLemmas.{goes_on, stops, ends, is_so, is_not_so, so, not_so}
use Rattle.types.proofs.TagLemmas.{ChoicesApart, choices_first}
use Rattle.types.proofs.distinctness.alternatives_are_apart.Goals as goal

pub loop-i-preserved : goal.loop-i-preserved
loop-i-preserved c =
    let x = c.index-alternatives-i.result in
    goes_on ChoicesApart _ c.args.alternatives.now c.loop-i.i x (omega arith) c.index-alternatives-i.is (choices_first x _)
    (so _ _ (rw take_rest at c.is_apart_from_alternatives.ensures) c.if-not-is_apart_from_alternatives.false) c.loop-i.invariant

pub returns-then-not-is_apart_from_alternatives : goal.returns-then-not-is_apart_from_alternatives
returns-then-not-is_apart_from_alternatives c =
    let x = c.index-alternatives-i.result in
    is_not_so (stops ChoicesApart _ c.args.alternatives.now c.loop-i.i x (omega arith) c.index-alternatives-i.is (choices_first x _)
    (not_so _ _ (rw take_rest at c.is_apart_from_alternatives.ensures) c.if-not-is_apart_from_alternatives.true) c.loop-i.invariant)

pub returns : goal.returns
returns c = is_so (ends ChoicesApart c.args.alternatives.now c.loop-i.i (omega arith) tt c.loop-i.invariant)
