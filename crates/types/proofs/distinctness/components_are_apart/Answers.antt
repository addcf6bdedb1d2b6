use Rattle.std.proofs.Common.{arith}
use Rattle.std.proofs.lemmas.List.{take_rest}
use Rattle.types.proofs.LoopLemmas.{goes_on, stops, ends, is_so, is_not_so, so, not_so}
use Rattle.types.proofs.TagLemmas.{Apart, apart_first}
use Rattle.types.proofs.distinctness.components_are_apart.Goals as goal

pub loop-i-preserved : goal.loop-i-preserved
loop-i-preserved c =
    let x = c.index-fields-i.result in
    goes_on Apart _ c.args.fields.now c.loop-i.i x (omega arith) c.index-fields-i.is (apart_first x _)
    (so _ _ (rw take_rest at c.is_apart_from_components.ensures) c.if-not-is_apart_from_components.false) c.loop-i.invariant

pub returns-then-not-is_apart_from_components : goal.returns-then-not-is_apart_from_components
returns-then-not-is_apart_from_components c =
    let x = c.index-fields-i.result in
    is_not_so (stops Apart _ c.args.fields.now c.loop-i.i x (omega arith) c.index-fields-i.is (apart_first x _)
    (not_so _ _ (rw take_rest at c.is_apart_from_components.ensures) c.if-not-is_apart_from_components.true) c.loop-i.invariant)

pub returns : goal.returns
returns c = is_so (ends Apart c.args.fields.now c.loop-i.i (omega arith) tt c.loop-i.invariant)
