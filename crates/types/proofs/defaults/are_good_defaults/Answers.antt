use Rattle.std.proofs.Common.{arith}
use Rattle.types.proofs.LoopLemmas.{goes_on, stops, ends, is_so, is_not_so, so, not_so}
use Rattle.types.proofs.NodeLemmas.{GoodDefaults, good_first}
use Rattle.types.proofs.defaults.are_good_defaults.Goals as goal

pub loop-field-preserved : goal.loop-field-preserved
loop-field-preserved c =
    let f = c.field-item.result in
    goes_on GoodDefaults _ c.args.fields.now c.loop-field.field-index f (omega arith) c.field-item.is (good_first f _) (so _ _ c.is_good_default.ensures c.if-not-is_good_default.false) c.loop-field.invariant

pub returns-then-not-is_good_default : goal.returns-then-not-is_good_default
returns-then-not-is_good_default c =
    let f = c.field-item.result in
    is_not_so (stops GoodDefaults _ c.args.fields.now c.loop-field.field-index f (omega arith) c.field-item.is (good_first f _) (not_so _ _ c.is_good_default.ensures c.if-not-is_good_default.true) c.loop-field.invariant)

pub returns : goal.returns
returns c = is_so (ends GoodDefaults c.args.fields.now c.loop-field.field-index (omega arith) tt c.loop-field.invariant)
