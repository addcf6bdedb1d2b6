use Rattle.std.proofs.Common.{arith}
use Rattle.std.proofs.lemmas.List.{take_rest}
use Rattle.types.proofs.LoopLemmas.{goes_on, stops, ends, is_so, is_not_so, so, not_so}
use Rattle.types.proofs.TagLemmas.{Runs, runs_first}
use Rattle.types.proofs.distinctness.runs_are_apart.Goals as goal

pub loop-i-preserved : goal.loop-i-preserved
loop-i-preserved c =
    let x = c.index-fields-i.result in
    goes_on Runs _ c.args.fields.now c.loop-i.i x (omega arith) c.index-fields-i.is (runs_first x _)
    (so _ _ (rw take_rest at c.is_told_from_run.ensures) c.if-not-is_told_from_run.false) c.loop-i.invariant

pub returns-then-not-is_told_from_run : goal.returns-then-not-is_told_from_run
returns-then-not-is_told_from_run c =
    let x = c.index-fields-i.result in
    is_not_so (stops Runs _ c.args.fields.now c.loop-i.i x (omega arith) c.index-fields-i.is (runs_first x _)
    (not_so _ _ (rw take_rest at c.is_told_from_run.ensures) c.if-not-is_told_from_run.true) c.loop-i.invariant)

pub returns : goal.returns
returns c = is_so (ends Runs c.args.fields.now c.loop-i.i (omega arith) tt c.loop-i.invariant)
