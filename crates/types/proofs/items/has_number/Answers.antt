use Rattle.std.proofs.Common.{arith, rules}
use Rattle.types.proofs.LoopLemmas.{goes_on, ends, is_so, is_not_so}
use Rattle.types.proofs.ItemLemmas.{Lacks, lacks_first, lacks_nil, has_at}
use Rattle.types.proofs.items.has_number.Goals as goal

pub loop-item-preserved : goal.loop-item-preserved
loop-item-preserved c =
    let x = c.item-item.result in
    goes_on (Lacks c.args.number.now) _ c.args.items.now c.loop-item.item-index x (omega arith) c.item-item.is (lacks_first c.args.number.now x _) (search rules) c.loop-item.invariant

pub returns-then-item-number : goal.returns-then-item-number
returns-then-item-number c = is_so (has_at c.args.number.now c.args.items.now c.loop-item.item-index c.item-item.result (omega arith) c.item-item.is (search rules))

pub returns : goal.returns
returns c = is_not_so (ends (Lacks c.args.number.now) c.args.items.now c.loop-item.item-index (omega arith) (lacks_nil c.args.number.now) c.loop-item.invariant)
