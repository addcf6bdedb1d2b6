use Rattle.std.proofs.Common.{arith}
use Rattle.octets.specs.Rule.{rule_of}
use Rattle.canon.specs.Leaf.{IsLeafEncoding}
use Rattle.canon.proofs.KeptLemmas.{keeps_chain}
use Rattle.canon.proofs.LeavesLemmas.{leaf_at, item_behind}
use Rattle.canon.proofs.WritesLemmas.{refused}
use Rattle.canon.proofs.leaves.put_leaves.Goals as goal

pub put_leaf-requires-clause-leaf : goal.put_leaf-requires-clause-leaf
put_leaf-requires-clause-leaf c = leaf_at c.args.values.now c.loop-value.value-index c.value-item.result (omega arith) c.value-item.is c.requires.leaves

pub returns-in_err-put_leaf : goal.returns-in_err-put_leaf
returns-in_err-put_leaf c =
    let done = c.loop-value.invariant in
    refused _ c.from_residual.ensures.1 (keeps_chain c.args.out.now.items c.loop-value.out.items c.put_leaf.new.out.items (done.0, done.1, tt) c.in_err-put_leaf.ensures.kept)

pub loop-value-preserved : goal.loop-value-preserved
loop-value-preserved c =
    item_behind (IsLeafEncoding (rule_of c.args.rule) c.args.tag) c.args.values.now c.loop-value.value-index c.value-item.result c.args.out.now.items c.loop-value.out.items c.put_leaf.new.out.items (omega arith) c.value-item.is c.loop-value.invariant
    c.in_ok-put_leaf.ensures.appended
