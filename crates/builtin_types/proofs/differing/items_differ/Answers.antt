use Rattle.syntax.specs.View.{entry}
use Rattle.std.proofs.Common.{map, arith}
use Rattle.builtin_types.proofs.EnteredLemmas.{entered_more, repeat_told}
use Rattle.builtin_types.proofs.differing.items_differ.Goals as goal

pub returns-then-not-branch : goal.returns-then-not-branch
returns-then-not-branch c = repeat_told (λ w. w.0) entry c.args.items.now c.loop-item.item-index c.item-item.result c.as_str.result.now c.in_ok-enter.field-0 _ (map (λ k. k.now) c.enter.new.names.keys) (omega arith) c.item-item.is c.as_str.ensures (cc) c.loop-item.invariant c.in_ok-enter.ensures

pub loop-item-preserved : goal.loop-item-preserved
loop-item-preserved c = entered_more (λ w. w.0) entry c.args.items.now c.loop-item.item-index c.item-item.result c.as_str.result.now c.in_ok-enter.field-0 _ _ (omega arith) c.item-item.is c.as_str.ensures (cc) c.loop-item.invariant c.in_ok-enter.ensures
