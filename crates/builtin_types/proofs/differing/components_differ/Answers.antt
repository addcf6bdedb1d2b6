use Rattle.syntax.specs.View.{component}
use Rattle.std.proofs.Common.{map, arith}
use Rattle.builtin_types.proofs.EnteredLemmas.{entered_more, repeat_told}
use Rattle.builtin_types.proofs.differing.components_differ.Goals as goal

pub returns-then-not-branch : goal.returns-then-not-branch
returns-then-not-branch c = repeat_told (λ w. w.0) component c.args.components.now c.loop-component.component-index c.component-item.result c.as_str.result.now c.in_ok-enter.field-0 _ (map (λ k. k.now) c.enter.new.names.keys) (omega arith) c.component-item.is c.as_str.ensures (cc) c.loop-component.invariant c.in_ok-enter.ensures

pub loop-component-preserved : goal.loop-component-preserved
loop-component-preserved c = entered_more (λ w. w.0) component c.args.components.now c.loop-component.component-index c.component-item.result c.as_str.result.now c.in_ok-enter.field-0 _ _ (omega arith) c.component-item.is c.as_str.ensures (cc) c.loop-component.invariant c.in_ok-enter.ensures
