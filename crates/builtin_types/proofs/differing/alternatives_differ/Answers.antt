use Rattle.syntax.specs.View.{alternative}
use Rattle.std.proofs.Common.{map, arith}
use Rattle.builtin_types.proofs.EnteredLemmas.{entered_more, repeat_told}
use Rattle.builtin_types.proofs.differing.alternatives_differ.Goals as goal

pub returns-then-not-branch : goal.returns-then-not-branch
returns-then-not-branch c = repeat_told (λ w. w.0) alternative c.args.alternatives.now c.loop-alternative.alternative-index c.alternative-item.result c.as_str.result.now c.in_ok-enter.field-0 _ (map (λ k. k.now) c.enter.new.names.keys) (omega arith) c.alternative-item.is c.as_str.ensures (cc) c.loop-alternative.invariant c.in_ok-enter.ensures

pub loop-alternative-preserved : goal.loop-alternative-preserved
loop-alternative-preserved c = entered_more (λ w. w.0) alternative c.args.alternatives.now c.loop-alternative.alternative-index c.alternative-item.result c.as_str.result.now c.in_ok-enter.field-0 _ _ (omega arith) c.alternative-item.is c.as_str.ensures (cc) c.loop-alternative.invariant c.in_ok-enter.ensures
