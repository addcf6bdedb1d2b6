use Rattle.syntax.specs.View.{bit}
use Rattle.std.proofs.Common.{map, arith}
use Rattle.builtin_types.proofs.EnteredLemmas.{entered_more, repeat_told}
use Rattle.builtin_types.proofs.differing.named_bits_differ.Goals as goal

pub returns-then-not-branch : goal.returns-then-not-branch
returns-then-not-branch c = repeat_told (λ w. w.0) bit c.args.bits.now c.loop-bit.bit-index c.bit-item.result c.as_str.result.now c.in_ok-enter.field-0 _ (map (λ k. k.now) c.enter.new.names.keys) (omega arith) c.bit-item.is c.as_str.ensures (cc) c.loop-bit.invariant c.in_ok-enter.ensures

pub loop-bit-preserved : goal.loop-bit-preserved
loop-bit-preserved c = entered_more (λ w. w.0) bit c.args.bits.now c.loop-bit.bit-index c.bit-item.result c.as_str.result.now c.in_ok-enter.field-0 _ _ (omega arith) c.bit-item.is c.as_str.ensures (cc) c.loop-bit.invariant c.in_ok-enter.ensures
