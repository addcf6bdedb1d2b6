use Rattle.std.proofs.Common.{◌≤◌, arith}
use Rattle.std.proofs.lemmas.List.Elements.{All-nil}
use Rattle.syntax.specs.declared.tree.NamedBit.{NamedBit}
use Rattle.types.proofs.LoopLemmas.{goes_on, stops, ends, is_so, is_not_so}
use Rattle.builtin_types.proofs.BitLemmas.{NumbersWithin, numbers_first}
use Rattle.builtin_types.proofs.bits.are_bits_within.Goals as goal

pub loop-bit-preserved : goal.loop-bit-preserved
loop-bit-preserved c =
    let bit = c.bit-item.result in
    goes_on NumbersWithin _ c.args.bits.now c.loop-bit.bit-index bit (omega arith) c.bit-item.is (numbers_first bit _) (omega arith) c.loop-bit.invariant

pub returns-then-bit-gt-MAX_NAMED_BIT : goal.returns-then-bit-gt-MAX_NAMED_BIT
returns-then-bit-gt-MAX_NAMED_BIT c =
    let bit = c.bit-item.result in
    is_not_so (stops NumbersWithin _ c.args.bits.now c.loop-bit.bit-index bit (omega arith) c.bit-item.is (numbers_first bit _) (λ within. omega arith) c.loop-bit.invariant)

pub returns : goal.returns
returns c = is_so (ends NumbersWithin c.args.bits.now c.loop-bit.bit-index (omega arith) (All-nil (λ (b : NamedBit). b.number ≤ 65535)) c.loop-bit.invariant)
