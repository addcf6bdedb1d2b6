use Rattle.types.proofs.LoopLemmas.{IsLeftTo}
use Rattle.builtin_types.proofs.BitLemmas.{NumbersWithin}
use Rattle.builtin_types.proofs.bits.are_bits_within.Given as goal

abbrev pub invariant-loop-bit : goal.invariant-loop-bit
invariant-loop-bit l = IsLeftTo NumbersWithin l.bits l.bit-index
