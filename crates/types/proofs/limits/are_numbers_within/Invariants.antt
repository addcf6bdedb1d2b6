use Rattle.types.proofs.LoopLemmas.{IsLeftTo}
use Rattle.types.proofs.LimitLemmas.{NumbersWithin}
use Rattle.types.proofs.limits.are_numbers_within.Given as goal

abbrev pub invariant-loop-bit : goal.invariant-loop-bit
invariant-loop-bit l = IsLeftTo NumbersWithin l.bits l.bit-index
