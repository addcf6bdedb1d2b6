use Rattle.std.proofs.Common.{◌≡◌, map, pos, take}
use Rattle.builtin_types.proofs.BitLemmas.{numbers}
use Rattle.builtin_types.proofs.bits.numbers_of.Given as goal

abbrev pub invariant-loop-bit : goal.invariant-loop-bit
invariant-loop-bit l = l.numbers.items ≡ map pos (numbers (take l.bit-index l.bits))
