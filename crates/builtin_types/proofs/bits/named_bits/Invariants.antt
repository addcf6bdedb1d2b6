use Rattle.std.proofs.Common.{◌≡◌, map, take}
use Rattle.types.specs.View.{named_bit_view}
use Rattle.syntax.specs.View.{bit}
use Rattle.builtin_types.specs.Universal.{named_bit}
use Rattle.builtin_types.proofs.bits.named_bits.Given as goal

abbrev pub invariant-loop-bit : goal.invariant-loop-bit
invariant-loop-bit l = map named_bit_view l.made.items ≡ map named_bit (map bit (take l.bit-index l.bits))
