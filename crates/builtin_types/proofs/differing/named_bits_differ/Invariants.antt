use Rattle.std.proofs.Common.{map, take}
use Rattle.syntax.specs.View.{bit}
use Rattle.builtin_types.specs.Names.{AreEntered}
use Rattle.builtin_types.proofs.differing.named_bits_differ.Given as goal

abbrev pub invariant-loop-bit : goal.invariant-loop-bit
invariant-loop-bit l = AreEntered (map (λ k. k.now) l.names.keys) (map (λ c. c.0) (map bit (take l.bit-index l.bits)))
