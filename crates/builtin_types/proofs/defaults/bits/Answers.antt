use Rattle.std.proofs.Common.{refl}
use Rattle.types.specs.Shape.{StringValue}
use Rattle.types.proofs.ViewLemmas.{value-Bits}
use Rattle.builtin_types.proofs.defaults.bits.Goals as goal

pub returns-in-Some : goal.returns-in-Some
returns-in-Some c =
    let bits = c.in-Some.bits in
    (StringValue.bits bits, (bits, rw c.in-Some.is at c.in_ok-bits.ensures, refl), value-Bits bits)
