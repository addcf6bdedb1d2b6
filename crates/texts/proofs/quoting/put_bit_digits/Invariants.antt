use Rattle.std.proofs.Common.{◌≡◌, ◌*◌, length, map, take}
use Rattle.primitives.specs.Bits.{bits_of}
use Rattle.texts.specs.Leaf.{bit_digit}
use Rattle.texts.proofs.quoting.put_bit_digits.Given as goal

abbrev pub invariant-loop-place : goal.invariant-loop-place
invariant-loop-place l = (take (8 * l.place) l.digits ≡ map bit_digit (bits_of (take l.place l.octets))) × (length l.digits ≡ 512)
