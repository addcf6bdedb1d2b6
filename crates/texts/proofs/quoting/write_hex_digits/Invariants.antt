use Rattle.std.proofs.Common.{◌≡◌, ◌*◌, IsAscii, flat_map, length, take}
use Rattle.texts.specs.Leaf.{hex_digits}
use Rattle.texts.proofs.quoting.write_hex_digits.Given as goal

abbrev pub invariant-loop-place : goal.invariant-loop-place
invariant-loop-place l = (take (2 * l.place) l.digits ≡ flat_map hex_digits (take l.place l.octets)) × IsAscii l.digits × (length l.digits ≡ length l.initial.digits)
