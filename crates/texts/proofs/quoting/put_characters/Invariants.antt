use Rattle.std.proofs.Common.{◌≡◌, ◌≤◌, ◌*◌, IsAscii, flat_map, length, take}
use Rattle.texts.specs.Leaf.{quoted_octet}
use Rattle.texts.proofs.quoting.put_characters.Given as goal

abbrev pub invariant-loop-octet : goal.invariant-loop-octet
invariant-loop-octet l = (take l.count l.characters ≡ flat_map quoted_octet (take l.octet-index l.octets)) × IsAscii l.characters × (length l.characters ≡ 128) × (l.count ≤ 2 * l.octet-index)
