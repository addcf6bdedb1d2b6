use Rattle.std.proofs.Common.{◌≡◌, ◌&&◌, drop}
use Rattle.texts.specs.Leaf.{are_printable}
use Rattle.texts.proofs.quoting.is_readable.Given as goal

abbrev pub invariant-loop-octet : goal.invariant-loop-octet
invariant-loop-octet l = (l.are_readable && are_printable (drop l.octet-index l.octets)) ≡ are_printable l.octets
