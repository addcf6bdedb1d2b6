use Rattle.std.proofs.Common.{◌≡◌, IsTrue, drop, take, flat_map}
use Rattle.texts.specs.Leaf.{are_printable, quoted_octet}
use Rattle.texts.proofs.quoting.is_written_once.Given as goal

abbrev pub invariant-loop-octet : goal.invariant-loop-octet
invariant-loop-octet l =
    (IsTrue l.are_once → are_printable (drop l.octet-index l.octets) ≡ are_printable l.octets)
    × (IsTrue l.are_once → flat_map quoted_octet (take l.octet-index l.octets) ≡ take l.octet-index l.octets)
