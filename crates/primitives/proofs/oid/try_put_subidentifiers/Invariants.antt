use Rattle.std.proofs.Common.{◌∷◌, take}
use Rattle.octets.specs.Front.{Appends}
use Rattle.primitives.specs.Oid.{AreSubidentifiers}
use Rattle.primitives.proofs.oid.try_put_subidentifiers.Given as goal

abbrev pub invariant-loop-number : goal.invariant-loop-number
invariant-loop-number l = Appends (AreSubidentifiers (l.first ∷ take l.number-index l.others)) l.fn.out.items l.out.items
