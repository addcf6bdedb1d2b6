use Rattle.std.proofs.Common.{◌≡◌, take}
use Rattle.canon.proofs.PartLemmas.{joined}
use Rattle.canon.proofs.spans.join_again.Given as goal

abbrev pub invariant-loop-one : goal.invariant-loop-one
invariant-loop-one g l = l.moved.items ≡ joined l.out.items (take l.one-index l.parts)
