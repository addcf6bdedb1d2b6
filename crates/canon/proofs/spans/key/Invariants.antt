use Rattle.canon.proofs.KeyLemmas.{IsRead}
use Rattle.canon.proofs.spans.key.Given as goal

abbrev pub invariant-loop-i : goal.invariant-loop-i
invariant-loop-i l = IsRead l.octets l.i l.number
