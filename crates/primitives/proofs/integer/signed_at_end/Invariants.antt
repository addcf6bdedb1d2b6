use Rattle.primitives.proofs.IntegerLemmas.{IsSpelling}
use Rattle.primitives.proofs.integer.signed_at_end.Given as goal

-- the octets that stand and the number that is left make the number
abbrev pub invariant-loop-rest : goal.invariant-loop-rest
invariant-loop-rest l = IsSpelling l.negative l.distance l.rest l.start l.room

abbrev pub decreases-loop-rest : goal.decreases-loop-rest
decreases-loop-rest l = l.rest
