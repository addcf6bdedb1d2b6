use Rattle.octets.proofs.Base128SpellingLemmas.{IsBase128Spelling}
use Rattle.octets.proofs.base_128.put_any_base_128.Given as goal

-- the octets that stand and the number that is left make the number
abbrev pub invariant-loop-rest : goal.invariant-loop-rest
invariant-loop-rest l = IsBase128Spelling l.number l.rest l.start l.room

abbrev pub decreases-loop-rest : goal.decreases-loop-rest
decreases-loop-rest l = l.rest
