use Rattle.primitives.proofs.TrimLemmas.{AreZerosAfter}
use Rattle.primitives.proofs.bits.count_before_zeros.Given as goal

-- zero octets stand after those that are counted
abbrev pub invariant-loop-count : goal.invariant-loop-count
invariant-loop-count l = AreZerosAfter l.count l.octets

abbrev pub decreases-loop-count : goal.decreases-loop-count
decreases-loop-count l = l.count
