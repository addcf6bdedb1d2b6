use Rattle.std.proofs.Common.{refl}
use Rattle.primitives.proofs.TrimLemmas.{AreZerosAfter-all, AreZerosAfter-less}
use Rattle.primitives.proofs.bits.count_before_zeros.Goals as goal

pub loop-count-init : goal.loop-count-init
loop-count-init c = AreZerosAfter-all c.args.octets.now _ refl

pub loop-count-preserved : goal.loop-count-preserved
loop-count-preserved c = AreZerosAfter-less c.args.octets.now c.loop-count.count c.loop-count.invariant c.loop-count-test.true c.if-octets-count-eq0.true

pub returns-else-octets-count-eq0-clause-zeros : goal.returns-else-octets-count-eq0-clause-zeros
returns-else-octets-count-eq0-clause-zeros c = (c.loop-count.invariant.zeros, c.loop-count.invariant.parts)

pub returns-after-loop-count-clause-zeros : goal.returns-after-loop-count-clause-zeros
returns-after-loop-count-clause-zeros c = (c.loop-count.invariant.zeros, c.loop-count.invariant.parts)
