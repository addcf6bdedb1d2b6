use Rattle.std.proofs.Common.{arith, subst}
use Rattle.canon.proofs.ContentsSizeLemmas.{IsLeftOf, left_more, left_done, left_end}
use Rattle.canon.proofs.contents.size_of_base_128.Goals as goal

pub returns-then-rest-lt128-clause-size : goal.returns-then-rest-lt128-clause-size
returns-then-rest-lt128-clause-size c = λ octets h. left_done c.args.number c.loop-size.size c.loop-size.rest octets (omega arith) (omega arith) c.loop-size.invariant h

pub loop-size-preserved : goal.loop-size-preserved
loop-size-preserved c = left_more c.args.number c.loop-size.size c.loop-size.rest (omega arith) (omega arith) c.loop-size.invariant

pub returns-clause-size : goal.returns-clause-size
returns-clause-size c = λ octets h. left_end c.args.number c.loop-size.rest octets (omega arith) (subst (λ n. IsLeftOf c.args.number n c.loop-size.rest) (omega arith) c.loop-size.invariant) h
