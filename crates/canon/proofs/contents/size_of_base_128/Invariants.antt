use Rattle.canon.proofs.ContentsSizeLemmas.{IsLeftOf}
use Rattle.canon.proofs.contents.size_of_base_128.Given as goal

abbrev pub invariant-loop-size : goal.invariant-loop-size
invariant-loop-size l = IsLeftOf l.number l.size l.rest
