use Rattle.octets.specs.declared.tag.Tag.{Tag}
use Rattle.types.specs.Order.{IsLeast}
use Rattle.judging.proofs.LeastLemmas.{tags_from}
use Rattle.judging.proofs.order.+least.Given as goal

-- the least of what is left and of the least so far is that of all
abbrev pub invariant-least_of-loop-alternative : goal.invariant-least_of-loop-alternative
invariant-least_of-loop-alternative l = (r : Tag) → IsLeast (tags_from l.alternatives l.alternative-index l.least) r → IsLeast (tags_from l.alternatives 0 l.fn.tag) r
