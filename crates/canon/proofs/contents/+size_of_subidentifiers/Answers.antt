use Rattle.std.proofs.Common.{subst}
use Rattle.primitives.specs.Oid.{AreSubidentifiers}
use Rattle.canon.proofs.ContentsSizeLemmas.{subidentifiers_size}
use Rattle.canon.proofs.contents.+size_of_subidentifiers.Goals as goal

pub returns-clause-size : goal.returns-clause-size
returns-clause-size t c = λ contents h.
    subidentifiers_size c.in-Some.first.now c.in-Some.others.now contents c.size_of_base_128.result c.size_of_subidentifiers.result c.size_of_base_128.ensures.size c.size_of_subidentifiers.ensures.size
    (subst (λ l. AreSubidentifiers l contents) c.in-Some.ensures.cases.0 h)
