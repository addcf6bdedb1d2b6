use Rattle.canon.proofs.ContentsSizeLemmas.{oid_size}
use Rattle.canon.proofs.contents.size_of_oid.Goals as goal

pub returns-clause-size : goal.returns-clause-size
returns-clause-size c = λ contents h. oid_size c.args.arcs.now contents c.size_of_base_128-shared.result c.size_of_subidentifiers-others.result c.size_of_base_128-shared.ensures.size c.size_of_subidentifiers-others.ensures.size h
