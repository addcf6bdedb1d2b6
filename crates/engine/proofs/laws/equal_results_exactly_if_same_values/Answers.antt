use Rattle.engine.proofs.LawLemmas.{equal_exactly_if_same}
use Rattle.engine.proofs.laws.equal_results_exactly_if_same_values.Goals as goal

pub returns : goal.returns
returns c = equal_exactly_if_same
