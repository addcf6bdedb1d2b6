use Rattle.primitives.proofs.BooleanLemmas.{one_boolean_value}
use Rattle.primitives.proofs.laws.one_boolean_value.Goals as goal

pub returns : goal.returns
returns c = one_boolean_value
