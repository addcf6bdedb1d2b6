use Rattle.primitives.proofs.IntegerLemmas.{one_integer_value}
use Rattle.primitives.proofs.laws.one_integer_value.Goals as goal

pub returns : goal.returns
returns c = one_integer_value
