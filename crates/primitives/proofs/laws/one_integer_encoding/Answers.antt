use Rattle.primitives.proofs.IntegerLemmas.{one_integer_encoding}
use Rattle.primitives.proofs.laws.one_integer_encoding.Goals as goal

pub returns : goal.returns
returns c = one_integer_encoding
