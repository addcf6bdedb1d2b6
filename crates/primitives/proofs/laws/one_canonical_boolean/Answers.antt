use Rattle.primitives.proofs.BooleanLemmas.{one_canonical_boolean}
use Rattle.primitives.proofs.laws.one_canonical_boolean.Goals as goal

pub returns : goal.returns
returns c = one_canonical_boolean
