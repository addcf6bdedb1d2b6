use Rattle.primitives.proofs.BooleanLemmas.{canonical_boolean_is_ber}
use Rattle.primitives.proofs.laws.canonical_boolean_is_ber.Goals as goal

pub returns : goal.returns
returns c = canonical_boolean_is_ber
