use Rattle.types.proofs.SameExactlyLemmas.{equal_exactly_if_same}
use Rattle.types.proofs.laws.equal_canonical_encodings_exactly_if_same.Goals as goal

pub returns : goal.returns
returns c = equal_exactly_if_same
