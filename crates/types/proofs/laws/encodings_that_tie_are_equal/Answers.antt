use Rattle.types.proofs.EncodingLemmas.{ties_are_equal}
use Rattle.types.proofs.laws.encodings_that_tie_are_equal.Goals as goal

pub returns : goal.returns
returns c = ties_are_equal
