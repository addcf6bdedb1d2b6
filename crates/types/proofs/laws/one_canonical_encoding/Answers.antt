use Rattle.types.proofs.OneEncodingLemmas.{one_canonical}
use Rattle.types.proofs.laws.one_canonical_encoding.Goals as goal

pub returns : goal.returns
returns c = one_canonical
