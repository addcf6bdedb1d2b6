use Rattle.types.proofs.DepthLemmas.{canonical_are_ber}
use Rattle.types.proofs.laws.canonical_encodings_are_ber.Goals as goal

pub returns : goal.returns
returns c = canonical_are_ber
