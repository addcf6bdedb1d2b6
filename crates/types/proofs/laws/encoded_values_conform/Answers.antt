use Rattle.types.proofs.EncodedLemmas.{encoded_conforms}
use Rattle.types.proofs.laws.encoded_values_conform.Goals as goal

pub returns : goal.returns
returns c = encoded_conforms
