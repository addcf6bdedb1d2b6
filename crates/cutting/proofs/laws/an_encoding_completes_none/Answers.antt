use Rattle.cutting.proofs.StateLemmas.{completes_none}
use Rattle.cutting.proofs.laws.an_encoding_completes_none.Goals as goal

pub returns : goal.returns
returns c = completes_none
