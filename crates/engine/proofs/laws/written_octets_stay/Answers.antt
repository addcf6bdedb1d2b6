use Rattle.engine.proofs.LawLemmas.{written_octets_stay}
use Rattle.engine.proofs.laws.written_octets_stay.Goals as goal

pub returns : goal.returns
returns c = written_octets_stay
