use Rattle.primitives.proofs.IntegerLemmas.{at_most_sixteen_octets}
use Rattle.primitives.proofs.laws.at_most_sixteen_octets.Goals as goal

pub returns : goal.returns
returns c = at_most_sixteen_octets
