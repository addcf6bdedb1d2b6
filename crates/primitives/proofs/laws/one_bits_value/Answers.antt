use Rattle.primitives.proofs.BitsLemmas.{one_bits_value}
use Rattle.primitives.proofs.laws.one_bits_value.Goals as goal

pub returns : goal.returns
returns c = one_bits_value
