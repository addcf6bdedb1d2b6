use Rattle.primitives.proofs.BitsLemmas.{one_canonical_bits}
use Rattle.primitives.proofs.laws.one_canonical_bits.Goals as goal

pub returns : goal.returns
returns c = one_canonical_bits
