use Rattle.primitives.proofs.BitsLemmas.{canonical_bits_are_ber}
use Rattle.primitives.proofs.laws.canonical_bits_are_ber.Goals as goal

pub returns : goal.returns
returns c = canonical_bits_are_ber
