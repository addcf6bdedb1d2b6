use Rattle.types.proofs.ExistenceLemmas.{every_value_has_one}
use Rattle.types.proofs.laws.every_value_has_a_canonical_encoding.Goals as goal

pub returns : goal.returns
returns c = every_value_has_one
