use Rattle.primitives.proofs.OidLemmas.{one_relative_oid_encoding}
use Rattle.primitives.proofs.laws.one_relative_oid_encoding.Goals as goal

pub returns : goal.returns
returns c = one_relative_oid_encoding
