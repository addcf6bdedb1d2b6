use Rattle.types.proofs.EncodingLemmas.{encoding_unique}
use Rattle.types.proofs.laws.no_encoding_begins_another.Goals as goal

pub returns : goal.returns
returns c = encoding_unique
