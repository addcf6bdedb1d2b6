use Rattle.octets.proofs.TagLemmas.{tags_are_ordered}
use Rattle.octets.proofs.laws.tags_are_ordered.Goals as goal

pub returns : goal.returns
returns c = tags_are_ordered
