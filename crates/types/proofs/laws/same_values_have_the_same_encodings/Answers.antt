use Rattle.types.proofs.SameLemmas.{same_encodings}
use Rattle.types.proofs.laws.same_values_have_the_same_encodings.Goals as goal

pub returns : goal.returns
returns c = same_encodings
