use Rattle.texts.proofs.ShownLemmas.{one_text}
use Rattle.texts.proofs.laws.same_values_have_one_text.Goals as goal

pub returns : goal.returns
returns c = one_text
