use Rattle.std.proofs.Common.{◌∙◌, sym}
use Rattle.published_tokens.proofs.KindLemmas.{equal, same}
use Rattle.published_tokens.proofs.reader.Reader.is_word.Goals as goal

pub returns : goal.returns
returns c = (λ t. equal _ _ (sym c.eq.ensures ∙ t), λ i. c.eq.ensures ∙ same _ _ i)
