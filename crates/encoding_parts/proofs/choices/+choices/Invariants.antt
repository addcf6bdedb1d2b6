use Rattle.types.proofs.LoopLemmas.{IsLeftTo}
use Rattle.encoding_parts.proofs.ChoiceLemmas.{ChoicesHave}
use Rattle.encoding_parts.proofs.choices.+choices.Given as goal

abbrev pub invariant-by_tag-loop-which : goal.invariant-by_tag-loop-which
invariant-by_tag-loop-which l = IsLeftTo (ChoicesHave l.tag) l.alternatives l.which
