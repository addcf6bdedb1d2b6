use Rattle.types.specs.View.{ty_view}
use Rattle.types.specs.FirstTags.{first_tags}
use Rattle.types.proofs.LoopLemmas.{IsLeftTo}
use Rattle.types.proofs.TagLemmas.{ChoicesApartFrom}
use Rattle.types.proofs.distinctness.+are_apart.Given as goal

abbrev pub invariant-loop-alternative : goal.invariant-loop-alternative
invariant-loop-alternative l = IsLeftTo (ChoicesApartFrom (first_tags (ty_view l.other))) l.alternative-items l.alternative-index
