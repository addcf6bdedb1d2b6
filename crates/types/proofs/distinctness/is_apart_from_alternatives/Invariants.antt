use Rattle.types.specs.View.{ty_view}
use Rattle.types.specs.FirstTags.{first_tags}
use Rattle.types.proofs.LoopLemmas.{IsLeftTo}
use Rattle.types.proofs.TagLemmas.{ApartFromChoices}
use Rattle.types.proofs.distinctness.is_apart_from_alternatives.Given as goal

abbrev pub invariant-loop-other : goal.invariant-loop-other
invariant-loop-other l = IsLeftTo (ApartFromChoices (first_tags (ty_view l.ty))) l.others l.other-index
