use Rattle.types.specs.View.{ty_view}
use Rattle.types.specs.FirstTags.{first_tags}
use Rattle.types.proofs.LoopLemmas.{IsLeftTo}
use Rattle.types.proofs.TagLemmas.{ApartFromRun}
use Rattle.types.proofs.distinctness.is_apart_from_run.Given as goal

abbrev pub invariant-loop-next : goal.invariant-loop-next
invariant-loop-next l = IsLeftTo (ApartFromRun (first_tags (ty_view l.ty))) l.others l.next-index
