use Rattle.types.proofs.LoopLemmas.{IsLeftTo}
use Rattle.encoding_parts.specs.HeldParts.{members_view}
use Rattle.encoding_parts.proofs.SetComponentLemmas.{NoneDue}
use Rattle.encoding_parts.proofs.set_components.vacant.Given as goal

abbrev pub invariant-loop-place : goal.invariant-loop-place
invariant-loop-place l = IsLeftTo (NoneDue l.tag) (members_view l.fields l.slots) l.place
