use Rattle.types.proofs.LoopLemmas.{IsLeftTo}
use Rattle.encoding_parts.specs.HeldParts.{come_view}
use Rattle.encoding_parts.proofs.SetComponentLemmas.{AreFilled}
use Rattle.encoding_parts.proofs.set_components.SetComponents.are_filled.Given as goal

abbrev pub invariant-loop-place : goal.invariant-loop-place
invariant-loop-place l = IsLeftTo AreFilled (come_view l.self) l.place
