use Rattle.encoding_parts.proofs.SetComponentLemmas.{IsSettledTo}
use Rattle.encoding_parts.proofs.set_components.drop_defaults.Given as goal

abbrev pub invariant-loop-place : goal.invariant-loop-place
invariant-loop-place l = IsSettledTo l.fields l.initial.slots l.slots l.place
