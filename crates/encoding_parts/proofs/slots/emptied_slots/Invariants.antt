use Rattle.std.proofs.Common.{◌≡◌, length, map, take}
use Rattle.types.specs.View.{ComponentView, field_view}
use Rattle.encoding_parts.proofs.SlotLemmas.{none_of}
use Rattle.encoding_parts.proofs.slots.emptied_slots.Given as goal

abbrev pub invariant-loop-place : goal.invariant-loop-place
invariant-loop-place l = (take l.place l.slots.items ≡ map (λ (c : ComponentView). none_of) (map field_view (take l.place l.fields))) × (length l.slots.items ≡ length l.fields)
