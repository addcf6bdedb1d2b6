use Rattle.std.proofs.Common.{◌≡◌, map, take}
use Rattle.types.specs.View.{ComponentView, field_view}
use Rattle.encoding_parts.proofs.SlotLemmas.{none_of}
use Rattle.encoding_parts.proofs.slots.empty_slots.Given as goal

abbrev pub invariant-loop : goal.invariant-loop
invariant-loop l = l.slots.items ≡ map (λ (c : ComponentView). none_of) (map field_view (take l.index l.fields))
