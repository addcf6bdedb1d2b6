use Rattle.std.proofs.Common.{◌≡◌, ◌++◌, map, option_map, replicate, None}
use Rattle.types.specs.View.{value_view}
use Rattle.types.proofs.LoopLemmas.{IsLeftTo}
use Rattle.encoding_parts.proofs.HeldPartsLemmas.{AllAbsent}
use Rattle.encoding_parts.proofs.held_parts.value_of_run.Given as goal

abbrev pub invariant-loop-field : goal.invariant-loop-field
invariant-loop-field l =
    (map (option_map value_view) l.slots.items ≡ map (option_map value_view) l.initial.slots.items ++ replicate l.field-index None) × IsLeftTo AllAbsent l.field-items l.field-index
