use Rattle.std.proofs.Common.{◌≡◌, ◌++◌, map, option_map, replicate, None}
use Rattle.types.specs.View.{value_view}
use Rattle.encoding_parts.proofs.held_parts.pass_over.Given as goal

abbrev pub invariant-loop : goal.invariant-loop
invariant-loop l = map (option_map value_view) l.slots.items ≡ map (option_map value_view) l.initial.slots.items ++ replicate l.counter None
