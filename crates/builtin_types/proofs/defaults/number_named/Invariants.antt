use Rattle.std.proofs.Common.{map, take}
use Rattle.types.specs.View.{item_view}
use Rattle.builtin_types.proofs.TakenLemmas.{IsNoneNamed}
use Rattle.builtin_types.proofs.defaults.number_named.Given as goal

abbrev pub invariant-loop-item : goal.invariant-loop-item
invariant-loop-item l = IsNoneNamed l.name (map item_view (take l.item-index l.items))
