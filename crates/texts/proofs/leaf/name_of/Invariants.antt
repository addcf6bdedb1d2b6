use Rattle.std.proofs.Common.{◌≡◌, drop, map}
use Rattle.types.specs.View.{item_view}
use Rattle.texts.specs.Leaf.{item_name}
use Rattle.texts.proofs.leaf.name_of.Given as goal

abbrev pub invariant-loop-item : goal.invariant-loop-item
invariant-loop-item l = item_name (map item_view (drop l.item-index l.items)) l.number ≡ item_name (map item_view l.items) l.number
