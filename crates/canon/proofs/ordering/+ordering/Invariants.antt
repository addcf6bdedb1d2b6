use Rattle.std.specs.List.{AllZip}
use Rattle.std.proofs.Common.{map, take}
use Rattle.types.specs.View.{ty_view, value_view}
use Rattle.canon.specs.Ordered.{IsOrderedFrom}
use Rattle.canon.proofs.OrderedLemmas.{IsPlaced, OrderedUpTo}
use Rattle.canon.proofs.ordering.+ordering.Given as goal

abbrev pub invariant-order_items-loop-item : goal.invariant-order_items-loop-item
invariant-order_items-loop-item l = AllZip (IsOrderedFrom (ty_view l.ty)) (map value_view (take l.item-index l.items)) (map value_view l.ordered.items)

abbrev pub invariant-order_slots-loop-place : goal.invariant-order_slots-loop-place
invariant-order_slots-loop-place l = OrderedUpTo l.fields l.slots l.place l.ordered.items

abbrev pub invariant-sort_items-loop-item : goal.invariant-sort_items-loop-item
invariant-sort_items-loop-item l = AllZip (IsPlaced (ty_view l.ty) l.octets.items) (map value_view (take l.item-index l.items)) l.placed.items
