use Rattle.std.proofs.Common.{map, take}
use Rattle.octets.specs.Front.{Appends}
use Rattle.octets.specs.Rule.{rule_of}
use Rattle.types.specs.View.{value_view}
use Rattle.canon.specs.Leaf.{IsLeafEncoding}
use Rattle.canon.specs.Node.{AreItems}
use Rattle.canon.proofs.leaves.put_leaves.Given as goal

abbrev pub invariant-loop-value : goal.invariant-loop-value
invariant-loop-value l = Appends (AreItems (IsLeafEncoding (rule_of l.rule) l.tag) (map value_view (take l.value-index l.values))) l.initial.out.items l.out.items
