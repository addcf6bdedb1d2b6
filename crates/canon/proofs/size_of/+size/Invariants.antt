use Rattle.std.proofs.Common.{◌-◌, ◌≤◌, drop, map}
use Rattle.octets.specs.Rule.{rule_of}
use Rattle.types.specs.Encoding.{IsEncoding}
use Rattle.types.specs.View.{ty_view, value_view, components_view, slots_view}
use Rattle.canon.specs.Node.{AreItems, AreComponents}
use Rattle.canon.specs.Size.{HasSize}
use Rattle.canon.proofs.size_of.+size.Given as goal

abbrev pub invariant-size_of_components-loop-done : goal.invariant-size_of_components-loop-done
invariant-size_of_components-loop-done l = record {
  at_most : l.total ≤ 1_048_577;
  size : HasSize (AreComponents (rule_of l.rule) (components_view (drop (l.count - l.done) l.fields)) (slots_view (drop (l.count - l.done) l.slots))) l.total;
}

abbrev pub invariant-size_of_items-loop-done : goal.invariant-size_of_items-loop-done
invariant-size_of_items-loop-done l = record {
  at_most : l.total ≤ 1_048_577;
  size : HasSize (AreItems (IsEncoding (rule_of l.rule) (ty_view l.ty)) (map value_view (drop (l.count - l.done) l.items))) l.total;
}
