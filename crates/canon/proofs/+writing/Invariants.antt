use Rattle.std.proofs.Common.{map, take}
use Rattle.octets.specs.Front.{Appends}
use Rattle.octets.specs.Rule.{rule_of}
use Rattle.types.specs.Encoding.{IsEncoding}
use Rattle.types.specs.Shape.{Shape}
use Rattle.types.specs.View.{ty_view, value_view, alternatives_view}
use Rattle.canon.specs.Node.{AreItems}
use Rattle.canon.specs.Part.{AreLaid}
use Rattle.canon.proofs.JoinLemmas.{BeginsComponents}
use Rattle.canon.proofs.TagPutLemmas.{LaidTo}
use Rattle.canon.proofs.+writing.Given as goal

abbrev pub invariant-writer::Writer::put_items-loop-item : goal.invariant-writer::Writer::put_items-loop-item
invariant-writer::Writer::put_items-loop-item l = Appends (AreItems (IsEncoding (rule_of l.self.rule) (ty_view l.ty)) (map value_view (take l.item-index l.items))) l.initial.out.items l.out.items

abbrev pub invariant-writer::Writer::put_alternatives-loop-item : goal.invariant-writer::Writer::put_alternatives-loop-item
invariant-writer::Writer::put_alternatives-loop-item l = Appends (AreItems (IsEncoding (rule_of l.self.rule) (Shape.choice (alternatives_view l.alternatives))) (map value_view (take l.item-index l.items))) l.initial.out.items l.out.items

abbrev pub invariant-writer::Writer::put_in_order-loop-item : goal.invariant-writer::Writer::put_in_order-loop-item
invariant-writer::Writer::put_in_order-loop-item l = AreLaid (IsEncoding (rule_of l.self.rule) (ty_view l.ty)) (map value_view (take l.item-index l.items)) l.parts.items l.initial.out.items l.out.items

abbrev pub invariant-writer::Writer::put_components-loop-place : goal.invariant-writer::Writer::put_components-loop-place
invariant-writer::Writer::put_components-loop-place l = Appends (BeginsComponents (rule_of l.self.rule) l.fields l.slots l.place) l.initial.out.items l.out.items

abbrev pub invariant-writer::Writer::put_by_tag-loop-index : goal.invariant-writer::Writer::put_by_tag-loop-index
invariant-writer::Writer::put_by_tag-loop-index l = LaidTo (rule_of l.self.rule) l.fields l.slots l.index l.parts.items l.initial.out.items l.out.items
