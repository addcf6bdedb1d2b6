use Rattle.std.proofs.Common.{drop}
use Rattle.types.specs.View.{ty_view}
use Rattle.texts.proofs.PlainLemmas.{ItemsOrdered, SlotsOrdered}
use Rattle.texts.proofs.plain.+plain.Given as goal

abbrev pub invariant-all_plain-loop-item : goal.invariant-all_plain-loop-item
invariant-all_plain-loop-item l = ItemsOrdered (ty_view l.ty) (drop l.item-index l.items) → ItemsOrdered (ty_view l.ty) l.items

abbrev pub invariant-are_plain-loop-i : goal.invariant-are_plain-loop-i
invariant-are_plain-loop-i l = SlotsOrdered (drop l.i l.fields) (drop l.i l.slots) → SlotsOrdered l.fields l.slots
