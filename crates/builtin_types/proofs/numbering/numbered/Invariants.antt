use Rattle.std.proofs.Common.{map, take}
use Rattle.syntax.specs.View.{entry}
use Rattle.types.specs.View.{item_view}
use Rattle.builtin_types.proofs.NumberedLemmas.{AreNumberedSoFar}
use Rattle.builtin_types.proofs.numbering.numbered.Given as goal

abbrev pub invariant-loop-item : goal.invariant-loop-item
invariant-loop-item l = AreNumberedSoFar (map entry l.items) (map entry (take l.item-index l.items)) (map item_view l.numbered.items) l.item-index l.free
