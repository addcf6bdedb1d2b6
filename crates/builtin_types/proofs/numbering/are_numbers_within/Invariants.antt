use Rattle.std.proofs.Common.{map, List}
use Rattle.syntax.specs.declared.tree.Item.{Item}
use Rattle.syntax.specs.View.{entry}
use Rattle.types.proofs.LoopLemmas.{IsLeftTo}
use Rattle.builtin_types.specs.Numbering.{AreWithin}
use Rattle.builtin_types.proofs.numbering.are_numbers_within.Given as goal

abbrev pub invariant-loop-item : goal.invariant-loop-item
invariant-loop-item l = IsLeftTo (λ (items : List Item). AreWithin (map entry items)) l.items l.item-index
