use Rattle.std.proofs.Common.{map, take}
use Rattle.syntax.specs.View.{entry}
use Rattle.builtin_types.specs.Numbering.{written_numbers}
use Rattle.builtin_types.specs.Written.{AreFitting}
use Rattle.builtin_types.proofs.numbering.written_numbers.Given as goal

abbrev pub invariant-loop-item : goal.invariant-loop-item
invariant-loop-item l = AreFitting (written_numbers (map entry (take l.item-index l.items))) l.written.items
