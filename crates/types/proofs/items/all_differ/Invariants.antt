use Rattle.std.proofs.Common.{◌≡◌, take, length}
use Rattle.types.proofs.ItemLemmas.{item_numbers}
use Rattle.types.proofs.items.all_differ.Given as goal

abbrev pub invariant-loop-i : goal.invariant-loop-i
invariant-loop-i l = (item_numbers (take l.i l.items) ≡ take l.i l.numbers) × (length l.numbers ≡ 256)
