use Rattle.std.proofs.Common.{◌≡◌, pos, map, take, length}
use Rattle.types.proofs.ItemLemmas.{bit_numbers}
use Rattle.types.proofs.items.all_bits_differ.Given as goal

abbrev pub invariant-loop-i : goal.invariant-loop-i
invariant-loop-i l = (map pos (bit_numbers (take l.i l.bits)) ≡ take l.i l.numbers) × (length l.numbers ≡ 256)
