use Rattle.std.proofs.Common.{◌≡◌, ◌-◌, get_or, pos, arith, rules}
use Rattle.types.proofs.LoopLemmas.{is_so, is_not_so}
use Rattle.types.proofs.ItemLemmas.{differ_moved, differ_in_order, moved_back}
use Rattle.types.proofs.items.differ.Goals as goal

pub returns-then-numbers-i : goal.returns-then-numbers-i
returns-then-numbers-i c =
    let sorted = c.sort_unstable.new.self in
    let same : get_or sorted (c.loop-i.i - 1) (pos 0) ≡ get_or sorted c.loop-i.i (pos 0) = search rules in
    is_not_so (λ h. differ_moved _ _ c.sort_unstable.ensures.permutation h (c.loop-i.i - 1) c.loop-i.i (pos 0) (omega arith) (omega arith) same)

pub returns : goal.returns
returns c = is_so (moved_back _ _ c.sort_unstable.ensures.permutation (differ_in_order _ c.sort_unstable.ensures.sorted (λ k d below. c.loop-i.invariant k d (omega arith))))
