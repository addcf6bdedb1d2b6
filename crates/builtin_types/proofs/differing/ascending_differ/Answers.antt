use Rattle.std.proofs.Common.{◌≡◌, ◌-◌, get_or, pos, arith, rules}
use Rattle.types.proofs.LoopLemmas.{is_so, is_not_so}
use Rattle.types.proofs.ItemLemmas.{differ_in_order}
use Rattle.builtin_types.proofs.differing.ascending_differ.Goals as goal

pub returns-then-numbers-place : goal.returns-then-numbers-place
returns-then-numbers-place c =
    let numbers = c.args.numbers.now in
    let place = c.loop-place.place in
    let same : get_or numbers (place - 1) (pos 0) ≡ get_or numbers place (pos 0) = search rules in
    is_not_so (λ differ. differ (place - 1) place (pos 0) (omega arith) (omega arith) same)

pub returns : goal.returns
returns c = is_so (differ_in_order _ c.requires (λ k d below. c.loop-place.invariant k d (omega arith)))
