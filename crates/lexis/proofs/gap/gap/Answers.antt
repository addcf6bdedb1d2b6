use Rattle.std.proofs.Common.{◌≡◌, ℕ, ◌-◌, List, length, take, drop, sym, subst, Some, None}
use Rattle.std.proofs.lemmas.List.{take_rest}
use Rattle.lexis.specs.Gap.{IsPiece}
use Rattle.lexis.proofs.GapLemmas.{reach_on, reach_end, reach_end_only, room_behind, Stops}
use Rattle.lexis.proofs.gap.gap.Goals as goal

-- the only piece of a slice from an octet on is that of what follows that many octets
only-behind : (x : List ℕ) (count k : ℕ) → ((n : ℕ) → IsPiece (take (length x - count) (drop count x)) n → Some k ≡ Some n) → (n : ℕ) → IsPiece (drop count x) n → n ≡ k
only-behind x count k only n p = let e = only n (subst (λ y. IsPiece y n) (sym (take_rest x count)) p) in cc

never-behind : (x : List ℕ) (count : ℕ) → ((n : ℕ) → IsPiece (take (length x - count) (drop count x)) n → None ≡ Some n) → Stops (drop count x)
never-behind x count only n p = let e = only n (subst (λ y. IsPiece y n) (sym (take_rest x count)) p) in cc

pub loop-used-preserved : goal.loop-used-preserved
loop-used-preserved c =
    let x = c.args.octets.now in
    let at = c.loop-used.count in
    record {
      within = room_behind x at c.in-Some.used c.loop-used.invariant.within c.in-Some.ensures.within.1;
      reached = reach_on x at c.in-Some.used (subst (λ y. IsPiece y c.in-Some.used) (take_rest x at) c.in-Some.ensures.value) (only-behind x at c.in-Some.used c.in-Some.ensures.only) c.loop-used.invariant.reached;
    }

pub returns-clause-value : goal.returns-clause-value
returns-clause-value c = reach_end c.args.octets.now c.loop-used.count c.loop-used.invariant.reached

pub returns-clause-only : goal.returns-clause-only
returns-clause-only c =
    let x = c.args.octets.now in
    let at = c.loop-used.count in
    reach_end_only x at (never-behind x at c.in_default.ensures.only) c.loop-used.invariant.reached
