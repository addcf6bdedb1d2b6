use Rattle.std.proofs.Common.{rules, ◌≡◌, ◌≤ℤ◌, ◌<ℤ◌, ◌+ℤ◌, ℤ, pos, ◌+◌, ◌<◌, List, length, get_or, to_z, of_z, FitsSigned, sym, ap, ◌∙◌, subst, arith}
use Rattle.std.specs.Int.{w128}
use Rattle.std.proofs.lemmas.Int.{to_z-of_z}
use Rattle.builtin_types.specs.declared.numbering.FreeNumbers.{FreeNumbers}
use Rattle.builtin_types.specs.Written.{IsFree, IsPassed, farthest}
use Rattle.builtin_types.proofs.FreeLemmas.{IsUnderWay, under_way-below, under_way-equal, under_way-free, under_way-passed, farthest-equal, farthest-below, equal_of, below_of, above_of, next_of}
use Rattle.builtin_types.proofs.numbering.FreeNumbers.take.Goals as goal
use Rattle.builtin_types.proofs.numbering.FreeNumbers.take.Goals.{then-self-2+in_ok-self, else-self-2, then-loop-self-test+else-self, else-loop-self-test}

pub loop-self-preserved : goal.loop-self-preserved
loop-self-preserved c =
    let xs = c.loop-self.self.written.now in
    let same : xs ≡ c.args.self.now.written.now = c.loop-self.invariant.0 in
    let x = get_or xs c.loop-self.self.passed (pos 0) in
    let n = c.loop-self.self.next in
    let from = c.args.self.now.next in
    let most = farthest c.args.self.now.written.now c.args.self.now.passed from in
    let fits_x : FitsSigned w128 x = search rules in
    let fits_n : FitsSigned w128 n = search rules in
    elim c.if-self-2.branch [
      | then-self-2+in_ok-self w ↦ (
        ap (λ (s : FreeNumbers). s.written.now) w.self-is ∙ same,
        λ sorted before.
            let way : IsUnderWay xs from c.loop-self.self.passed n = subst (λ (l : List ℤ). IsUnderWay l from c.loop-self.self.passed n) (sym same) (c.loop-self.invariant.1 sorted before) in
            let more : IsUnderWay xs from (c.loop-self.self.passed + 1) (n +ℤ pos 1) = under_way-equal xs from c.loop-self.self.passed n c.loop-self-test.true (equal_of x n fits_x fits_n w.if-self-2.true) way in
            let next : to_z w128 (of_z w128 w.in_ok-self.field-0) ≡ n +ℤ pos 1 = next_of n w.in_ok-self.field-0 fits_n w.in_ok-self.ensures.0 w.in_ok-self.ensures.1 in
            subst (λ (s : FreeNumbers). IsUnderWay c.args.self.now.written.now from (s.passed + 1) s.next) (sym w.self-is)
            (subst (λ (z : ℤ). IsUnderWay c.args.self.now.written.now from (c.loop-self.self.passed + 1) z) (sym next)
            (subst (λ (l : List ℤ). IsUnderWay l from (c.loop-self.self.passed + 1) (n +ℤ pos 1)) same more)),
        let next : to_z w128 (of_z w128 w.in_ok-self.field-0) ≡ n +ℤ pos 1 = next_of n w.in_ok-self.field-0 fits_n w.in_ok-self.ensures.0 w.in_ok-self.ensures.1 in
            subst (λ (s : FreeNumbers). farthest s.written.now (s.passed + 1) s.next ≤ℤ most) (sym w.self-is)
            (subst (λ (z : ℤ). farthest xs (c.loop-self.self.passed + 1) z ≤ℤ most) (sym next) (farthest-equal xs c.loop-self.self.passed n most c.loop-self-test.true c.loop-self.invariant.2)),
      )
      | else-self-2 w ↦ (
        ap (λ (s : FreeNumbers). s.written.now) w.self-is ∙ same,
        λ sorted before.
            let way : IsUnderWay xs from c.loop-self.self.passed n = subst (λ (l : List ℤ). IsUnderWay l from c.loop-self.self.passed n) (sym same) (c.loop-self.invariant.1 sorted before) in
            let more : IsUnderWay xs from (c.loop-self.self.passed + 1) n = under_way-below xs from c.loop-self.self.passed n c.loop-self-test.true (below_of x n fits_x fits_n c.if-self.true w.if-self-2.false) way in
            subst (λ (s : FreeNumbers). IsUnderWay c.args.self.now.written.now from (s.passed + 1) s.next) (sym w.self-is)
            (subst (λ (l : List ℤ). IsUnderWay l from (c.loop-self.self.passed + 1) n) same more),
        subst (λ (s : FreeNumbers). farthest s.written.now (s.passed + 1) s.next ≤ℤ most) (sym w.self-is) (farthest-below xs c.loop-self.self.passed n most c.loop-self.invariant.2),
      )
    ]

pub returns-clause-free : goal.returns-clause-free
returns-clause-free c = λ sorted before.
    let xs = c.args.self.now.written.now in
    let same : c.loop-self.self.written.now ≡ xs = c.loop-self.invariant.0 in
    let n = c.loop-self.self.next in
    let from = c.args.self.now.next in
    let fits_n : FitsSigned w128 n = search rules in
    let above : c.loop-self.self.passed < length xs → n <ℤ get_or xs c.loop-self.self.passed (pos 0) = elim c.loop-self-test.branch [
      | then-loop-self-test+else-self w ↦ (λ within.
          let fits_x : FitsSigned w128 (get_or c.loop-self.self.written.now c.loop-self.self.passed (pos 0)) = search rules in
          subst (λ (l : List ℤ). n <ℤ get_or l c.loop-self.self.passed (pos 0)) same (above_of _ n fits_x fits_n w.if-self.false))
      | else-loop-self-test w ↦ (λ within. let long = ap length same in absurd (omega (arith, long, within, w.loop-self-test.false)))
    ] in
    subst (λ (z : ℤ). IsFree xs from z) (sym (to_z-of_z w128 n fits_n)) (under_way-free xs from c.loop-self.self.passed n sorted above (c.loop-self.invariant.1 sorted before))

pub returns-clause-passed : goal.returns-clause-passed
returns-clause-passed c = λ sorted before.
    let xs = c.args.self.now.written.now in
    let same : c.loop-self.self.written.now ≡ xs = c.loop-self.invariant.0 in
    let n = c.loop-self.self.next in
    let fits_n : FitsSigned w128 n = search rules in
    let next : to_z w128 (of_z w128 c.in_ok-self-2.field-0) ≡ n +ℤ pos 1 = next_of n c.in_ok-self-2.field-0 fits_n c.in_ok-self-2.ensures.0 c.in_ok-self-2.ensures.1 in
    let past : IsPassed xs c.loop-self.self.passed (n +ℤ pos 1) = under_way-passed xs c.args.self.now.next c.loop-self.self.passed n (c.loop-self.invariant.1 sorted before) in
    let moved : IsPassed xs c.loop-self.self.passed (to_z w128 (of_z w128 c.in_ok-self-2.field-0)) = subst (λ (z : ℤ). IsPassed xs c.loop-self.self.passed z) (sym next) past in (
      next ∙ ap (λ (z : ℤ). z +ℤ pos 1) (sym (to_z-of_z w128 n fits_n)),
      subst (λ (l : List ℤ). IsPassed l c.loop-self.self.passed (to_z w128 (of_z w128 c.in_ok-self-2.field-0))) (sym same) moved,
    )
