use Rattle.std.proofs.Common.{arith, sym, ◌∙◌, ◌≡◌, ◌≤◌, ◌+◌, get_or, true}
use Rattle.std.specs.Char.{is_ascii_digit}
use Rattle.std.specs.List.{prefix_len}
use Rattle.lexis.proofs.NumberLemmas.{value_more, value_at_most, run_more}
use Rattle.lexis.proofs.number.digits.Goals as goal

pub returns-then-value-digit-clause-above : goal.returns-then-value-digit-clause-above
returns-then-value-digit-clause-above c =
    let x = c.args.octets.now in
    let i = c.loop-count.count in
    let d : is_ascii_digit (get_or x i 0) ≡ true = sym c.is_ascii_digit.ensures.value ∙ c.if-is_ascii_digit.true in
    let v = value_more x i c.loop-count.value c.from-digit.result c.loop-count-test.true d c.loop-count.invariant.value c.from-digit.ensures in
    let run = run_more x i _ c.loop-count-test.true d c.loop-count.invariant.run in
    let within : i + 1 ≤ prefix_len is_ascii_digit x = omega arith in
    let up = value_at_most x (i + 1) (prefix_len is_ascii_digit x) within in
    omega arith

pub loop-count-preserved : goal.loop-count-preserved
loop-count-preserved c =
    let x = c.args.octets.now in
    let i = c.loop-count.count in
    let d : is_ascii_digit (get_or x i 0) ≡ true = sym c.is_ascii_digit.ensures.value ∙ c.if-is_ascii_digit.true in
    record {
      within = omega arith;
      run = run_more x i _ c.loop-count-test.true d c.loop-count.invariant.run;
      value = value_more x i c.loop-count.value c.from-digit.result c.loop-count-test.true d c.loop-count.invariant.value c.from-digit.ensures;
      limit = omega arith;
    }
