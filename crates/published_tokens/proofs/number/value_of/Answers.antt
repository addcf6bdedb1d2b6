use Rattle.std.proofs.Common.{arith, sym, ◌∙◌, ◌≡◌, get_or, true}
use Rattle.std.specs.Char.{is_ascii_digit}
use Rattle.lexis.proofs.NumberLemmas.{value_more}
use Rattle.published_tokens.proofs.number.value_of.Goals as goal

pub loop-octet-preserved : goal.loop-octet-preserved
loop-octet-preserved c =
    let x = c.args.digits.now in
    let i = c.loop-octet.octet-index in
    let d : is_ascii_digit (get_or x i 0) ≡ true = sym c.is_ascii_digit.ensures.value ∙ c.if-not-is_ascii_digit.false in
    record {
      value = value_more x i c.loop-octet.value c.from-digit.result c.loop-octet-test.true d c.loop-octet.invariant.value c.from-digit.ensures;
      limit = omega arith;
    }
