use Rattle.std.proofs.Common.{sym, ◌∙◌}
use Rattle.std.proofs.lemmas.Bool.{false≢true}
use Rattle.lexis.proofs.NumberLemmas.{number_token, too_large}
use Rattle.lexis.proofs.number.number_in_front.Goals as goal

pub returns-in-Some : goal.returns-in-Some
returns-in-Some c =
    let found = c.in-Some.ensures in
    number_token c.args.octets.now c.in-Some.value c.in-Some.count c.requires.apart c.requires.first (λ zero digit. false≢true (sym c.if-is_led_by_zero.false ∙ c.is_led_by_zero.ensures.1 (zero, digit))) found.count found.value found.limit

pub returns-in-None : goal.returns-in-None
returns-in-None c = too_large c.args.octets.now c.requires.first (λ zero digit. false≢true (sym c.if-is_led_by_zero.false ∙ c.is_led_by_zero.ensures.1 (zero, digit))) c.in-None.ensures.above
