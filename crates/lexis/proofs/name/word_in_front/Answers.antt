use Rattle.std.proofs.Common.{sym, ◌∙◌}
use Rattle.lexis.proofs.NameLemmas.{identifier_token, reserved_token, type_name_token}
use Rattle.lexis.proofs.name.word_in_front.Goals as goal

pub returns-then-is_ascii_lowercase : goal.returns-then-is_ascii_lowercase
returns-then-is_ascii_lowercase c =
    let w = c.word_octets-used.ensures in
    identifier_token c.args.octets.now c.word_octets-used.result c.requires.apart
    (record { letter = c.requires.first; some = w.some; within = w.within; each = w.value; whole = w.whole })
    (sym c.is_ascii_lowercase.ensures.value ∙ c.if-is_ascii_lowercase.true)

pub returns-in-Some : goal.returns-in-Some
returns-in-Some c =
    let w = c.word_octets-used.ensures in
    reserved_token c.args.octets.now c.word_octets-used.result c.requires.apart
    (record { letter = c.requires.first; some = w.some; within = w.within; each = w.value; whole = w.whole })
    (sym c.is_ascii_lowercase.ensures.value ∙ c.if-is_ascii_lowercase.false)
    (c.in-Some.field-0, c.in-Some.ensures.found)

pub returns-in-None : goal.returns-in-None
returns-in-None c =
    let w = c.word_octets-used.ensures in
    type_name_token c.args.octets.now c.word_octets-used.result c.requires.apart
    (record { letter = c.requires.first; some = w.some; within = w.within; each = w.value; whole = w.whole })
    (sym c.is_ascii_lowercase.ensures.value ∙ c.if-is_ascii_lowercase.false)
    (λ r. c.in-None.ensures.none r.0 r.1)
