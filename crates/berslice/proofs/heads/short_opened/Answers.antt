use Rattle.std.proofs.Common.{true, refl, ap, ◌∙◌, ◌∷◌, [], arith}
use Rattle.std.proofs.lemmas.List.{take_rest}
use Rattle.berslice.proofs.HeadLemmas.{low_identifier, short_length, octet_at, opened_definite, opened_indefinite}
use Rattle.berslice.proofs.heads.short_opened.Goals as goal

pub returns-then-octets : goal.returns-then-octets
returns-then-octets c =
    let octets = c.args.octets.now in
    let tagged = low_identifier c.args.tag true octets c.requires.0 (omega (arith, c.requires.1)) (omega (arith, c.if-octets-leading_octet.false, c.leading_octet.ensures)) in
    let marked = octet_at 1 octets (omega (arith, c.requires.1)) ∙ ap (λ octet. octet ∷ []) (omega (arith, c.if-octets.true)) in
    opened_indefinite c.args.tag 1 1 octets _ tagged marked c.requires.1 (take_rest octets 2)

pub returns : goal.returns
returns c =
    let octets = c.args.octets.now in
    let n = c.from-stop.result in
    let tagged = low_identifier c.args.tag true octets c.requires.0 (omega (arith, c.requires.1)) (omega (arith, c.if-octets-leading_octet.false, c.leading_octet.ensures)) in
    let sized = short_length n 1 octets (omega (arith, c.requires.1)) (omega (arith, c.if-octets-gt128.false, c.if-octets.false)) (omega (arith, c.from-stop.ensures)) in
    opened_definite c.args.tag 1 1 n octets _ tagged sized (omega (arith, c.if-stop-octets.false)) refl
