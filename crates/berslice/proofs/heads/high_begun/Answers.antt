use Rattle.std.proofs.Common.{arith}
use Rattle.berslice.proofs.HeadLemmas.{pair_identifier, triple_identifier}
use Rattle.berslice.proofs.heads.high_begun.Goals as goal

pub returns-then-tag-lt128 : goal.returns-then-tag-lt128
returns-then-tag-lt128 c =
    let octets = c.args.octets.now in
    let first = c.if-octets-class_octet.false in
    (omega (arith, c.requires.there), pair_identifier c.args.tag c.args.constructed octets c.requires.number.0 c.if-tag-lt128.true (omega (arith, c.requires.there)) (omega (arith, first, c.class_octet.ensures, c.form_octet.ensures)) (omega arith))

pub returns : goal.returns
returns c =
    let octets = c.args.octets.now in
    let first = c.if-octets-class_octet.false in
    (c.requires.there, triple_identifier c.args.tag c.args.constructed octets c.if-tag-lt128.false c.requires.number.1 c.requires.there (omega (arith, first, c.class_octet.ensures, c.form_octet.ensures)) (omega arith) (omega arith))
