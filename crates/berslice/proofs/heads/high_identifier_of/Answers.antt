use Rattle.std.proofs.Common.{◌≡◌, ◌≤◌, ◌<◌, ◌+◌, ◌/◌, ◌%◌, ◌*◌, inl, inr, nat_eq, get_or, sym, ap, subst, arith}
use Rattle.octets.specs.declared.tag.Tag.{Tag}
use Rattle.octets.specs.Identifier.{class_bits, form_bit, IsReadIdentifier}
use Rattle.berslice.proofs.HeadLemmas.{form_bit-of, pair_identifier, triple_identifier}
use Rattle.berslice.proofs.heads.high_identifier_of.Goals as goal
use Rattle.berslice.proofs.heads.high_identifier_of.Goals.{then-second-lt128, else-second-lt128}

pub returns : goal.returns
returns c =
    let octets = c.args.octets.now in
    let first = get_or octets 0 0 in
    let constructed = nat_eq (first / 32 % 2) 1 in
    let class = c.class_of.result in
    let second = c.from-second.result in
    let third = c.from-third.result in
    let there = c.if-octets-lt3.false in
    let form = form_bit-of (first / 32 % 2) (omega arith) in
    let leading : first ≡ class_bits class + form_bit constructed + 31 = omega (arith, c.if-octets-ne31.false, c.class_of.ensures, form, c.type_inv.octets 0) in
    elim c.if-second-lt128.branch [
      | then-second-lt128 w ↦
          let high : 31 ≤ second = omega (arith, c.if-number-lt31.false, ap (λ p. p.1) w.count-is) in
          let tag : Tag = record { class = class; number = second } in
          subst (λ p. IsReadIdentifier octets record { class = class; number = p.1 } constructed p.0) (sym w.count-is) (record {
            there = omega (arith, there);
            within = omega (arith, w.if-second-lt128.true);
            identifier = pair_identifier tag constructed octets high w.if-second-lt128.true (omega (arith, there)) leading (sym c.from-second.ensures);
          })
      | else-second-lt128 w ↦
          let number = second % 128 * 128 + third in
          let tag : Tag = record { class = class; number = number } in
          let least = w.if-second-lt128.false in
          let octet : second < 256 = omega (arith, c.from-second.ensures, c.type_inv.octets 1) in
          let last : third < 128 = elim c.if-third-ge128.either [
            | inl both ↦ both.1
            | inr most ↦ absurd (c.if-second-eq128.false (omega (arith, least, most)))
          ] in
          let zero : 1 ≤ second % 128 = elim c.if-third-ge128.either [
            | inl both ↦ omega (arith, both.0, octet)
            | inr most ↦ absurd (c.if-second-eq128.false (omega (arith, least, most)))
          ] in
          subst (λ p. IsReadIdentifier octets record { class = class; number = p.1 } constructed p.0) (sym w.count-is) (record {
            there = there;
            within = omega (arith, last);
            identifier = triple_identifier tag constructed octets (omega (arith, zero)) (omega (arith, last)) there leading
                (omega (arith, c.from-second.ensures, least, octet, last)) (omega (arith, c.from-third.ensures, last));
          })
    ]
