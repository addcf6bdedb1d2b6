use Rattle.std.proofs.Common.{◌≡◌, ◌∙◌, ◌-◌, ◌+◌, ◌∷◌, [], ◌++◌, refl, ap, inl, sym, length, arith, append_assoc, length-append}
use Rattle.octets.specs.Identifier.{class_bits, form_bit}
use Rattle.canon.proofs.OpeningLemmas.{opened}
use Rattle.canon.proofs.heads.put_opening.Goals.{then-constructed, else-constructed}
use Rattle.canon.proofs.heads.put_opening.Goals as goal

pub returns-then-tag-lt31-clause-opened : goal.returns-then-tag-lt31-clause-opened
returns-then-tag-lt31-clause-opened c =
    let tag = c.args.tag in
    let form = c.if-constructed.form in
    let first = c.leading_octet.result + form in
    let old = c.args.out.now.items in
    let new = c.put_pair.new.out.items in
    let is : new ≡ old ++ first ∷ 128 ∷ [] = c.in_ok-put_pair.ensures.appended in
    let bit : form ≡ form_bit c.args.constructed = elim c.if-constructed.branch [
      | then-constructed w ↦ w.form-is ∙ sym (ap form_bit w.if-constructed.true)
      | else-constructed w ↦ w.form-is ∙ sym (ap form_bit w.if-constructed.false)
    ] in
    let spelt : first ≡ class_bits tag.class + form_bit c.args.constructed + tag.number = omega (arith, c.leading_octet.ensures, bit) in
    opened tag c.args.constructed old (old ++ first ∷ []) new (c.len.result - 1) (first ∷ [], refl, inl record { low = omega (arith, c.if-tag-lt31.true); spelt = ap (λ n. n ∷ []) spelt })
    (is ∙ sym (append_assoc old (first ∷ []) (128 ∷ []))) (omega (arith, c.len.ensures, ap length is, length-append old (first ∷ 128 ∷ [])))
