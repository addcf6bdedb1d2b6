use Rattle.std.proofs.Common.{true, ◌≡◌, ◌+◌, ◌∷◌, [], ◌++◌, refl, ap, inl, arith}
use Rattle.octets.specs.Front.{Appends}
use Rattle.octets.specs.Identifier.{class_bits, form_bit}
use Rattle.octets.proofs.LengthLemmas.{IsShortestLength-short}
use Rattle.octets.proofs.ResultLemmas.{OnOk-map}
use Rattle.canon.specs.Turned.{IsTurnedHead}
use Rattle.canon.proofs.turned.put_turned_head.Goals as goal

pub returns-then-contents-lt128-clause-appended : goal.returns-then-contents-lt128-clause-appended
returns-then-contents-lt128-clause-appended c =
    let tag = c.args.tag in
    let n = c.args.contents in
    let first = c.leading_octet.result + 32 in
    let old = c.args.out.now.items in
    let new = c.put_pair.new.out.items in
    let spelt : first ≡ class_bits tag.class + form_bit true + tag.number = omega (arith, c.leading_octet.ensures) in
    OnOk-map c.put_pair.result (new ≡ old ++ n ∷ first ∷ []) (Appends (IsTurnedHead tag n) old new)
    (λ is. (
      n ∷ first ∷ [],
      is,
      record {
        identifier = first ∷ [];
        size = n ∷ [];
        tagged = inl record { low = omega (arith, c.if-tag-lt31.true); spelt = ap (λ m. m ∷ []) spelt };
        sized = IsShortestLength-short n c.if-contents-lt128.true;
        is = refl;
      },
    ))
    c.put_pair.ensures.appended
