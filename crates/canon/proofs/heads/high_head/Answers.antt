use Rattle.std.proofs.Common.{◌+◌, ◌-◌, ◌*◌, ◌/◌, ◌%◌, ◌^◌, ◌∷◌, [], ℕ, refl, sym, subst, arith}
use Rattle.octets.proofs.IdentifierOctetsLemmas.{class_bits-below}
use Rattle.canon.specs.Few.{Spells}
use Rattle.canon.specs.Leaf.{IsPrimitiveHead}
use Rattle.canon.proofs.PrimitiveLemmas.{high_head_one, high_head_two}
use Rattle.canon.proofs.WordLemmas.{three_octets, four_octets}
use Rattle.canon.proofs.heads.high_head.Goals as goal
use Rattle.canon.proofs.heads.high_head.Goals.{then-number-lt128, else-number-lt128}

pub returns-clause-head : goal.returns-clause-head
returns-clause-head c =
    let tag = c.args.tag in
    let n = c.args.contents in
    let first = c.class_octet.result + 31 in
    let digit = tag.number % 128 in
    let few = c.requires.short in
    let most = class_bits-below tag.class in
    let octet = c.class_octet.ensures in
    let led = c.from-first.ensures in
    let same = c.from-number.ensures in
    let spelt = λ (made : ℕ × ℕ). Spells (IsPrimitiveHead tag n) (record {
      count = made.0;
      word = ((((c.from-first.result + 31) * 2 ^ (8 * made.0 - 16)) % 2 ^ 64 + made.1) * 256 + n) * 2 ^ (64 - 8 * made.0) % 2 ^ 64;
    }) in
    elim c.if-number-lt128.branch [
      | then-number-lt128 w ↦
          let low = w.if-number-lt128.true in
          subst spelt (sym w.count-is) (record {
            octets = first ∷ digit ∷ n ∷ [];
            are = three_octets _ first digit n (omega (arith, octet, most)) (omega arith) (omega (arith, few)) refl (omega (arith, led, octet, most, same, low, few));
            holds = high_head_one tag n first c.requires.high (omega (arith, same, low)) few (omega (arith, octet));
          })
      | else-number-lt128 w ↦
          let more = 128 + tag.number / 128 in
          let high = w.if-number-lt128.false in
          let digits = c.requires.digits in
          subst spelt (sym w.count-is) (record {
            octets = first ∷ more ∷ digit ∷ n ∷ [];
            are = four_octets _ first more digit n (omega (arith, octet, most)) (omega (arith, digits)) (omega arith) (omega (arith, few)) refl (omega (arith, led, octet, most, same, digits, few));
            holds = high_head_two tag n first (omega (arith, same, high)) digits few (omega (arith, octet));
          })
    ]
