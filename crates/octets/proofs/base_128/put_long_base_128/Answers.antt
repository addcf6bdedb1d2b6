use Rattle.std.proofs.Common.{◌+◌, ◌/◌, ◌%◌, [], ◌∷◌, ◌++◌, ◌∙◌, ap, arith, append_assoc}
use Rattle.octets.proofs.Base128Lemmas.{base_128-pair, base_128-triple}
use Rattle.octets.proofs.base_128.put_long_base_128.Goals as goal

pub returns-then-capacity-len-ge2-clause-appended : goal.returns-then-capacity-len-ge2-clause-appended
returns-then-capacity-len-ge2-clause-appended c =
    let n = c.args.number in
    let first = 128 + n / 128 in
    let last = n % 128 in (
      first ∷ last ∷ [],
      c.push_reserved-then-capacity-len-ge2.ensures.items ∙ (ap (λ t. t ++ last ∷ []) c.push_reserved.ensures.items ∙ append_assoc c.args.out.now.items (first ∷ []) (last ∷ [])),
      base_128-pair n (omega arith) (omega arith),
    )

pub returns-then-capacity-len-ge3-clause-appended : goal.returns-then-capacity-len-ge3-clause-appended
returns-then-capacity-len-ge3-clause-appended c =
    let n = c.args.number in
    let old = c.args.out.now.items in
    let first = 128 + n / 128 / 128 in
    let second = 128 + n / 128 % 128 in
    let last = n % 128 in
    let two = c.push_reserved-then-capacity-len-ge3-2.ensures.items ∙ (ap (λ t. t ++ second ∷ []) c.push_reserved-then-capacity-len-ge3.ensures.items ∙ append_assoc old (first ∷ []) (second ∷ [])) in (
      first ∷ second ∷ last ∷ [],
      c.push_reserved-then-capacity-len-ge3-3.ensures.items ∙ (ap (λ t. t ++ last ∷ []) two ∙ append_assoc old (first ∷ second ∷ []) (last ∷ [])),
      base_128-triple n (omega arith) (omega arith),
    )
