use Rattle.std.proofs.Common.{◌≡◌, ◌∙◌, ◌+◌, ◌-◌, ◌/◌, sym, ap, subst, arith}
use Rattle.std.specs.Int.Count.{count_leading_zeros}
use Rattle.std.specs.Int.{w128}
use Rattle.std.proofs.lemmas.Int.{to_z-of_z}
use Rattle.std.proofs.lemmas.Nat.{leading_length}
use Rattle.primitives.specs.Integer.{IsInteger}
use Rattle.canon.proofs.NumberLemmas.{size_by_bits, few_bits}
use Rattle.canon.proofs.contents.size_of_integer.Goals as goal

pub returns-clause-size : goal.returns-clause-size
returns-clause-size c = λ contents h.
    let distance = c.distance_of.result in
    let at = c.distance_of.ensures.distance in
    let there = leading_length 128 distance (omega (arith, c.distance_of.ensures.near)) in
    let same : there.0 ≡ 128 - count_leading_zeros 128 distance = omega (arith, there.1) in
    size_by_bits at.0 distance there.0 contents there.2 there.3 (subst (λ n. IsInteger n contents) at.1 (subst (λ n. IsInteger n contents) (sym (to_z-of_z w128 c.args.number c.ranges.number)) h)) ∙ ap (λ n. n / 8 + 1) same

pub returns-clause-at_most : goal.returns-clause-at_most
returns-clause-at_most c =
    let distance = c.distance_of.result in
    let there = leading_length 128 distance (omega (arith, c.distance_of.ensures.near)) in
    omega (arith, there.1, few_bits 127 distance there.0 c.distance_of.ensures.near there.3)
