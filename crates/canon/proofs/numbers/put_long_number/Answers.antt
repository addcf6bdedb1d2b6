use Rattle.std.proofs.Common.{◌≡◌, ◌∙◌, ◌*◌, ◌%◌, ◌^◌, ◌-◌, ℤ, List, ℕ, length, ap, subst}
use Rattle.std.specs.Int.{w128, cast_unsigned}
use Rattle.std.proofs.lemmas.Int.{to_z-of_z}
use Rattle.primitives.specs.Integer.{IsInteger}
use Rattle.canon.proofs.NumberLemmas.{number_put}
use Rattle.canon.proofs.numbers.put_long_number.Goals as goal

pub returns : goal.returns
returns c =
    let tag = c.args.tag in
    let number = c.args.number in
    let count = c.size_of_integer-count.result in
    let is = to_z-of_z w128 number c.ranges.number in
    let sized = subst (λ (n : ℤ). (contents : List ℕ) → IsInteger n contents → length contents ≡ count) is c.size_of_integer-count.ensures.size in
    let bits : c.cast_unsigned.result ≡ cast_unsigned w128 number = c.cast_unsigned.ensures ∙ ap (cast_unsigned w128) is in
    let moved = ap (λ b. (b * 2 ^ (8 * (16 - count))) % 2 ^ 128) bits in
    let old : List ℕ = c.args.out.now.items in
    let mid : List ℕ = c.put_primitive_head.new.out.items in
    number_put c.put_first.result tag number count _ old mid c.put_first.new.out.items c.ranges.number c.size_of_integer-count.ensures.at_most moved sized c.in_ok-put_primitive_head.ensures.appended c.put_first.ensures.appended c.put_first.ensures.kept
