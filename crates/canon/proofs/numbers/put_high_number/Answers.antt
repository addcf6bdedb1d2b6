use Rattle.std.proofs.Common.{ℤ, subst, arith}
use Rattle.std.specs.Int.{w128}
use Rattle.std.proofs.lemmas.Int.{to_z-of_z}
use Rattle.primitives.specs.Integer.{IsInteger}
use Rattle.canon.specs.Few.{Spells}
use Rattle.canon.specs.Leaf.{IsNumberEncoding}
use Rattle.canon.proofs.WordLemmas.{joined_count, number_spelt, put_spelt}
use Rattle.canon.proofs.numbers.put_high_number.Goals as goal

pub high_head-requires-clause-short : goal.high_head-requires-clause-short
high_head-requires-clause-short c = omega (arith, c.contents_near-contents.ensures.few 3 c.if-distance.true)

pub joined-requires-clause-fit : goal.joined-requires-clause-fit
joined-requires-clause-fit c = omega (arith, c.contents_near-contents.ensures.few 3 c.if-distance.true, c.high_head.ensures.few)

pub put_few-requires : goal.put_few-requires
put_few-requires c =
    omega (arith, c.contents_near-contents.ensures.few 3 c.if-distance.true, c.high_head.ensures.few, joined_count c.joined.result c.high_head.ensures.head c.contents_near-contents.ensures.contents c.joined.ensures)

pub returns-then-distance : goal.returns-then-distance
returns-then-distance c =
    let tag = c.args.tag in
    let number = c.args.number in
    let contents = c.contents_near-contents.result in
    let spelt = subst (λ (n : ℤ). Spells (IsInteger n) contents) (to_z-of_z w128 number c.ranges.number) c.contents_near-contents.ensures.contents in
    put_spelt (IsNumberEncoding tag number) c.put_few.result c.joined.result c.args.out.now.items c.put_few.new.out.items (number_spelt tag number c.high_head.result contents c.joined.result c.high_head.ensures.head spelt c.joined.ensures) c.put_few.ensures.appended c.put_few.ensures.unchanged
