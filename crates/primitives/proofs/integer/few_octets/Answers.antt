use Rattle.std.proofs.Common.{◌≡◌, length, arith}
use Rattle.std.proofs.lemmas.Int.{ints}
use Rattle.primitives.proofs.IntegerLemmas.{three_octets, four_octets}
use Rattle.primitives.proofs.integer.few_octets.Goals as goal

pub returns-in-len3 : goal.returns-in-len3
returns-in-len3 c =
    let three : length c.args.contents.now ≡ 3 = omega (arith, c.in-len3.len_at_least, c.in-len3.len_below) in
    (omega (arith, three), omega (arith, ints, three_octets c.args.contents.now three (λ i. omega (arith, c.type_inv.contents i)), c.from_be_bytes.ensures, c.from_be_bytes.type_inv, c.from-in-len3.ensures, c.from-in-len3-2.ensures))

pub returns-in-len4 : goal.returns-in-len4
returns-in-len4 c =
    let four : length c.args.contents.now ≡ 4 = omega (arith, c.in-len4.len_at_least, c.in-len4.len_below) in
    (omega (arith, four), omega (arith, ints, four_octets c.args.contents.now four (λ i. omega (arith, c.type_inv.contents i)), c.from_be_bytes-in-len4.ensures, c.from_be_bytes-in-len4.type_inv))
