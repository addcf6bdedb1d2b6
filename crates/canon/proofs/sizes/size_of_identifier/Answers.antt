use Rattle.std.proofs.Common.{◌≡◌, ◌^◌, arith, refl}
use Rattle.octets.proofs.IdentifierOctetsLemmas.{IsIdentifier-size_low}
use Rattle.octets.proofs.SizeLemmas.{high_tag_size}
use Rattle.canon.proofs.sizes.size_of_identifier.Goals as goal

pub returns-in-0-to-30-clause-size : goal.returns-in-0-to-30-clause-size
returns-in-0-to-30-clause-size c = λ constructed b h. IsIdentifier-size_low c.args.tag constructed b (omega arith) h

pub returns-in-31-to-127-clause-size : goal.returns-in-31-to-127-clause-size
returns-in-31-to-127-clause-size c = λ constructed b h.
    let low : 128 ^ 0 ≡ 1 = refl in
    let high : 128 ^ 1 ≡ 128 = refl in
    high_tag_size c.args.tag constructed 0 b (omega arith) (omega arith) (omega arith) h

pub returns-in-128-to-16383-clause-size : goal.returns-in-128-to-16383-clause-size
returns-in-128-to-16383-clause-size c = λ constructed b h.
    let low : 128 ^ 1 ≡ 128 = refl in
    let high : 128 ^ 2 ≡ 16384 = refl in
    high_tag_size c.args.tag constructed 1 b (omega arith) (omega arith) (omega arith) h

pub returns-in-16384-to-2097151-clause-size : goal.returns-in-16384-to-2097151-clause-size
returns-in-16384-to-2097151-clause-size c = λ constructed b h.
    let low : 128 ^ 2 ≡ 16384 = refl in
    let high : 128 ^ 3 ≡ 2097152 = refl in
    high_tag_size c.args.tag constructed 2 b (omega arith) (omega arith) (omega arith) h

pub returns-in_default-clause-size : goal.returns-in_default-clause-size
returns-in_default-clause-size c = λ constructed b h.
    let low : 128 ^ 3 ≡ 2097152 = refl in
    let high : 128 ^ 4 ≡ 268435456 = refl in
    high_tag_size c.args.tag constructed 3 b (omega arith) (omega arith) (omega arith) h
