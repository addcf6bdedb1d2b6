use Rattle.std.proofs.Common.{◌≡◌, ◌^◌, arith, refl}
use Rattle.octets.proofs.SizeLemmas.{short_length_size, long_length_size}
use Rattle.canon.proofs.sizes.size_of_length.Goals as goal

pub returns-in-0-to-127-clause-size : goal.returns-in-0-to-127-clause-size
returns-in-0-to-127-clause-size c = λ b h. short_length_size c.args.octets b (omega arith) h

pub returns-in-128-to-255-clause-size : goal.returns-in-128-to-255-clause-size
returns-in-128-to-255-clause-size c = λ b h.
    let low : 256 ^ 0 ≡ 1 = refl in
    let high : 256 ^ 1 ≡ 256 = refl in
    long_length_size c.args.octets 0 b (omega arith) (omega arith) (omega arith) (omega arith) h

pub returns-in-256-to-65535-clause-size : goal.returns-in-256-to-65535-clause-size
returns-in-256-to-65535-clause-size c = λ b h.
    let low : 256 ^ 1 ≡ 256 = refl in
    let high : 256 ^ 2 ≡ 65536 = refl in
    long_length_size c.args.octets 1 b (omega arith) (omega arith) (omega arith) (omega arith) h

pub returns-in_default-clause-size : goal.returns-in_default-clause-size
returns-in_default-clause-size c = λ b h.
    let low : 256 ^ 2 ≡ 65536 = refl in
    let high : 256 ^ 3 ≡ 16777216 = refl in
    let room : 2 ^ 24 ≡ 16777216 = refl in
    long_length_size c.args.octets 2 b (omega arith) (omega arith) (omega arith) (omega arith) h
