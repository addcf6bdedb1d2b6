use Rattle.std.proofs.Common.{◌/◌, ◌%◌, ◌*◌, ◌^◌, ◌-◌, ◌<◌, length, get_or, arith}
use Rattle.std.proofs.lemmas.Bool.{eqb-true, eq-eqb}
use Rattle.strict.proofs.UnusedLemmas.{same_shifted, shifted_same, unused_zeros, unused_low}
use Rattle.strict.proofs.values.has_zeros_unused.Goals as goal

pub returns-in-len2-up : goal.returns-in-len2-up
returns-in-len2-up c = λ bits h.
    let contents = c.args.contents.now in
    let x = get_or contents (length contents - 1) 0 in
    let n = get_or contents 0 0 in
    let y = x / 2 ^ n * 2 ^ n % 256 in
    let low = unused_low bits contents h in
    let below : x < 256 = omega arith in
    let both = unused_zeros bits contents c.in-len2-up.len_at_least h in
    (λ on. both.0 (same_shifted x n below low (eqb-true y x on)), λ k. eq-eqb y x (shifted_same x n below low (both.1 k)))
