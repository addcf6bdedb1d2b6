use Rattle.std.proofs.Common.{◌∷◌, [], refl}
use Rattle.builtin_types.proofs.PackedLemmas.{one_digit, two_of_digits}
use Rattle.builtin_types.proofs.digits.octet_of.Goals as goal

pub returns-in_ok-digit_of-in-len1-clause-value : goal.returns-in_ok-digit_of-in-len1-clause-value
returns-in_ok-digit_of-in-len1-clause-value c =
    let high = c.in_ok-digit_of-in-len1 in
    (high.field-0 ∷ [], one_digit c.args.digits.now high.field-0 c.in-len1.len_at_least c.in-len1.len_below high.ensures.below high.ensures.value, refl)

pub returns-in_ok-digit_of-in-len2-2-clause-value : goal.returns-in_ok-digit_of-in-len2-2-clause-value
returns-in_ok-digit_of-in-len2-2-clause-value c =
    let high = c.in_ok-digit_of-in-len2 in
    let low = c.in_ok-digit_of-in-len2-2 in
    (high.field-0 ∷ low.field-0 ∷ [], two_of_digits c.args.digits.now high.field-0 low.field-0 c.in-len2.len_at_least c.in-len2.len_below high.ensures.below low.ensures.below high.ensures.value low.ensures.value, refl)
