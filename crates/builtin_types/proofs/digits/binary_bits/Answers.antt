use Rattle.std.proofs.Common.{◌∙◌, map, refl, sym}
use Rattle.builtin_types.specs.Defaults.{bit_digit}
use Rattle.builtin_types.proofs.SpellingLemmas.{same_digits}
use Rattle.builtin_types.proofs.BitStringLemmas.{binary_made, binary_is_made}
use Rattle.builtin_types.proofs.digits.binary_bits.Goals as goal

pub returns-in-Some-2-clause-value : goal.returns-in-Some-2-clause-value
returns-in-Some-2-clause-value c =
    let found = rw c.in-Some-2.is at c.in_ok-octets.ensures.value in
    binary_made c.args.spelled.now c.in-Some.digits.now c.in-Some-2.octets.items c.unused_behind.result c.new.result (sym c.as_bytes.ensures.value ∙ c.in-Some.ensures.value) found c.unused_behind.ensures c.new.ensures.value

pub returns-in-Some-2-clause-none : goal.returns-in-Some-2-clause-none
returns-in-Some-2-clause-none c = λ none.
    let found = rw c.in-Some-2.is at c.in_ok-octets.ensures.value in
    absurd (binary_is_made c.in-Some.digits.now c.in-Some-2.octets.items c.unused_behind.result c.new.result found c.unused_behind.ensures c.new.ensures.some none)

pub returns-in-None-clause-none : goal.returns-in-None-clause-none
returns-in-None-clause-none c = λ none bits is.
    let never = rw c.in-None.is at c.in_ok-octets.ensures.none in
    never refl bits (same_digits c.in-Some.digits.now (map bit_digit bits) 66 (sym c.in-Some.ensures.value ∙ c.as_bytes.ensures.value ∙ is))
