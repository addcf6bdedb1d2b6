use Rattle.std.proofs.Common.{◌∙◌, refl, sym}
use Rattle.builtin_types.proofs.BitStringLemmas.{digits_in, hex_made, hex_is_made}
use Rattle.builtin_types.proofs.digits.hex_bits.Goals as goal

pub returns-in-Some-2-clause-value : goal.returns-in-Some-2-clause-value
returns-in-Some-2-clause-value c =
    let found = rw c.in-Some-2.is at c.in_ok-octets.ensures.value in
    hex_made c.args.spelled.now c.in-Some.digits.now c.in-Some-2.octets.items c.unused_behind.result c.new.result (sym c.as_bytes.ensures.value ∙ c.in-Some.ensures.value) found c.unused_behind.ensures c.new.ensures.value

pub returns-in-Some-2-clause-none : goal.returns-in-Some-2-clause-none
returns-in-Some-2-clause-none c = λ none.
    let found = rw c.in-Some-2.is at c.in_ok-octets.ensures.value in
    absurd (hex_is_made c.in-Some.digits.now c.in-Some-2.octets.items c.unused_behind.result c.new.result found c.unused_behind.ensures c.new.ensures.some none)

pub returns-in-None-clause-none : goal.returns-in-None-clause-none
returns-in-None-clause-none c = λ none values h.
    let never = rw c.in-None.is at c.in_ok-octets.ensures.none in
    never refl values (digits_in c.args.spelled.now c.in-Some.digits.now values (sym c.as_bytes.ensures.value ∙ c.in-Some.ensures.value) h)
