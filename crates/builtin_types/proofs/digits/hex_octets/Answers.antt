use Rattle.std.proofs.Common.{◌≡◌, ◌∙◌, ◌%◌, ℕ, List, Vec, Global, sym, length, arith}
use Rattle.std.specs.List.{flat_map}
use Rattle.builtin_types.specs.Defaults.{two_digits, IsHexString}
use Rattle.builtin_types.specs.Digits.{AreHexDigits}
use Rattle.builtin_types.proofs.BitStringLemmas.{AreHex, digits_in, hex_of_octets, odd_digits, found_so, none_so}
use Rattle.builtin_types.proofs.digits.hex_octets.Goals as goal

pub returns-then-digits-eq1-clause-none : goal.returns-then-digits-eq1-clause-none
returns-then-digits-eq1-clause-none c = λ none octets.
    odd_digits c.args.spelled.now c.in-Some.digits.now octets (sym c.as_bytes.ensures.value ∙ c.in-Some.ensures.value) c.if-digits-eq1.true

pub returns-clause-value : goal.returns-clause-value
returns-clause-value c =
    let odd = c.if-digits-eq1.false in
    let even : length c.in-Some.digits.now % 2 ≡ 0 = omega (arith, odd) in
    found_so c.octets_of.result (λ (octets : Vec ℕ Global) (found : AreHex c.in-Some.digits.now octets.items). hex_of_octets c.args.spelled.now c.in-Some.digits.now octets.items (sym c.as_bytes.ensures.value ∙ c.in-Some.ensures.value) even found)
    c.octets_of.ensures.value

pub returns-clause-none : goal.returns-clause-none
returns-clause-none c =
    none_so c.octets_of.result (λ (never : (values : List ℕ) → AreHexDigits c.in-Some.digits.now values → ⊥) (octets : List ℕ) (h : IsHexString c.args.spelled.now (flat_map two_digits octets)).
    never (flat_map two_digits octets) (digits_in c.args.spelled.now c.in-Some.digits.now (flat_map two_digits octets) (sym c.as_bytes.ensures.value ∙ c.in-Some.ensures.value) h))
    c.octets_of.ensures.none
