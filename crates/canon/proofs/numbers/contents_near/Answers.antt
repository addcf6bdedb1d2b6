use Rattle.std.proofs.Common.{◌≡◌, ◌∙◌, ◌+◌, ◌-◌, ◌*◌, ◌/◌, ◌%◌, ◌^◌, ◌<◌, ◌≤◌, Bool, ℕ, ℤ, FitsSigned, suc, inl, inr, refl, sym, ap, subst, arith}
use Rattle.std.specs.Int.{w128, cast_unsigned}
use Rattle.std.specs.Int.Count.{count_leading_zeros}
use Rattle.std.proofs.Math.Nat.{pow-suc}
use Rattle.std.proofs.lemmas.Bool.{cases_lt}
use Rattle.std.proofs.lemmas.Int.{to_z-of_z}
use Rattle.std.proofs.lemmas.Nat.{leading_length}
use Rattle.primitives.specs.Integer.{IsInteger, number_at}
use Rattle.canon.specs.declared.few.Few.{Few}
use Rattle.canon.specs.Few.{Spells}
use Rattle.canon.proofs.NumberLemmas.{size_by_bits, few_bits}
use Rattle.canon.proofs.WordLemmas.{contents_spelt}
use Rattle.canon.proofs.numbers.contents_near.Goals as goal

-- the bits of twice the distance and one are one more than those of the distance
bits : (distance : ℕ) → distance < 2 ^ 47 → (bits : ℕ) × (bits + count_leading_zeros 64 (2 * distance + 1) ≡ 63) × (distance < 2 ^ bits) × (2 ^ bits ≤ 2 * distance + 1)
bits distance near =
    let there = leading_length 64 (2 * distance + 1) (omega (arith, near)) in
    let some : 1 ≤ there.0 = elim (cases_lt there.0 1) [
      | inl none ↦ let no : there.0 ≡ 0 = omega (arith, none) in absurd (omega (arith, there.2, ap (λ n. 2 ^ n) no))
      | inr some ↦ some
    ] in
    let bits = there.0 - 1 in
    let twice : 2 ^ there.0 ≡ 2 ^ bits * 2 = let next : there.0 ≡ suc bits = omega (arith, some) in ap (λ n. 2 ^ n) next ∙ pow-suc 2 bits in
    (bits, omega (arith, there.1, some), omega (arith, there.2, twice), omega (arith, there.3, twice))

pub returns-clause-few : goal.returns-clause-few
returns-clause-few c = λ most near.
    let there = bits c.args.distance c.requires.near in
    omega (arith, there.1, few_bits (8 * most + 7) c.args.distance there.0 near there.3)

-- the contents octets, of which it is known how many there are
spelt : (number own : ℤ) (distance : ℕ) (few : Few) (low : ℕ) → FitsSigned w128 number → (near : distance < 2 ^ 47) → few.count ≡ 8 - count_leading_zeros 64 (2 * distance + 1) / 8 → few.word ≡ (low % 2 ^ 64 * 2 ^ (8 * (count_leading_zeros 64 (2 * distance + 1) / 8))) % 2 ^ 64 → low ≡ cast_unsigned w128 own → own ≡ number
    → ((negative : Bool) × (number ≡ number_at negative distance)) → Spells (IsInteger number) few
spelt number own distance few low fits near count word is same at =
    let there = bits distance near in
    let zeros = count_leading_zeros 64 (2 * distance + 1) in
    let size : few.count ≡ there.0 / 8 + 1 = omega (arith, count, there.1) in
    let free : 8 * (zeros / 8) ≡ 64 - 8 * few.count = omega (arith, count, there.1) in
    contents_spelt number few fits (omega (arith, size, few_bits 47 distance there.0 near there.3))
    (λ contents h. size_by_bits at.0 distance there.0 contents there.2 there.3 (subst (λ n. IsInteger n contents) at.1 h) ∙ sym size)
    (word ∙ ap (λ k. (low % 2 ^ 64 * 2 ^ k) % 2 ^ 64) free ∙ ap (λ b. (b % 2 ^ 64 * 2 ^ (64 - 8 * few.count)) % 2 ^ 64) (is ∙ ap (cast_unsigned w128) same))

pub returns-clause-contents : goal.returns-clause-contents
returns-clause-contents c =
    spelt c.args.number _ c.args.distance _ c.cast_unsigned.result c.ranges.number c.requires.near refl refl c.cast_unsigned.ensures (to_z-of_z w128 c.args.number c.ranges.number) c.requires.distance
