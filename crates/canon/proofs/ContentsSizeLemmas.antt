-- Lemmas on how many contents octets numbers and arcs have.
use Rattle.std.proofs.Common.{◌≡◌, inl, inr, ℕ, ◌+◌, ◌-◌, ◌*◌, ◌/◌, ◌^◌, ◌<◌, ◌≤◌, suc, List, [], ◌∷◌, length, take, drop, get_or, refl, sym, ap, subst, ◌∙◌, arith, length-append}
use Rattle.std.specs.List.{AllZip, concat}
use Rattle.std.proofs.lemmas.Bool.{cases_lt}
use Rattle.std.proofs.lemmas.List.{take_all}
use Rattle.std.proofs.Math.Nat.{pow-suc, mul-le-mul_left, mul_assoc}
use Rattle.octets.specs.Base128.{IsBase128}
use Rattle.octets.proofs.Base128Lemmas.{IsBase128-size}
use Rattle.octets.proofs.SizeLemmas.{base_128_size}
use Rattle.primitives.specs.Oid.{AreSubidentifiers, IsOid}

-- what is left of a number after its last digits of base 128
pub record IsLeftOf (number size rest : ℕ) : Type 0 where
  pub low : 128 ^ (size - 1) * rest ≤ number
  pub high : number < 128 ^ (size - 1) * (rest + 1)
  pub some : 2 ≤ size → 1 ≤ rest

pub left_first : (number : ℕ) → IsLeftOf number 1 number
left_first number = let once : 128 ^ 0 ≡ 1 = refl in record { low = omega arith; high = omega arith; some = λ two. absurd (omega (arith, two)) }

moved : (power quotient : ℕ) → power * 128 * quotient ≡ power * (128 * quotient)
moved power quotient = mul_assoc power 128 quotient

pub left_more : (number size rest : ℕ) → 1 ≤ size → 128 ≤ rest → IsLeftOf number size rest → IsLeftOf number (size + 1) (rest / 128)
left_more number size rest some more h =
    let power = 128 ^ (size - 1) in
    let exponent : size + 1 - 1 ≡ suc (size - 1) = omega arith in
    let raised : 128 ^ (size + 1 - 1) ≡ power * 128 = ap (λ k. 128 ^ k) exponent ∙ pow-suc 128 (size - 1) in
    let quotient = rest / 128 in
    let below : power * (128 * quotient) ≤ power * rest = mul-le-mul_left power (omega arith) in
    let above : power * (rest + 1) ≤ power * (128 * (quotient + 1)) = mul-le-mul_left power (omega arith) in
    record {
      low = omega (arith, h.low, below, moved power quotient, ap (λ x. x * quotient) raised);
      high = omega (arith, h.high, above, moved power (quotient + 1), ap (λ x. x * (quotient + 1)) raised);
      some = λ two. omega arith;
    }

left_size : (number k rest : ℕ) (octets : List ℕ) → 1 ≤ rest → 128 ^ k * rest ≤ number → number < 128 ^ (k + 1) → IsBase128 number octets → length octets ≡ k + 1
left_size number k rest octets some low fits h =
    let least : 128 ^ k * 1 ≤ 128 ^ k * rest = mul-le-mul_left (128 ^ k) some in
    base_128_size number k octets (omega (arith, least, low)) fits h

pub left_done : (number size rest : ℕ) (octets : List ℕ) → 1 ≤ size → rest < 128 → IsLeftOf number size rest → IsBase128 number octets → length octets ≡ size
left_done number size rest octets some last h spelt =
    elim (cases_lt size 2) [
      | inl one ↦
          let first : size - 1 ≡ 0 = omega arith in
          let once : 128 ^ (size - 1) ≡ 1 = ap (λ k. 128 ^ k) first in
          let fits : number < 128 * 1 = omega (arith, h.high, ap (λ x. x * (rest + 1)) once) in
          let power : 128 ^ 1 ≡ 128 = refl in
          let count = IsBase128-size number 1 octets (omega arith) (omega (arith, fits, power)) spelt in
          omega (arith, count.0, count.1)
      | inr two ↦
          let power = 128 ^ (size - 1) in
          let most : power * (rest + 1) ≤ power * 128 = mul-le-mul_left power (omega arith) in
          let exponent : size - 1 + 1 ≡ suc (size - 1) = omega arith in
          let raised : 128 ^ (size - 1 + 1) ≡ power * 128 = ap (λ k. 128 ^ k) exponent ∙ pow-suc 128 (size - 1) in
          omega (arith, left_size number (size - 1) rest octets (h.some two) h.low (omega (arith, h.high, most, raised)) spelt)
    ]

pub left_end : (number rest : ℕ) (octets : List ℕ) → number < 2 ^ 128 → IsLeftOf number 19 rest → IsBase128 number octets → length octets ≡ 19
left_end number rest octets fits h spelt =
    let room : 2 ^ 128 * 32 ≡ 128 ^ 19 = refl in
    left_size number 18 rest octets (h.some (omega arith)) h.low (omega arith) spelt

-- subidentifiers are counted one by one
pub subidentifiers_none : (contents : List ℕ) → AreSubidentifiers [] contents → length contents ≡ 0
subidentifiers_none contents h = none h.spellings h.each h.joined
  where
    none : (spellings : List (List ℕ)) → AllZip IsBase128 [] spellings → contents ≡ concat spellings → length contents ≡ 0
    none [] each joined = ap length joined
    none (spelling ∷ spellings) each joined = elim each [ ]

pub subidentifiers_size : (first : ℕ) (others contents : List ℕ) (size rest : ℕ) → ((octets : List ℕ) → IsBase128 first octets → length octets ≡ size) → ((octets : List ℕ) → AreSubidentifiers others octets → length octets ≡ rest)
    → AreSubidentifiers (first ∷ others) contents → length contents ≡ size + rest
subidentifiers_size first others contents size rest one more h = counted h.spellings h.each h.joined
  where
    counted : (spellings : List (List ℕ)) → AllZip IsBase128 (first ∷ others) spellings → contents ≡ concat spellings → length contents ≡ size + rest
    counted [] each joined = elim each [ ]
    counted (spelling ∷ spellings) each joined =
        omega (arith, ap length joined, length-append spelling (concat spellings), one spelling each.0, more (concat spellings) record { spellings = spellings; each = each.1; joined = refl })

-- the first two arcs share a subidentifier
pub oid_size : (arcs contents : List ℕ) (size rest : ℕ) → ((octets : List ℕ) → IsBase128 (40 * get_or arcs 0 0 + get_or arcs 1 0) octets → length octets ≡ size)
    → ((octets : List ℕ) → AreSubidentifiers (take (length arcs - 2) (drop 2 arcs)) octets → length octets ≡ rest) → IsOid arcs contents → length contents ≡ size + rest
oid_size arcs contents size rest one more h =
    let a = h.of_arcs in
    let shared : 40 * get_or arcs 0 0 + get_or arcs 1 0 ≡ 40 * a.first + a.second = ap (λ l. 40 * get_or l 0 0 + get_or l 1 0) a.arcs_are in
    let tail : take (length arcs - 2) (drop 2 arcs) ≡ a.others = ap (λ l. take (length l - 2) (drop 2 l)) a.arcs_are ∙ take_all (length (a.first ∷ a.second ∷ a.others) - 2) a.others (omega arith) in
    subidentifiers_size (40 * a.first + a.second) a.others contents size rest (λ octets k. one octets (subst (λ n. IsBase128 n octets) (sym shared) k)) (λ octets k. more octets (subst (λ l. AreSubidentifiers l octets) (sym tail) k))
    (subst (λ l. AreSubidentifiers l contents) a.numbers_are h.spelt)
