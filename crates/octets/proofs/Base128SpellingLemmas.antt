-- Lemmas on writing a number in base 128 from its last octet to the first.
use Rattle.std.proofs.Common.{◌≡◌, ◌≢◌, ℕ, ◌+◌, ◌*◌, ◌^◌, ◌<◌, ◌≤◌, ◌-◌, ◌/◌, ◌%◌, List, [], ◌∷◌, ◌++◌, length, drop, refl, sym, ◌∙◌, ap, arith, All, set, subst, length-append, append_assoc}
use Rattle.std.specs.Prelude.{slice_index}
use Rattle.std.proofs.lemmas.List.{drop-set, length-set, length-drop, nil_from_length}
use Rattle.std.proofs.lemmas.List.Elements.{All-nil, All-push}
use Rattle.std.proofs.lemmas.Grind.{pow_more}
use Rattle.octets.specs.Base128.{IsBase128}
use Rattle.octets.specs.Digits.{number_of}
use Rattle.octets.proofs.DigitLemmas.{number_of-snoc}
use Rattle.octets.proofs.Base128Lemmas.{continuing_octets, continuing_octets-snoc, base_128_octets-snoc}
use Rattle.octets.proofs.PlaceLemmas.{room_left}

-- digits without a leading zero
pub record AreDigits (number : ℕ) (digits : List ℕ) : Type 0 where
  pub below_128 : All (λ digit. digit < 128) digits
  pub no_leading_zero : 1 ≤ length digits → slice_index digits 0 ≢ 0
  pub value : number_of 128 digits ≡ number

pub leading-snoc : (ds : List ℕ) (d : ℕ) → (1 ≤ length ds → slice_index ds 0 ≢ 0) → (length ds ≡ 0 → d ≢ 0) → slice_index (ds ++ d ∷ []) 0 ≢ 0
leading-snoc [] d some none = none refl
leading-snoc (c ∷ ds) d some none = some (omega arith)

pub AreDigits-snoc : (number d : ℕ) (ds : List ℕ) → AreDigits number ds → d < 128 → (length ds ≡ 0 → d ≢ 0) → AreDigits (number * 128 + d) (ds ++ d ∷ [])
AreDigits-snoc number d ds h below first = record {
  below_128 = All-push (λ x. x < 128) ds d h.below_128 below;
  no_leading_zero = λ _. leading-snoc ds d h.no_leading_zero first;
  value = number_of-snoc 128 ds d ∙ ap (λ n. n * 128 + d) h.value;
}

pub IsBase128-snoc : (number d : ℕ) (ds : List ℕ) → AreDigits number ds → d < 128 → IsBase128 (number * 128 + d) (continuing_octets ds ++ d ∷ [])
IsBase128-snoc number d ds h below = record {
  digits = ds ++ d ∷ [];
  below_128 = All-push (λ x. x < 128) ds d h.below_128 below;
  at_least_one = omega (arith, length-append ds (d ∷ []));
  no_leading_zero = λ two. leading-snoc ds d h.no_leading_zero (λ none. absurd (omega (arith, none, length-append ds (d ∷ []))));
  value = number_of-snoc 128 ds d ∙ ap (λ n. n * 128 + d) h.value;
  spelt = sym (base_128_octets-snoc ds d);
}

-- the last octets stand at the end of nineteen places, and `rest` is left to be spelt before them
pub record IsBase128Spelling (number rest start : ℕ) (spelt : List ℕ) : Type 0 where
  pub within : start ≤ 18
  pub size : length spelt ≡ 19
  pub room : rest < 128 ^ start
  pub joined : (digits : List ℕ) → AreDigits rest digits → IsBase128 number (continuing_octets digits ++ drop start spelt)

drop_past : (spelt : List ℕ) → length spelt ≡ 19 → drop 19 spelt ≡ []
drop_past spelt size = nil_from_length (drop 19 spelt) (omega (arith, length-drop 19 spelt, size))

pub IsBase128Spelling-last : (number : ℕ) (spelt : List ℕ) → number < 2 ^ 128 → length spelt ≡ 19 → IsBase128Spelling number (number / 128) 18 (set spelt 18 (number % 128))
IsBase128Spelling-last number spelt small size =
    let d = number % 128 in
    let all : drop 19 spelt ≡ [] = drop_past spelt size in
    let last : drop 18 (set spelt 18 d) ≡ d ∷ [] = drop-set spelt 18 d (omega (arith, size)) ∙ ap (λ t. d ∷ t) all in
    let whole : number / 128 * 128 + d ≡ number = omega arith in
    let limit : 128 ^ 18 ≡ 2 ^ 126 = refl in
    record {
      within = omega arith;
      size = length-set spelt 18 d ∙ size;
      room = omega (arith, limit);
      joined = λ digits h. subst (λ t. IsBase128 number (continuing_octets digits ++ t)) (sym last) (subst (λ n. IsBase128 n (continuing_octets digits ++ d ∷ [])) whole (IsBase128-snoc (number / 128) d digits h (omega arith)));
    }

no_digits : (digits : List ℕ) (number : ℕ) → AreDigits number digits → length digits ≡ 0 → 1 ≤ number → ⊥
no_digits [] number h none some = omega (arith, h.value)
no_digits (d ∷ digits) number h none some = omega arith

pub IsBase128Spelling-step : (number rest start : ℕ) (spelt : List ℕ) → IsBase128Spelling number rest start spelt → 0 < rest → IsBase128Spelling number (rest / 128) (start - 1) (set spelt (start - 1) (128 + rest % 128))
IsBase128Spelling-step number rest start spelt h some =
    let at = start - 1 in
    let d = rest % 128 in
    let there = room_left 128 start rest h.room some in
    let next : start ≡ at + 1 = omega arith in
    let more : drop at (set spelt at (128 + d)) ≡ (128 + d) ∷ drop start spelt = drop-set spelt at (128 + d) (omega (arith, h.size, h.within)) ∙ ap (λ k. (128 + d) ∷ drop k spelt) (sym next) in
    let power : 128 ^ start ≡ 128 ^ at * 128 = ap (λ k. 128 ^ k) next ∙ pow_more 128 at in
    let value : rest / 128 * 128 + d ≡ rest = omega arith in
    record {
      within = omega (arith, h.within);
      size = length-set spelt at (128 + d) ∙ h.size;
      room = omega (arith, h.room, power);
      joined = λ digits k.
          let first : length digits ≡ 0 → d ≢ 0 = λ none is_zero. no_digits digits (rest / 128) k none (omega arith) in
          let longer : AreDigits rest (digits ++ d ∷ []) = subst (λ n. AreDigits n (digits ++ d ∷ [])) value (AreDigits-snoc (rest / 128) d digits k (omega arith) first) in
          let whole : continuing_octets (digits ++ d ∷ []) ++ drop start spelt ≡ continuing_octets digits ++ drop at (set spelt at (128 + d)) =
          ap (λ t. t ++ drop start spelt) (continuing_octets-snoc digits d) ∙ (append_assoc (continuing_octets digits) ((128 + d) ∷ []) (drop start spelt) ∙ ap (λ t. continuing_octets digits ++ t) (sym more)) in
          subst (IsBase128 number) whole (h.joined (digits ++ d ∷ []) longer);
    }

pub IsBase128-from_spelling : (number start : ℕ) (spelt : List ℕ) → IsBase128Spelling number 0 start spelt → IsBase128 number (drop start spelt)
IsBase128-from_spelling number start spelt h =
    h.joined [] record { below_128 = All-nil (λ x. x < 128); no_leading_zero = λ k. absurd (omega arith); value = refl }
