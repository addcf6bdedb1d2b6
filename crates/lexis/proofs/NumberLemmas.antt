-- The value of the digits in front, digit by digit, and the number that they are.
use Rattle.std.proofs.Common.{◌≡◌, ℕ, zero, suc, ◌+◌, ◌-◌, ◌*◌, ◌^◌, ◌<◌, ◌≤◌, List, [], ◌∷◌, ◌++◌, length, take, drop, get_or, refl, sym, ◌∙◌, ap, subst, arith, true, map, inl, inr}
use Rattle.std.proofs.lemmas.Bool.{false≢true, cases_lt}
use Rattle.std.proofs.lemmas.Bool.Decides.{nat_tests}
use Rattle.std.proofs.lemmas.List.{map-append, get_or-take, length-take-le}
use Rattle.std.proofs.Math.Seq.{take-add}
use Rattle.std.proofs.lemmas.Int.Digits.{digits_value_is, digits_value_more, number_after_append, number_after_ge}
use Rattle.std.proofs.lemmas.List.Sums.{prefix_len-drop_yes, prefix_len-le-length, prefix_len_passes, prefix_len_stops}
use Rattle.std.specs.Char.{is_ascii_digit, digit_value}
use Rattle.std.specs.List.{prefix_len}
use Rattle.std.specs.Int.Digits.{number_from_digits_after}
use Rattle.std.specs.Str.Parse.{digits_value}
use Rattle.lexis.specs.declared.token.Kind.{Kind}
use Rattle.lexis.specs.declared.token.Kind.TheVariants.{Reserved, TypeName, Identifier, Number, Binary, Hex, Chars, Symbol}
use Rattle.lexis.specs.Spelling.{Spells, IsNumber}
use Rattle.lexis.specs.Tokens.{IsToken, IsWithinLimit}
use Rattle.lexis.specs.Fronts.{StandsApart, HasNoToken}
use Rattle.lexis.proofs.KindLemmas.{class_of, class_front, class_digit, spells_some}

digit-value : (c : ℕ) → is_ascii_digit c ≡ true → digit_value c ≡ c - 48
digit-value c p = grind (arith, nat_tests)

value-grows : (x y : List ℕ) → digits_value 10 x ≤ digits_value 10 (x ++ y)
value-grows x y = rw (digits_value_is, digits_value_is, map-append, number_after_append) (number_after_ge 10 (number_from_digits_after 10 0 (map digit_value x)) (map digit_value y) (omega arith))

pub value_more : (x : List ℕ) (i v d : ℕ) → i < length x → is_ascii_digit (get_or x i 0) ≡ true → v ≡ digits_value 10 (take i x) → d ≡ get_or x i 0 - 48 → v * 10 + d ≡ digits_value 10 (take (i + 1) x)
value_more x i v d h p e q =
    let step = digits_value_more 10 x i h in
    let digit = digit-value (get_or x i 0) p in
    omega arith

-- digits not yet read only add to the value
pub value_at_most : (x : List ℕ) (i n : ℕ) → i ≤ n → digits_value 10 (take i x) ≤ digits_value 10 (take n x)
value_at_most x i n h =
    let e : i + (n - i) ≡ n = omega arith in
    subst (λ k. digits_value 10 (take i x) ≤ digits_value 10 (take k x)) e (rw take-add (value-grows (take i x) (take (n - i) (drop i x))))

pub run_more : (x : List ℕ) (i n : ℕ) → i < length x → is_ascii_digit (get_or x i 0) ≡ true → i + prefix_len is_ascii_digit (drop i x) ≡ n → i + 1 + prefix_len is_ascii_digit (drop (i + 1) x) ≡ n
run_more x i n h p e = let step = prefix_len-drop_yes is_ascii_digit x i 0 h p in omega arith

-- how many digits stand in front
abbrev run : List ℕ → ℕ
run x = prefix_len is_ascii_digit x

-- what passes at each octet before the n-th is within the run
run-covers : (x : List ℕ) (m : ℕ) → m ≤ length x → ((i : ℕ) → i < m → is_ascii_digit (get_or x i 0) ≡ true) → m ≤ run x
run-covers x m l each = elim (cases_lt (run x) m) [
  | inr le ↦ le
  | inl gt ↦ absurd (false≢true (sym (prefix_len_stops is_ascii_digit x 0 (omega arith)) ∙ each (run x) gt))
]

-- a token that begins with a digit is a number
pub number_only : (k : Kind) (w : List ℕ) → class_of k ≡ 2 → Spells k w → IsNumber w × (k ≡ Number (digits_value 10 w))
number_only (Number v) w h s = (s.0, ap Number s.1)
number_only Reserved w h s = absurd (omega arith)
number_only TypeName w h s = absurd (omega arith)
number_only Identifier w h s = absurd (omega arith)
number_only Binary w h s = absurd (omega arith)
number_only Hex w h s = absurd (omega arith)
number_only Chars w h s = absurd (omega arith)
number_only Symbol w h s = absurd (omega arith)

number-here : (x : List ℕ) (j : Kind) (m : ℕ) → is_ascii_digit (get_or x 0 0) ≡ true → 1 ≤ m → Spells j (take m x) → IsNumber (take m x) × (j ≡ Number (digits_value 10 (take m x)))
number-here x j m p h s = number_only j (take m x) (sym (class_front x j m h s) ∙ class_digit (get_or x 0 0) p) s

number-longest : (x : List ℕ) (j : Kind) (m : ℕ) → is_ascii_digit (get_or x 0 0) ≡ true → m ≤ length x → Spells j (take m x) → m ≤ run x
number-longest x j zero p l s = omega arith
number-longest x j (suc m) p l s =
    let size = length-take-le (suc m) x l in
    let number = (number-here x j (suc m) p (omega arith) s).0 in
    run-covers x (suc m) l (λ i h. subst (λ o. is_ascii_digit o ≡ true) (get_or-take (suc m) x i 0 h) (number.each i (omega arith)))

run-some : (x : List ℕ) → is_ascii_digit (get_or x 0 0) ≡ true → 1 ≤ run x
run-some [] p = absurd (false≢true p)
run-some (b ∷ x) p = rw p (omega arith)

-- no digit stands behind a 0 in front
abbrev pub ZeroAlone : List ℕ → Type 0
ZeroAlone x = get_or x 0 0 ≡ 48 → ¬ (is_ascii_digit (get_or x 1 0) ≡ true)

number-spelt : (x : List ℕ) → is_ascii_digit (get_or x 0 0) ≡ true → ZeroAlone x → IsNumber (take (run x) x)
number-spelt x p alone =
    let size = length-take-le (run x) x (prefix_len-le-length is_ascii_digit x) in
    let some = run-some x p in
    record {
      some = omega arith;
      each = λ i h. let near : i < run x = omega arith in subst (λ o. is_ascii_digit o ≡ true) (sym (get_or-take (run x) x i 0 near)) (prefix_len_passes is_ascii_digit x i 0 near);
      no_leading_zero = λ z. elim (cases_lt 1 (run x)) [
        | inr le ↦ omega arith
        | inl two ↦ absurd (alone (sym (get_or-take (run x) x 0 0 (omega arith)) ∙ z) (prefix_len_passes is_ascii_digit x 1 0 two))
      ];
    }

pub number_token : (x : List ℕ) (v n : ℕ) → StandsApart x → is_ascii_digit (get_or x 0 0) ≡ true → ZeroAlone x → n ≡ run x → v ≡ digits_value 10 (take n x) → v ≤ 2 ^ 127 → IsToken x (Number v) n
number_token x v n apart p alone e q small = record {
  within = omega (arith, prefix_len-le-length is_ascii_digit x);
  spelt = (subst (λ i. IsNumber (take i x)) (sym e) (number-spelt x p alone), q);
  longest = λ j m l s. omega (arith, number-longest x j m p l s);
  small = small;
  no_digit_behind_zero = alone;
  no_comment = apart;
}

pub zero_led : (x : List ℕ) → get_or x 0 0 ≡ 48 → is_ascii_digit (get_or x 1 0) ≡ true → HasNoToken x
zero_led x z p k n t = t.no_digit_behind_zero z p

small-number : (k : Kind) (v : ℕ) → k ≡ Number v → IsWithinLimit k → v ≤ 2 ^ 127
small-number k v e h = subst IsWithinLimit e h

pub too_large : (x : List ℕ) → is_ascii_digit (get_or x 0 0) ≡ true → ZeroAlone x → 2 ^ 127 < digits_value 10 (take (run x) x) → HasNoToken x
too_large x p alone large k n t =
    let size = length-take-le n x t.within in
    let some : 1 ≤ n = omega (arith, spells_some k (take n x) t.spelt) in
    let here = number-here x k n p some t.spelt in
    let up = number-longest x k n p t.within t.spelt in
    let down = t.longest (Number (digits_value 10 (take (run x) x))) (run x) (prefix_len-le-length is_ascii_digit x) (number-spelt x p alone, refl) in
    let same : run x ≡ n = omega arith in
    let small = small-number k (digits_value 10 (take n x)) here.1 t.small in
    let above : 2 ^ 127 < digits_value 10 (take n x) = subst (λ (i : ℕ). 2 ^ 127 < digits_value 10 (take i x)) same large in
    omega arith
