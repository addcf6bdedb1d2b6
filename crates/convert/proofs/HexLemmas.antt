-- Lemmas on hexadecimal text: what the `hex` crate decodes is the octets that the digits spell.
use Rattle.std.proofs.Common.{◌≡◌, ℕ, ◌+◌, ◌*◌, ◌/◌, ◌%◌, ◌<◌, ◌≤◌, List, [], ◌∷◌, inl, inr, length, refl, sym, ◌∙◌, ap, subst, arith, Ok, Err, Option, Some, None}
use Rattle.std.proofs.lemmas.Bool.{cases_lt}
use Rattle.std.specs.declared.result.Result.{Result}
use Rattle.std.specs.Result.{result_unwrap_or}
use Rattle.hex.specs.declared.error.FromHexError.{FromHexError}
use Rattle.hex.specs.Hex.{hex_digit_value, digit_or_error, decode_pairs, decode_of, value_at, pair_value, ◌>>=◌}
use Rattle.hex.proofs.HexLemmas.{decode_of-even, decode_of-ok}
use Rattle.convert.specs.HexText.{IsHexDigit, IsHexPairs}

-- a digit has the value that the crate reads
digit-decimal : (value octet : ℕ) → value < 10 → octet ≡ 48 + value → hex_digit_value octet ≡ Some value
digit-decimal value octet low is = grind (arith)

digit-upper : (value octet : ℕ) → 10 ≤ value → value < 16 → octet ≡ 55 + value → hex_digit_value octet ≡ Some value
digit-upper value octet low high is = grind (arith)

digit-lower : (value octet : ℕ) → 10 ≤ value → value < 16 → octet ≡ 87 + value → hex_digit_value octet ≡ Some value
digit-lower value octet low high is = grind (arith)

hex_digit_value-digit : (value octet : ℕ) → IsHexDigit value octet → hex_digit_value octet ≡ Some value
hex_digit_value-digit value octet (inl h) = digit-decimal value octet h.0 h.1
hex_digit_value-digit value octet (inr h) = elim h.2 [ inl upper ↦ digit-upper value octet h.0 h.1 upper | inr lower ↦ digit-lower value octet h.0 h.1 lower ]

-- and no other
digit_of_decimal : (value octet : ℕ) → hex_digit_value octet ≡ Some value → octet < 58 → (value < 10) × (octet ≡ 48 + value)
digit_of_decimal value octet h low = grind (arith)

digit_of_upper : (value octet : ℕ) → hex_digit_value octet ≡ Some value → 58 ≤ octet → octet < 97 → (10 ≤ value) × (value < 16) × (octet ≡ 55 + value)
digit_of_upper value octet h low high = grind (arith)

digit_of_lower : (value octet : ℕ) → hex_digit_value octet ≡ Some value → 97 ≤ octet → (10 ≤ value) × (value < 16) × (octet ≡ 87 + value)
digit_of_lower value octet h low = grind (arith)

digit_of_value : (value octet : ℕ) → hex_digit_value octet ≡ Some value → IsHexDigit value octet
digit_of_value value octet h =
    elim (cases_lt octet 58) [
      | inl decimal ↦ inl (digit_of_decimal value octet h decimal)
      | inr letter ↦ elim (cases_lt octet 97) [
        | inl upper ↦ let d = digit_of_upper value octet h letter upper in inr (d.0, d.1, inl d.2)
        | inr lower ↦ let d = digit_of_lower value octet h lower in inr (d.0, d.1, inr d.2)
      ]
    ]

-- what an `Ok` after `>>=` shows
bind_ok : {A B : Type 0} (r : Result A FromHexError) (f : A → Result B FromHexError) (y : B) → (r >>= f) ≡ Ok y → (x : A) × (r ≡ Ok x) × (f x ≡ Ok y)
bind_ok (Ok x) f y h = (x, refl, h)
bind_ok (Err e) f y h = cc h

digit_read : (c i : ℕ) (o : Option ℕ) (v : ℕ) → digit_or_error c i o ≡ Ok v → o ≡ Some v
digit_read c i (Some w) v h = ap Some (ap (λ (r : Result ℕ FromHexError). result_unwrap_or r 0) h)
digit_read c i None v h = cc h

digit-small : (value octet : ℕ) → IsHexDigit value octet → value < 16
digit-small value octet (inl h) = omega (arith, h.0)
digit-small value octet (inr h) = h.1

-- pairs of digits decode to the octets that they spell
pub decode_pairs-pairs : (i : ℕ) (octets text : List ℕ) → IsHexPairs octets text → decode_pairs i text ≡ Ok octets
unfolding decode_pairs
decode_pairs-pairs i [] text h = rw h refl
decode_pairs-pairs i (octet ∷ octets) text (rest, pair, more) =
    let high = hex_digit_value-digit (octet / 16) pair.high pair.high_digit in
    let low = hex_digit_value-digit (octet % 16) pair.low pair.low_digit in
    let others = decode_pairs-pairs (i + 2) octets rest more in
    let whole : octet / 16 * 16 + octet % 16 ≡ octet = omega arith in
    rw (pair.is, high, low, others) (ap (λ o. Ok (o ∷ octets)) whole)

-- and what decodes is pairs of digits
pub pairs_of_decode_pairs : (i : ℕ) (text octets : List ℕ) → decode_pairs i text ≡ Ok octets → IsHexPairs octets text
unfolding decode_pairs
pairs_of_decode_pairs i [] octets h =
    let same : [] ≡ octets = ap (λ (r : Result (List ℕ) FromHexError). result_unwrap_or r []) h in
    subst (λ o. IsHexPairs o []) same refl
pairs_of_decode_pairs i (a ∷ []) octets h = cc h
pairs_of_decode_pairs i (a ∷ b ∷ rest) octets h =
    let p0 = bind_ok (pair_value a b i) _ octets h in
    let p1 = bind_ok (value_at a i) _ p0.0 p0.1 in
    let p2 = bind_ok (value_at b (i + 1)) _ p0.0 p1.2 in
    let p3 = bind_ok (decode_pairs (i + 2) rest) _ octets p0.2 in
    let same : p0.0 ∷ p3.0 ≡ octets = ap (λ (r : Result (List ℕ) FromHexError). result_unwrap_or r []) p3.2 in
    let octet : p1.0 * 16 + p2.0 ≡ p0.0 = ap (λ (r : Result ℕ FromHexError). result_unwrap_or r 0) p2.2 in
    let high : IsHexDigit p1.0 a = digit_of_value p1.0 a (digit_read a i (hex_digit_value a) p1.0 p1.1) in
    let low : IsHexDigit p2.0 b = digit_of_value p2.0 b (digit_read b (i + 1) (hex_digit_value b) p2.0 p2.1) in
    let few = digit-small p1.0 a high in
    let few' = digit-small p2.0 b low in
    let first : p1.0 ≡ p0.0 / 16 = omega arith in
    let second : p2.0 ≡ p0.0 % 16 = omega arith in
    subst (λ o. IsHexPairs o (a ∷ b ∷ rest)) same (
      rest,
      record {
        high = a;
        low = b;
        high_digit = subst (λ v. IsHexDigit v a) first high;
        low_digit = subst (λ v. IsHexDigit v b) second low;
        is = refl;
      },
      pairs_of_decode_pairs (i + 2) rest p3.0 p3.1,
    )

pub length-pairs : (octets text : List ℕ) → IsHexPairs octets text → length text ≡ 2 * length octets
length-pairs [] text h = ap length h
length-pairs (octet ∷ octets) text (rest, pair, more) = omega (arith, ap length pair.is, length-pairs octets rest more)

pub decode_of-pairs : (octets text : List ℕ) → IsHexPairs octets text → decode_of text ≡ Ok octets
decode_of-pairs octets text h = decode_of-even text (omega (arith, length-pairs octets text h)) ∙ decode_pairs-pairs 0 octets text h

pub pairs_of_decode_of : (text octets : List ℕ) → decode_of text ≡ Ok octets → IsHexPairs octets text
pairs_of_decode_of text octets h =
    let even = (decode_of-ok text octets h).0 in
    pairs_of_decode_pairs 0 text octets (sym (decode_of-even text even) ∙ h)
