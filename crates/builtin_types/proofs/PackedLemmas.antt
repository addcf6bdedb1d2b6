-- Hexadecimal digits, two in an octet.
use Rattle.std.proofs.Common.{◌≡◌, ◌+◌, ◌*◌, ◌%◌, ◌<◌, ◌≤◌, ◌⊎◌, inl, inr, ℕ, List, [], ◌∷◌, ◌++◌, length, min, map, get_or, refl, sym, ap, ◌∙◌, subst, arith}
use Rattle.std.specs.Prelude.{All}
use Rattle.std.proofs.lemmas.Bool.{cases_lt}
use Rattle.std.proofs.lemmas.List.{append_assoc, length-append, length-map, map-append}
use Rattle.std.proofs.lemmas.List.Elements.{All-nil, All-cons, All-head, All-tail, All-append}
use Rattle.builtin_types.specs.Defaults.{hex_digit}
use Rattle.builtin_types.specs.Digits.{AreHexDigits, packed}
use Rattle.builtin_types.proofs.SpellingLemmas.{heads, tails}

abbrev IsDigit : ℕ → Type 0
IsDigit value = value < 16

pub one_digit : (digits : List ℕ) (value : ℕ) → 1 ≤ length digits → length digits < 2 → value < 16 → hex_digit value ≡ get_or digits 0 0 → AreHexDigits digits (value ∷ [])
one_digit [] value long short less is = absurd (omega (arith, long))
one_digit (d ∷ []) value long short less is = record { each = All-cons IsDigit value [] less (All-nil IsDigit); spelt = ap (λ (x : ℕ). x ∷ []) (sym is) }
one_digit (d ∷ e ∷ digits) value long short less is = absurd (omega (arith, short))

pub two_of_digits : (digits : List ℕ) (high low : ℕ) → 2 ≤ length digits → length digits < 3 → high < 16 → low < 16 → hex_digit high ≡ get_or digits 0 0 → hex_digit low ≡ get_or digits 1 0 → AreHexDigits digits (high ∷ low ∷ [])
two_of_digits [] high low long short a b is at = absurd (omega (arith, long))
two_of_digits (d ∷ []) high low long short a b is at = absurd (omega (arith, long))
two_of_digits (d ∷ e ∷ []) high low long short a b is at = record { each = All-cons IsDigit high (low ∷ []) a (All-cons IsDigit low [] b (All-nil IsDigit)); spelt = cc }
two_of_digits (d ∷ e ∷ f ∷ digits) high low long short a b is at = absurd (omega (arith, short))

-- the digits have been read as far as the rest, two at a time while there are any
pub record ArePackedSoFar (digits rest octets : List ℕ) : Type 0 where
  pub values : List ℕ
  pub each : All (λ value. value < 16) values
  pub spelt : digits ≡ map hex_digit values ++ rest
  pub packed_are : octets ≡ packed values
  pub even : (length rest ≡ 0) ⊎ (length values % 2 ≡ 0)

packed-append : (values others : List ℕ) → length values % 2 ≡ 0 → packed (values ++ others) ≡ packed values ++ packed others
packed-append [] others even = refl
packed-append (high ∷ []) others even = absurd (omega (arith, even))
packed-append (high ∷ low ∷ values) others even = ap (λ (octets : List ℕ). (high * 16 + low) ∷ octets) (packed-append values others (omega (arith, even)))

-- one or two digits more
pub packed_more : (digits rest octets chunk after pushed : List ℕ) (octet : ℕ) → ArePackedSoFar digits rest octets → rest ≡ chunk ++ after → length chunk ≡ min 2 (length rest) → 0 < length rest
    → (values : List ℕ) × AreHexDigits chunk values × (octet ∷ [] ≡ packed values) → pushed ≡ octets ++ octet ∷ [] → ArePackedSoFar digits after pushed
packed_more digits rest octets chunk after pushed octet h parts long some found more =
    let even : length h.values % 2 ≡ 0 = elim h.even [ inl none ↦ absurd (omega (arith, none, some)) | inr even ↦ even ] in
    let as_long : length chunk ≡ length found.0 = ap length found.1.spelt ∙ length-map found.0 hex_digit in
    let both : length rest ≡ length chunk + length after = ap length parts ∙ length-append chunk after in
    let sum : length (h.values ++ found.0) ≡ length h.values + length found.0 = length-append h.values found.0 in
    record {
      values = h.values ++ found.0;
      each = All-append IsDigit h.values found.0 h.each found.1.each;
      spelt = h.spelt ∙ ap (λ (xs : List ℕ). map hex_digit h.values ++ xs) (parts ∙ ap (λ (xs : List ℕ). xs ++ after) found.1.spelt)
          ∙ sym (append_assoc (map hex_digit h.values) (map hex_digit found.0) after) ∙ ap (λ (xs : List ℕ). xs ++ after) (sym (map-append hex_digit h.values found.0));
      packed_are = more ∙ ap (λ (xs : List ℕ). xs ++ octet ∷ []) h.packed_are ∙ ap (λ (xs : List ℕ). packed h.values ++ xs) found.2 ∙ sym (packed-append h.values found.0 even);
      even = elim (cases_lt (length rest) 2) [ inl short ↦ inl (omega (arith, long, both, short)) | inr full ↦ inr (omega (arith, long, as_long, sum, even, full)) ];
    }

pub front_all : {X : Type 0} (P : X → Type 0) (xs ys : List X) → All P (xs ++ ys) → All P xs
front_all P [] ys h = All-nil P
front_all P (x ∷ xs) ys h = All-cons P x xs (All-head P x (xs ++ ys) h) (front_all P xs ys (All-tail P x (xs ++ ys) h))

pub behind_all : {X : Type 0} (P : X → Type 0) (xs ys : List X) → All P (xs ++ ys) → All P ys
behind_all P [] ys h = h
behind_all P (x ∷ xs) ys h = behind_all P xs ys (All-tail P x (xs ++ ys) h)

-- parts of what a function makes of a list
pub split_map : {X : Type 0} (f : X → ℕ) (all : List X) (a b : List ℕ) → map f all ≡ a ++ b → (u : List X) × (v : List X) × (all ≡ u ++ v) × (a ≡ map f u) × (b ≡ map f v)
split_map f all [] b e = ([], all, refl, refl, sym e)
split_map f [] (x ∷ a) b e = absurd (cc)
split_map f (y ∷ all) (x ∷ a) b e =
    let r = split_map f all a b (tails (f y) x (map f all) (a ++ b) e) in
    let first = heads (f y) x (map f all) (a ++ b) e in
    (y ∷ r.0, r.1, ap (λ ys. y ∷ ys) r.2, (let same = r.3 in cc), r.4)

-- digits of which some are none are none
pub not_packed : (digits rest octets chunk after : List ℕ) → ArePackedSoFar digits rest octets → rest ≡ chunk ++ after → ((values : List ℕ) → AreHexDigits chunk values → ⊥) → (values : List ℕ) → AreHexDigits digits values → ⊥
not_packed digits rest octets chunk after h parts never values all =
    let first = split_map hex_digit values (map hex_digit h.values) rest (sym all.spelt ∙ h.spelt) in
    let second = split_map hex_digit first.1 chunk after (sym first.4 ∙ parts) in
    let each : All IsDigit (first.0 ++ first.1) = subst (All IsDigit) first.2 all.each in
    let some : All IsDigit (second.0 ++ second.1) = subst (All IsDigit) second.2 (behind_all IsDigit first.0 first.1 each) in
    never second.0 (record { each = front_all IsDigit second.0 second.1 some; spelt = second.3 })
