-- Lemmas on numbers in two's complement.
use Rattle.std.proofs.Common.{◌≡◌, ℕ, ◌+◌, ◌*◌, ◌^◌, ◌<◌, ◌≤◌, ◌-◌, ◌/◌, ◌%◌, inl, inr, ◌⊎◌, List, [], ◌∷◌, ◌++◌, length, take, refl, sym, ◌∙◌, ap, ap₂, arith, All, get_or, suc, Bool, true, false, length-append, append_assoc, drop, set, subst, replicate, zero, pow-add}
use Rattle.std.specs.Prelude.{ℤ, pos, negsuc, ◌-ℤ◌, ◌+ℤ◌, ◌*ℤ◌, FitsSigned}
use mir.Syntax.{Width}
use mir.Val.{to_z, bits, hbits}
use Rattle.std.proofs.Math.Facts.{to_z-neg}
use Rattle.std.specs.Int.{w16, w32, w128, from_be_bytes, byte_worth, sum_through}
use Rattle.std.proofs.lemmas.List.{take_more, take_all, drop-set, length-set, length-replicate, length-drop, drop_all, take-replicate, append-nil}
use borrow.Rule.Slice.PartMut.{put_mid}
use Rattle.std.proofs.lemmas.List.Elements.{All-append, All-cons, All-nil}
use Rattle.std.proofs.Math.Nat.{pow-le-pow_right, pow-suc, mul-le-mul_right}
use Rattle.std.proofs.lemmas.Nat.{mul-add-lt}
use Rattle.std.proofs.lemmas.Grind.{pow_more}
use Rattle.std.proofs.lemmas.Bool.{cases_lt}
use Rattle.std.proofs.lemmas.Int.{ints}
use Rattle.octets.specs.Digits.{number_of}
use Rattle.octets.proofs.DigitLemmas.{number_of-append, number_of-snoc, number_of-below, number_of-zeros, All-tail}
use Rattle.octets.proofs.PlaceLemmas.{number_of-injective}
use Rattle.primitives.specs.Integer.{IsInteger, IsWideInteger, integer_of, NineBitsDiffer, number_at, last_octet_at}
use Rattle.primitives.specs.Laws.{OneIntegerValue, OneIntegerEncoding, AtMostSixteenOctets}

-- one octet more
number_of-more : (c : List ℕ) (i d : ℕ) → i < length c → get_or c i 0 ≡ d → number_of 256 (take (i + 1) c) ≡ number_of 256 (take i c) * 256 + d
number_of-more c i d below item =
    ap (number_of 256) (take_more c i 0 below) ∙ (number_of-snoc 256 (take i c) (get_or c i 0) ∙ ap (λ x. number_of 256 (take i c) * 256 + x) item)

pub sixteen : (n : ℕ) → n ≤ 16 → 256 ^ n ≤ 2 ^ 128
sixteen n few =
    let most : 256 ^ n ≤ 256 ^ 16 = pow-le-pow_right {n = 256} (omega arith) {i = n} {j = 16} few in
    let whole : 256 ^ 16 ≡ 2 ^ 128 = refl in
    omega (arith, most, whole)

-- the number that stands so far above 0, or below -1, and what its octets spell without a sign
abbrev pub Spells : Bool → ℕ → List ℕ → Type 0
Spells false above octets = number_of 256 octets ≡ above
Spells true above octets = number_of 256 octets + above + 1 ≡ 256 ^ length octets

pub record IsComplement (negative : Bool) (above : ℕ) (octets : List ℕ) : Type 0 where
  pub value : Spells negative above octets
  pub half : 2 * above < 256 ^ length octets

difference-pos : (a b n : ℕ) → pos a -ℤ pos b ≡ pos n → a ≡ b + n
difference-pos a b n h = omega (arith, ints)

difference-negsuc : (a b n : ℕ) → pos a -ℤ pos b ≡ negsuc n → a + n + 1 ≡ b
difference-negsuc a b n h = omega (arith, ints)

pos-difference : (a b n : ℕ) → a ≡ b + n → pos a -ℤ pos b ≡ pos n
pos-difference a b n h = omega (arith, ints)

negsuc-difference : (a b n : ℕ) → a + n + 1 ≡ b → pos a -ℤ pos b ≡ negsuc n
negsuc-difference a b n h = omega (arith, ints)

-- the place values of a first octet and of those that follow
record IsParts (first : ℕ) (rest : List ℕ) : Type 0 where
  low : number_of 256 (first % 128 ∷ rest) < 128 * 256 ^ length rest
  whole : number_of 256 (first ∷ rest) ≡ number_of 256 (first % 128 ∷ rest) + first / 128 * (128 * 256 ^ length rest)
  power : 256 ^ length (first ∷ rest) ≡ 256 ^ length rest * 256
  top : (first / 128 * (128 * 256 ^ length rest) ≡ 0) ⊎ (first / 128 * (128 * 256 ^ length rest) ≡ 128 * 256 ^ length rest)

parts_of : (first : ℕ) (rest : List ℕ) → All (λ d. d < 256) (first ∷ rest) → IsParts first rest
parts_of first rest octets =
    let P = 256 ^ length rest in
    let V = number_of 256 rest in
    let below : V < P = number_of-below 256 rest (All-tail (λ d. d < 256) first rest octets) in
    let one : first < 256 = octets 0 0 (omega arith) in
    let low : first % 128 * P + V < P * 128 = mul-add-lt (first % 128) P V 128 (omega arith) below in
    let split : (first % 128 + first / 128 * 128) * P ≡ first * P = ap (λ n. n * P) (omega arith) in
    record {
      low = omega (arith, low);
      whole = omega (arith, split);
      power = pow-suc 256 (length rest);
      top =
          elim (cases_lt first 128) [
            | inl small ↦ let none : first / 128 ≡ 0 = omega arith in inl (omega (arith, ap (λ n. n * (128 * P)) none))
            | inr large ↦ let once : first / 128 ≡ 1 = omega arith in inr (omega (arith, ap (λ n. n * (128 * P)) once))
          ];
    }

IsComplement-from_value : (negative : Bool) (above first : ℕ) (rest : List ℕ) → All (λ d. d < 256) (first ∷ rest) → integer_of (first ∷ rest) ≡ number_at negative above → IsComplement negative above (first ∷ rest)
IsComplement-from_value false above first rest octets h =
    let p = parts_of first rest octets in
    let sum = difference-pos (number_of 256 (first % 128 ∷ rest)) (first / 128 * (128 * 256 ^ length rest)) above h in
    elim p.top [
      | inl none ↦ record { value = omega (arith, p.low, p.whole, none, sum); half = omega (arith, p.low, p.power, none, sum) }
      | inr once ↦ absurd (omega (arith, p.low, once, sum))
    ]
IsComplement-from_value true above first rest octets h =
    let p = parts_of first rest octets in
    let sum = difference-negsuc (number_of 256 (first % 128 ∷ rest)) (first / 128 * (128 * 256 ^ length rest)) above h in
    elim p.top [
      | inl none ↦ absurd (omega (arith, none, sum))
      | inr once ↦ record { value = omega (arith, p.low, p.whole, p.power, once, sum); half = omega (arith, p.low, p.power, once, sum) }
    ]

value-from_IsComplement : (negative : Bool) (above first : ℕ) (rest : List ℕ) → All (λ d. d < 256) (first ∷ rest) → IsComplement negative above (first ∷ rest) → integer_of (first ∷ rest) ≡ number_at negative above
value-from_IsComplement false above first rest octets h =
    let p = parts_of first rest octets in
    let value : number_of 256 (first ∷ rest) ≡ above = h.value in
    pos-difference (number_of 256 (first % 128 ∷ rest)) (first / 128 * (128 * 256 ^ length rest)) above (
    elim p.top [
      | inl none ↦ omega (arith, p.whole, none, value)
      | inr once ↦ absurd (omega (arith, p.whole, p.power, once, value, h.half))
    ]
    )
value-from_IsComplement true above first rest octets h =
    let p = parts_of first rest octets in
    let value : number_of 256 (first ∷ rest) + above + 1 ≡ 256 ^ length (first ∷ rest) = h.value in
    negsuc-difference (number_of 256 (first % 128 ∷ rest)) (first / 128 * (128 * 256 ^ length rest)) above (
    elim p.top [
      | inl none ↦ absurd (omega (arith, p.low, p.whole, p.power, none, value, h.half))
      | inr once ↦ omega (arith, p.whole, p.power, once, value)
    ]
    )

-- a number's sign and how far it stands above 0 or below -1
pub IsComplement-from : (negative : Bool) (above : ℕ) (c : List ℕ) → IsInteger (number_at negative above) c → IsComplement negative above c
IsComplement-from negative above [] h = let none = h.at_least_one in absurd (omega arith)
IsComplement-from negative above (first ∷ rest) h = IsComplement-from_value negative above first rest h.below_256 h.value

pub IsInteger-from : (negative : Bool) (above : ℕ) (c : List ℕ) → 1 ≤ length c → All (λ d. d < 256) c → NineBitsDiffer c → IsComplement negative above c → IsInteger (number_at negative above) c
IsInteger-from negative above [] some octets short h = absurd (omega arith)
IsInteger-from negative above (first ∷ rest) some octets short h = record {
  at_least_one = some;
  below_256 = octets;
  shortest = short;
  value = value-from_IsComplement negative above first rest octets h;
}

-- a number of two octets or more stands far from 0
large : (negative : Bool) (m x y : ℕ) (cs : List ℕ) → All (λ d. d < 256) (x ∷ y ∷ cs) → Spells negative m (x ∷ y ∷ cs) → NineBitsDiffer (x ∷ y ∷ cs) → 256 ^ length (y ∷ cs) ≤ 2 * m
large false m x y cs octets value short =
    let A = 256 ^ length cs in
    let P = 256 ^ length (y ∷ cs) in
    let power : P ≡ A * 256 = pow-suc 256 (length cs) in
    let sum : x * P + (y * A + number_of 256 cs) ≡ m = value in
    elim (cases_lt 0 x) [
      | inl some ↦ let h : 1 * P ≤ x * P = mul-le-mul_right P some in omega (arith, sum, h)
      | inr none ↦ let h : 128 * A ≤ y * A = mul-le-mul_right A (short.0 (omega arith)) in omega (arith, sum, h, power)
    ]
large true m x y cs octets value short =
    let A = 256 ^ length cs in
    let P = 256 ^ length (y ∷ cs) in
    let power : P ≡ A * 256 = pow-suc 256 (length cs) in
    let whole : 256 ^ length (x ∷ y ∷ cs) ≡ P * 256 = pow-suc 256 (length (y ∷ cs)) in
    let sum : x * P + (y * A + number_of 256 cs) + m + 1 ≡ 256 ^ length (x ∷ y ∷ cs) = value in
    let tail : number_of 256 cs < A = number_of-below 256 cs (λ k d below. octets (suc (suc k)) d (omega arith)) in
    let first : x < 256 = octets 0 0 (omega arith) in
    let second : y < 256 = octets 1 0 (omega arith) in
    elim (cases_lt x 255) [
      | inl less ↦
          let h : x * P ≤ 254 * P = mul-le-mul_right P (omega arith) in
          let k : y * A + number_of 256 cs < A * 256 = mul-add-lt y A (number_of 256 cs) 256 second tail in
          omega (arith, sum, whole, power, h, k)
      | inr all ↦
          let same : x ≡ 255 = omega arith in
          let h : x * P ≡ 255 * P = ap (λ n. n * P) same in
          let k : y * A + number_of 256 cs < A * 128 = mul-add-lt y A (number_of 256 cs) 128 (short.1 same) tail in
          omega (arith, sum, whole, power, h, k)
    ]

-- no number has octets of two lengths
not_longer : (negative : Bool) (m : ℕ) (c : List ℕ) (k : ℕ) → IsInteger (number_at negative m) c → 2 * m < 256 ^ k → 1 ≤ k → length c ≤ k
not_longer negative m [] k h small some = omega arith
not_longer negative m (x ∷ []) k h small some = omega arith
not_longer negative m (x ∷ y ∷ cs) k h small some =
    let big : 256 ^ length (y ∷ cs) ≤ 2 * m = large negative m x y cs h.below_256 (IsComplement-from negative m (x ∷ y ∷ cs) h).value h.shortest in
    elim (cases_lt k (length (x ∷ y ∷ cs))) [
      | inl more ↦
          let most : 256 ^ k ≤ 256 ^ length (y ∷ cs) = pow-le-pow_right {n = 256} (omega arith) {i = k} {j = length (y ∷ cs)} (omega arith) in
          absurd (omega (arith, big, most, small))
      | inr few ↦ few
    ]

-- a number of 128 bits has at most sixteen octets
pub at_most_sixteen_octets : AtMostSixteenOctets
at_most_sixteen_octets (pos n) c fits h =
    let whole : 256 ^ 16 ≡ 2 ^ 128 = refl in
    not_longer false n c 16 h (omega (arith, ints, fits, whole)) (omega arith)
at_most_sixteen_octets (negsuc n) c fits h =
    let whole : 256 ^ 16 ≡ 2 ^ 128 = refl in
    not_longer true n c 16 h (omega (arith, ints, fits, whole)) (omega arith)

-- and sixteen octets hold no other
fits_from_sixteen : (number : ℤ) (contents : List ℕ) → IsInteger number contents → length contents ≤ 16 → FitsSigned w128 number
fits_from_sixteen (pos n) c h few = let k = IsComplement-from false n c h in omega (arith, ints, k.half, sixteen (length c) few)
fits_from_sixteen (negsuc n) c h few = let k = IsComplement-from true n c h in omega (arith, ints, k.half, sixteen (length c) few)

pub IsWideInteger-from : (contents : List ℕ) → 16 < length contents → length contents ≤ 1024 → All (λ d. d < 256) contents → NineBitsDiffer contents → IsWideInteger contents
IsWideInteger-from c many few octets short =
    let h : IsInteger (integer_of c) c = record { at_least_one = omega arith; below_256 = octets; shortest = short; value = refl } in
    record {
      number = integer_of c;
      spelt = h;
      outside = λ fits. absurd (omega (arith, many, at_most_sixteen_octets (integer_of c) c fits h));
      within = few;
    }

pub above_sixteen : (contents : List ℕ) → IsWideInteger contents → 16 < length contents
above_sixteen c h =
    elim (cases_lt 16 (length c)) [
      | inl many ↦ many
      | inr few ↦ absurd (h.outside (fits_from_sixteen h.number c h.spelt few))
    ]

same_number : (negative : Bool) (m : ℕ) (c d : List ℕ) → length c ≡ length d → Spells negative m c → Spells negative m d → number_of 256 c ≡ number_of 256 d
same_number false m c d size h k = h ∙ sym k
same_number true m c d size h k = let power : 256 ^ length c ≡ 256 ^ length d = ap (λ n. 256 ^ n) size in omega (arith, h, k, power)

same_octets : (negative : Bool) (m : ℕ) (c d : List ℕ) → IsInteger (number_at negative m) c → IsInteger (number_at negative m) d → c ≡ d
same_octets negative m c d h k =
    let f = IsComplement-from negative m c h in
    let g = IsComplement-from negative m d k in
    let one : length c ≤ length d = not_longer negative m c (length d) h g.half k.at_least_one in
    let two : length d ≤ length c = not_longer negative m d (length c) k f.half h.at_least_one in
    let size : length c ≡ length d = omega arith in
    number_of-injective 256 c d h.below_256 k.below_256 size (same_number negative m c d size f.value g.value)

-- a number has one encoding
pub one_integer_encoding : OneIntegerEncoding
one_integer_encoding (pos n) c d h k = same_octets false n c d h k
one_integer_encoding (negsuc n) c d h k = same_octets true n c d h k

pub one_integer_value : OneIntegerValue
one_integer_value m n c h k = sym h.value ∙ k.value

-- the first octet says the sign
pub half_below : (first : ℕ) (rest : List ℕ) → All (λ d. d < 256) (first ∷ rest) → first < 128 → 2 * number_of 256 (first ∷ rest) < 256 ^ length (first ∷ rest)
half_below first rest octets low =
    let tail : number_of 256 rest < 256 ^ length rest = number_of-below 256 rest (λ k d below. octets (suc k) d (omega arith)) in
    let power : 256 ^ length (first ∷ rest) ≡ 256 ^ length rest * 256 = pow-suc 256 (length rest) in
    let k : first * 256 ^ length rest + number_of 256 rest < 256 ^ length rest * 128 = mul-add-lt first (256 ^ length rest) (number_of 256 rest) 128 low tail in
    omega (arith, power, k)

pub half_above : (first : ℕ) (rest : List ℕ) → 128 ≤ first → 256 ^ length (first ∷ rest) ≤ 2 * number_of 256 (first ∷ rest)
half_above first rest high =
    let power : 256 ^ length (first ∷ rest) ≡ 256 ^ length rest * 256 = pow-suc 256 (length rest) in
    let h : 128 * 256 ^ length rest ≤ first * 256 ^ length rest = mul-le-mul_right (256 ^ length rest) high in
    omega (arith, power, h)

last_octet_at-below : (negative : Bool) (m : ℕ) → last_octet_at negative m < 256
last_octet_at-below false m = omega arith
last_octet_at-below true m = omega arith

All-one : (d : ℕ) → d < 256 → All (λ x. x < 256) (d ∷ [])
All-one d h = All-cons (λ x. x < 256) d [] h (All-nil (λ x. x < 256))

complement-last : (negative : Bool) (m : ℕ) → m < 128 → IsComplement negative m (last_octet_at negative m ∷ [])
complement-last false m low = record { value = omega arith; half = omega arith }
complement-last true m low = record { value = omega arith; half = omega arith }

-- a number of one octet
pub IsInteger-last : (negative : Bool) (m : ℕ) → m < 128 → IsInteger (number_at negative m) (last_octet_at negative m ∷ [])
IsInteger-last negative m low =
    IsInteger-from negative m (last_octet_at negative m ∷ []) (omega arith) (All-one (last_octet_at negative m) (last_octet_at-below negative m)) tt (complement-last negative m low)

complement-more : (negative : Bool) (m x : ℕ) (xs : List ℕ) → IsComplement negative (m / 256) (x ∷ xs) → IsComplement negative m ((x ∷ xs) ++ last_octet_at negative m ∷ [])
complement-more false m x xs h =
    let d = m % 256 in
    let b : List ℕ = x ∷ xs in
    let size : length (b ++ d ∷ []) ≡ suc (length b) = omega (arith, length-append b (d ∷ [])) in
    let more : 256 ^ length (b ++ d ∷ []) ≡ 256 ^ length b * 256 = ap (λ n. 256 ^ n) size ∙ pow-suc 256 (length b) in
    let value : number_of 256 (b ++ d ∷ []) ≡ number_of 256 b * 256 + d = number_of-snoc 256 b d in
    let same : number_of 256 b ≡ m / 256 = h.value in
    let low : 2 * (m / 256) < 256 ^ length b = h.half in
    let power : 256 ^ length b ≡ 256 ^ length xs * 256 = pow-suc 256 (length xs) in
    record { value = omega (arith, value, same); half = omega (arith, power, more, low) }
complement-more true m x xs h =
    let d = 255 - m % 256 in
    let b : List ℕ = x ∷ xs in
    let size : length (b ++ d ∷ []) ≡ suc (length b) = omega (arith, length-append b (d ∷ [])) in
    let more : 256 ^ length (b ++ d ∷ []) ≡ 256 ^ length b * 256 = ap (λ n. 256 ^ n) size ∙ pow-suc 256 (length b) in
    let value : number_of 256 (b ++ d ∷ []) ≡ number_of 256 b * 256 + d = number_of-snoc 256 b d in
    let same : number_of 256 b + m / 256 + 1 ≡ 256 ^ length b = h.value in
    let low : 2 * (m / 256) < 256 ^ length b = h.half in
    let power : 256 ^ length b ≡ 256 ^ length xs * 256 = pow-suc 256 (length xs) in
    record { value = omega (arith, value, same, more); half = omega (arith, power, more, low) }

differ-more : (negative : Bool) (m x : ℕ) (xs : List ℕ) → 128 ≤ m → IsComplement negative (m / 256) (x ∷ xs) → NineBitsDiffer (x ∷ xs) → NineBitsDiffer ((x ∷ xs) ++ last_octet_at negative m ∷ [])
differ-more false m x [] above h short =
    let same : x * 1 + 0 ≡ m / 256 = h.value in
    let low : 2 * (m / 256) < 256 = h.half in
    (λ e. omega (arith, same, low), λ e. omega (arith, same, low))
differ-more true m x [] above h short =
    let same : x * 1 + 0 + m / 256 + 1 ≡ 256 = h.value in
    let low : 2 * (m / 256) < 256 = h.half in
    (λ e. omega (arith, same, low), λ e. omega (arith, same, low))
differ-more false m x (y ∷ ys) above h short = short
differ-more true m x (y ∷ ys) above h short = short

-- a number by its last octet and the ones before it
pub IsInteger-more : (negative : Bool) (m : ℕ) (b : List ℕ) → 128 ≤ m → IsInteger (number_at negative (m / 256)) b → IsInteger (number_at negative m) (b ++ last_octet_at negative m ∷ [])
IsInteger-more negative m [] above h = let none = h.at_least_one in absurd (omega arith)
IsInteger-more negative m (x ∷ xs) above h =
    let k = IsComplement-from negative (m / 256) (x ∷ xs) h in
    IsInteger-from negative m ((x ∷ xs) ++ last_octet_at negative m ∷ []) (omega arith) (All-append (λ d. d < 256) (x ∷ xs) (last_octet_at negative m ∷ []) h.below_256 (All-one (last_octet_at negative m) (last_octet_at-below negative m))) (differ-more negative m x xs above k h.shortest) (complement-more negative m x xs k)

-- the last octets of a number stand at the end of eighteen places, two of which stay free, and `rest` is left to be
-- spelt before them
pub record IsSpelling (negative : Bool) (above rest start : ℕ) (spelt : List ℕ) : Type 0 where
  pub some : 1 ≤ start
  pub within : start ≤ 16
  pub size : length spelt ≡ 16
  pub room : 2 * rest < 256 ^ start
  pub joined : (b : List ℕ) → IsInteger (number_at negative rest) b → IsInteger (number_at negative above) (b ++ drop start spelt)

some_room : (rest places : ℕ) → 2 * rest < 256 ^ places → 128 ≤ rest → 2 ≤ places
some_room rest places room above =
    elim (cases_lt 1 places) [
      | inl there ↦ there
      | inr few ↦ let power : 256 ^ places ≤ 256 ^ 1 = pow-le-pow_right {n = 256} (omega arith) {i = places} {j = 1} few in let once : 256 ^ 1 ≡ 256 = refl in absurd (omega (arith, power, once))
    ]

pub IsSpelling-step : (negative : Bool) (above rest start : ℕ) (spelt : List ℕ) → IsSpelling negative above rest start spelt → 128 ≤ rest → IsSpelling negative above (rest / 256) (start - 1) (set spelt (start - 1) (last_octet_at negative rest))
IsSpelling-step negative above rest start spelt h big =
    let at = start - 1 in
    let d = last_octet_at negative rest in
    let there = some_room rest start h.room big in
    let next : start ≡ at + 1 = omega arith in
    let more : drop at (set spelt at d) ≡ d ∷ drop start spelt = drop-set spelt at d (omega (arith, h.size, h.within)) ∙ ap (λ k. d ∷ drop k spelt) (sym next) in
    let power : 256 ^ start ≡ 256 ^ at * 256 = ap (λ k. 256 ^ k) next ∙ pow_more 256 at in
    record {
      some = omega arith;
      within = omega (arith, h.within);
      size = length-set spelt at d ∙ h.size;
      room = omega (arith, h.room, power);
      joined = λ b k.
          let whole : (b ++ d ∷ []) ++ drop start spelt ≡ b ++ drop at (set spelt at d) = append_assoc b (d ∷ []) (drop start spelt) ∙ ap (λ t. b ++ t) (sym more) in
          subst (IsInteger (number_at negative above)) whole (h.joined (b ++ d ∷ []) (IsInteger-more negative rest b big k));
    }

-- the first octet ends the spelling
pub IsInteger-from_spelling : (negative : Bool) (above rest start : ℕ) (spelt : List ℕ) → IsSpelling negative above rest start spelt → rest < 128 → IsInteger (number_at negative above) (drop (start - 1) (set spelt (start - 1) (last_octet_at negative rest)))
IsInteger-from_spelling negative above rest start spelt h small =
    let at = start - 1 in
    let d = last_octet_at negative rest in
    let next : start ≡ at + 1 = omega (arith, h.some) in
    let more : drop at (set spelt at d) ≡ d ∷ drop start spelt = drop-set spelt at d (omega (arith, h.size, h.within, h.some)) ∙ ap (λ k. d ∷ drop k spelt) (sym next) in
    subst (IsInteger (number_at negative above)) (sym more) (h.joined (d ∷ []) (IsInteger-last negative rest small))

-- bits with a first one are a number so far below
to_z-above : (w : Width) (half n : ℕ) → half ≡ 2 ^ hbits w → 2 * half ≡ 2 ^ bits w → half ≤ n → n < 2 * half → to_z w n ≡ pos n -ℤ pos (2 * half)
to_z-above w half n is twice above below =
    let k = 2 * half - suc n in
    let written : n ≡ 2 ^ bits w - suc k = omega (arith, twice) in
    let negative : negsuc k ≡ pos n -ℤ pos (2 * half) = omega (arith, ints) in
    ap (to_z w) written ∙ (to_z-neg w k (omega (arith, is)) ∙ negative)

-- the number of three octets, and of four
pub three_octets : (cs : List ℕ) → length cs ≡ 3 → ((i : ℕ) → get_or cs i 0 < 256) → integer_of cs ≡ to_z w16 (get_or cs 0 0 * 256 + get_or cs 1 0) *ℤ pos 256 +ℤ pos (get_or cs 2 0)
three_octets (a ∷ b ∷ c ∷ []) three octets =
    elim (cases_lt a 128) [
      | inl low ↦ omega (arith, ints, low, octets 1)
      | inr high ↦
          let negative = to_z-above w16 32768 (a * 256 + b) refl refl (omega (arith, high)) (omega (arith, octets 0, octets 1)) in
          omega (arith, ints, negative, high, octets 0)
    ]
three_octets [] three octets = cc
three_octets (a ∷ []) three octets = cc
three_octets (a ∷ b ∷ []) three octets = cc
three_octets (a ∷ b ∷ c ∷ d ∷ ds) three octets = cc

pub four_octets : (cs : List ℕ) → length cs ≡ 4 → ((i : ℕ) → get_or cs i 0 < 256) → integer_of cs ≡ to_z w32 (get_or cs 0 0 * 16777216 + get_or cs 1 0 * 65536 + get_or cs 2 0 * 256 + get_or cs 3 0)
four_octets (a ∷ b ∷ c ∷ d ∷ []) four octets =
    elim (cases_lt a 128) [
      | inl low ↦ omega (arith, ints, low, octets 1, octets 2, octets 3)
      | inr high ↦
          let negative = to_z-above w32 2147483648 (a * 16777216 + b * 65536 + c * 256 + d) refl refl (omega (arith, high)) (omega (arith, octets 0, octets 1, octets 2, octets 3)) in
          omega (arith, ints, negative, high, octets 0)
    ]
four_octets [] four octets = cc
four_octets (a ∷ []) four octets = cc
four_octets (a ∷ b ∷ []) four octets = cc
four_octets (a ∷ b ∷ c ∷ []) four octets = cc
four_octets (a ∷ b ∷ c ∷ d ∷ e ∷ es) four octets = cc

byte_worth-value : (i d : ℕ) → byte_worth i d ≡ d * 256 ^ i
byte_worth-value zero d = omega arith
byte_worth-value (suc i) d = refl

-- the octets from the first to one of them, each by its place
sum_to : (cs : List ℕ) (last k : ℕ) → length cs ≡ last + 1 → k ≤ last → sum_through (λ i. byte_worth (last - i) (get_or cs i 0)) k ≡ number_of 256 (take (k + 1) cs) * 256 ^ (last - k)
sum_to cs last zero size within =
    let first : number_of 256 (take 1 cs) ≡ get_or cs 0 0 = number_of-more cs 0 (get_or cs 0 0) (omega (arith, size)) refl ∙ omega arith in
    let whole : last - 0 ≡ last = omega arith in
    subst (λ l. byte_worth l (get_or cs 0 0) ≡ number_of 256 (take 1 cs) * 256 ^ l) (sym whole) (byte_worth-value last (get_or cs 0 0) ∙ ap (λ n. n * 256 ^ last) (sym first))
sum_to cs last (suc k) size within =
    let d = get_or cs (suc k) 0 in
    let left = last - suc k in
    let before = sum_to cs last k size (omega (arith, within)) in
    let next : suc k ≡ k + 1 = omega arith in
    let more : number_of 256 (take (suc k + 1) cs) ≡ number_of 256 (take (k + 1) cs) * 256 + d = number_of-more cs (suc k) d (omega (arith, size, within)) refl ∙ ap (λ i. number_of 256 (take i cs) * 256 + d) next in
    let power : 256 ^ (last - k) ≡ 256 ^ left * 256 = ap (λ n. 256 ^ n) (omega (arith, within)) ∙ pow-suc 256 left in
    omega (arith, before, byte_worth-value left d, ap (λ n. number_of 256 (take (k + 1) cs) * n) power, ap (λ n. n * 256 ^ left) more)

-- sixteen octets spell their number
spelt_by_sixteen : (cs : List ℕ) → length cs ≡ 16 → from_be_bytes w128 cs ≡ number_of 256 cs
spelt_by_sixteen cs size = sum_to cs 15 15 size (omega arith) ∙ omega (arith, ap (number_of 256) (take_all 16 cs (omega (arith, size))))

number_of-ones : (k : ℕ) → number_of 256 (replicate k 255) + 1 ≡ 256 ^ k
number_of-ones zero = refl
number_of-ones (suc k) = omega (arith, number_of-ones k, pow-suc 256 k, ap (λ n. 256 ^ n) (length-replicate {A = ℕ} k 255))

-- filled up to sixteen octets by the first bit, a number stays the same
pub filled_up_value : (fill : ℕ) (cs : List ℕ) → 1 ≤ length cs → length cs ≤ 16 → All (λ d. d < 256) cs → (get_or cs 0 0 < 128 → fill ≡ 0) → (128 ≤ get_or cs 0 0 → fill ≡ 255) →
    integer_of cs ≡ to_z w128 (from_be_bytes w128 (replicate (16 - length cs) fill ++ cs))
filled_up_value fill [] some few octets zeros ones = absurd (omega (arith, some))
filled_up_value fill (first ∷ rest) some few octets zeros ones =
    let cs : List ℕ = first ∷ rest in
    let free = 16 - length cs in
    let front = number_of 256 (replicate free fill) in
    let all_places : free + length cs ≡ 16 = omega (arith, few) in
    let power : 256 ^ free * 256 ^ length cs ≡ 2 ^ 128 = sym (pow-add 256 free (length cs)) ∙ ap (λ n. 256 ^ n) all_places in
    let size : length (replicate free fill ++ cs) ≡ 16 = omega (arith, length-append (replicate free fill) cs, length-replicate {A = ℕ} free fill, few) in
    let value : from_be_bytes w128 (replicate free fill ++ cs) ≡ front * 256 ^ length cs + number_of 256 cs = spelt_by_sixteen (replicate free fill ++ cs) size ∙ number_of-append 256 (replicate free fill) cs in
    let below = sixteen (length cs) few in
    elim (cases_lt first 128) [
      | inl low ↦
          let half = half_below first rest octets low in
          let none : front ≡ 0 = ap (λ d. number_of 256 (replicate free d)) (zeros low) ∙ number_of-zeros 256 free in
          let same : from_be_bytes w128 (replicate free fill ++ cs) ≡ number_of 256 cs = omega (arith, value, ap (λ n. n * 256 ^ length cs) none) in
          value-from_IsComplement false (number_of 256 cs) first rest octets record { value = refl; half = half } ∙ omega (arith, ints, same, half, below)
      | inr high ↦
          let half = half_above first rest high in
          let whole = number_of-below 256 cs octets in
          let all : front + 1 ≡ 256 ^ free = ap (λ d. number_of 256 (replicate free d) + 1) (ones high) ∙ number_of-ones free in
          let above = 256 ^ length cs - number_of 256 cs - 1 in
          let same : from_be_bytes w128 (replicate free fill ++ cs) ≡ 2 ^ 128 - suc above = omega (arith, value, ap (λ n. n * 256 ^ length cs) all, power, whole, below) in
          value-from_IsComplement true above first rest octets record { value = omega (arith, whole); half = omega (arith, half, whole) } ∙ sym (ap (to_z w128) same ∙ to_z-neg w128 above (omega (arith, half, whole, below)))
    ]

-- sixteen octets of one value with others written over the last of them
pub filled_up : (fill : ℕ) (new cs : List ℕ) → new ≡ cs → length cs ≤ 16 → put_mid (16 - length cs) (16 - (16 - length cs)) (replicate 16 fill) new ≡ replicate (16 - length cs) fill ++ cs
filled_up fill new cs is few =
    let free = 16 - length cs in
    let none : drop (16 - free) (drop free (replicate 16 fill)) ≡ [] = drop_all (16 - free) (drop free (replicate 16 fill)) (omega (arith, length-drop free (replicate 16 fill))) in
    ap₂ (λ front back. front ++ back) (take-replicate free 16 fill (omega arith)) (ap (λ back. new ++ back) none ∙ (append-nil new ∙ is))
