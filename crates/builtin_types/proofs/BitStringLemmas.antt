-- The bits and octets of whole strings behind DEFAULT.
use Rattle.std.proofs.Common.{◌≡◌, ◌+◌, ◌-◌, ◌*◌, ◌/◌, ◌%◌, ◌<◌, ◌↔◌, ℕ, Bool, false, List, [], ◌∷◌, ◌++◌, length, map, replicate, Option, Some, None, Result, Ok, Err, IfOk, IfSome, IsSome, IsNone, nat_eq, refl, sym, ap, ◌∙◌, subst, arith}
use Rattle.std.specs.Prelude.{All}
use Rattle.std.specs.List.{flat_map}
use Rattle.std.proofs.lemmas.List.{append-nil, length-append, length-map}
use Rattle.std.proofs.lemmas.List.Elements.{All-nil, All-cons, All-head, All-tail}
use Rattle.std.proofs.Math.ListN.{length-replicate}
use Rattle.primitives.specs.Bits.{bits_of_octet, bits_of, IsPadded, IsFrontOf, CanBeUnused}
use Rattle.primitives.proofs.BitsLemmas.{length-bits_of, bits_before-parts}
use Rattle.builtin_types.specs.Defaults.{bit_digit, hex_digit, digit_string, binary_string, four_bits, two_digits, IsHexString}
use Rattle.builtin_types.specs.Digits.{AreHexDigits, packed}
use Rattle.builtin_types.proofs.SpellingLemmas.{same_digits}

-- as many bits are unused as the octets have more than the digits
pub padded_length : (bits : List Bool) (octets : List ℕ) (unused : ℕ) → IsPadded bits octets unused → 8 * length octets ≡ length bits + unused
padded_length bits octets unused h = sym (length-bits_of octets) ∙ ap length h.bits_are ∙ length-append bits (replicate unused false) ∙ ap (λ (n : ℕ). length bits + n) (length-replicate unused false)

same_front : (bits other : List Bool) (octets : List ℕ) (unused : ℕ) → IsPadded bits octets unused → IsFrontOf other unused octets → other ≡ bits
same_front bits other octets unused h g =
    sym (bits_before-parts octets unused other g.tail g.bits_are g.tail_is) ∙ bits_before-parts octets unused bits (replicate unused false) h.bits_are (length-replicate unused false)

-- what the octets without the unused bits are
pub made_of : (made : Option (List Bool)) (bits : List Bool) (octets : List ℕ) (unused given : ℕ) → IsPadded bits octets unused → given ≡ unused → IfSome made (λ other. IsFrontOf other given octets) → IfSome made (λ other. other ≡ bits)
made_of None bits octets unused given h is front = tt
made_of (Some other) bits octets unused given h is front = same_front bits other octets unused h (subst (λ (n : ℕ). IsFrontOf other n octets) is front)

pub is_made : (made : Option (List Bool)) (bits : List Bool) (octets : List ℕ) (unused given : ℕ) → IsPadded bits octets unused → given ≡ unused → IsSome made ↔ CanBeUnused given octets → IsNone made → ⊥
is_made (Some other) bits octets unused given h is can none = absurd (cc none)
is_made None bits octets unused given h is can none =
    let some : IsSome {T = List Bool} None = can.1 (record { at_most_7 = (let few = h.at_most_7 in omega (arith, few, is)); none = λ empty. let long = ap length empty in omega (arith, is, long, padded_length bits octets unused h) }) in
    absurd (cc some)

same_bit : (m n : ℕ) → m ≡ n → nat_eq m 1 ≡ nat_eq n 1
same_bit m n e = ap (λ k. nat_eq k 1) e

high-8 : (h l : ℕ) → l < 16 → (h * 16 + l) / 128 % 2 ≡ h / 8 % 2
high-8 h l less = omega (arith, less)

high-4 : (h l : ℕ) → l < 16 → (h * 16 + l) / 64 % 2 ≡ h / 4 % 2
high-4 h l less = omega (arith, less)

high-2 : (h l : ℕ) → l < 16 → (h * 16 + l) / 32 % 2 ≡ h / 2 % 2
high-2 h l less = omega (arith, less)

high-1 : (h l : ℕ) → l < 16 → (h * 16 + l) / 16 % 2 ≡ h / 1 % 2
high-1 h l less = omega (arith, less)

low-8 : (h l : ℕ) → (h * 16 + l) / 8 % 2 ≡ l / 8 % 2
low-8 h l = omega arith

low-4 : (h l : ℕ) → (h * 16 + l) / 4 % 2 ≡ l / 4 % 2
low-4 h l = omega arith

low-2 : (h l : ℕ) → (h * 16 + l) / 2 % 2 ≡ l / 2 % 2
low-2 h l = omega arith

low-1 : (h l : ℕ) → (h * 16 + l) / 1 % 2 ≡ l / 1 % 2
low-1 h l = omega arith

-- the bits of an octet are those of its two digits
bits_of_two : (high low : ℕ) → low < 16 → bits_of_octet (high * 16 + low) ≡ four_bits high ++ four_bits low
unfolding bits_of_octet
bits_of_two high low less =
    let a = same_bit _ _ (high-8 high low less) in
    let b = same_bit _ _ (high-4 high low less) in
    let c = same_bit _ _ (high-2 high low less) in
    let d = same_bit _ _ (high-1 high low less) in
    let e = same_bit _ _ (low-8 high low) in
    let f = same_bit _ _ (low-4 high low) in
    let g = same_bit _ _ (low-2 high low) in
    let h = same_bit _ _ (low-1 high low) in
    cc

abbrev IsDigit : ℕ → Type 0
IsDigit value = value < 16

packed_bits : (values : List ℕ) → All (λ value. value < 16) values → bits_of (packed values) ≡ flat_map four_bits values ++ replicate (length values % 2 * 4) false
packed_bits [] each = refl
packed_bits (high ∷ []) each =
    append-nil (bits_of_octet (high * 16)) ∙ ap bits_of_octet (omega arith) ∙ bits_of_two high 0 (omega arith)
packed_bits (high ∷ low ∷ values) each =
    let behind = All-tail IsDigit high (low ∷ values) each in
    let even : length values % 2 * 4 ≡ length (high ∷ low ∷ values) % 2 * 4 = omega arith in
    ap (λ (bs : List Bool). bits_of_octet (high * 16 + low) ++ bs) (packed_bits values (All-tail IsDigit low values behind)) ∙ ap (λ (bs : List Bool). bs ++ (flat_map four_bits values ++ replicate (length values % 2 * 4) false)) (bits_of_two high low (All-head IsDigit low values behind))
    ∙ ap (λ (n : ℕ). (four_bits high ++ four_bits low) ++ (flat_map four_bits values ++ replicate n false)) even

packed_below : (values : List ℕ) → All (λ value. value < 16) values → All (λ octet. octet < 256) (packed values)
packed_below [] each = All-nil (λ (octet : ℕ). octet < 256)
packed_below (high ∷ []) each = let less = All-head IsDigit high [] each in All-cons (λ (octet : ℕ). octet < 256) (high * 16) [] (omega (arith, less)) (All-nil (λ (octet : ℕ). octet < 256))
packed_below (high ∷ low ∷ values) each =
    let behind = All-tail IsDigit high (low ∷ values) each in
    let first = All-head IsDigit high (low ∷ values) each in
    let second = All-head IsDigit low values behind in
    All-cons (λ (octet : ℕ). octet < 256) (high * 16 + low) (packed values) (omega (arith, first, second)) (packed_below values (All-tail IsDigit low values behind))

pub packed-padded : (values : List ℕ) → All (λ value. value < 16) values → IsPadded (flat_map four_bits values) (packed values) (length values % 2 * 4)
packed-padded values each = record { at_most_7 = omega arith; below_256 = packed_below values each; bits_are = packed_bits values each }

pub packed-digits : (values : List ℕ) → All (λ value. value < 16) values → length values % 2 ≡ 0 → flat_map two_digits (packed values) ≡ values
packed-digits [] each even = refl
packed-digits (high ∷ []) each even = absurd (omega (arith, even))
packed-digits (high ∷ low ∷ values) each even =
    let behind = All-tail IsDigit high (low ∷ values) each in
    let less = All-head IsDigit low values behind in
    let first : (high * 16 + low) / 16 ≡ high = omega (arith, less) in
    let second : (high * 16 + low) % 16 ≡ low = omega (arith, less) in
    let rest = packed-digits values (All-tail IsDigit low values behind) (omega (arith, even)) in
    cc

pub length-two_digits : (octets : List ℕ) → length (flat_map two_digits octets) ≡ 2 * length octets
length-two_digits [] = refl
length-two_digits (octet ∷ octets) = let rest = length-two_digits octets in omega (arith, rest)

-- the digits of a hexadecimal string, and the string of the digits
pub digits_in : (spelled digits values : List ℕ) → spelled ≡ digit_string digits 72 → IsHexString spelled values → AreHexDigits digits values
digits_in spelled digits values is h = record { each = h.each; spelt = same_digits digits (map hex_digit values) 72 (sym is ∙ h.spelt) }

pub string_of : (spelled digits values : List ℕ) → spelled ≡ digit_string digits 72 → AreHexDigits digits values → IsHexString spelled values
string_of spelled digits values is h = record { each = h.each; spelt = is ∙ ap (λ (ds : List ℕ). digit_string ds 72) h.spelt }

-- eight bits in each octet
pub unused_bits : (bits : List Bool) (octets : List ℕ) (unused given used : ℕ) → IsPadded bits octets unused → used ≡ length bits % 8 → (used < 8 → given ≡ (8 - used) % 8) → given ≡ unused
unused_bits bits octets unused given used h is told =
    let long = padded_length bits octets unused h in
    let few = h.at_most_7 in
    let less : used < 8 = omega (arith, is) in
    let e = told less in
    omega (arith, e, is, long, few)

abbrev pub AreBinary : List ℕ → List ℕ → Type 0
AreBinary digits octets = (bits : List Bool) × (digits ≡ map bit_digit bits) × ((unused : ℕ) × IsPadded bits octets unused)

binary_unused : (digits octets : List ℕ) (given : ℕ) (found : AreBinary digits octets) → (length digits % 8 < 8 → given ≡ (8 - length digits % 8) % 8) → given ≡ found.2.0
binary_unused digits octets given found told = unused_bits found.0 octets found.2.0 given (length digits % 8) found.2.1 (ap (λ (n : ℕ). n % 8) (ap length found.1 ∙ length-map found.0 bit_digit)) told

if_some : {X : Type 0} {P Q : X → Type 0} (o : Option X) → ((x : X) → P x → Q x) → IfSome o P → IfSome o Q
if_some None each h = tt
if_some (Some x) each h = each x h

-- the bits of a binary string
pub binary_made : (spelled digits octets : List ℕ) (given : ℕ) (made : Option (List Bool)) → spelled ≡ digit_string digits 66 → AreBinary digits octets → (length digits % 8 < 8 → given ≡ (8 - length digits % 8) % 8)
    → IfSome made (λ bits. IsFrontOf bits given octets) → IfSome made (λ bits. spelled ≡ binary_string bits)
binary_made spelled digits octets given made is found told front =
    if_some made (λ (bits : List Bool) (same : bits ≡ found.0). is ∙ ap (λ (ds : List ℕ). digit_string ds 66) (found.1 ∙ ap (map bit_digit) (sym same)))
    (made_of made found.0 octets found.2.0 given found.2.1 (binary_unused digits octets given found told) front)

pub binary_is_made : (digits octets : List ℕ) (given : ℕ) (made : Option (List Bool)) → AreBinary digits octets → (length digits % 8 < 8 → given ≡ (8 - length digits % 8) % 8) → IsSome made ↔ CanBeUnused given octets → IsNone made → ⊥
binary_is_made digits octets given made found told can none = is_made made found.0 octets found.2.0 given found.2.1 (binary_unused digits octets given found told) can none

abbrev pub AreHex : List ℕ → List ℕ → Type 0
AreHex digits octets = (values : List ℕ) × AreHexDigits digits values × (octets ≡ packed values)

hex_padded : (digits octets : List ℕ) (found : AreHex digits octets) → IsPadded (flat_map four_bits found.0) octets (length found.0 % 2 * 4)
hex_padded digits octets found = subst (λ (os : List ℕ). IsPadded (flat_map four_bits found.0) os (length found.0 % 2 * 4)) (sym found.2) (packed-padded found.0 found.1.each)

hex_unused : (digits octets : List ℕ) (given : ℕ) (found : AreHex digits octets) → (length digits % 2 * 4 < 8 → given ≡ (8 - length digits % 2 * 4) % 8) → given ≡ length found.0 % 2 * 4
hex_unused digits octets given found told =
    let long : length digits ≡ length found.0 = ap length found.1.spelt ∙ length-map found.0 hex_digit in
    let less : length digits % 2 * 4 < 8 = omega arith in
    let e = told less in
    omega (arith, e, long)

-- the bits of a hexadecimal string
pub hex_made : (spelled digits octets : List ℕ) (given : ℕ) (made : Option (List Bool)) → spelled ≡ digit_string digits 72 → AreHex digits octets → (length digits % 2 * 4 < 8 → given ≡ (8 - length digits % 2 * 4) % 8)
    → IfSome made (λ bits. IsFrontOf bits given octets) → IfSome made (λ bits. (values : List ℕ) × IsHexString spelled values × (bits ≡ flat_map four_bits values))
hex_made spelled digits octets given made is found told front =
    if_some made (λ (bits : List Bool) (same : bits ≡ flat_map four_bits found.0). (found.0, string_of spelled digits found.0 is found.1, same))
    (made_of made (flat_map four_bits found.0) octets (length found.0 % 2 * 4) given (hex_padded digits octets found) (hex_unused digits octets given found told) front)

pub hex_is_made : (digits octets : List ℕ) (given : ℕ) (made : Option (List Bool)) → AreHex digits octets → (length digits % 2 * 4 < 8 → given ≡ (8 - length digits % 2 * 4) % 8) → IsSome made ↔ CanBeUnused given octets → IsNone made → ⊥
hex_is_made digits octets given made found told can none =
    is_made made (flat_map four_bits found.0) octets (length found.0 % 2 * 4) given (hex_padded digits octets found) (hex_unused digits octets given found told) can none

-- the octets of one
pub hex_of_octets : (spelled digits octets : List ℕ) → spelled ≡ digit_string digits 72 → length digits % 2 ≡ 0 → AreHex digits octets → IsHexString spelled (flat_map two_digits octets)
hex_of_octets spelled digits octets is even found =
    let long : length digits ≡ length found.0 = ap length found.1.spelt ∙ length-map found.0 hex_digit in
    let same : found.0 ≡ flat_map two_digits octets = sym (packed-digits found.0 found.1.each (omega (arith, long, even))) ∙ ap (flat_map two_digits) (sym found.2) in
    subst (IsHexString spelled) same (string_of spelled digits found.0 is found.1)

pub odd_digits : (spelled digits octets : List ℕ) → spelled ≡ digit_string digits 72 → length digits % 2 ≡ 1 → IsHexString spelled (flat_map two_digits octets) → ⊥
odd_digits spelled digits octets is odd h =
    let found = digits_in spelled digits (flat_map two_digits octets) is h in
    let long : length digits ≡ 2 * length octets = ap length found.spelt ∙ length-map (flat_map two_digits octets) hex_digit ∙ length-two_digits octets in
    absurd (omega (arith, long, odd))

-- where a value that is found has more to it
pub found_so : {X E : Type 0} {P Q : X → Type 0} (result : Result (Option X) E) → ((x : X) → P x → Q x) → IfOk result (λ found. IfSome found P) → IfOk result (λ found. IfSome found Q)
found_so (Ok found) each h = if_some found each h
found_so (Err e) each h = tt

-- and where none is found
pub none_so : {X E : Type 0} {P Q : Type 0} (result : Result (Option X) E) → (P → Q) → IfOk result (λ found. IsNone found → P) → IfOk result (λ found. IsNone found → Q)
none_so (Ok found) more h = λ none. more (h none)
none_so (Err e) more h = tt
