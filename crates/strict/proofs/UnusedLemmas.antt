-- Lemmas on the unused bits of a BIT STRING, and on its values.
use Rattle.std.proofs.Common.{◌≡◌, ℕ, suc, ◌*◌, ◌-◌, ◌/◌, ◌%◌, ◌^◌, ◌<◌, ◌≤◌, Bool, false, List, [], ◌∷◌, ◌++◌, length, take, drop, replicate, get_or, All, refl, sym, ◌∙◌, ap, subst, arith, append_assoc, append-nil, length-append, length-drop}
use Rattle.std.proofs.lemmas.List.{take-append-drop, append_cancel_left}
use Rattle.std.proofs.lemmas.List.Elements.{All-replicate}
use Rattle.octets.specs.Rule.{ber, der}
use Rattle.octets.proofs.RuleLemmas.{der_is_canonical}
use Rattle.primitives.specs.Bits.{bits_of, bits_of_octet, IsBits}
use Rattle.primitives.proofs.BitsLemmas.{length-bits_of_octet, length-bits_of, bits_of-append, bits_of-injective, last_of, shifted_octet}
use Rattle.types.specs.Shape.{StringType, StringValue, Shape, Val}
use Rattle.types.specs.Conforms.{Conforms}
use Rattle.types.proofs.CerLemmas.{same_fronts}
use Rattle.encoding_parts.specs.Contents.{HoldsContents}
use Rattle.strict.specs.Leaf.{IsBitString, bits_view, IsBitsOf}

-- bits that end with so many zeros
abbrev pub EndsWithZeros : ℕ → ℕ → Type 0
EndsWithZeros octet count = bits_of_octet octet ≡ take (8 - count) (bits_of_octet octet) ++ replicate count false

one_octet : (x : ℕ) → bits_of (x ∷ []) ≡ bits_of_octet x
one_octet x = append-nil (bits_of_octet x)

All-one : (x : ℕ) → x < 256 → All (λ o. o < 256) (x ∷ [])
All-one x below = grind arith

-- an octet that is the same once it was shifted there and back
pub same_shifted : (x count : ℕ) → x < 256 → count ≤ 7 → x / 2 ^ count * 2 ^ count % 256 ≡ x → EndsWithZeros x count
same_shifted x count below low same = ap bits_of_octet (sym same) ∙ shifted_octet x count below low

pub shifted_same : (x count : ℕ) → x < 256 → count ≤ 7 → EndsWithZeros x count → x / 2 ^ count * 2 ^ count % 256 ≡ x
shifted_same x count below low zeros =
    let y = x / 2 ^ count * 2 ^ count % 256 in
    let bits : bits_of_octet y ≡ bits_of_octet x = shifted_octet x count below low ∙ sym zeros in
    let same : y ∷ [] ≡ x ∷ [] = bits_of-injective (y ∷ []) (x ∷ []) (All-one y (omega arith)) (All-one x below) (one_octet y ∙ (bits ∙ sym (one_octet x))) in
    cc same

-- the last bits of the last octet are the tail
tail_of : (bits tail : List Bool) (count : ℕ) (front : List ℕ) (x : ℕ) → count ≤ 7 → length tail ≡ count → bits_of (front ++ (x ∷ [])) ≡ bits ++ tail → drop (8 - count) (bits_of_octet x) ≡ tail
tail_of bits tail count front x low size same =
    let b = bits_of_octet x in
    let n = 8 - count in
    let eight = length-bits_of_octet x in
    let whole : (bits_of front ++ take n b) ++ drop n b ≡ bits ++ tail =
    append_assoc (bits_of front) (take n b) (drop n b) ∙ (ap (λ t. bits_of front ++ t) (take-append-drop n b) ∙ (ap (λ t. bits_of front ++ t) (sym (one_octet x)) ∙ (sym (bits_of-append front (x ∷ [])) ∙ same))) in
    let long = ap length whole in
    let fronts : length (bits_of front ++ take n b) ≡ length bits = omega (arith, long, length-append (bits_of front ++ take n b) (drop n b), length-append bits tail, length-drop n b, eight, size, low) in
    (same_fronts (bits_of front ++ take n b) bits (drop n b) tail fronts whole).1

clear_tail : (tail : List Bool) → All (λ bit. bit ≡ false) tail → tail ≡ replicate (length tail) false
clear_tail [] h = refl
clear_tail (bit ∷ tail) h =
    let first : bit ≡ false = h 0 false (omega arith) in
    let rest : tail ≡ replicate (length tail) false = clear_tail tail (λ k d below. h (suc k) d (omega arith)) in
    ap (λ b. b ∷ tail) first ∙ ap (λ t. false ∷ t) rest

zeros_of_tail : (bits tail : List Bool) (count : ℕ) (front : List ℕ) (x : ℕ) → count ≤ 7 → length tail ≡ count → bits_of (front ++ (x ∷ [])) ≡ bits ++ tail → All (λ bit. bit ≡ false) tail → EndsWithZeros x count
zeros_of_tail bits tail count front x low size same clear =
    let n = 8 - count in
    let end : drop n (bits_of_octet x) ≡ replicate count false = tail_of bits tail count front x low size same ∙ (clear_tail tail clear ∙ ap (λ m. replicate m false) size) in
    sym (take-append-drop n (bits_of_octet x)) ∙ ap (λ t. take n (bits_of_octet x) ++ t) end

tail_of_zeros : (bits tail : List Bool) (count : ℕ) (front : List ℕ) (x : ℕ) → count ≤ 7 → length tail ≡ count → bits_of (front ++ (x ∷ [])) ≡ bits ++ tail → EndsWithZeros x count → All (λ bit. bit ≡ false) tail
tail_of_zeros bits tail count front x low size same zeros =
    let n = 8 - count in
    let end : drop n (bits_of_octet x) ≡ replicate count false = append_cancel_left (take n (bits_of_octet x)) (drop n (bits_of_octet x)) (replicate count false) (take-append-drop n (bits_of_octet x) ∙ zeros) in
    let is : replicate count false ≡ tail = sym end ∙ tail_of bits tail count front x low size same in
    subst (All (λ bit. bit ≡ false)) is (All-replicate (λ bit. bit ≡ false) count false refl)

-- contents octets by their first octet and their last one
record HasLast (contents octets : List ℕ) (unused : ℕ) : Type 0 where
  pub front : List ℕ
  pub first : get_or contents 0 0 ≡ unused
  pub split : octets ≡ front ++ (get_or contents (length contents - 1) 0 ∷ [])

has_last : (contents octets : List ℕ) (unused : ℕ) → contents ≡ unused ∷ octets → 2 ≤ length contents → HasLast contents octets unused
has_last contents [] unused is two = absurd (omega (arith, ap length is))
has_last contents (o ∷ octets) unused is two =
    let count : length (o ∷ octets) - 1 ≡ length octets = omega arith in
    let parts : o ∷ octets ≡ take (length octets) (o ∷ octets) ++ (get_or (o ∷ octets) (length octets) 0 ∷ []) =
    last_of (o ∷ octets) (omega arith) ∙ ap (λ n. take n (o ∷ octets) ++ (get_or (o ∷ octets) n 0 ∷ [])) count in
    let at : length contents - 1 ≡ suc (length octets) = omega (arith, ap length is) in
    let last : get_or contents (length contents - 1) 0 ≡ get_or (o ∷ octets) (length octets) 0 = ap (λ n. get_or contents n 0) at ∙ ap (λ c. get_or c (suc (length octets)) 0) is in
    record {
      front = take (length octets) (o ∷ octets);
      first = ap (λ c. get_or c 0 0) is;
      split = parts ∙ ap (λ x. take (length octets) (o ∷ octets) ++ (x ∷ [])) (sym last);
    }

pub unused_low : (bits : List Bool) (contents : List ℕ) → IsBits ber bits contents → get_or contents 0 0 ≤ 7
unused_low bits contents h = omega (arith, h.at_most_7, ap (λ c. get_or c 0 0) h.contents_are)

-- the unused bits are 0 exactly if the last octet ends with as many
pub unused_zeros : (bits : List Bool) (contents : List ℕ) → 2 ≤ length contents → IsBits ber bits contents
    → (EndsWithZeros (get_or contents (length contents - 1) 0) (get_or contents 0 0) → IsBits der bits contents) × (IsBits der bits contents → EndsWithZeros (get_or contents (length contents - 1) 0) (get_or contents 0 0))
unused_zeros bits contents two h = (
  λ zeros.
      let l = has_last contents h.octets h.unused h.contents_are two in
      let x = get_or contents (length contents - 1) 0 in
      record {
        unused = h.unused;
        octets = h.octets;
        tail = h.tail;
        contents_are = h.contents_are;
        at_most_7 = h.at_most_7;
        below_256 = h.below_256;
        bits_are = h.bits_are;
        tail_is = h.tail_is;
        free = tail_of_zeros bits h.tail h.unused l.front x h.at_most_7 h.tail_is (ap bits_of (sym l.split) ∙ h.bits_are) (subst (EndsWithZeros x) l.first zeros);
      },
  λ k.
      let l = has_last contents k.octets k.unused k.contents_are two in
      let x = get_or contents (length contents - 1) 0 in
      subst (EndsWithZeros x) (sym l.first) (zeros_of_tail bits k.tail k.unused l.front x k.at_most_7 k.tail_is (ap bits_of (sym l.split) ∙ k.bits_are) k.free),
)

-- no unused bit where there is no octet
pub none_unused : (bits : List Bool) (contents : List ℕ) → length contents ≤ 1 → IsBits ber bits contents → IsBits der bits contents
none_unused bits contents few h =
    let octets : length h.octets ≡ 0 = omega (arith, ap length h.contents_are) in
    let none : length h.tail ≡ 0 = omega (arith, octets, ap length h.bits_are, length-append bits h.tail, length-bits_of h.octets) in
    record {
      unused = h.unused;
      octets = h.octets;
      tail = h.tail;
      contents_are = h.contents_are;
      at_most_7 = h.at_most_7;
      below_256 = h.below_256;
      bits_are = h.bits_are;
      tail_is = h.tail_is;
      free = λ k d below. absurd (omega (arith, none));
    }

-- the contents octets of a value of a BIT STRING
pub bits_held : (type : Shape) (v : Val) (contents : List ℕ) → IsBitString type → HoldsContents der type v contents → IsBitsOf v contents
bits_held (Shape.string tag StringType.bit_string) v contents of h = record { bits = h.spelt.bits; is = h.is ∙ ap Val.string h.spelt.is; spelt = h.spelt.spelt }
bits_held (Shape.string tag (StringType.named_bits names)) v contents of h =
    let k = h.spelt in
    let same : k.bits ++ replicate k.zeros false ≡ k.bits = ap (λ n. k.bits ++ replicate n false) (k.canonical der_is_canonical) ∙ append-nil k.bits in
    record { bits = k.bits; is = h.is ∙ ap Val.string k.is; spelt = subst (λ b. IsBits der b contents) same k.spelt }
bits_held type v contents of h = absurd of

pub holds_bits : (type : Shape) (bits : List Bool) (contents : List ℕ) → IsBitString type → Conforms type (bits_view bits) → IsBits der bits contents → HoldsContents der type (bits_view bits) contents
holds_bits (Shape.string tag StringType.bit_string) bits contents of conforms h = record { value = StringValue.bits bits; is = refl; spelt = record { bits = bits; is = refl; spelt = h } }
holds_bits (Shape.string tag (StringType.named_bits names)) bits contents of conforms h =
    record { value = StringValue.bits bits; is = refl; spelt = record { bits = bits; is = refl; trimmed = conforms; zeros = 0; canonical = λ canonical. refl; spelt = subst (λ b. IsBits der b contents) (sym (append-nil bits)) h } }
holds_bits type bits contents of conforms h = absurd of
