-- Binary digits, eight in an octet.
use Rattle.std.proofs.Common.{◌≡◌, ◌+◌, ◌-◌, ◌*◌, ◌/◌, ◌%◌, ◌<◌, ◌≤◌, ◌⊎◌, inl, inr, ℕ, Bool, true, false, List, [], ◌∷◌, ◌++◌, length, min, map, take, replicate, nat_eq, if◌then◌else◌, refl, sym, ap, ◌∙◌, arith}
use Rattle.std.proofs.lemmas.Bool.{cases_lt}
use Rattle.std.proofs.lemmas.List.Elements.{All-nil, All-same, All-push}
use Rattle.std.proofs.lemmas.List.{append-nil, append_assoc, length-append, length-map, map-append, take-replicate}
use Rattle.std.proofs.Math.Seq.{take-append-add}
use Rattle.primitives.specs.Bits.{bit_of, bits_of_octet, bits_of, IsPadded}
use Rattle.primitives.proofs.BitsLemmas.{bits_of-append}
use Rattle.builtin_types.specs.Defaults.{bit_digit}
use Rattle.builtin_types.proofs.SpellingLemmas.{heads}
use Rattle.builtin_types.proofs.PackedLemmas.{split_map}

-- the digits behind the rest have been read from their end
pub record AreBitsSoFar (digits rest : List ℕ) (octet : ℕ) : Type 0 where
  pub bits : List Bool
  pub spelt : digits ≡ rest ++ map bit_digit bits
  pub octet_has : length digits ≤ 8 → bits_of_octet octet ≡ bits ++ replicate (8 - length bits) false

-- each bit of an octet moves one place down
half-64 : (o v : ℕ) → (o / 2 + v * 128) / 64 % 2 ≡ o / 128 % 2
half-64 o v = omega arith

half-32 : (o v : ℕ) → (o / 2 + v * 128) / 32 % 2 ≡ o / 64 % 2
half-32 o v = omega arith

half-16 : (o v : ℕ) → (o / 2 + v * 128) / 16 % 2 ≡ o / 32 % 2
half-16 o v = omega arith

half-8 : (o v : ℕ) → (o / 2 + v * 128) / 8 % 2 ≡ o / 16 % 2
half-8 o v = omega arith

half-4 : (o v : ℕ) → (o / 2 + v * 128) / 4 % 2 ≡ o / 8 % 2
half-4 o v = omega arith

half-2 : (o v : ℕ) → (o / 2 + v * 128) / 2 % 2 ≡ o / 4 % 2
half-2 o v = omega arith

half-1 : (o v : ℕ) → (o / 2 + v * 128) / 1 % 2 ≡ o / 2 % 2
half-1 o v = omega arith

half-128 : (o v : ℕ) → o < 256 → v ≤ 1 → (o / 2 + v * 128) / 128 % 2 ≡ v
half-128 o v below bit = omega (arith, below, bit)

first_bit : (o v : ℕ) (bit : Bool) → o < 256 → v ≡ (if bit then 1 else 0) → bit_of (o / 2 + v * 128) 128 ≡ bit
first_bit o v true below is = ap (λ n. nat_eq n 1) (half-128 o v below (omega (arith, is)) ∙ is)
first_bit o v false below is = ap (λ n. nat_eq n 1) (half-128 o v below (omega (arith, is)) ∙ is)

same_bit : (m n : ℕ) → m ≡ n → nat_eq m 1 ≡ nat_eq n 1
same_bit m n e = ap (λ k. nat_eq k 1) e

pub bit_put_first : (o v : ℕ) (bit : Bool) → o < 256 → v ≡ (if bit then 1 else 0) → bits_of_octet (o / 2 + v * 128) ≡ bit ∷ take 7 (bits_of_octet o)
unfolding bits_of_octet
bit_put_first o v bit below is =
    let a = first_bit o v bit below is in
    let b = same_bit _ _ (half-64 o v) in
    let c = same_bit _ _ (half-32 o v) in
    let d = same_bit _ _ (half-16 o v) in
    let e = same_bit _ _ (half-8 o v) in
    let f = same_bit _ _ (half-4 o v) in
    let g = same_bit _ _ (half-2 o v) in
    let h = same_bit _ _ (half-1 o v) in
    cc

pub bits_and_zeros : (bits : List Bool) (n : ℕ) → length bits + n ≡ 7 → take 7 (bits ++ replicate (8 - length bits) false) ≡ bits ++ replicate (7 - length bits) false
bits_and_zeros bits n is =
    let less : 7 - length bits ≡ n = omega (arith, is) in
    ap (λ k. take k (bits ++ replicate (8 - length bits) false)) (sym is) ∙ take-append-add bits (replicate (8 - length bits) false) n
    ∙ ap (λ zeros. bits ++ zeros) (take-replicate n (8 - length bits) false (omega (arith, is)) ∙ ap (λ k. replicate k false) (sym less))

pub none_of_bits : (digits : List ℕ) → AreBitsSoFar digits digits 0
unfolding bits_of_octet
none_of_bits digits = record { bits = []; spelt = sym (append-nil digits); octet_has = λ few. refl }

-- one more
pub bit_more : (digits rest after : List ℕ) (digit octet value : ℕ) → octet < 256 → rest ≡ after ++ digit ∷ [] → (bit : Bool) × (bit_digit bit ≡ digit) × (value ≡ (if bit then 1 else 0)) → AreBitsSoFar digits rest octet → AreBitsSoFar digits after (octet / 2 + value * 128)
bit_more digits rest after digit octet value below parts found h =
    let long : length digits ≡ length after + 1 + length h.bits =
    ap length h.spelt ∙ length-append rest (map bit_digit h.bits) ∙ omega (arith, ap length parts, length-append after (digit ∷ []), length-map h.bits bit_digit) in
    record {
      bits = found.0 ∷ h.bits;
      spelt = h.spelt ∙ ap (λ (xs : List ℕ). xs ++ map bit_digit h.bits) (parts ∙ ap (λ (d : ℕ). after ++ d ∷ []) (sym found.1)) ∙ append_assoc after (bit_digit found.0 ∷ []) (map bit_digit h.bits);
      octet_has = λ few.
          let less : 7 - length h.bits ≡ 8 - length (found.0 ∷ h.bits) = omega arith in
          bit_put_first octet value found.0 below found.2 ∙ ap (λ (bs : List Bool). found.0 ∷ take 7 bs) (h.octet_has few)
          ∙ ap (λ (bs : List Bool). found.0 ∷ bs) (bits_and_zeros h.bits (7 - length h.bits) (omega (arith, long, few)) ∙ ap (λ k. h.bits ++ replicate k false) less);
    }

no_one_bit : (bits : List Bool) (digit : ℕ) → digit ∷ [] ≡ map bit_digit bits → ((bit : Bool) → bit_digit bit ≡ digit → ⊥) → ⊥
no_one_bit [] digit e never = cc
no_one_bit (bit ∷ bits) digit e never = never bit (heads (bit_digit bit) digit (map bit_digit bits) [] (sym e))

pub not_a_bit : (digits rest after : List ℕ) (digit octet : ℕ) → rest ≡ after ++ digit ∷ [] → ((bit : Bool) → bit_digit bit ≡ digit → ⊥) → AreBitsSoFar digits rest octet → (bits : List Bool) → digits ≡ map bit_digit bits → ⊥
not_a_bit digits rest after digit octet parts never h bits is =
    let first = split_map bit_digit bits rest (map bit_digit h.bits) (sym is ∙ h.spelt) in
    let second = split_map bit_digit first.0 after (digit ∷ []) (sym first.3 ∙ parts) in
    no_one_bit second.1 digit second.4 never

-- the digits have been read as far as the rest, eight at a time while there are any
pub record AreOctetsSoFar (digits rest octets : List ℕ) : Type 0 where
  pub bits : List Bool
  pub unused : ℕ
  pub spelt : digits ≡ map bit_digit bits ++ rest
  pub padded : IsPadded bits octets unused
  pub whole : (length rest ≡ 0) ⊎ (unused ≡ 0)

pub no_octets : (digits : List ℕ) → AreOctetsSoFar digits digits []
no_octets digits =
    record { bits = []; unused = 0; spelt = refl; padded = record { at_most_7 = omega arith; below_256 = All-nil (λ (octet : ℕ). octet < 256); bits_are = refl }; whole = inr refl }

pub octet_more : (digits rest octets chunk after pushed : List ℕ) (octet : ℕ) → octet < 256 → AreOctetsSoFar digits rest octets → rest ≡ chunk ++ after → length chunk ≡ min 8 (length rest) → 0 < length rest
    → (bits : List Bool) × (chunk ≡ map bit_digit bits) × (bits_of_octet octet ≡ bits ++ replicate (8 - length bits) false) → pushed ≡ octets ++ octet ∷ [] → AreOctetsSoFar digits after pushed
octet_more digits rest octets chunk after pushed octet below h parts long some found more =
    let full : h.unused ≡ 0 = elim h.whole [ inl none ↦ absurd (omega (arith, none, some)) | inr full ↦ full ] in
    let as_long : length chunk ≡ length found.0 = ap length found.1 ∙ length-map found.0 bit_digit in
    let both : length rest ≡ length chunk + length after = ap length parts ∙ length-append chunk after in
    let before : bits_of octets ≡ h.bits = h.padded.bits_are ∙ ap (λ (k : ℕ). h.bits ++ replicate k false) full ∙ append-nil h.bits in
    record {
      bits = h.bits ++ found.0;
      unused = 8 - length found.0;
      spelt = h.spelt ∙ ap (λ (xs : List ℕ). map bit_digit h.bits ++ xs) (parts ∙ ap (λ (xs : List ℕ). xs ++ after) found.1)
          ∙ sym (append_assoc (map bit_digit h.bits) (map bit_digit found.0) after) ∙ ap (λ (xs : List ℕ). xs ++ after) (sym (map-append bit_digit h.bits found.0));
      padded = record {
        at_most_7 = omega (arith, as_long, long, some);
        below_256 = All-same (λ (o : ℕ). o < 256) pushed (octets ++ octet ∷ []) more (All-push (λ (o : ℕ). o < 256) octets octet h.padded.below_256 below);
        bits_are = ap bits_of more ∙ bits_of-append octets (octet ∷ []) ∙ ap (λ (bs : List Bool). bs ++ (bits_of_octet octet ++ [])) before
            ∙ ap (λ (bs : List Bool). h.bits ++ bs) (append-nil (bits_of_octet octet) ∙ found.2) ∙ sym (append_assoc h.bits found.0 (replicate (8 - length found.0) false));
      };
      whole = elim (cases_lt (length rest) 8) [ inl short ↦ inl (omega (arith, long, both, short)) | inr eight ↦ inr (omega (arith, long, as_long, eight)) ];
    }

pub not_octets : (digits rest octets chunk after : List ℕ) → AreOctetsSoFar digits rest octets → rest ≡ chunk ++ after → ((bits : List Bool) → chunk ≡ map bit_digit bits → ⊥) → (bits : List Bool) → digits ≡ map bit_digit bits → ⊥
not_octets digits rest octets chunk after h parts never bits all =
    let first = split_map bit_digit bits (map bit_digit h.bits) rest (sym all ∙ h.spelt) in
    let second = split_map bit_digit first.1 chunk after (sym first.4 ∙ parts) in
    never second.0 second.3

pub all_octets : (digits rest octets : List ℕ) → length rest ≡ 0 → AreOctetsSoFar digits rest octets → (bits : List Bool) × (digits ≡ map bit_digit bits) × ((unused : ℕ) × IsPadded bits octets unused)
all_octets digits [] octets none h = (h.bits, h.spelt ∙ append-nil (map bit_digit h.bits), (h.unused, h.padded))
all_octets digits (x ∷ rest) octets none h = absurd (omega (arith, none))
