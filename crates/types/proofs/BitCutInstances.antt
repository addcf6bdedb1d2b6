-- BIT STRING values that CER cuts into segments of 1000 contents octets, and cuts that it does not take (X.690 9.2).
use Rattle.std.proofs.Common.{◌≡◌, ℕ, ◌<◌, List, [], ◌∷◌, ◌++◌, inl, inr, length, refl, sym, ap, arith, Bool, true, false, All, get_or, drop, replicate, length-append}
use Rattle.std.proofs.lemmas.List.{append-nil, append_cancel_left, append_cancel_right}
use Rattle.std.proofs.lemmas.List.Elements.{All-nil, All-replicate}
use Rattle.octets.specs.declared.tag.Class.TheVariants.{Universal}
use Rattle.octets.specs.Rule.{cer}
use Rattle.octets.proofs.RuleLemmas.{cer_is_canonical}
use Rattle.primitives.specs.Bits.{bits_of_octet, bits_of, IsBits}
use Rattle.primitives.proofs.BitsLemmas.{length-bits_of}
use Rattle.types.specs.Shape.{StringType}
use Rattle.types.specs.Strings.{AreCerSegments, bit_segment, IsWholeOctets}
use Rattle.types.specs.Encoding.{IsEncoding}
use Rattle.types.proofs.CerLemmas.{bits_count}
use Rattle.types.proofs.OneEncodingLemmas.{one_canonical}
use Rattle.types.proofs.FormInstances.{not_same, universal, definite, indefinite, one_octet}
use Rattle.types.proofs.BitSegmentInstances.{usable_bit}
use Rattle.types.proofs.StringInstances.{well_formed_string}
use Rattle.types.proofs.BitStringInstances.{bit_string, bits_in}
use Rattle.types.proofs.OctetCutInstances.{full, indefinite_around}

-- segments of a BIT STRING: of 999 octets, and of one
abbrev bits_999 : List ℕ → List ℕ
bits_999 data_octets = 0x03 ∷ 0x82 ∷ 0x03 ∷ 0xE8 ∷ 0x00 ∷ data_octets

whole_bits : (d : List ℕ) → All (λ o. o < 256) d → IsBits cer (bits_of d) (0x00 ∷ d)
whole_bits d below = record { unused = 0; octets = d; tail = []; contents_are = refl; at_most_7 = omega arith; below_256 = below; bits_are = sym (append-nil (bits_of d)); tail_is = refl; free = All-nil (λ bit. bit ≡ false) }

-- the bit 1 alone
one_bit : IsBits cer (true ∷ []) (0x07 ∷ 0x80 ∷ [])
unfolding bits_of_octet
one_bit = record {
  unused = 7;
  octets = 0x80 ∷ [];
  tail = replicate 7 false;
  contents_are = refl;
  at_most_7 = omega arith;
  below_256 = one_octet 0x80 (omega arith);
  bits_are = refl;
  tail_is = refl;
  free = All-replicate (λ bit. bit ≡ false) 7 false refl;
}

-- 7,992 bits are one primitive encoding
primitive_7992 : (d : List ℕ) → length d ≡ 999 → All (λ o. o < 256) d → IsEncoding cer bit_string (bits_in (bits_of d)) (bits_999 d)
primitive_7992 d size below = record {
  bits = bits_of d;
  is = refl;
  string = inl record { contents = 0x00 ∷ d; holds = whole_bits d below; short = omega (arith, size); primitive = full Universal 3 (0x00 ∷ d) (omega arith) (omega (arith, size)) };
}

-- more bits are 23 80, 999 octets of them, and the rest, whose last segment alone has unused bits
bits_after : (d : List ℕ) (bits : List Bool) (segments : List ℕ) → length d ≡ 999 → All (λ o. o < 256) d → AreCerSegments bit_segment (IsBits cer) IsWholeOctets bits segments
    → AreCerSegments bit_segment (IsBits cer) IsWholeOctets (bits_of d ++ bits) (bits_999 d ++ segments)
bits_after d bits segments size below others =
    AreCerSegments.more (bits_of d) (0x00 ∷ d) (bits_999 d) (whole_bits d below) (999, omega (arith, length-bits_of d, size)) (omega (arith, size)) (full Universal 3 (0x00 ∷ d) (omega arith) (omega (arith, size))) others

cut_bits : (d : List ℕ) (bits : List Bool) (segments : List ℕ) → length d ≡ 999 → All (λ o. o < 256) d → 0 < length bits → AreCerSegments bit_segment (IsBits cer) IsWholeOctets bits segments
    → IsEncoding cer bit_string (bits_in (bits_of d ++ bits)) (0x23 ∷ indefinite_around (bits_999 d ++ segments))
cut_bits d bits segments size below some others = record {
  bits = bits_of d ++ bits;
  is = refl;
  string = inr record {
    long = λ contents h. omega (arith, bits_count cer (bits_of d ++ bits) contents h, length-append (bits_of d) bits, length-bits_of d, size, some);
    segments_octets = bits_999 d ++ segments;
    segments = bits_after d bits segments size below others;
    constructed = indefinite Universal 3 (bits_999 d ++ segments) (omega arith);
  };
}

cut_7993 : (d : List ℕ) → length d ≡ 999 → All (λ o. o < 256) d → IsEncoding cer bit_string (bits_in (bits_of d ++ (true ∷ []))) (0x23 ∷ indefinite_around (bits_999 d ++ (0x03 ∷ 0x02 ∷ 0x07 ∷ 0x80 ∷ [])))
cut_7993 d size below =
    cut_bits d (true ∷ []) (0x03 ∷ 0x02 ∷ 0x07 ∷ 0x80 ∷ []) size below (omega arith)
    (AreCerSegments.last (true ∷ []) (0x07 ∷ 0x80 ∷ []) (0x03 ∷ 0x02 ∷ 0x07 ∷ 0x80 ∷ []) one_bit (λ none. cc) (omega arith) (definite cer Universal 3 false (0x07 ∷ 0x80 ∷ []) (omega arith) (omega arith)))

some_bits : (d : List ℕ) → 0 < length d → bits_of d ≡ [] → ⊥
some_bits d some none = omega (arith, ap length none, length-bits_of d)

cut_8000 : (d : List ℕ) (e : ℕ) → length d ≡ 999 → All (λ o. o < 256) d → e < 256 → IsEncoding cer bit_string (bits_in (bits_of d ++ bits_of (e ∷ []))) (0x23 ∷ indefinite_around (bits_999 d ++ (0x03 ∷ 0x02 ∷ 0x00 ∷ e ∷ [])))
cut_8000 d e size below low =
    cut_bits d (bits_of (e ∷ [])) (0x03 ∷ 0x02 ∷ 0x00 ∷ e ∷ []) size below (omega (arith, length-bits_of (e ∷ [])))
    (AreCerSegments.last (bits_of (e ∷ [])) (0x00 ∷ e ∷ []) (0x03 ∷ 0x02 ∷ 0x00 ∷ e ∷ []) (whole_bits (e ∷ []) (one_octet e low)) (some_bits (e ∷ []) (omega arith)) (omega arith) (definite cer Universal 3 false (0x00 ∷ e ∷ []) (omega arith) (omega arith)))

cut_15984 : (d f : List ℕ) → length d ≡ 999 → length f ≡ 999 → All (λ o. o < 256) d → All (λ o. o < 256) f → IsEncoding cer bit_string (bits_in (bits_of d ++ bits_of f)) (0x23 ∷ indefinite_around (bits_999 d ++ bits_999 f))
cut_15984 d f size other below low =
    cut_bits d (bits_of f) (bits_999 f) size below (omega (arith, length-bits_of f, other))
    (AreCerSegments.last (bits_of f) (0x00 ∷ f) (bits_999 f) (whole_bits f low) (some_bits f (omega (arith, other))) (omega (arith, other)) (full Universal 3 (0x00 ∷ f) (omega arith) (omega (arith, other))))

-- and so not in other octets
bits_once : (bits : List Bool) (a b : List ℕ) → IsEncoding cer bit_string (bits_in bits) a → IsEncoding cer bit_string (bits_in bits) b → a ≡ b
bits_once bits a b h k = one_canonical cer bit_string (bits_in bits) a b (well_formed_string (universal 3) StringType.bit_string usable_bit (omega arith) tt tt) cer_is_canonical h k

-- 7,992 bits are not cut
cut_7992 : (d : List ℕ) → length d ≡ 999 → All (λ o. o < 256) d → IsEncoding cer bit_string (bits_in (bits_of d)) (0x23 ∷ indefinite_around (bits_999 d)) → ⊥
cut_7992 d size below h =
    let same = bits_once (bits_of d) (0x23 ∷ indefinite_around (bits_999 d)) (bits_999 d) h (primitive_7992 d size below) in
    not_same 0x03 0x23 (omega arith) (ap (λ l. get_or l 0 0) (sym same))

module _ (d : List ℕ) (size : length d ≡ 999) (below : All (λ o. o < 256) d) where
  -- 7,993 bits are not primitive, nor with the count of unused bits in the first segment, nor with unused bits set
  only_7993 : (octets : List ℕ) → IsEncoding cer bit_string (bits_in (bits_of d ++ (true ∷ []))) octets → octets ≡ 0x23 ∷ indefinite_around (bits_999 d ++ (0x03 ∷ 0x02 ∷ 0x07 ∷ 0x80 ∷ []))
  only_7993 octets h = bits_once (bits_of d ++ (true ∷ [])) octets (0x23 ∷ indefinite_around (bits_999 d ++ (0x03 ∷ 0x02 ∷ 0x07 ∷ 0x80 ∷ []))) h (cut_7993 d size below)

  primitive_7993 : (rest : List ℕ) → IsEncoding cer bit_string (bits_in (bits_of d ++ (true ∷ []))) (0x03 ∷ rest) → ⊥
  primitive_7993 rest h = not_same 0x03 0x23 (omega arith) (ap (λ l. get_or l 0 0) (only_7993 (0x03 ∷ rest) h))

  count_first_7993 : (rest : List ℕ) → IsEncoding cer bit_string (bits_in (bits_of d ++ (true ∷ []))) (0x23 ∷ 0x80 ∷ 0x03 ∷ 0x82 ∷ 0x03 ∷ 0xE8 ∷ 0x07 ∷ rest) → ⊥
  count_first_7993 rest h = not_same 0x00 0x07 (omega arith) (ap (λ l. get_or l 6 0) (sym (only_7993 (0x23 ∷ 0x80 ∷ 0x03 ∷ 0x82 ∷ 0x03 ∷ 0xE8 ∷ 0x07 ∷ rest) h)))

  unused_set_7993 : IsEncoding cer bit_string (bits_in (bits_of d ++ (true ∷ []))) (0x23 ∷ indefinite_around (bits_999 d ++ (0x03 ∷ 0x02 ∷ 0x07 ∷ 0xFF ∷ []))) → ⊥
  unused_set_7993 h =
      let same = only_7993 (0x23 ∷ indefinite_around (bits_999 d ++ (0x03 ∷ 0x02 ∷ 0x07 ∷ 0xFF ∷ []))) h in
      let segments : d ++ (0x03 ∷ 0x02 ∷ 0x07 ∷ 0xFF ∷ []) ≡ d ++ (0x03 ∷ 0x02 ∷ 0x07 ∷ 0x80 ∷ []) = append_cancel_right (d ++ (0x03 ∷ 0x02 ∷ 0x07 ∷ 0xFF ∷ [])) (d ++ (0x03 ∷ 0x02 ∷ 0x07 ∷ 0x80 ∷ [])) (0x00 ∷ 0x00 ∷ []) (ap (λ l. drop 7 l) same) in
      let last = append_cancel_left d (0x03 ∷ 0x02 ∷ 0x07 ∷ 0xFF ∷ []) (0x03 ∷ 0x02 ∷ 0x07 ∷ 0x80 ∷ []) segments in
      not_same 0x80 0xFF (omega arith) (ap (λ l. get_or l 3 0) (sym last))

  -- 8,000 bits are not primitive, nor in a segment of 1000 octets of them
  module _ (e : ℕ) (low : e < 256) where
    only_8000 : (octets : List ℕ) → IsEncoding cer bit_string (bits_in (bits_of d ++ bits_of (e ∷ []))) octets → octets ≡ 0x23 ∷ indefinite_around (bits_999 d ++ (0x03 ∷ 0x02 ∷ 0x00 ∷ e ∷ []))
    only_8000 octets h = bits_once (bits_of d ++ bits_of (e ∷ [])) octets (0x23 ∷ indefinite_around (bits_999 d ++ (0x03 ∷ 0x02 ∷ 0x00 ∷ e ∷ []))) h (cut_8000 d e size below low)

    primitive_8000 : (rest : List ℕ) → IsEncoding cer bit_string (bits_in (bits_of d ++ bits_of (e ∷ []))) (0x03 ∷ rest) → ⊥
    primitive_8000 rest h = not_same 0x03 0x23 (omega arith) (ap (λ l. get_or l 0 0) (only_8000 (0x03 ∷ rest) h))

    uncut_8000 : IsEncoding cer bit_string (bits_in (bits_of d ++ bits_of (e ∷ []))) (0x23 ∷ indefinite_around (0x03 ∷ 0x82 ∷ 0x03 ∷ 0xE9 ∷ 0x00 ∷ (d ++ (e ∷ [])))) → ⊥
    uncut_8000 h = not_same 0xE8 0xE9 (omega arith) (ap (λ l. get_or l 5 0) (sym (only_8000 (0x23 ∷ indefinite_around (0x03 ∷ 0x82 ∷ 0x03 ∷ 0xE9 ∷ 0x00 ∷ (d ++ (e ∷ [])))) h)))

-- no empty segment follows two of 999 octets
empty_after_15984 : (d f : List ℕ) → length d ≡ 999 → length f ≡ 999 → All (λ o. o < 256) d → All (λ o. o < 256) f
    → IsEncoding cer bit_string (bits_in (bits_of d ++ bits_of f)) (0x23 ∷ indefinite_around (bits_999 d ++ (bits_999 f ++ (0x03 ∷ 0x01 ∷ 0x00 ∷ [])))) → ⊥
empty_after_15984 d f size other below low h =
    let same = bits_once (bits_of d ++ bits_of f) (0x23 ∷ indefinite_around (bits_999 d ++ (bits_999 f ++ (0x03 ∷ 0x01 ∷ 0x00 ∷ [])))) (0x23 ∷ indefinite_around (bits_999 d ++ bits_999 f)) h (cut_15984 d f size other below low) in
    let longer = ap length same in
    absurd (omega (arith, simp length-append at longer))
