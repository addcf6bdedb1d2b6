-- Encodings of a short BIT STRING under each rule, and octets that are none (X.690 8.6 and 11.2).
use Rattle.std.proofs.Common.{◌≡◌, ℕ, List, [], ◌∷◌, ◌++◌, inl, inr, refl, ap, arith, Bool, true, false, get_or, replicate}
use Rattle.std.proofs.lemmas.List.Elements.{All-replicate}
use Rattle.octets.specs.declared.tag.Class.TheVariants.{Universal}
use Rattle.octets.specs.Rule.{Rule, ber, cer, der, IsCanonical}
use Rattle.primitives.specs.Bits.{bits_of_octet, AreUnused, IsBits}
use Rattle.types.specs.Shape.{StringType, Shape, StringValue, Val}
use Rattle.types.specs.Strings.{AreSegments, IsStringEncoding, bit_segment, IsWholeOctets}
use Rattle.types.specs.Encoding.{IsEncoding}
use Rattle.types.proofs.FormInstances.{not_same, universal, usable_universal, definite, one_octet}
use Rattle.types.proofs.StringInstances.{well_formed_string}
use Rattle.types.proofs.ApartInstances.{in_other_octets, of_another}

abbrev pub bit_string : Shape
bit_string = Shape.string (universal 3) StringType.bit_string

abbrev one : List Bool
one = true ∷ []

abbrev pub bits_in : List Bool → Val
bits_in string = Val.string (StringValue.bits string)

-- the bit 1 has the contents 07 80 under every rule, and 07 FF under BER
seven_unused : (rule : Rule) → AreUnused rule (replicate 7 false)
seven_unused ber = tt
seven_unused cer = All-replicate (λ bit. bit ≡ false) 7 false refl
seven_unused der = All-replicate (λ bit. bit ≡ false) 7 false refl

one_80 : (rule : Rule) → IsBits rule one (0x07 ∷ 0x80 ∷ [])
unfolding bits_of_octet
one_80 rule = record { unused = 7; octets = 0x80 ∷ []; tail = replicate 7 false; contents_are = refl; at_most_7 = omega arith; below_256 = one_octet 0x80 (omega arith); bits_are = refl; tail_is = refl; free = seven_unused rule }

one_FF : IsBits ber one (0x07 ∷ 0xFF ∷ [])
unfolding bits_of_octet
one_FF = record { unused = 7; octets = 0xFF ∷ []; tail = replicate 7 true; contents_are = refl; at_most_7 = omega arith; below_256 = one_octet 0xFF (omega arith); bits_are = refl; tail_is = refl; free = tt }

-- 03 02 07 80 under every rule
as_one : (rule : Rule) → IsStringEncoding rule (universal 3) bit_segment (IsBits rule) IsWholeOctets one (0x03 ∷ 0x02 ∷ 0x07 ∷ 0x80 ∷ [])
as_one ber = inl record { contents = 0x07 ∷ 0x80 ∷ []; holds = one_80 ber; primitive = definite ber Universal 3 false (0x07 ∷ 0x80 ∷ []) (omega arith) (omega arith) }
as_one cer = inl record { contents = 0x07 ∷ 0x80 ∷ []; holds = one_80 cer; short = omega arith; primitive = definite cer Universal 3 false (0x07 ∷ 0x80 ∷ []) (omega arith) (omega arith) }
as_one der = record { contents = 0x07 ∷ 0x80 ∷ []; holds = one_80 der; primitive = definite der Universal 3 false (0x07 ∷ 0x80 ∷ []) (omega arith) (omega arith) }

one_bit : (rule : Rule) → IsEncoding rule bit_string (bits_in one) (0x03 ∷ 0x02 ∷ 0x07 ∷ 0x80 ∷ [])
one_bit rule = record { bits = one; is = refl; string = as_one rule }

-- 03 02 07 FF and 23 04 03 02 07 80 under BER alone
one_bit-set : IsEncoding ber bit_string (bits_in one) (0x03 ∷ 0x02 ∷ 0x07 ∷ 0xFF ∷ [])
one_bit-set = record { bits = one; is = refl; string = inl record { contents = 0x07 ∷ 0xFF ∷ []; holds = one_FF; primitive = definite ber Universal 3 false (0x07 ∷ 0xFF ∷ []) (omega arith) (omega arith) } }

one_segment : AreSegments bit_segment (IsBits ber) IsWholeOctets (one ++ []) (0x03 ∷ 0x02 ∷ 0x07 ∷ 0x80 ∷ [])
one_segment =
    AreSegments.primitive one (0x07 ∷ 0x80 ∷ []) (0x03 ∷ 0x02 ∷ 0x07 ∷ 0x80 ∷ []) (one_80 ber) (definite ber Universal 3 false (0x07 ∷ 0x80 ∷ []) (omega arith) (omega arith)) AreSegments.none
    (λ some. absurd (some refl))

one_bit-cut : IsEncoding ber bit_string (bits_in one) (0x23 ∷ 0x04 ∷ 0x03 ∷ 0x02 ∷ 0x07 ∷ 0x80 ∷ [])
one_bit-cut = record {
  bits = one;
  is = refl;
  string = inr record { contents = 0x03 ∷ 0x02 ∷ 0x07 ∷ 0x80 ∷ []; segments = one_segment; constructed = inl (definite ber Universal 3 true (0x03 ∷ 0x02 ∷ 0x07 ∷ 0x80 ∷ []) (omega arith) (omega arith)) };
}

one_bit-only : (rule : Rule) (octets : List ℕ) → IsCanonical rule → (0x03 ∷ 0x02 ∷ 0x07 ∷ 0x80 ∷ [] ≡ octets → ⊥) → IsEncoding rule bit_string (bits_in one) octets → ⊥
one_bit-only rule octets canonical apart h =
    in_other_octets rule bit_string (bits_in one) (0x03 ∷ 0x02 ∷ 0x07 ∷ 0x80 ∷ []) octets (well_formed_string (universal 3) StringType.bit_string (usable_universal 3 (omega arith)) (omega arith) tt tt) canonical (one_bit rule) apart h

one_bit-set_canonical : (rule : Rule) → IsCanonical rule → IsEncoding rule bit_string (bits_in one) (0x03 ∷ 0x02 ∷ 0x07 ∷ 0xFF ∷ []) → ⊥
one_bit-set_canonical rule canonical h = one_bit-only rule (0x03 ∷ 0x02 ∷ 0x07 ∷ 0xFF ∷ []) canonical (λ same. not_same 0x80 0xFF (omega arith) (ap (λ l. get_or l 3 0) same)) h

one_bit-cut_canonical : (rule : Rule) → IsCanonical rule → IsEncoding rule bit_string (bits_in one) (0x23 ∷ 0x04 ∷ 0x03 ∷ 0x02 ∷ 0x07 ∷ 0x80 ∷ []) → ⊥
one_bit-cut_canonical rule canonical h = one_bit-only rule (0x23 ∷ 0x04 ∷ 0x03 ∷ 0x02 ∷ 0x07 ∷ 0x80 ∷ []) canonical (λ same. cc) h

-- 03 02 06 80 is the bits 10, and so not the bit 1
two_80 : IsBits ber (true ∷ false ∷ []) (0x06 ∷ 0x80 ∷ [])
unfolding bits_of_octet
two_80 = record { unused = 6; octets = 0x80 ∷ []; tail = replicate 6 false; contents_are = refl; at_most_7 = omega arith; below_256 = one_octet 0x80 (omega arith); bits_are = refl; tail_is = refl; free = tt }

two_bits : IsEncoding ber bit_string (bits_in (true ∷ false ∷ [])) (0x03 ∷ 0x02 ∷ 0x06 ∷ 0x80 ∷ [])
two_bits = record { bits = true ∷ false ∷ []; is = refl; string = inl record { contents = 0x06 ∷ 0x80 ∷ []; holds = two_80; primitive = definite ber Universal 3 false (0x06 ∷ 0x80 ∷ []) (omega arith) (omega arith) } }

one_bit-two : (rule : Rule) → IsEncoding rule bit_string (bits_in one) (0x03 ∷ 0x02 ∷ 0x06 ∷ 0x80 ∷ []) → ⊥
one_bit-two rule h =
    of_another rule bit_string (bits_in one) (bits_in (true ∷ false ∷ [])) (0x03 ∷ 0x02 ∷ 0x06 ∷ 0x80 ∷ []) (well_formed_string (universal 3) StringType.bit_string (usable_universal 3 (omega arith)) (omega arith) tt tt) two_bits (λ same. cc) h
