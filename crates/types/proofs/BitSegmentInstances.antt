-- Segments of a BIT STRING that the definition takes, and octets that it does not (X.690 8.6).
use Rattle.std.proofs.Common.{◌≡◌, ℕ, ◌<◌, List, [], ◌∷◌, ◌++◌, inl, length, refl, ap, arith, Bool, true, false}
use Rattle.std.proofs.lemmas.List.Elements.{All-nil}
use Rattle.octets.specs.declared.tag.Class.TheVariants.{Universal}
use Rattle.octets.specs.declared.tag.Tag.{Tag}
use Rattle.octets.specs.Rule.{ber}
use Rattle.primitives.specs.Bits.{bits_of_octet, IsBits}
use Rattle.primitives.proofs.BitsLemmas.{one_bits_value}
use Rattle.types.specs.FirstTags.{IsUsable}
use Rattle.types.specs.Strings.{AreSegments, bit_segment, octet_segment, IsWholeOctets}
use Rattle.types.proofs.SegmentLemmas.{segments_unique}
use Rattle.types.proofs.CerLemmas.{bits_count}
use Rattle.types.proofs.FormInstances.{not_same, definite, one_octet}
use Rattle.types.proofs.OctetSegmentInstances.{usable_octet, after_primitive, after_definite}

pub usable_bit : IsUsable bit_segment
usable_bit = λ same none. absurd (omega arith)

abbrev BitSegments : List Bool → List ℕ → Type 0
BitSegments bits octets = AreSegments bit_segment (IsBits ber) IsWholeOctets bits octets

one_bits : (p q : List Bool) (c : List ℕ) → BitSegments p c → BitSegments q c → p ≡ q
one_bits p q c h k = (segments_unique bit_segment (IsBits ber) IsWholeOctets (λ a b o f g. one_bits_value ber ber a b o f g) usable_bit p c q c [] [] h k tt tt refl).string

-- the bits of an octet AA, and four of F0 or FF
abbrev bits_AA : List Bool
bits_AA = true ∷ false ∷ true ∷ false ∷ true ∷ false ∷ true ∷ false ∷ []

abbrev four_ones : List Bool
four_ones = true ∷ true ∷ true ∷ true ∷ []

abbrev four_zeros : List Bool
four_zeros = false ∷ false ∷ false ∷ false ∷ []

contents_00_AA : IsBits ber bits_AA (0x00 ∷ 0xAA ∷ [])
unfolding bits_of_octet
contents_00_AA = record { unused = 0; octets = 0xAA ∷ []; tail = []; contents_are = refl; at_most_7 = omega arith; below_256 = one_octet 0xAA (omega arith); bits_are = refl; tail_is = refl; free = tt }

contents_04_F0 : IsBits ber four_ones (0x04 ∷ 0xF0 ∷ [])
unfolding bits_of_octet
contents_04_F0 = record { unused = 4; octets = 0xF0 ∷ []; tail = four_zeros; contents_are = refl; at_most_7 = omega arith; below_256 = one_octet 0xF0 (omega arith); bits_are = refl; tail_is = refl; free = tt }

contents_04_FF : IsBits ber four_ones (0x04 ∷ 0xFF ∷ [])
unfolding bits_of_octet
contents_04_FF = record { unused = 4; octets = 0xFF ∷ []; tail = four_ones; contents_are = refl; at_most_7 = omega arith; below_256 = one_octet 0xFF (omega arith); bits_are = refl; tail_is = refl; free = tt }

contents_00 : IsBits ber [] (0x00 ∷ [])
contents_00 = record { unused = 0; octets = []; tail = []; contents_are = refl; at_most_7 = omega arith; below_256 = All-nil (λ o. o < 256); bits_are = refl; tail_is = refl; free = tt }

-- a BIT STRING's segment before others, and the last one
bits_first : (bits others : List Bool) (contents rest : List ℕ) → length contents < 128 → IsBits ber bits contents → IsWholeOctets bits → BitSegments others rest → BitSegments (bits ++ others) (0x03 ∷ length contents ∷ (contents ++ rest))
bits_first bits others contents rest few holds whole more =
    AreSegments.primitive bits contents (0x03 ∷ length contents ∷ contents) holds (definite ber Universal 3 false contents (omega arith) few) more (λ some. whole)

bits_last : (bits : List Bool) (contents : List ℕ) → length contents < 128 → IsBits ber bits contents → BitSegments (bits ++ []) (0x03 ∷ length contents ∷ (contents ++ []))
bits_last bits contents few holds =
    AreSegments.primitive bits contents (0x03 ∷ length contents ∷ contents) holds (definite ber Universal 3 false contents (omega arith) few) AreSegments.none (λ some. absurd (some refl))

-- 101010101111: with unused bits that are zero or not, after an empty segment, and with the last segment inside another
last_04_F0 : BitSegments four_ones (0x03 ∷ 0x02 ∷ 0x04 ∷ 0xF0 ∷ [])
last_04_F0 = bits_last four_ones (0x04 ∷ 0xF0 ∷ []) (omega arith) contents_04_F0

bits_AAF : BitSegments (bits_AA ++ four_ones) (0x03 ∷ 0x02 ∷ 0x00 ∷ 0xAA ∷ 0x03 ∷ 0x02 ∷ 0x04 ∷ 0xF0 ∷ [])
bits_AAF = bits_first bits_AA four_ones (0x00 ∷ 0xAA ∷ []) (0x03 ∷ 0x02 ∷ 0x04 ∷ 0xF0 ∷ []) (omega arith) contents_00_AA (1, refl) last_04_F0

bits_AAF-free : BitSegments (bits_AA ++ four_ones) (0x03 ∷ 0x01 ∷ 0x00 ∷ 0x03 ∷ 0x02 ∷ 0x00 ∷ 0xAA ∷ 0x03 ∷ 0x02 ∷ 0x04 ∷ 0xFF ∷ [])
bits_AAF-free =
    bits_first [] (bits_AA ++ four_ones) (0x00 ∷ []) (0x03 ∷ 0x02 ∷ 0x00 ∷ 0xAA ∷ 0x03 ∷ 0x02 ∷ 0x04 ∷ 0xFF ∷ []) (omega arith) contents_00 (0, refl)
    (bits_first bits_AA four_ones (0x00 ∷ 0xAA ∷ []) (0x03 ∷ 0x02 ∷ 0x04 ∷ 0xFF ∷ []) (omega arith) contents_00_AA (1, refl)
    (bits_last four_ones (0x04 ∷ 0xFF ∷ []) (omega arith) contents_04_FF))

bits_AAF-within : BitSegments (bits_AA ++ four_ones) (0x03 ∷ 0x02 ∷ 0x00 ∷ 0xAA ∷ 0x23 ∷ 0x04 ∷ 0x03 ∷ 0x02 ∷ 0x04 ∷ 0xF0 ∷ [])
bits_AAF-within =
    bits_first bits_AA four_ones (0x00 ∷ 0xAA ∷ []) (0x23 ∷ 0x04 ∷ 0x03 ∷ 0x02 ∷ 0x04 ∷ 0xF0 ∷ []) (omega arith) contents_00_AA (1, refl)
    (AreSegments.constructed four_ones (0x03 ∷ 0x02 ∷ 0x04 ∷ 0xF0 ∷ []) (0x23 ∷ 0x04 ∷ 0x03 ∷ 0x02 ∷ 0x04 ∷ 0xF0 ∷ []) last_04_F0 (inl (definite ber Universal 3 true (0x03 ∷ 0x02 ∷ 0x04 ∷ 0xF0 ∷ []) (omega arith) (omega arith))) AreSegments.none (λ some. absurd (some refl)))

-- the contents 04 F0 are four bits, which are no whole octets
ragged : (bits : List Bool) → IsBits ber bits (0x04 ∷ 0xF0 ∷ []) → IsWholeOctets bits → ⊥
ragged bits h whole =
    let unused : 4 ≡ h.unused = cc h.contents_are in
    omega (arith, bits_count ber bits (0x04 ∷ 0xF0 ∷ []) h, unused, whole.1)

-- so no segment follows 03 02 04 F0, be it another such or an empty one
none_after_ragged : (bits : List Bool) (octet : ℕ) (octets : List ℕ) → BitSegments bits (0x03 ∷ 0x02 ∷ 0x04 ∷ 0xF0 ∷ octet ∷ octets) → ⊥
none_after_ragged bits octet octets h =
    let first = after_primitive bit_segment (IsBits ber) IsWholeOctets bit_segment (0x04 ∷ 0xF0 ∷ []) (0x03 ∷ 0x02 ∷ 0x04 ∷ 0xF0 ∷ []) (octet ∷ octets) (0x03 ∷ 0x02 ∷ 0x04 ∷ 0xF0 ∷ octet ∷ octets) bits usable_bit (definite ber Universal 3 false (0x04 ∷ 0xF0 ∷ []) (omega arith) (omega arith)) refl h in
    ragged first.piece first.held (first.whole (λ none. cc))

no_bits_04_F0_00_AA : (bits : List Bool) → BitSegments bits (0x03 ∷ 0x02 ∷ 0x04 ∷ 0xF0 ∷ 0x03 ∷ 0x02 ∷ 0x00 ∷ 0xAA ∷ []) → ⊥
no_bits_04_F0_00_AA bits h = none_after_ragged bits 0x03 (0x02 ∷ 0x00 ∷ 0xAA ∷ []) h

no_bits_04_F0_04_F0 : (bits : List Bool) → BitSegments bits (0x03 ∷ 0x02 ∷ 0x04 ∷ 0xF0 ∷ 0x03 ∷ 0x02 ∷ 0x04 ∷ 0xF0 ∷ []) → ⊥
no_bits_04_F0_04_F0 bits h = none_after_ragged bits 0x03 (0x02 ∷ 0x04 ∷ 0xF0 ∷ []) h

no_bits_04_F0_00 : (bits : List Bool) → BitSegments bits (0x03 ∷ 0x02 ∷ 0x04 ∷ 0xF0 ∷ 0x03 ∷ 0x01 ∷ 0x00 ∷ []) → ⊥
no_bits_04_F0_00 bits h = none_after_ragged bits 0x03 (0x01 ∷ 0x00 ∷ []) h

no_bits_04_F0_23_00 : (bits : List Bool) → BitSegments bits (0x03 ∷ 0x02 ∷ 0x04 ∷ 0xF0 ∷ 0x23 ∷ 0x00 ∷ []) → ⊥
no_bits_04_F0_23_00 bits h = none_after_ragged bits 0x23 (0x00 ∷ []) h

-- nor 23 04 03 02 04 F0: its segment is the last inside, and not the last outside
no_bits_within_04_F0_00_AA : (bits : List Bool) → BitSegments bits (0x23 ∷ 0x04 ∷ 0x03 ∷ 0x02 ∷ 0x04 ∷ 0xF0 ∷ 0x03 ∷ 0x02 ∷ 0x00 ∷ 0xAA ∷ []) → ⊥
no_bits_within_04_F0_00_AA bits h =
    let first = after_definite bit_segment (IsBits ber) IsWholeOctets bit_segment (0x03 ∷ 0x02 ∷ 0x04 ∷ 0xF0 ∷ []) (0x23 ∷ 0x04 ∷ 0x03 ∷ 0x02 ∷ 0x04 ∷ 0xF0 ∷ []) (0x03 ∷ 0x02 ∷ 0x00 ∷ 0xAA ∷ []) (0x23 ∷ 0x04 ∷ 0x03 ∷ 0x02 ∷ 0x04 ∷ 0xF0 ∷ 0x03 ∷ 0x02 ∷ 0x00 ∷ 0xAA ∷ []) bits usable_bit (definite ber Universal 3 true (0x03 ∷ 0x02 ∷ 0x04 ∷ 0xF0 ∷ []) (omega arith) (omega arith)) refl h in
    let four = one_bits first.piece four_ones (0x03 ∷ 0x02 ∷ 0x04 ∷ 0xF0 ∷ []) first.held last_04_F0 in
    let whole = first.whole (λ none. cc) in
    absurd (omega (arith, whole.1, ap length four))

-- 04 01 41 is no segment of a BIT STRING, and 03 00 lacks its first octet
no_bits_04_01_41 : (bits : List Bool) → BitSegments bits (0x04 ∷ 0x01 ∷ 0x41 ∷ []) → ⊥
no_bits_04_01_41 bits h =
    let first = after_primitive bit_segment (IsBits ber) IsWholeOctets octet_segment (0x41 ∷ []) (0x04 ∷ 0x01 ∷ 0x41 ∷ []) [] (0x04 ∷ 0x01 ∷ 0x41 ∷ []) bits usable_octet (definite ber Universal 4 false (0x41 ∷ []) (omega arith) (omega arith)) refl h in
    not_same 3 4 (omega arith) (ap (λ (t : Tag). t.number) first.same)

no_bits_03_00 : (bits : List Bool) → BitSegments bits (0x03 ∷ 0x00 ∷ []) → ⊥
no_bits_03_00 bits h =
    let first = after_primitive bit_segment (IsBits ber) IsWholeOctets bit_segment [] (0x03 ∷ 0x00 ∷ []) [] (0x03 ∷ 0x00 ∷ []) bits usable_bit (definite ber Universal 3 false [] (omega arith) (omega arith)) refl h in
    let are = first.held.contents_are in
    cc
