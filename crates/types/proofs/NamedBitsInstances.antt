-- Encodings of a BIT STRING with named bits under each rule, and octets and values that are none (X.690 8.6 and 11.2.2).
use Rattle.std.proofs.Common.{◌≡◌, ◌≢◌, ◌≤◌, AllPairs, ℕ, List, [], ◌∷◌, ◌++◌, inl, inr, refl, sym, ap, arith, Bool, true, false, get_or, replicate, All}
use Rattle.std.proofs.lemmas.List.Elements.{All-replicate, All-head, All-cons, All-nil}
use Rattle.octets.specs.declared.tag.Class.TheVariants.{Universal}
use Rattle.octets.specs.Rule.{Rule, ber, cer, der, IsCanonical}
use Rattle.primitives.specs.Bits.{bits_of_octet, AreUnused, IsBits, IsTrimmed}
use Rattle.types.specs.Shape.{NamedBitView, StringType, Shape}
use Rattle.types.specs.Conforms.{Conforms}
use Rattle.types.specs.Strings.{AreSegments, IsStringEncoding, bit_segment, IsWholeOctets}
use Rattle.types.specs.WellFormed.{IsWellFormed}
use Rattle.types.specs.Encoding.{IsEncoding}
use Rattle.types.proofs.ListLemmas.{first_differs, contains_first, contains_cases, not_in_nil, all_differ-cons, AllPairs-nil}
use Rattle.types.proofs.FormInstances.{not_same, universal, usable_universal, definite, one_octet}
use Rattle.types.proofs.BitStringInstances.{bits_in}
use Rattle.types.proofs.StringInstances.{well_formed_string}
use Rattle.types.proofs.ApartInstances.{in_other_octets}

abbrev named : ℕ → NamedBitView
named number = record { name = 0x61 ∷ []; number = number }

-- BIT STRING { a(0), b(7) }
abbrev flags : Shape
flags = Shape.string (universal 3) (StringType.named_bits (named 0 ∷ named 7 ∷ []))

abbrev bits_101 : List Bool
bits_101 = true ∷ false ∷ true ∷ []

trimmed_101 : IsTrimmed bits_101
trimmed_101 = inr (true ∷ false ∷ [], refl)

untrimmed_10 : IsTrimmed (true ∷ false ∷ []) → ⊥
untrimmed_10 (inl none) = cc
untrimmed_10 (inr ([], is)) = cc
untrimmed_10 (inr (bit ∷ [], is)) = cc
untrimmed_10 (inr (bit ∷ second ∷ [], is)) = cc
untrimmed_10 (inr (bit ∷ second ∷ third ∷ front, is)) = cc

-- 03 02 05 A0 under every rule
zeros_unused : (rule : Rule) (count : ℕ) → AreUnused rule (replicate count false)
zeros_unused ber count = tt
zeros_unused cer count = All-replicate (λ bit. bit ≡ false) count false refl
zeros_unused der count = All-replicate (λ bit. bit ≡ false) count false refl

five_unused : (rule : Rule) → IsBits rule bits_101 (0x05 ∷ 0xA0 ∷ [])
unfolding bits_of_octet
five_unused rule = record { unused = 5; octets = 0xA0 ∷ []; tail = replicate 5 false; contents_are = refl; at_most_7 = omega arith; below_256 = one_octet 0xA0 (omega arith); bits_are = refl; tail_is = refl; free = zeros_unused rule 5 }

as_101 : (rule : Rule) → IsStringEncoding rule (universal 3) bit_segment (IsBits rule) IsWholeOctets bits_101 (0x03 ∷ 0x02 ∷ 0x05 ∷ 0xA0 ∷ [])
as_101 ber = inl record { contents = 0x05 ∷ 0xA0 ∷ []; holds = five_unused ber; primitive = definite ber Universal 3 false (0x05 ∷ 0xA0 ∷ []) (omega arith) (omega arith) }
as_101 cer = inl record { contents = 0x05 ∷ 0xA0 ∷ []; holds = five_unused cer; short = omega arith; primitive = definite cer Universal 3 false (0x05 ∷ 0xA0 ∷ []) (omega arith) (omega arith) }
as_101 der = record { contents = 0x05 ∷ 0xA0 ∷ []; holds = five_unused der; primitive = definite der Universal 3 false (0x05 ∷ 0xA0 ∷ []) (omega arith) (omega arith) }

flags_101 : (rule : Rule) → IsEncoding rule flags (bits_in bits_101) (0x03 ∷ 0x02 ∷ 0x05 ∷ 0xA0 ∷ [])
flags_101 rule = record { bits = bits_101; is = refl; trimmed = trimmed_101; zeros = 0; canonical = λ k. refl; string = as_101 rule }

-- 03 02 04 A0, with a bit 0 behind the last 1, under BER alone
four_unused : IsBits ber (bits_101 ++ replicate 1 false) (0x04 ∷ 0xA0 ∷ [])
unfolding bits_of_octet
four_unused = record { unused = 4; octets = 0xA0 ∷ []; tail = replicate 4 false; contents_are = refl; at_most_7 = omega arith; below_256 = one_octet 0xA0 (omega arith); bits_are = refl; tail_is = refl; free = tt }

flags_1010 : IsEncoding ber flags (bits_in bits_101) (0x03 ∷ 0x02 ∷ 0x04 ∷ 0xA0 ∷ [])
flags_1010 = record {
  bits = bits_101;
  is = refl;
  trimmed = trimmed_101;
  zeros = 1;
  canonical = λ canonical. absurd (canonical refl);
  string = inl record { contents = 0x04 ∷ 0xA0 ∷ []; holds = four_unused; primitive = definite ber Universal 3 false (0x04 ∷ 0xA0 ∷ []) (omega arith) (omega arith) };
}

abbrev HasLowNumber : NamedBitView → Type 0
HasLowNumber bit = bit.number ≤ 65_535

low_numbers : All HasLowNumber (named 0 ∷ named 7 ∷ [])
low_numbers = All-cons HasLowNumber (named 0) (named 7 ∷ []) (omega arith) (All-cons HasLowNumber (named 7) [] (omega arith) (All-nil HasLowNumber))

two_numbers : AllPairs {X = ℕ} (λ a b. a ≢ b) (0 ∷ 7 ∷ [])
two_numbers = all_differ-cons {X = ℕ} 0 (7 ∷ []) (λ c. elim (contains_cases {X = ℕ} 7 0 [] c) [ inl same ↦ (omega (arith, same)) | inr later ↦ (not_in_nil {X = ℕ} 0 later) ]) (all_differ-cons {X = ℕ} 7 [] (λ c. not_in_nil {X = ℕ} 7 c) (AllPairs-nil (λ a b. a ≢ b)))

well_formed_flags : IsWellFormed flags
well_formed_flags =
    well_formed_string (universal 3) (StringType.named_bits (named 0 ∷ named 7 ∷ [])) (usable_universal 3 (omega arith)) (omega arith)
    record { at_least_one = omega arith; at_most_256 = omega arith; each = low_numbers } two_numbers

flags_1010-canonical : (rule : Rule) → IsCanonical rule → IsEncoding rule flags (bits_in bits_101) (0x03 ∷ 0x02 ∷ 0x04 ∷ 0xA0 ∷ []) → ⊥
flags_1010-canonical rule canonical h =
    in_other_octets rule flags (bits_in bits_101) (0x03 ∷ 0x02 ∷ 0x05 ∷ 0xA0 ∷ []) (0x03 ∷ 0x02 ∷ 0x04 ∷ 0xA0 ∷ []) well_formed_flags canonical (flags_101 rule) (λ same. not_same 0x04 0x05 (omega arith) (sym (ap (λ l. get_or l 2 0) same))) h

-- 23 08 03 02 00 A0 03 02 00 00: the bits 0 fill a segment of their own
one_by_one : AreSegments bit_segment (IsBits ber) IsWholeOctets (bits_101 ++ replicate 13 false) (0x03 ∷ 0x02 ∷ 0x00 ∷ 0xA0 ∷ 0x03 ∷ 0x02 ∷ 0x00 ∷ 0x00 ∷ [])
unfolding bits_of_octet
one_by_one =
    AreSegments.primitive (bits_101 ++ replicate 5 false) (0x00 ∷ 0xA0 ∷ []) (0x03 ∷ 0x02 ∷ 0x00 ∷ 0xA0 ∷ [])
    record { unused = 0; octets = 0xA0 ∷ []; tail = []; contents_are = refl; at_most_7 = omega arith; below_256 = one_octet 0xA0 (omega arith); bits_are = refl; tail_is = refl; free = tt }
    (definite ber Universal 3 false (0x00 ∷ 0xA0 ∷ []) (omega arith) (omega arith))
    (AreSegments.primitive (replicate 8 false) (0x00 ∷ 0x00 ∷ []) (0x03 ∷ 0x02 ∷ 0x00 ∷ 0x00 ∷ [])
    record { unused = 0; octets = 0x00 ∷ []; tail = []; contents_are = refl; at_most_7 = omega arith; below_256 = one_octet 0x00 (omega arith); bits_are = refl; tail_is = refl; free = tt }
    (definite ber Universal 3 false (0x00 ∷ 0x00 ∷ []) (omega arith) (omega arith))
    AreSegments.none
    (λ some. absurd (some refl)))
    (λ some. (1, refl))

flags_in_segments : IsEncoding ber flags (bits_in bits_101) (0x23 ∷ 0x08 ∷ 0x03 ∷ 0x02 ∷ 0x00 ∷ 0xA0 ∷ 0x03 ∷ 0x02 ∷ 0x00 ∷ 0x00 ∷ [])
flags_in_segments = record {
  bits = bits_101;
  is = refl;
  trimmed = trimmed_101;
  zeros = 13;
  canonical = λ canonical. absurd (canonical refl);
  string = inr record {
    contents = 0x03 ∷ 0x02 ∷ 0x00 ∷ 0xA0 ∷ 0x03 ∷ 0x02 ∷ 0x00 ∷ 0x00 ∷ [];
    segments = one_by_one;
    constructed = inl (definite ber Universal 3 true (0x03 ∷ 0x02 ∷ 0x00 ∷ 0xA0 ∷ 0x03 ∷ 0x02 ∷ 0x00 ∷ 0x00 ∷ []) (omega arith) (omega arith));
  };
}

-- the bits 10 are no value of it
flags_10 : Conforms flags (bits_in (true ∷ false ∷ [])) → ⊥
flags_10 h = untrimmed_10 h

-- no list without names, with a number twice, or above 65,535
no_names : IsWellFormed (Shape.string (universal 3) (StringType.named_bits [])) → ⊥
no_names h = absurd (omega (arith, h.limits.each.0.1.at_least_one))

repeated_number : IsWellFormed (Shape.string (universal 3) (StringType.named_bits (named 7 ∷ named 7 ∷ []))) → ⊥
repeated_number h = first_differs 7 (7 ∷ []) h.numbers.0 (contains_first 7 7 [] refl)

too_great_number : IsWellFormed (Shape.string (universal 3) (StringType.named_bits (named 65_536 ∷ []))) → ⊥
too_great_number h =
    let low : 65_536 ≤ 65_535 = All-head (λ (bit : NamedBitView). bit.number ≤ 65_535) (named 65_536) [] h.limits.each.0.1.each in
    absurd (omega arith)
