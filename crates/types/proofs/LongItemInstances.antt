-- A SEQUENCE OF with one long OCTET STRING, accepted under BER where the encoding under DER has an octet too many.
use Rattle.std.proofs.Common.{◌≡◌, ℕ, ◌<◌, List, [], ◌∷◌, ◌++◌, inr, length, refl, ap, arith, true, All, length-append}
use Rattle.std.specs.List.{concat}
use Rattle.octets.specs.declared.tag.Class.TheVariants.{Universal}
use Rattle.octets.specs.Rule.{Rule, ber, der}
use Rattle.octets.proofs.RuleLemmas.{der_is_canonical}
use Rattle.types.specs.Shape.{Shape, Val, no_item, item}
use Rattle.types.specs.WellFormed.{IsWellFormed}
use Rattle.types.specs.Form.{IsConstructed}
use Rattle.types.specs.Encoding.{IsEncoding, IsAccepted}
use Rattle.types.proofs.BeginningLemmas.{explicit_parts}
use Rattle.types.proofs.DepthLemmas.{nested_around}
use Rattle.types.proofs.OneEncodingLemmas.{one_canonical}
use Rattle.types.proofs.FormInstances.{universal, usable_universal, low_tag, indefinite}
use Rattle.types.proofs.StringInstances.{octet_string, octets_of}
use Rattle.types.proofs.LongInstances.{zeros, length-zeros, below-zeros, long_length, long_string-ber, long_string-der, long_depth}

-- SEQUENCE OF OCTET STRING, of one string
abbrev list_of_strings : Shape
list_of_strings = Shape.sequence_of (universal 16) (octet_string (universal 4))

well_formed_strings : IsWellFormed list_of_strings
well_formed_strings = record {
  limits = record { nodes = omega arith; levels = omega arith; each = (omega arith, (omega arith, tt)) };
  tags = (usable_universal 16 (omega arith), (usable_universal 4 (omega arith), tt));
  numbers = (tt, (tt, tt));
  defaults = (tt, (tt, tt));
}

abbrev one_string : List ℕ → Val
one_string d = Val.items (item (octets_of d) no_item)

abbrev string_octets : List ℕ → List ℕ
string_octets d = 0x04 ∷ 0x83 ∷ 0x0F ∷ 0xFF ∷ 0xF7 ∷ d

-- 30 80 04 83 0F FF F7, 1,048,567 octets and 00 00 in BER, and 30 83 0F FF FC 04 83 0F FF F7 and the octets in DER
abbrev strings-indefinite : List ℕ → List ℕ
strings-indefinite d = 0x30 ∷ 0x80 ∷ (string_octets d ++ (0x00 ∷ 0x00 ∷ []))

abbrev strings-definite : List ℕ → List ℕ
strings-definite d = 0x30 ∷ 0x83 ∷ 0x0F ∷ 0xFF ∷ 0xFC ∷ string_octets d

module _ (d : List ℕ) (size : length d ≡ 1048567) (below : All (λ o. o < 256) d) where
  around_string-ber : IsConstructed ber (universal 16) (concat (string_octets d ∷ [])) (strings-indefinite d)
  around_string-ber = explicit_parts ber (universal 16) (string_octets d) (strings-indefinite d) (inr (indefinite Universal 16 (string_octets d) (omega arith)))

  around_string-der : IsConstructed der (universal 16) (concat (string_octets d ∷ [])) (strings-definite d)
  around_string-der =
      explicit_parts der (universal 16) (string_octets d) (strings-definite d)
      record { identifier = 0x30 ∷ []; size = 0x83 ∷ 0x0F ∷ 0xFF ∷ 0xFC ∷ []; tagged = low_tag Universal 16 true (omega arith); sized = long_length (length (string_octets d)) 0xFC (omega arith) (omega (arith, size)); joined = refl }

  -- the one is accepted, with as many octets as may be
  strings-ber : IsAccepted ber list_of_strings (one_string d) (strings-indefinite d)
  strings-ber = record {
    encoding = record { items = item (octets_of d) no_item; is = refl; encodings = string_octets d ∷ []; each = (long_string-ber d 0xF7 (omega arith) (omega (arith, size)) below, tt); whole = around_string-ber };
    depth = nested_around ber 63 (universal 16) (string_octets d ∷ []) (strings-indefinite d) (usable_universal 16 (omega arith)) (long_depth d 0xF7 (omega arith) (omega (arith, size)) 63, tt) around_string-ber;
    size = omega (arith, size, length-append d (0x00 ∷ 0x00 ∷ []));
  }

  strings-ber_size : length (strings-indefinite d) ≡ 1048576
  strings-ber_size = omega (arith, size, length-append d (0x00 ∷ 0x00 ∷ []))

  -- the other is an encoding with one octet more, which is accepted under no rule
  strings-der : IsEncoding der list_of_strings (one_string d) (strings-definite d)
  strings-der = record { items = item (octets_of d) no_item; is = refl; encodings = string_octets d ∷ []; each = (long_string-der d 0xF7 (omega arith) (omega (arith, size)) below, tt); whole = around_string-der }

  strings-der_size : length (strings-definite d) ≡ 1048577
  strings-der_size = omega (arith, size)

  strings-too_long : (rule : Rule) (v : Val) → IsAccepted rule list_of_strings v (strings-definite d) → ⊥
  strings-too_long rule v h = absurd (omega (arith, size, h.size))

  -- so no octets are accepted as this value under DER
  strings-none_der : (octets : List ℕ) → IsAccepted der list_of_strings (one_string d) octets → ⊥
  strings-none_der octets h =
      let same = one_canonical der list_of_strings (one_string d) octets (strings-definite d) well_formed_strings der_is_canonical h.encoding strings-der in
      absurd (omega (arith, strings-der_size, h.size, ap length same))

-- there are such strings: 1,048,567 octets 00
zeros-ber : IsAccepted ber list_of_strings (one_string (zeros 1048567)) (strings-indefinite (zeros 1048567))
zeros-ber = strings-ber (zeros 1048567) (length-zeros 1048567) (below-zeros 1048567)

zeros-none_der : (octets : List ℕ) → IsAccepted der list_of_strings (one_string (zeros 1048567)) octets → ⊥
zeros-none_der octets h = strings-none_der (zeros 1048567) (length-zeros 1048567) (below-zeros 1048567) octets h
