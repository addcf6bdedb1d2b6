-- Encodings of an OCTET STRING within the limits of what is accepted, and beyond them.
use Rattle.std.proofs.Common.{◌≡◌, ℕ, zero, suc, ◌^◌, ◌<◌, List, [], ◌∷◌, ◌++◌, inl, inr, length, refl, sym, subst, arith, false, All}
use Rattle.std.proofs.lemmas.List.{append-nil}
use Rattle.std.proofs.lemmas.List.Elements.{All-cons}
use Rattle.octets.specs.declared.tag.Class.TheVariants.{Universal}
use Rattle.octets.specs.Length.{IsShortestLength}
use Rattle.octets.specs.Rule.{Rule, ber, der}
use Rattle.octets.proofs.LengthLemmas.{IsShortestLength-from_digits}
use Rattle.types.specs.Form.{IsPrimitive}
use Rattle.types.specs.Depth.{IsNested}
use Rattle.types.specs.Encoding.{IsEncoding, IsAccepted}
use Rattle.types.proofs.CanonicalLemmas.{nested_primitive, primitive_by_ber}
use Rattle.types.proofs.FormInstances.{universal, low_tag, indefinite, one_octet}
use Rattle.types.proofs.OctetSegmentInstances.{usable_octet, OctetSegments, octets_first, octets_within-indefinite, none_of_none}
use Rattle.types.proofs.StringInstances.{octet_string, octets_of}
use Rattle.types.proofs.DepthInstances.{wrapped, length-wrapped, wrapped_nested, wrapped_deep}

-- it is an OCTET STRING of AA, however often
wrapped_segments : (n : ℕ) → OctetSegments (0xAA ∷ []) (wrapped n)
unfolding wrapped
wrapped_segments zero = octets_first (0xAA ∷ []) [] [] (omega arith) none_of_none
wrapped_segments (suc n) = subst (OctetSegments (0xAA ∷ [])) (append-nil (0x24 ∷ 0x80 ∷ (wrapped n ++ (0x00 ∷ 0x00 ∷ [])))) (octets_within-indefinite (0xAA ∷ []) (wrapped n) [] [] (wrapped_segments n) none_of_none)

wrapped_encoding : (n : ℕ) → IsEncoding ber (octet_string (universal 4)) (octets_of (0xAA ∷ [])) (wrapped (suc n))
unfolding wrapped
wrapped_encoding n = record {
  string_octets = 0xAA ∷ [];
  is = refl;
  conforms = one_octet 0xAA (omega arith);
  string = inr record { contents = wrapped n; segments = wrapped_segments n; constructed = inr (indefinite Universal 4 (wrapped n) (omega arith)) };
}

-- accepted with 24 80 sixty-four times, and an encoding that is not accepted with sixty-five
wrapped_64 : IsAccepted ber (octet_string (universal 4)) (octets_of (0xAA ∷ [])) (wrapped 64)
wrapped_64 = record { encoding = wrapped_encoding 63; depth = wrapped_nested 64; size = omega (arith, length-wrapped 64) }

wrapped_65 : IsEncoding ber (octet_string (universal 4)) (octets_of (0xAA ∷ [])) (wrapped 65)
wrapped_65 = wrapped_encoding 64

wrapped_65-too_deep : IsAccepted ber (octet_string (universal 4)) (octets_of (0xAA ∷ [])) (wrapped 65) → ⊥
wrapped_65-too_deep h = wrapped_deep 64 h.depth

-- 1,048,571 octets after 04 83 0F FF FB are accepted: with the five before them they are as many as may be
length_1048571 : IsShortestLength 1048571 (0x83 ∷ 0x0F ∷ 0xFF ∷ 0xFB ∷ [])
length_1048571 =
    let once : 256 ^ 2 ≡ 65536 = refl in
    IsShortestLength-from_digits 1048571 2 (0x0F ∷ 0xFF ∷ 0xFB ∷ []) (0x83 ∷ 0x0F ∷ 0xFF ∷ 0xFB ∷ []) (omega arith) (omega arith) refl (omega arith)
    (All-cons (λ d. d < 256) 0x0F (0xFF ∷ 0xFB ∷ []) (omega arith) (All-cons (λ d. d < 256) 0xFF (0xFB ∷ []) (omega arith) (one_octet 0xFB (omega arith))))
    refl
    refl

length_1048572 : IsShortestLength 1048572 (0x83 ∷ 0x0F ∷ 0xFF ∷ 0xFC ∷ [])
length_1048572 =
    let once : 256 ^ 2 ≡ 65536 = refl in
    IsShortestLength-from_digits 1048572 2 (0x0F ∷ 0xFF ∷ 0xFC ∷ []) (0x83 ∷ 0x0F ∷ 0xFF ∷ 0xFC ∷ []) (omega arith) (omega arith) refl (omega arith)
    (All-cons (λ d. d < 256) 0x0F (0xFF ∷ 0xFC ∷ []) (omega arith) (All-cons (λ d. d < 256) 0xFF (0xFC ∷ []) (omega arith) (one_octet 0xFC (omega arith))))
    refl
    refl

long_octets : (d size : List ℕ) → IsShortestLength (length d) size → IsPrimitive der (universal 4) d (0x04 ∷ (size ++ d))
long_octets d size h = record { identifier = 0x04 ∷ []; size = size; tagged = low_tag Universal 4 false (omega arith); sized = h; joined = refl }

long_encoding-der : (d size : List ℕ) → All (λ o. o < 256) d → IsShortestLength (length d) size → IsEncoding der (octet_string (universal 4)) (octets_of d) (0x04 ∷ (size ++ d))
long_encoding-der d size below h = record { string_octets = d; is = refl; conforms = below; string = record { contents = d; holds = refl; primitive = long_octets d size h } }

long_encoding-ber : (d size : List ℕ) → All (λ o. o < 256) d → IsShortestLength (length d) size → IsEncoding ber (octet_string (universal 4)) (octets_of d) (0x04 ∷ (size ++ d))
long_encoding-ber d size below h = record {
  string_octets = d;
  is = refl;
  conforms = below;
  string = inl record { contents = d; holds = refl; primitive = primitive_by_ber der (universal 4) d (0x04 ∷ (size ++ d)) (long_octets d size h) };
}

long_depth : (d size : List ℕ) → IsShortestLength (length d) size → IsNested 64 (0x04 ∷ (size ++ d))
long_depth d size h = nested_primitive 64 (0x04 ∷ (size ++ d)) record { tag = universal 4; usable = usable_octet; contents = d; whole = primitive_by_ber der (universal 4) d (0x04 ∷ (size ++ d)) (long_octets d size h) }

longest-ber : (d : List ℕ) → length d ≡ 1048571 → All (λ o. o < 256) d → IsAccepted ber (octet_string (universal 4)) (octets_of d) (0x04 ∷ 0x83 ∷ 0x0F ∷ 0xFF ∷ 0xFB ∷ d)
longest-ber d size below =
    let h = subst (λ n. IsShortestLength n (0x83 ∷ 0x0F ∷ 0xFF ∷ 0xFB ∷ [])) (sym size) length_1048571 in
    record { encoding = long_encoding-ber d (0x83 ∷ 0x0F ∷ 0xFF ∷ 0xFB ∷ []) below h; depth = long_depth d (0x83 ∷ 0x0F ∷ 0xFF ∷ 0xFB ∷ []) h; size = omega (arith, size) }

longest-der : (d : List ℕ) → length d ≡ 1048571 → All (λ o. o < 256) d → IsAccepted der (octet_string (universal 4)) (octets_of d) (0x04 ∷ 0x83 ∷ 0x0F ∷ 0xFF ∷ 0xFB ∷ d)
longest-der d size below =
    let h = subst (λ n. IsShortestLength n (0x83 ∷ 0x0F ∷ 0xFF ∷ 0xFB ∷ [])) (sym size) length_1048571 in
    record { encoding = long_encoding-der d (0x83 ∷ 0x0F ∷ 0xFF ∷ 0xFB ∷ []) below h; depth = long_depth d (0x83 ∷ 0x0F ∷ 0xFF ∷ 0xFB ∷ []) h; size = omega (arith, size) }

-- one octet more is an encoding that is not accepted
too_long : (d : List ℕ) → length d ≡ 1048572 → All (λ o. o < 256) d → IsEncoding der (octet_string (universal 4)) (octets_of d) (0x04 ∷ 0x83 ∷ 0x0F ∷ 0xFF ∷ 0xFC ∷ d)
too_long d size below = long_encoding-der d (0x83 ∷ 0x0F ∷ 0xFF ∷ 0xFC ∷ []) below (subst (λ n. IsShortestLength n (0x83 ∷ 0x0F ∷ 0xFF ∷ 0xFC ∷ [])) (sym size) length_1048572)

too_long-refused : (rule : Rule) (d : List ℕ) → length d ≡ 1048572 → IsAccepted rule (octet_string (universal 4)) (octets_of d) (0x04 ∷ 0x83 ∷ 0x0F ∷ 0xFF ∷ 0xFC ∷ d) → ⊥
too_long-refused rule d size h = absurd (omega (arith, size, h.size))
