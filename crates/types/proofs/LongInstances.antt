-- OCTET STRINGs of about a million octets, and a stream of two of them: a stream has no limit of its own.
use Rattle.std.proofs.Common.{◌≡◌, ℕ, ◌+◌, ◌^◌, ◌<◌, List, [], ◌∷◌, ◌++◌, inl, length, refl, sym, ap, arith, false, All, replicate, append-nil, length-append}
use Rattle.std.proofs.lemmas.List.{length-replicate}
use Rattle.std.proofs.lemmas.List.Elements.{All-cons, All-replicate}
use Rattle.octets.specs.declared.tag.Class.TheVariants.{Universal}
use Rattle.octets.specs.Length.{IsShortestLength, IsLengthUnder}
use Rattle.octets.specs.Rule.{Rule, ber, cer, der}
use Rattle.octets.proofs.LengthLemmas.{IsShortestLength-from_digits}
use Rattle.types.specs.Form.{IsPrimitive}
use Rattle.types.specs.Depth.{IsNested}
use Rattle.types.specs.Encoding.{IsEncoding, IsAccepted}
use Rattle.types.specs.Stream.{IsStream}
use Rattle.types.proofs.DepthLemmas.{nested_one}
use Rattle.types.proofs.FormInstances.{universal, low_tag, one_octet}
use Rattle.types.proofs.OctetSegmentInstances.{usable_octet}
use Rattle.types.proofs.StringInstances.{octet_string, octets_of}

-- so many octets 00
pub zeros : ℕ → List ℕ
zeros n = replicate n 0x00

pub length-zeros : (n : ℕ) → length (zeros n) ≡ n
unfolding zeros
length-zeros n = length-replicate {A = ℕ} n 0x00

pub below-zeros : (n : ℕ) → All (λ o. o < 256) (zeros n)
unfolding zeros
below-zeros n = All-replicate {X = ℕ} (λ o. o < 256) n 0x00 (omega arith)

-- the length octets 83 0F FF and one more say 1,048,320 and that octet
pub long_length : (n last : ℕ) → last < 256 → 1048320 + last ≡ n → IsShortestLength n (0x83 ∷ 0x0F ∷ 0xFF ∷ last ∷ [])
long_length n last below is =
    let once : 256 ^ 2 ≡ 65536 = refl in
    IsShortestLength-from_digits n 2 (0x0F ∷ 0xFF ∷ last ∷ []) (0x83 ∷ 0x0F ∷ 0xFF ∷ last ∷ []) (omega (arith, is)) (omega (arith, is)) refl (omega arith)
    (All-cons (λ d. d < 256) 0x0F (0xFF ∷ last ∷ []) (omega arith) (All-cons (λ d. d < 256) 0xFF (last ∷ []) (omega arith) (one_octet last below)))
    (omega (arith, is))
    refl

length_under : (rule : Rule) (n last : ℕ) → last < 256 → 1048320 + last ≡ n → IsLengthUnder rule n (0x83 ∷ 0x0F ∷ 0xFF ∷ last ∷ [])
length_under ber n last below is = (long_length n last below is).form
length_under cer n last below is = long_length n last below is
length_under der n last below is = long_length n last below is

-- an OCTET STRING of so many octets in one primitive encoding, under BER and DER
module _ (d : List ℕ) (last : ℕ) (low : last < 256) (size : 1048320 + last ≡ length d) where
  long_primitive : (rule : Rule) → IsPrimitive rule (universal 4) d (0x04 ∷ 0x83 ∷ 0x0F ∷ 0xFF ∷ last ∷ d)
  long_primitive rule = record { identifier = 0x04 ∷ []; size = 0x83 ∷ 0x0F ∷ 0xFF ∷ last ∷ []; tagged = low_tag Universal 4 false (omega arith); sized = length_under rule (length d) last low size; joined = refl }

  pub long_string-ber : All (λ o. o < 256) d → IsEncoding ber (octet_string (universal 4)) (octets_of d) (0x04 ∷ 0x83 ∷ 0x0F ∷ 0xFF ∷ last ∷ d)
  long_string-ber below = record { string_octets = d; is = refl; conforms = below; string = inl record { contents = d; holds = refl; primitive = long_primitive ber } }

  pub long_string-der : All (λ o. o < 256) d → IsEncoding der (octet_string (universal 4)) (octets_of d) (0x04 ∷ 0x83 ∷ 0x0F ∷ 0xFF ∷ last ∷ d)
  long_string-der below = record { string_octets = d; is = refl; conforms = below; string = record { contents = d; holds = refl; primitive = long_primitive der } }

  pub long_depth : (n : ℕ) → IsNested n (0x04 ∷ 0x83 ∷ 0x0F ∷ 0xFF ∷ last ∷ d)
  long_depth n = nested_one ber n (universal 4) d (0x04 ∷ 0x83 ∷ 0x0F ∷ 0xFF ∷ last ∷ d) usable_octet (long_primitive ber)

-- the longest that are accepted have 1,048,576 octets, and two of them are a stream of 2,097,152
abbrev longest : List ℕ → List ℕ
longest d = 0x04 ∷ 0x83 ∷ 0x0F ∷ 0xFF ∷ 0xFB ∷ d

longest-ber : (d : List ℕ) → length d ≡ 1048571 → All (λ o. o < 256) d → IsAccepted ber (octet_string (universal 4)) (octets_of d) (longest d)
longest-ber d size below =
    record { encoding = long_string-ber d 0xFB (omega arith) (omega (arith, size)) below; depth = long_depth d 0xFB (omega arith) (omega (arith, size)) 64; size = omega (arith, size) }

longest-der : (d : List ℕ) → length d ≡ 1048571 → All (λ o. o < 256) d → IsAccepted der (octet_string (universal 4)) (octets_of d) (longest d)
longest-der d size below =
    record { encoding = long_string-der d 0xFB (omega arith) (omega (arith, size)) below; depth = long_depth d 0xFB (omega arith) (omega (arith, size)) 64; size = omega (arith, size) }

module _ (d e : List ℕ) (size : length d ≡ 1048571) (other : length e ≡ 1048571) (below : All (λ o. o < 256) d) (low : All (λ o. o < 256) e) where
  two_longest-ber : IsStream ber (octet_string (universal 4)) (octets_of d ∷ octets_of e ∷ []) (longest d ++ longest e)
  two_longest-ber = record {
    encodings = longest d ∷ longest e ∷ [];
    each = (longest-ber d size below, (longest-ber e other low, tt));
    whole = ap (λ x. longest d ++ x) (sym (append-nil (longest e)));
  }

  two_longest-der : IsStream der (octet_string (universal 4)) (octets_of d ∷ octets_of e ∷ []) (longest d ++ longest e)
  two_longest-der = record {
    encodings = longest d ∷ longest e ∷ [];
    each = (longest-der d size below, (longest-der e other low, tt));
    whole = ap (λ x. longest d ++ x) (sym (append-nil (longest e)));
  }

  two_longest-size : (length (longest d) ≡ 1048576) × (length (longest e) ≡ 1048576) × (length (longest d ++ longest e) ≡ 2097152)
  two_longest-size = (omega (arith, size), omega (arith, other), omega (arith, length-append (longest d) (longest e), size, other))

-- there are such strings: 1,048,571 octets 00
two_zeros : IsStream der (octet_string (universal 4)) (octets_of (zeros 1048571) ∷ octets_of (zeros 1048571) ∷ []) (longest (zeros 1048571) ++ longest (zeros 1048571))
two_zeros = two_longest-der (zeros 1048571) (zeros 1048571) (length-zeros 1048571) (length-zeros 1048571) (below-zeros 1048571) (below-zeros 1048571)
