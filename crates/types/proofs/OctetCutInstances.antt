-- OCTET STRING values that CER cuts into segments of 1000 contents octets, and cuts that it does not take (X.690 9.2).
use Rattle.std.proofs.Common.{◌≡◌, ℕ, ◌+◌, ◌^◌, ◌<◌, ◌≤◌, List, [], ◌∷◌, ◌++◌, inl, inr, length, refl, sym, ap, subst, arith, true, false, All, get_or, replicate, length-append}
use Rattle.std.proofs.lemmas.List.{length-replicate}
use Rattle.std.proofs.lemmas.List.Elements.{All-cons, All-append, All-replicate}
use Rattle.octets.specs.declared.tag.Class.{Class}
use Rattle.octets.specs.declared.tag.Class.TheVariants.{Universal, Context}
use Rattle.octets.specs.Identifier.{class_bits, form_bit}
use Rattle.octets.specs.Length.{IsShortestLength}
use Rattle.octets.specs.Rule.{cer}
use Rattle.octets.proofs.LengthLemmas.{IsShortestLength-from_digits}
use Rattle.octets.proofs.RuleLemmas.{cer_is_canonical}
use Rattle.types.specs.Shape.{StringType}
use Rattle.types.specs.FirstTags.{IsUsable}
use Rattle.types.specs.Form.{IsPrimitive}
use Rattle.types.specs.Strings.{AreCerSegments, octet_segment, AreOctets, AlwaysWhole}
use Rattle.types.specs.Encoding.{IsEncoding}
use Rattle.types.proofs.OneEncodingLemmas.{one_canonical}
use Rattle.types.proofs.FormInstances.{not_same, universal, context, low_tag, definite, indefinite, one_octet}
use Rattle.types.proofs.OctetSegmentInstances.{usable_octet}
use Rattle.types.proofs.StringInstances.{octet_string, octets_of, well_formed_string}

-- 82 03 E8 is the shortest length of 1000
length_1000 : IsShortestLength 1000 (0x82 ∷ 0x03 ∷ 0xE8 ∷ [])
length_1000 =
    let once : 256 ^ 1 ≡ 256 = refl in
    IsShortestLength-from_digits 1000 1 (0x03 ∷ 0xE8 ∷ []) (0x82 ∷ 0x03 ∷ 0xE8 ∷ []) (omega arith) (omega arith) refl (omega arith)
    (All-cons (λ d. d < 256) 0x03 (0xE8 ∷ []) (omega arith) (one_octet 0xE8 (omega arith)))
    refl
    refl

-- a primitive encoding of 1000 contents octets
pub full : (class : Class) (number : ℕ) (contents : List ℕ) → number ≤ 30 → length contents ≡ 1000
    → IsPrimitive cer record { class = class; number = number } contents ((class_bits class + form_bit false + number) ∷ 0x82 ∷ 0x03 ∷ 0xE8 ∷ contents)
full class number contents low size = record {
  identifier = (class_bits class + form_bit false + number) ∷ [];
  size = 0x82 ∷ 0x03 ∷ 0xE8 ∷ [];
  tagged = low_tag class number false low;
  sized = subst (λ n. IsShortestLength n (0x82 ∷ 0x03 ∷ 0xE8 ∷ [])) (sym size) length_1000;
  joined = refl;
}

-- segments of an OCTET STRING: of 1000 octets, and of one
abbrev octets_1000 : List ℕ → List ℕ
octets_1000 data_octets = 0x04 ∷ 0x82 ∷ 0x03 ∷ 0xE8 ∷ data_octets

abbrev octets_1 : ℕ → List ℕ
octets_1 octet = 0x04 ∷ 0x01 ∷ octet ∷ []

-- the indefinite form after its identifier octet
abbrev pub indefinite_around : List ℕ → List ℕ
indefinite_around contents = 0x80 ∷ (contents ++ (0x00 ∷ 0x00 ∷ []))

-- 1000 octets are one primitive encoding
primitive_1000 : (d : List ℕ) → length d ≡ 1000 → All (λ o. o < 256) d → IsEncoding cer (octet_string (universal 4)) (octets_of d) (octets_1000 d)
primitive_1000 d size below = record {
  string_octets = d;
  is = refl;
  conforms = below;
  string = inl record { contents = d; holds = refl; short = omega (arith, size); primitive = full Universal 4 d (omega arith) size };
}

-- 1001 octets are 24 80, 1000 octets, one octet, 00 00, and under [0] IMPLICIT A0 80 around the same segments
cut_segments : (d : List ℕ) (e : ℕ) → length d ≡ 1000 → AreCerSegments octet_segment AreOctets AlwaysWhole (d ++ (e ∷ [])) (octets_1000 d ++ octets_1 e)
cut_segments d e size =
    AreCerSegments.more d d (octets_1000 d) refl tt size (full Universal 4 d (omega arith) size)
    (AreCerSegments.last (e ∷ []) (e ∷ []) (octets_1 e) refl (λ none. cc) (omega arith) (definite cer Universal 4 false (e ∷ []) (omega arith) (omega arith)))

cut_string : (class : Class) (number : ℕ) (string segments : List ℕ) → number ≤ 30 → 1000 < length string → All (λ o. o < 256) string → AreCerSegments octet_segment AreOctets AlwaysWhole string segments
    → IsEncoding cer (octet_string record { class = class; number = number }) (octets_of string) ((class_bits class + form_bit true + number) ∷ indefinite_around segments)
cut_string class number string segments low many below held = record {
  string_octets = string;
  is = refl;
  conforms = below;
  string = inr record { long = λ contents same. omega (arith, ap length same, many); segments_octets = segments; segments = held; constructed = indefinite class number segments low };
}

below_1001 : (d : List ℕ) (e : ℕ) → All (λ o. o < 256) d → e < 256 → All (λ o. o < 256) (d ++ (e ∷ []))
below_1001 d e below low = All-append (λ o. o < 256) d (e ∷ []) below (one_octet e low)

cut_1001 : (d : List ℕ) (e : ℕ) → length d ≡ 1000 → All (λ o. o < 256) d → e < 256 → IsEncoding cer (octet_string (universal 4)) (octets_of (d ++ (e ∷ []))) (0x24 ∷ indefinite_around (octets_1000 d ++ octets_1 e))
cut_1001 d e size below low = cut_string Universal 4 (d ++ (e ∷ [])) (octets_1000 d ++ octets_1 e) (omega arith) (omega (arith, length-append d (e ∷ []), size)) (below_1001 d e below low) (cut_segments d e size)

cut_1001-implicit : (d : List ℕ) (e : ℕ) → length d ≡ 1000 → All (λ o. o < 256) d → e < 256 → IsEncoding cer (octet_string (context 0)) (octets_of (d ++ (e ∷ []))) (0xA0 ∷ indefinite_around (octets_1000 d ++ octets_1 e))
cut_1001-implicit d e size below low = cut_string Context 0 (d ++ (e ∷ [])) (octets_1000 d ++ octets_1 e) (omega arith) (omega (arith, length-append d (e ∷ []), size)) (below_1001 d e below low) (cut_segments d e size)

-- there are such strings: 1001 octets AA
AA_1000 : List ℕ
AA_1000 = replicate 1000 0xAA

length-AA_1000 : length AA_1000 ≡ 1000
unfolding AA_1000
length-AA_1000 = length-replicate {A = ℕ} 1000 0xAA

below-AA_1000 : All (λ o. o < 256) AA_1000
unfolding AA_1000
below-AA_1000 = All-replicate {X = ℕ} (λ o. o < 256) 1000 0xAA (omega arith)

AA_1001 : length (AA_1000 ++ (0xAA ∷ [])) ≡ 1001
AA_1001 = omega (arith, length-append AA_1000 (0xAA ∷ []), length-AA_1000)

cut-AA_1001 : IsEncoding cer (octet_string (universal 4)) (octets_of (AA_1000 ++ (0xAA ∷ []))) (0x24 ∷ indefinite_around (octets_1000 AA_1000 ++ octets_1 0xAA))
cut-AA_1001 = cut_1001 AA_1000 0xAA length-AA_1000 below-AA_1000 (omega arith)

-- 2000 octets are two segments of 1000
cut_2000 : (d f : List ℕ) → length d ≡ 1000 → length f ≡ 1000 → All (λ o. o < 256) d → All (λ o. o < 256) f → IsEncoding cer (octet_string (universal 4)) (octets_of (d ++ f)) (0x24 ∷ indefinite_around (octets_1000 d ++ octets_1000 f))
cut_2000 d f size other below low =
    cut_string Universal 4 (d ++ f) (octets_1000 d ++ octets_1000 f) (omega arith) (omega (arith, length-append d f, size, other)) (All-append (λ o. o < 256) d f below low)
    (AreCerSegments.more d d (octets_1000 d) refl tt size (full Universal 4 d (omega arith) size)
    (AreCerSegments.last f f (octets_1000 f) refl (λ none. absurd (omega (arith, other, ap length none))) (omega (arith, other)) (full Universal 4 f (omega arith) other)))

-- and so not in other octets
octets_once : (class : Class) (number : ℕ) (string a b : List ℕ) → IsUsable record { class = class; number = number } → number ≤ 30 → IsEncoding cer (octet_string record { class = class; number = number }) (octets_of string) a
    → IsEncoding cer (octet_string record { class = class; number = number }) (octets_of string) b → a ≡ b
octets_once class number string a b usable low h k = one_canonical cer (octet_string record { class = class; number = number }) (octets_of string) a b (well_formed_string record { class = class; number = number } StringType.octet_string usable low tt tt) cer_is_canonical h k

-- 1000 octets are not cut
cut_1000 : (d : List ℕ) → length d ≡ 1000 → All (λ o. o < 256) d → IsEncoding cer (octet_string (universal 4)) (octets_of d) (0x24 ∷ indefinite_around (octets_1000 d)) → ⊥
cut_1000 d size below h =
    let same = octets_once Universal 4 d (0x24 ∷ indefinite_around (octets_1000 d)) (octets_1000 d) usable_octet (omega arith) h (primitive_1000 d size below) in
    not_same 0x04 0x24 (omega arith) (ap (λ l. get_or l 0 0) (sym same))

module _ (d : List ℕ) (e : ℕ) (size : length d ≡ 1000) (below : All (λ o. o < 256) d) (low : e < 256) where
  only_1001 : (octets : List ℕ) → IsEncoding cer (octet_string (universal 4)) (octets_of (d ++ (e ∷ []))) octets → octets ≡ 0x24 ∷ indefinite_around (octets_1000 d ++ octets_1 e)
  only_1001 octets h = octets_once Universal 4 (d ++ (e ∷ [])) octets (0x24 ∷ indefinite_around (octets_1000 d ++ octets_1 e)) usable_octet (omega arith) h (cut_1001 d e size below low)

  -- 1001 octets are not primitive, nor in the definite form
  primitive_1001 : (rest : List ℕ) → IsEncoding cer (octet_string (universal 4)) (octets_of (d ++ (e ∷ []))) (0x04 ∷ rest) → ⊥
  primitive_1001 rest h = not_same 0x04 0x24 (omega arith) (ap (λ l. get_or l 0 0) (only_1001 (0x04 ∷ rest) h))

  definite_1001 : IsEncoding cer (octet_string (universal 4)) (octets_of (d ++ (e ∷ []))) (0x24 ∷ 0x82 ∷ 0x03 ∷ 0xEF ∷ (octets_1000 d ++ octets_1 e)) → ⊥
  definite_1001 h = not_same 0x80 0x82 (omega arith) (ap (λ l. get_or l 1 0) (sym (only_1001 (0x24 ∷ 0x82 ∷ 0x03 ∷ 0xEF ∷ (octets_1000 d ++ octets_1 e)) h)))

  -- not the one octet before the 1000, not 500 and 501, not 1001 in one segment
  turned_1001 : (x : ℕ) (y : List ℕ) → IsEncoding cer (octet_string (universal 4)) (octets_of (d ++ (e ∷ []))) (0x24 ∷ indefinite_around (octets_1 x ++ octets_1000 y)) → ⊥
  turned_1001 x y h = not_same 0x01 0x82 (omega arith) (ap (λ l. get_or l 3 0) (only_1001 (0x24 ∷ indefinite_around (octets_1 x ++ octets_1000 y)) h))

  halves_1001 : (x y : List ℕ) → IsEncoding cer (octet_string (universal 4)) (octets_of (d ++ (e ∷ []))) (0x24 ∷ indefinite_around (0x04 ∷ 0x82 ∷ 0x01 ∷ 0xF4 ∷ (x ++ (0x04 ∷ 0x82 ∷ 0x01 ∷ 0xF5 ∷ y)))) → ⊥
  halves_1001 x y h = not_same 0x01 0x03 (omega arith) (ap (λ l. get_or l 4 0) (only_1001 (0x24 ∷ indefinite_around (0x04 ∷ 0x82 ∷ 0x01 ∷ 0xF4 ∷ (x ++ (0x04 ∷ 0x82 ∷ 0x01 ∷ 0xF5 ∷ y)))) h))

  uncut_1001 : IsEncoding cer (octet_string (universal 4)) (octets_of (d ++ (e ∷ []))) (0x24 ∷ indefinite_around (0x04 ∷ 0x82 ∷ 0x03 ∷ 0xE9 ∷ (d ++ (e ∷ [])))) → ⊥
  uncut_1001 h = not_same 0xE8 0xE9 (omega arith) (ap (λ l. get_or l 5 0) (sym (only_1001 (0x24 ∷ indefinite_around (0x04 ∷ 0x82 ∷ 0x03 ∷ 0xE9 ∷ (d ++ (e ∷ [])))) h)))

  -- nor with a length that is not the shortest, nor the last segment constructed, nor an empty one after it
  long_length_1001 : IsEncoding cer (octet_string (universal 4)) (octets_of (d ++ (e ∷ []))) (0x24 ∷ indefinite_around (0x04 ∷ 0x83 ∷ 0x00 ∷ 0x03 ∷ 0xE8 ∷ (d ++ octets_1 e))) → ⊥
  long_length_1001 h = not_same 0x82 0x83 (omega arith) (ap (λ l. get_or l 3 0) (sym (only_1001 (0x24 ∷ indefinite_around (0x04 ∷ 0x83 ∷ 0x00 ∷ 0x03 ∷ 0xE8 ∷ (d ++ octets_1 e))) h)))

  constructed_1001 : IsEncoding cer (octet_string (universal 4)) (octets_of (d ++ (e ∷ []))) (0x24 ∷ indefinite_around (octets_1000 d ++ (0x24 ∷ indefinite_around (octets_1 e)))) → ⊥
  constructed_1001 h =
      let longer = ap length (only_1001 (0x24 ∷ indefinite_around (octets_1000 d ++ (0x24 ∷ indefinite_around (octets_1 e)))) h) in
      absurd (omega (arith, simp length-append at longer))

  -- under [0] IMPLICIT the segments keep their tag
  own_tag_1001 : IsEncoding cer (octet_string (context 0)) (octets_of (d ++ (e ∷ []))) (0xA0 ∷ indefinite_around (0x80 ∷ 0x82 ∷ 0x03 ∷ 0xE8 ∷ (d ++ (0x80 ∷ 0x01 ∷ e ∷ [])))) → ⊥
  own_tag_1001 h =
      let same = octets_once Context 0 (d ++ (e ∷ [])) (0xA0 ∷ indefinite_around (0x80 ∷ 0x82 ∷ 0x03 ∷ 0xE8 ∷ (d ++ (0x80 ∷ 0x01 ∷ e ∷ [])))) (0xA0 ∷ indefinite_around (octets_1000 d ++ octets_1 e)) (λ u. cc) (omega arith) h (cut_1001-implicit d e size below low) in
      not_same 0x04 0x80 (omega arith) (ap (λ l. get_or l 2 0) (sym same))

-- no empty segment follows two of 1000
empty_after_2000 : (d f : List ℕ) → length d ≡ 1000 → length f ≡ 1000 → All (λ o. o < 256) d → All (λ o. o < 256) f
    → IsEncoding cer (octet_string (universal 4)) (octets_of (d ++ f)) (0x24 ∷ indefinite_around (octets_1000 d ++ (octets_1000 f ++ (0x04 ∷ 0x00 ∷ [])))) → ⊥
empty_after_2000 d f size other below low h =
    let same = octets_once Universal 4 (d ++ f) (0x24 ∷ indefinite_around (octets_1000 d ++ (octets_1000 f ++ (0x04 ∷ 0x00 ∷ [])))) (0x24 ∷ indefinite_around (octets_1000 d ++ octets_1000 f)) usable_octet (omega arith) h (cut_2000 d f size other below low) in
    let longer = ap length same in
    absurd (omega (arith, simp length-append at longer))
