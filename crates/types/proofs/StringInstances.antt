-- Encodings of strings that the definitions take under each rule, and octets that they do not (X.690 8.7, 8.23, 9.2 and 10.2).
use Rattle.std.proofs.Common.{◌≡◌, ℕ, ◌+◌, ◌<◌, ◌≤◌, List, [], ◌∷◌, ◌++◌, inl, inr, length, refl, sym, ap, subst, arith, true, false, All, get_or}
use Rattle.std.proofs.lemmas.List.{append-nil}
use Rattle.std.proofs.lemmas.List.Elements.{All-nil, All-cons}
use Rattle.octets.specs.declared.tag.Class.{Class}
use Rattle.octets.specs.declared.tag.Class.TheVariants.{Universal, Context}
use Rattle.octets.specs.declared.tag.Tag.{Tag}
use Rattle.octets.specs.Identifier.{class_bits, form_bit, IsIdentifier}
use Rattle.octets.specs.Rule.{Rule, ber, cer, der, IsCanonical}
use Rattle.strings.specs.Alphabet.{IsVisibleOctet}
use Rattle.strings.specs.declared.text.TextKind.{TextKind}
use Rattle.strings.specs.declared.text.TextKind.TheVariants.{Utf8, Visible}
use Rattle.types.specs.Shape.{StringType, Shape, StringValue, Val}
use Rattle.types.specs.FirstTags.{IsUsable}
use Rattle.types.specs.WellFormed.{IsWellFormed, AreBitsWithin, NumbersDiffer}
use Rattle.types.specs.Conforms.{StringConforms}
use Rattle.types.specs.Form.{IsDefinite, IsConstructed}
use Rattle.types.specs.Strings.{IsStringEncoding, octet_segment, AreOctets, AlwaysWhole}
use Rattle.types.specs.Encoding.{IsEncoding}
use Rattle.types.proofs.FormLemmas.{definite_unique}
use Rattle.types.proofs.NestingLemmas.{definite_not_indefinite, primitive_not_constructed}
use Rattle.types.proofs.OneEncodingLemmas.{one_canonical}
use Rattle.types.proofs.FormInstances.{not_same, universal, context, usable_universal, usable_context, one_octet, low_tag, definite, indefinite}
use Rattle.types.proofs.OctetSegmentInstances.{OctetSegments, octets_first, none_of_none, after_primitive, no_definite_80, no_indefinite_80}

abbrev visible_string : Tag → Shape
visible_string tag = Shape.string tag (StringType.text Visible)

abbrev utf8_string : Shape
utf8_string = Shape.string (universal 12) (StringType.text Utf8)

abbrev pub octet_string : Tag → Shape
octet_string tag = Shape.string tag StringType.octet_string

abbrev text_of : List ℕ → Val
text_of octets = Val.string (StringValue.text octets)

abbrev pub octets_of : List ℕ → Val
octets_of octets = Val.string (StringValue.octets octets)

pub well_formed_string : (tag : Tag) (type : StringType) → IsUsable tag → tag.number ≤ 30 → AreBitsWithin type → NumbersDiffer (Shape.string tag type) → IsWellFormed (Shape.string tag type)
well_formed_string tag type usable low bits differ = record {
  limits = record { nodes = omega arith; levels = omega arith; each = ((omega (arith, low), bits), tt) };
  tags = (usable, tt);
  numbers = (differ, tt);
  defaults = (tt, tt);
}

-- one primitive encoding of few octets
pub few_octets : (rule : Rule) (class : Class) (number : ℕ) (string : List ℕ) → number ≤ 30 → length string < 128
    → IsStringEncoding rule record { class = class; number = number } octet_segment AreOctets AlwaysWhole string ((class_bits class + form_bit false + number) ∷ length string ∷ string)
few_octets ber class number string low few = inl record { contents = string; holds = refl; primitive = definite ber class number false string low few }
few_octets cer class number string low few = inl record { contents = string; holds = refl; short = omega arith; primitive = definite cer class number false string low few }
few_octets der class number string low few = record { contents = string; holds = refl; primitive = definite der class number false string low few }

-- the few octets of a text have this encoding under every rule, and no other under CER and DER
few_text : (rule : Rule) (class : Class) (number : ℕ) (kind : TextKind) (string : List ℕ) → number ≤ 30 → length string < 128 → StringConforms (StringType.text kind) (StringValue.text string)
    → IsEncoding rule (Shape.string record { class = class; number = number } (StringType.text kind)) (text_of string) ((class_bits class + form_bit false + number) ∷ length string ∷ string)
few_text rule class number kind string low few conforms = record { string_octets = string; is = refl; conforms = conforms; string = few_octets rule class number string low few }

only_few : (rule : Rule) (class : Class) (number : ℕ) (kind : TextKind) (string octets : List ℕ) → IsCanonical rule → IsUsable record { class = class; number = number } → number ≤ 30 → length string < 128 → StringConforms (StringType.text kind) (StringValue.text string)
    → IsEncoding rule (Shape.string record { class = class; number = number } (StringType.text kind)) (text_of string) octets → octets ≡ (class_bits class + form_bit false + number) ∷ length string ∷ string
only_few rule class number kind string octets canonical usable low few conforms h =
    let tag : Tag = record { class = class; number = number } in
    one_canonical rule (Shape.string tag (StringType.text kind)) (text_of string) octets ((class_bits class + form_bit false + number) ∷ length string ∷ string)
    (well_formed_string tag (StringType.text kind) usable low tt tt) canonical h (few_text rule class number kind string low few conforms)

-- VisibleString "Jo" is 1A 02 4A 6F under every rule
conforms_4A_6F : All (λ o. o < 256) (0x4A ∷ 0x6F ∷ []) × All IsVisibleOctet (0x4A ∷ 0x6F ∷ [])
conforms_4A_6F = (All-cons (λ o. o < 256) 0x4A (0x6F ∷ []) (omega arith) (one_octet 0x6F (omega arith)), All-cons IsVisibleOctet 0x4A (0x6F ∷ []) (omega arith, omega arith) (All-cons IsVisibleOctet 0x6F [] (omega arith, omega arith) (All-nil IsVisibleOctet)))

visible_4A_6F : (rule : Rule) → IsEncoding rule (visible_string (universal 26)) (text_of (0x4A ∷ 0x6F ∷ [])) (0x1A ∷ 0x02 ∷ 0x4A ∷ 0x6F ∷ [])
visible_4A_6F rule = few_text rule Universal 26 Visible (0x4A ∷ 0x6F ∷ []) (omega arith) (omega arith) conforms_4A_6F

-- 3A 04 04 02 4A 6F and 3A 80 04 02 4A 6F 00 00 under BER alone
octets_4A_6F : OctetSegments (0x4A ∷ 0x6F ∷ []) (0x04 ∷ 0x02 ∷ 0x4A ∷ 0x6F ∷ [])
octets_4A_6F = octets_first (0x4A ∷ 0x6F ∷ []) [] [] (omega arith) none_of_none

visible_4A_6F-cut : IsEncoding ber (visible_string (universal 26)) (text_of (0x4A ∷ 0x6F ∷ [])) (0x3A ∷ 0x04 ∷ 0x04 ∷ 0x02 ∷ 0x4A ∷ 0x6F ∷ [])
visible_4A_6F-cut = record {
  string_octets = 0x4A ∷ 0x6F ∷ [];
  is = refl;
  conforms = conforms_4A_6F;
  string = inr record { contents = 0x04 ∷ 0x02 ∷ 0x4A ∷ 0x6F ∷ []; segments = octets_4A_6F; constructed = inl (definite ber Universal 26 true (0x04 ∷ 0x02 ∷ 0x4A ∷ 0x6F ∷ []) (omega arith) (omega arith)) };
}

visible_4A_6F-indefinite : IsEncoding ber (visible_string (universal 26)) (text_of (0x4A ∷ 0x6F ∷ [])) (0x3A ∷ 0x80 ∷ 0x04 ∷ 0x02 ∷ 0x4A ∷ 0x6F ∷ 0x00 ∷ 0x00 ∷ [])
visible_4A_6F-indefinite = record {
  string_octets = 0x4A ∷ 0x6F ∷ [];
  is = refl;
  conforms = conforms_4A_6F;
  string = inr record { contents = 0x04 ∷ 0x02 ∷ 0x4A ∷ 0x6F ∷ []; segments = octets_4A_6F; constructed = inr (indefinite Universal 26 (0x04 ∷ 0x02 ∷ 0x4A ∷ 0x6F ∷ []) (omega arith)) };
}

-- what begins with 3A is no encoding of it under CER and DER
visible_3A : (rule : Rule) (rest : List ℕ) → IsCanonical rule → IsEncoding rule (visible_string (universal 26)) (text_of (0x4A ∷ 0x6F ∷ [])) (0x3A ∷ rest) → ⊥
visible_3A rule rest canonical h =
    not_same 0x1A 0x3A (omega arith) (ap (λ l. get_or l 0 0) (sym (only_few rule Universal 26 Visible (0x4A ∷ 0x6F ∷ []) (0x3A ∷ rest) canonical (usable_universal 26 (omega arith)) (omega arith) (omega arith) conforms_4A_6F h)))

-- a constructed encoding of the definite form is around segments
segments_of : (tag : Tag) (string held contents octets : List ℕ) → OctetSegments string held → IsConstructed ber tag held octets → IsDefinite ber tag true contents octets → OctetSegments string contents
segments_of tag string held contents octets k (inl w) f =
    let same = definite_unique ber ber tag tag true true held contents octets octets [] [] w f refl in
    subst (OctetSegments string) same.contents k
segments_of tag string held contents octets k (inr w) f = absurd (definite_not_indefinite tag tag true contents held octets octets [] [] f w refl)

segments_within : (tag : Tag) (string contents octets : List ℕ) → IsStringEncoding ber tag octet_segment AreOctets AlwaysWhole string octets → IsDefinite ber tag true contents octets → OctetSegments string contents
segments_within tag string contents octets (inl h) f = absurd (primitive_not_constructed tag tag h.contents contents octets octets [] [] h.primitive (inl f) refl)
segments_within tag string contents octets (inr h) f = segments_of tag string h.contents contents octets h.segments h.constructed f

-- 3A 04 1A 02 4A 6F is none under BER either: the segments are those of an OCTET STRING
no_octets_of_tag : (class : Class) (number : ℕ) (string held : List ℕ) → number ≤ 30 → length held < 128 → IsUsable record { class = class; number = number } → (octet_segment ≡ record { class = class; number = number } → ⊥)
    → OctetSegments string ((class_bits class + form_bit false + number) ∷ length held ∷ held) → ⊥
no_octets_of_tag class number string held low few usable other h =
    let octets = (class_bits class + form_bit false + number) ∷ length held ∷ held in
    other (after_primitive octet_segment AreOctets AlwaysWhole record { class = class; number = number } held octets [] octets string usable (definite ber class number false held low few) (sym (append-nil octets)) h).same

visible_4A_6F-own_tag : IsEncoding ber (visible_string (universal 26)) (text_of (0x4A ∷ 0x6F ∷ [])) (0x3A ∷ 0x04 ∷ 0x1A ∷ 0x02 ∷ 0x4A ∷ 0x6F ∷ []) → ⊥
visible_4A_6F-own_tag h =
    let segments = segments_within (universal 26) h.string_octets (0x1A ∷ 0x02 ∷ 0x4A ∷ 0x6F ∷ []) (0x3A ∷ 0x04 ∷ 0x1A ∷ 0x02 ∷ 0x4A ∷ 0x6F ∷ []) h.string (definite ber Universal 26 true (0x1A ∷ 0x02 ∷ 0x4A ∷ 0x6F ∷ []) (omega arith) (omega arith)) in
    no_octets_of_tag Universal 26 h.string_octets (0x4A ∷ 0x6F ∷ []) (omega arith) (omega arith) (λ u none. absurd (omega arith)) (λ same. not_same 4 26 (omega arith) (ap (λ (t : Tag). t.number) same)) segments

-- nor is 1A 80 04 02 4A 6F 00 00: a primitive encoding has a definite length
no_string_80 : (tag : Tag) (string identifier more : List ℕ) → IsIdentifier tag false identifier → IsStringEncoding ber tag octet_segment AreOctets AlwaysWhole string (identifier ++ (0x80 ∷ more)) → ⊥
no_string_80 tag string identifier more tagged (inl h) = no_definite_80 tag tag false identifier h.contents (identifier ++ (0x80 ∷ more)) [] more tagged h.primitive (append-nil (identifier ++ (0x80 ∷ more)))
no_string_80 tag string identifier more tagged (inr h) =
    elim h.constructed [
      | inl w ↦ no_definite_80 tag tag true identifier h.contents (identifier ++ (0x80 ∷ more)) [] more tagged w (append-nil (identifier ++ (0x80 ∷ more)))
      | inr w ↦ no_indefinite_80 tag tag identifier h.contents (identifier ++ (0x80 ∷ more)) [] (0x80 ∷ more) tagged w (append-nil (identifier ++ (0x80 ∷ more)))
    ]

visible_4A_6F-no_length : IsEncoding ber (visible_string (universal 26)) (text_of (0x4A ∷ 0x6F ∷ [])) (0x1A ∷ 0x80 ∷ 0x04 ∷ 0x02 ∷ 0x4A ∷ 0x6F ∷ 0x00 ∷ 0x00 ∷ []) → ⊥
visible_4A_6F-no_length h = no_string_80 (universal 26) h.string_octets (0x1A ∷ []) (0x04 ∷ 0x02 ∷ 0x4A ∷ 0x6F ∷ 0x00 ∷ 0x00 ∷ []) (low_tag Universal 26 false (omega arith)) h.string

-- under [0] IMPLICIT the string takes another tag, A0 04 04 02 4A 6F, and its segments do not, A0 04 80 02 4A 6F
visible_0 : IsEncoding ber (visible_string (context 0)) (text_of (0x4A ∷ 0x6F ∷ [])) (0xA0 ∷ 0x04 ∷ 0x04 ∷ 0x02 ∷ 0x4A ∷ 0x6F ∷ [])
visible_0 = record {
  string_octets = 0x4A ∷ 0x6F ∷ [];
  is = refl;
  conforms = conforms_4A_6F;
  string = inr record { contents = 0x04 ∷ 0x02 ∷ 0x4A ∷ 0x6F ∷ []; segments = octets_4A_6F; constructed = inl (definite ber Context 0 true (0x04 ∷ 0x02 ∷ 0x4A ∷ 0x6F ∷ []) (omega arith) (omega arith)) };
}

visible_0-own_tag : IsEncoding ber (visible_string (context 0)) (text_of (0x4A ∷ 0x6F ∷ [])) (0xA0 ∷ 0x04 ∷ 0x80 ∷ 0x02 ∷ 0x4A ∷ 0x6F ∷ []) → ⊥
visible_0-own_tag h =
    let segments = segments_within (context 0) h.string_octets (0x80 ∷ 0x02 ∷ 0x4A ∷ 0x6F ∷ []) (0xA0 ∷ 0x04 ∷ 0x80 ∷ 0x02 ∷ 0x4A ∷ 0x6F ∷ []) h.string (definite ber Context 0 true (0x80 ∷ 0x02 ∷ 0x4A ∷ 0x6F ∷ []) (omega arith) (omega arith)) in
    no_octets_of_tag Context 0 h.string_octets (0x4A ∷ 0x6F ∷ []) (omega arith) (omega arith) (λ u. cc) (λ same. not_same 0 4 (omega arith) (ap (λ (t : Tag). t.number) (sym same))) segments

visible_0-canonical : (rule : Rule) (rest : List ℕ) → IsCanonical rule → IsEncoding rule (visible_string (context 0)) (text_of (0x4A ∷ 0x6F ∷ [])) (0xA0 ∷ rest) → ⊥
visible_0-canonical rule rest canonical h =
    not_same 0x80 0xA0 (omega arith) (ap (λ l. get_or l 0 0) (sym (only_few rule Context 0 Visible (0x4A ∷ 0x6F ∷ []) (0xA0 ∷ rest) canonical (usable_context 0) (omega arith) (omega arith) conforms_4A_6F h)))

-- an OCTET STRING without octets is 04 00 under every rule, and 24 00 and 24 80 00 00 under BER alone
no_octets : (rule : Rule) → IsEncoding rule (octet_string (universal 4)) (octets_of []) (0x04 ∷ 0x00 ∷ [])
no_octets rule = record { string_octets = []; is = refl; conforms = All-nil (λ o. o < 256); string = few_octets rule Universal 4 [] (omega arith) (omega arith) }

no_octets-24_00 : IsEncoding ber (octet_string (universal 4)) (octets_of []) (0x24 ∷ 0x00 ∷ [])
no_octets-24_00 = record {
  string_octets = [];
  is = refl;
  conforms = All-nil (λ o. o < 256);
  string = inr record { contents = []; segments = none_of_none; constructed = inl (definite ber Universal 4 true [] (omega arith) (omega arith)) };
}

no_octets-24_80 : IsEncoding ber (octet_string (universal 4)) (octets_of []) (0x24 ∷ 0x80 ∷ 0x00 ∷ 0x00 ∷ [])
no_octets-24_80 = record {
  string_octets = [];
  is = refl;
  conforms = All-nil (λ o. o < 256);
  string = inr record { contents = []; segments = none_of_none; constructed = inr (indefinite Universal 4 [] (omega arith)) };
}

no_octets-canonical : (rule : Rule) (rest : List ℕ) → IsCanonical rule → IsEncoding rule (octet_string (universal 4)) (octets_of []) (0x24 ∷ rest) → ⊥
no_octets-canonical rule rest canonical h =
    let well = well_formed_string (universal 4) StringType.octet_string (usable_universal 4 (omega arith)) (omega arith) tt tt in
    let same = one_canonical rule (octet_string (universal 4)) (octets_of []) (0x24 ∷ rest) (0x04 ∷ 0x00 ∷ []) well canonical h (no_octets rule) in
    not_same 0x04 0x24 (omega arith) (ap (λ l. get_or l 0 0) (sym same))

-- UTF8String C3 A9 is under BER alone 2C 06 04 01 C3 04 01 A9: its characters are those of the whole, and not of each segment
conforms_C3_A9 : StringConforms (StringType.text Utf8) (StringValue.text (0xC3 ∷ 0xA9 ∷ []))
unfolding lib.Utf8.encode
conforms_C3_A9 = (All-cons (λ o. o < 256) 0xC3 (0xA9 ∷ []) (omega arith) (one_octet 0xA9 (omega arith)), (0xE9 ∷ [], (refl, refl)))

utf8_C3_A9 : IsEncoding ber utf8_string (text_of (0xC3 ∷ 0xA9 ∷ [])) (0x2C ∷ 0x06 ∷ 0x04 ∷ 0x01 ∷ 0xC3 ∷ 0x04 ∷ 0x01 ∷ 0xA9 ∷ [])
utf8_C3_A9 = record {
  string_octets = 0xC3 ∷ 0xA9 ∷ [];
  is = refl;
  conforms = conforms_C3_A9;
  string = inr record {
    contents = 0x04 ∷ 0x01 ∷ 0xC3 ∷ 0x04 ∷ 0x01 ∷ 0xA9 ∷ [];
    segments = octets_first (0xC3 ∷ []) (0xA9 ∷ []) (0x04 ∷ 0x01 ∷ 0xA9 ∷ []) (omega arith) (octets_first (0xA9 ∷ []) [] [] (omega arith) none_of_none);
    constructed = inl (definite ber Universal 12 true (0x04 ∷ 0x01 ∷ 0xC3 ∷ 0x04 ∷ 0x01 ∷ 0xA9 ∷ []) (omega arith) (omega arith));
  };
}

utf8_C3_A9-canonical : (rule : Rule) (rest : List ℕ) → IsCanonical rule → IsEncoding rule utf8_string (text_of (0xC3 ∷ 0xA9 ∷ [])) (0x2C ∷ rest) → ⊥
utf8_C3_A9-canonical rule rest canonical h =
    not_same 0x0C 0x2C (omega arith) (ap (λ l. get_or l 0 0) (sym (only_few rule Universal 12 Utf8 (0xC3 ∷ 0xA9 ∷ []) (0x2C ∷ rest) canonical (usable_universal 12 (omega arith)) (omega arith) (omega arith) conforms_C3_A9 h)))
