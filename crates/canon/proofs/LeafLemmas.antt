-- Lemmas on strings by the octets that they are made of, and on other values without parts.
use Rattle.std.proofs.Common.{◌≡◌, ◌⊎◌, inl, inr, ℕ, ◌+◌, ◌*◌, ◌<◌, ◌≤◌, List, [], ◌∷◌, ◌++◌, Bool, false, Vec, Global, length, take, drop, refl, sym, ◌∙◌, ap, subst, arith, All, replicate, append_assoc, append-nil, length-append}
use Rattle.std.proofs.lemmas.List.{take-append-drop, length-take-le, length-replicate}
use Rattle.std.proofs.lemmas.List.Elements.{All-cons, All-tail}
use Rattle.octets.specs.declared.canonical.Canonical.{Canonical}
use Rattle.octets.specs.declared.canonical.Canonical.TheVariants.{Cer, Der}
use Rattle.octets.specs.declared.TheConstants.{MAX_TAG_NUMBER}
use Rattle.octets.specs.declared.tag.Tag.{Tag}
use Rattle.octets.specs.Rule.{Rule, cer, der, IsCanonical, rule_of}
use Rattle.octets.proofs.RuleLemmas.{cer_is_canonical}
use Rattle.primitives.specs.Bits.{bits_of, IsBits, IsPadded}
use Rattle.primitives.proofs.BitsLemmas.{length-bits_of, bits_of-append, IsBits-from_padded}
use Rattle.types.specs.Shape.{SimpleType, StringType, SimpleValue, StringValue, Shape, Val}
use Rattle.types.specs.Conforms.{Conforms, SimpleConforms, StringConforms}
use Rattle.types.specs.Contents.{IsContents}
use Rattle.types.specs.View.{value_view}
use Rattle.types.specs.declared.value.Value.{Value}
use Rattle.types.specs.declared.value.Value as value_is
use Rattle.types.proofs.ViewLemmas.{value-Bits, value-Octets, value-Text}
use Rattle.types.specs.Form.{IsPrimitive}
use Rattle.types.specs.Encoding.{IsEncoding, IsOctetStringEncoding}
use Rattle.types.specs.Strings.{AreCerSegments, IsStringEncoding, bit_segment, octet_segment, IsWholeOctets, AreOctets, AlwaysWhole}
use Rattle.types.proofs.CerLemmas.{same_fronts, bits_by_der, bits_by_cer, one_der_bits}
use Rattle.types.proofs.EncodingLemmas.{simple-injective}
use Rattle.types.proofs.OneLeafEncodingLemmas.{one_string}
use Rattle.canon.specs.Leaf.{IsLeafOf, IsLeafValue, IsSimple, IsWithin, IsSimplyEncoded, IsLeafEncoding}
use Rattle.canon.specs.Size.{HasSize}
use Rattle.canon.specs.Segments.{AreSegmentsOf, IsWholeString, IsCutString, IsStringOf}
use Rattle.canon.proofs.AlikeLemmas.{HoldAlike, size_alike}
use Rattle.canon.proofs.SegmentLemmas.{segments_some, string_exists}

-- the segments of octets
octet_segments : (string octets : List ℕ) → AreSegmentsOf octet_segment [] [] string octets → AreCerSegments octet_segment AreOctets AlwaysWhole string octets
octet_segments string octets (AreSegmentsOf.last s b some few p) = AreCerSegments.last s s b refl (λ empty. absurd (omega (arith, some, ap length empty))) few p
octet_segments string octets (AreSegmentsOf.more {others = others} {rest = rest} s b here p later) = AreCerSegments.more s s b refl tt here p (octet_segments others rest later)

octets_encode : (tag : Tag) (string octets : List ℕ) → IsWholeString tag [] string octets ⊎ IsCutString tag octet_segment [] [] string octets → IsStringEncoding cer tag octet_segment AreOctets AlwaysWhole string octets
octets_encode tag string octets (inl h) = inl (record { contents = string; holds = refl; short = h.short; primitive = h.primitive })
octets_encode tag string octets (inr h) = inr (record {
  long = λ contents same. omega (arith, h.long, ap length same);
  segments_octets = h.cut.segments_octets;
  segments = octet_segments string h.cut.segments_octets h.cut.segments;
  constructed = h.cut.constructed;
})

All-left : (P : ℕ → Type 0) (xs ys : List ℕ) → All P (xs ++ ys) → All P xs
All-left P [] ys h = λ k d below. absurd (omega arith)
All-left P (x ∷ xs) ys h = All-cons P x xs (h 0 0 (omega arith)) (All-left P xs ys (All-tail P x (xs ++ ys) h))

All-right : (P : ℕ → Type 0) (xs ys : List ℕ) → All P (xs ++ ys) → All P ys
All-right P [] ys h = h
All-right P (x ∷ xs) ys h = All-right P xs ys (All-tail P x (xs ++ ys) h)

-- the bits of some octets and of the rest
record ArePadded (bits : List Bool) (front rest : List ℕ) (unused : ℕ) : Type 0 where
  pub back : List Bool
  pub bits_are : bits ≡ bits_of front ++ back
  pub first : IsPadded (bits_of front) front 0
  pub padded : IsPadded back rest unused

ArePadded-from : (bits : List Bool) (front rest : List ℕ) (unused : ℕ) → 1 ≤ length rest → IsPadded bits (front ++ rest) unused → ArePadded bits front rest unused
ArePadded-from bits front rest unused some h =
    let n = length (bits_of front) in
    let zeros = replicate unused false in
    let whole : bits_of front ++ bits_of rest ≡ bits ++ zeros = sym (bits_of-append front rest) ∙ h.bits_are in
    let room : n ≤ length bits = omega (arith, ap length whole, length-append (bits_of front) (bits_of rest), length-append bits zeros, length-replicate unused false, length-bits_of rest, h.at_most_7, some) in
    let split : bits ≡ take n bits ++ drop n bits = sym (take-append-drop n bits) in
    let parts : bits_of front ++ bits_of rest ≡ take n bits ++ (drop n bits ++ zeros) = whole ∙ (ap (λ x. x ++ zeros) split ∙ append_assoc (take n bits) (drop n bits) zeros) in
    let fronts = same_fronts (bits_of front) (take n bits) (bits_of rest) (drop n bits ++ zeros) (sym (length-take-le n bits room)) parts in
    record {
      back = drop n bits;
      bits_are = split ∙ ap (λ x. x ++ drop n bits) (sym fronts.0);
      first = record { at_most_7 = omega arith; below_256 = All-left (λ o. o < 256) front rest h.below_256; bits_are = sym (append-nil (bits_of front)) };
      padded = record { at_most_7 = h.at_most_7; below_256 = All-right (λ o. o < 256) front rest h.below_256; bits_are = fronts.1 };
    }

-- the segments of bits
bit_segments : (unused : ℕ) (bits : List Bool) (string octets : List ℕ) → IsPadded bits string unused → AreSegmentsOf bit_segment (0 ∷ []) (unused ∷ []) string octets → AreCerSegments bit_segment (IsBits cer) IsWholeOctets bits octets
bit_segments unused bits string octets padded (AreSegmentsOf.last s b some few p) =
    let count : 8 * length s ≡ length bits + unused = omega (arith, length-bits_of s, ap length padded.bits_are, length-append bits (replicate unused false), length-replicate unused false) in
    AreCerSegments.last bits (unused ∷ s) b (bits_by_cer bits (unused ∷ s) (IsBits-from_padded der bits s unused padded)) (λ empty. absurd (omega (arith, count, some, padded.at_most_7, ap length empty))) few p
bit_segments unused bits string octets padded (AreSegmentsOf.more {others = others} {rest = rest} s b here p later) =
    let parts = ArePadded-from bits s others unused (segments_some bit_segment (0 ∷ []) (unused ∷ []) others rest later) padded in
    let holds = bits_by_cer (bits_of s) (0 ∷ s) (IsBits-from_padded der (bits_of s) s 0 parts.first) in
    subst (λ x. AreCerSegments bit_segment (IsBits cer) IsWholeOctets x (b ++ rest)) (sym parts.bits_are)
    (AreCerSegments.more (bits_of s) (0 ∷ s) b holds (length s, length-bits_of s) here p (bit_segments unused parts.back others rest parts.padded later))

bits_encode : (tag : Tag) (bits : List Bool) (unused : ℕ) (string octets : List ℕ) → IsPadded bits string unused → IsWholeString tag (unused ∷ []) string octets ⊎ IsCutString tag bit_segment (0 ∷ []) (unused ∷ []) string octets
    → IsStringEncoding cer tag bit_segment (IsBits cer) IsWholeOctets bits octets
bits_encode tag bits unused string octets padded (inl h) = inl (record { contents = unused ∷ string; holds = bits_by_cer bits (unused ∷ string) (IsBits-from_padded der bits string unused padded); short = h.short; primitive = h.primitive })
bits_encode tag bits unused string octets padded (inr h) = inr (record {
  long = λ contents holds. omega (arith, h.long, ap length (one_der_bits bits contents (unused ∷ string) (bits_by_der bits contents holds) (IsBits-from_padded der bits string unused padded)));
  segments_octets = h.cut.segments_octets;
  segments = bit_segments unused bits string h.cut.segments_octets padded h.cut.segments;
  constructed = h.cut.constructed;
})

pub octets_alike : (rule : Canonical) (tag : Tag) (string : List ℕ) → tag.number ≤ MAX_TAG_NUMBER → All (λ octet. octet < 256) string
    → HoldAlike (IsStringOf (rule_of rule) tag octet_segment [] [] string) (IsStringEncoding (rule_of rule) tag octet_segment AreOctets AlwaysWhole string)
octets_alike Cer tag string kept below = record {
  to = octets_encode tag string;
  from = λ b h.
      let other = string_exists tag octet_segment [] [] string kept (omega arith) refl (omega arith) in
      let v = Val.string (StringValue.octets string) in
      let one : b ≡ other.0 = one_string cer tag StringType.octet_string v b other.0 cer_is_canonical
      record { string_octets = string; is = refl; conforms = below; string = h } record { string_octets = string; is = refl; conforms = below; string = octets_encode tag string other.0 other.1 } in
      subst (λ o. IsWholeString tag [] string o ⊎ IsCutString tag octet_segment [] [] string o) (sym one) other.1;
}
octets_alike Der tag string kept below = record {
  to = λ b h. record { contents = string; holds = refl; primitive = h };
  from = λ b h. subst (λ c. IsPrimitive der tag c b) h.holds h.primitive;
}

pub bits_alike : (rule : Canonical) (tag : Tag) (bits : List Bool) (unused : ℕ) (string : List ℕ) → tag.number ≤ MAX_TAG_NUMBER → IsPadded bits string unused
    → HoldAlike (IsStringOf (rule_of rule) tag bit_segment (0 ∷ []) (unused ∷ []) string) (IsStringEncoding (rule_of rule) tag bit_segment (IsBits (rule_of rule)) IsWholeOctets bits)
bits_alike Cer tag bits unused string kept padded = record {
  to = λ b h. bits_encode tag bits unused string b padded h;
  from = λ b h.
      let other = string_exists tag bit_segment (0 ∷ []) (unused ∷ []) string kept (omega arith) refl (omega arith) in
      let v = Val.string (StringValue.bits bits) in
      let one : b ≡ other.0 = one_string cer tag StringType.bit_string v b other.0 cer_is_canonical
      record { bits = bits; is = refl; string = h } record { bits = bits; is = refl; string = bits_encode tag bits unused string other.0 padded other.1 } in
      subst (λ o. IsWholeString tag (unused ∷ []) string o ⊎ IsCutString tag bit_segment (0 ∷ []) (unused ∷ []) string o) (sym one) other.1;
}
bits_alike Der tag bits unused string kept padded = record {
  to = λ b h. record { contents = unused ∷ string; holds = IsBits-from_padded der bits string unused padded; primitive = h };
  from = λ b h. subst (λ c. IsPrimitive der tag c b) (one_der_bits bits h.contents (unused ∷ string) h.holds (IsBits-from_padded der bits string unused padded)) h.primitive;
}

-- of a value of the code
pub bits_size : (rule : Canonical) (tag : Tag) (value : Value) (bits : List Bool) (unused : ℕ) (string : List ℕ) (size : ℕ) → value ≡ value_is.Bits bits → tag.number ≤ MAX_TAG_NUMBER → IsPadded bits string unused
    → HasSize (IsStringOf (rule_of rule) tag bit_segment (0 ∷ []) (unused ∷ []) string) size → HasSize (IsLeafEncoding (rule_of rule) tag (value_view value)) size
bits_size rule tag value bits unused string size is kept padded h =
    subst (λ v. HasSize (IsLeafEncoding (rule_of rule) tag v) size) (sym (ap value_view is ∙ value-Bits bits)) (size_alike _ _ size (bits_alike rule tag bits unused string kept padded) h)

pub octets_size : (rule : Canonical) (tag : Tag) (value : Value) (octets : Vec ℕ Global) (size : ℕ) → (value ≡ value_is.Octets octets) ⊎ (value ≡ value_is.Text octets) → tag.number ≤ MAX_TAG_NUMBER → IsLeafValue (value_view value)
    → HasSize (IsStringOf (rule_of rule) tag octet_segment [] [] octets.items) size → HasSize (IsLeafEncoding (rule_of rule) tag (value_view value)) size
octets_size rule tag value octets size (inl is) kept leaf h =
    let same = ap value_view is ∙ value-Octets octets in
    subst (λ v. HasSize (IsLeafEncoding (rule_of rule) tag v) size) (sym same) (size_alike _ _ size (octets_alike rule tag octets.items kept (subst IsLeafValue same leaf)) h)
octets_size rule tag value octets size (inr is) kept leaf h =
    let same = ap value_view is ∙ value-Text octets in
    subst (λ v. HasSize (IsLeafEncoding (rule_of rule) tag v) size) (sym same) (size_alike _ _ size (octets_alike rule tag octets.items kept (subst IsLeafValue same leaf)) h)

pub bits_put : (rule : Canonical) (tag : Tag) (value : Value) (bits : List Bool) (unused : ℕ) (string : List ℕ) → value ≡ value_is.Bits bits → tag.number ≤ MAX_TAG_NUMBER → IsPadded bits string unused
    → (b : List ℕ) → IsStringOf (rule_of rule) tag bit_segment (0 ∷ []) (unused ∷ []) string b → IsLeafEncoding (rule_of rule) tag (value_view value) b
bits_put rule tag value bits unused string is kept padded b h =
    subst (λ v. IsLeafEncoding (rule_of rule) tag v b) (sym (ap value_view is ∙ value-Bits bits)) ((bits_alike rule tag bits unused string kept padded).to b h)

pub octets_put : (rule : Canonical) (tag : Tag) (value : Value) (octets : Vec ℕ Global) → (value ≡ value_is.Octets octets) ⊎ (value ≡ value_is.Text octets) → tag.number ≤ MAX_TAG_NUMBER → IsLeafValue (value_view value)
    → (b : List ℕ) → IsStringOf (rule_of rule) tag octet_segment [] [] octets.items b → IsLeafEncoding (rule_of rule) tag (value_view value) b
octets_put rule tag value octets (inl is) kept leaf b h =
    let same = ap value_view is ∙ value-Octets octets in
    subst (λ v. IsLeafEncoding (rule_of rule) tag v b) (sym same) ((octets_alike rule tag octets.items kept (subst IsLeafValue same leaf)).to b h)
octets_put rule tag value octets (inr is) kept leaf b h =
    let same = ap value_view is ∙ value-Text octets in
    subst (λ v. IsLeafEncoding (rule_of rule) tag v b) (sym same) ((octets_alike rule tag octets.items kept (subst IsLeafValue same leaf)).to b h)

-- a value that conforms to a type without parts is within the limits
simple_within : (type : SimpleType) (value : SimpleValue) → SimpleConforms type value → IsWithin value
simple_within SimpleType.boolean (SimpleValue.boolean truth) c = tt
simple_within SimpleType.integer (SimpleValue.integer number) c = c
simple_within SimpleType.integer (SimpleValue.wide_integer octets) c = c
simple_within (SimpleType.enumerated items) (SimpleValue.enumerated number) c = c.1
simple_within SimpleType.null SimpleValue.null c = tt
simple_within SimpleType.oid (SimpleValue.oid arcs) c = c
simple_within SimpleType.relative_oid (SimpleValue.relative_oid arcs) c = c
simple_within type value c = elim c [ ]

simple_is_leaf : (tag : Tag) (type : SimpleType) (v : Val) → Conforms (Shape.simple tag type) v → IsLeafValue v
simple_is_leaf tag type (Val.simple value) c = simple_within type value c
simple_is_leaf tag type v c = elim c [ ]

conforms_simply : (tag : Tag) (type : SimpleType) (v : Val) → Conforms (Shape.simple tag type) v → IsSimple v
conforms_simply tag type (Val.simple value) c = simple_within type value c
conforms_simply tag type v c = elim c [ ]

string_is_leaf : (tag : Tag) (type : StringType) (v : Val) → Conforms (Shape.string tag type) v → IsLeafValue v
string_is_leaf tag StringType.bit_string (Val.string (StringValue.bits bits)) c = tt
string_is_leaf tag (StringType.named_bits names) (Val.string (StringValue.bits bits)) c = tt
string_is_leaf tag StringType.octet_string (Val.string (StringValue.octets string)) c = c
string_is_leaf tag (StringType.text kind) (Val.string (StringValue.text string)) c = c.0
string_is_leaf tag (StringType.time kind) (Val.string (StringValue.text string)) c = c.0
string_is_leaf tag type v c = elim c [ ]

pub leaf_conforms : (tag : Tag) (shape : Shape) (v : Val) → IsLeafOf tag shape → Conforms shape v → IsLeafValue v
leaf_conforms tag shape v (inl h) c = simple_is_leaf tag h.0 v (subst (λ s. Conforms s v) h.1 c)
leaf_conforms tag shape v (inr h) c = string_is_leaf tag h.0 v (subst (λ s. Conforms s v) h.1 c)

-- its encodings are told by the tag alone
simple_alike : (rule : Rule) (tag : Tag) (type : SimpleType) (v : Val) → Conforms (Shape.simple tag type) v → HoldAlike (IsLeafEncoding rule tag v) (IsEncoding rule (Shape.simple tag type) v)
simple_alike rule tag type (Val.simple value) c = record {
  to = λ b h. record { value = value; is = refl; conforms = c; contents = h.contents; spelt = h.spelt; primitive = h.primitive };
  from = λ b h. record { contents = h.contents; spelt = subst (λ w. IsContents rule w h.contents) (sym (simple-injective value h.value h.is)) h.spelt; primitive = h.primitive };
}
simple_alike rule tag type v c = elim c [ ]

-- a string of octets, whatever its type
octets_held : (rule : Rule) (tag : Tag) (type : StringType) (value_of : List ℕ → StringValue) (string : List ℕ) → ((other : List ℕ) → Val.string (value_of string) ≡ Val.string (value_of other) → other ≡ string) → StringConforms type (value_of string)
    → HoldAlike (IsStringEncoding rule tag octet_segment AreOctets AlwaysWhole string) (IsOctetStringEncoding rule tag type value_of (Val.string (value_of string)))
octets_held rule tag type value_of string one c = record {
  to = λ b h. record { string_octets = string; is = refl; conforms = c; string = h };
  from = λ b h. subst (λ x. IsStringEncoding rule tag octet_segment AreOctets AlwaysWhole x b) (one h.string_octets h.is) h.string;
}

string_alike : (rule : Rule) (tag : Tag) (type : StringType) (v : Val) → IsCanonical rule → Conforms (Shape.string tag type) v → HoldAlike (IsLeafEncoding rule tag v) (IsEncoding rule (Shape.string tag type) v)
string_alike rule tag StringType.bit_string (Val.string (StringValue.bits bits)) canonical c = record {
  to = λ b h. record { bits = bits; is = refl; string = h };
  from = λ b h.
      let is : Val.string (StringValue.bits bits) ≡ Val.string (StringValue.bits h.bits) = h.is in
      let same : h.bits ≡ bits = cc is in
      subst (λ x. IsStringEncoding rule tag bit_segment (IsBits rule) IsWholeOctets x b) same h.string;
}
string_alike rule tag (StringType.named_bits names) (Val.string (StringValue.bits bits)) canonical c = record {
  to = λ b h. record { bits = bits; is = refl; trimmed = c; zeros = 0; canonical = λ any. refl; string = subst (λ x. IsStringEncoding rule tag bit_segment (IsBits rule) IsWholeOctets x b) (sym (append-nil bits)) h };
  from = λ b h.
      let is : Val.string (StringValue.bits bits) ≡ Val.string (StringValue.bits h.bits) = h.is in
      let same : h.bits ≡ bits = cc is in
      let none : h.bits ++ replicate h.zeros false ≡ bits = ap (λ n. h.bits ++ replicate n false) (h.canonical canonical) ∙ (append-nil h.bits ∙ same) in
      subst (λ x. IsStringEncoding rule tag bit_segment (IsBits rule) IsWholeOctets x b) none h.string;
}
string_alike rule tag StringType.octet_string (Val.string (StringValue.octets string)) canonical c = octets_held rule tag StringType.octet_string StringValue.octets string (λ other same. cc) c
string_alike rule tag (StringType.text kind) (Val.string (StringValue.text string)) canonical c = octets_held rule tag (StringType.text kind) StringValue.text string (λ other same. cc) c
string_alike rule tag (StringType.time kind) (Val.string (StringValue.text string)) canonical c = octets_held rule tag (StringType.time kind) StringValue.text string (λ other same. cc) c
string_alike rule tag type v canonical c = elim c [ ]

pub leaf_alike : (rule : Rule) → IsCanonical rule → (tag : Tag) (shape : Shape) (v : Val) → IsLeafOf tag shape → Conforms shape v → HoldAlike (IsLeafEncoding rule tag v) (IsEncoding rule shape v)
leaf_alike rule canonical tag shape v (inl h) c = subst (λ s. HoldAlike (IsLeafEncoding rule tag v) (IsEncoding rule s v)) (sym h.1) (simple_alike rule tag h.0 v (subst (λ s. Conforms s v) h.1 c))
leaf_alike rule canonical tag shape v (inr h) c = subst (λ s. HoldAlike (IsLeafEncoding rule tag v) (IsEncoding rule s v)) (sym h.1) (string_alike rule tag h.0 v canonical (subst (λ s. Conforms s v) h.1 c))

pub simply_leaf : (rule : Rule) (tag : Tag) (v : Val) (octets : List ℕ) → IsSimplyEncoded rule tag v octets → IsLeafEncoding rule tag v octets
simply_leaf rule tag (Val.simple value) octets h = h
simply_leaf rule tag v octets h = elim h.spelt [ ]

pub simply_alike : (rule : Rule) (tag : Tag) (v : Val) → IsSimple v → HoldAlike (IsSimplyEncoded rule tag v) (IsLeafEncoding rule tag v)
simply_alike rule tag (Val.simple value) h = record { to = λ b k. k; from = λ b k. k }
simply_alike rule tag v h = elim h [ ]
