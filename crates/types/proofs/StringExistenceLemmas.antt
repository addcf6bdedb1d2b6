-- Lemmas on which encodings of strings there are: each string has one, and CER cuts the long ones.
use Rattle.std.proofs.Common.{◌≡◌, ◌≢◌, ◌⊎◌, ◌+◌, ◌-◌, ◌*◌, ◌/◌, ◌<◌, ◌≤◌, inl, inr, ℕ, zero, suc, Bool, false, List, [], ◌++◌, length, take, drop, refl, sym, ap, subst, arith, append-nil, length-append, length-drop}
use Rattle.std.proofs.lemmas.Bool.{cases_lt}
use Rattle.std.proofs.lemmas.List.{take-append-drop, length-take-le}
use Rattle.octets.specs.declared.tag.Tag.{Tag}
use Rattle.octets.specs.Rule.{Rule, ber, cer, der, IsCanonical}
use Rattle.primitives.specs.Bits.{IsBits}
use Rattle.types.specs.Shape.{StringType, StringValue, Val}
use Rattle.types.specs.WellFormed.{IsTagWithin}
use Rattle.types.specs.Weight.{weight_of_string}
use Rattle.types.specs.Conforms.{StringConforms}
use Rattle.types.specs.Strings.{AreCerSegments, IsStringEncoding, bit_segment, octet_segment, IsWholeOctets, AreOctets, AlwaysWhole}
use Rattle.types.specs.Encoding.{IsEncodingOfString}
use Rattle.types.proofs.CerLemmas.{bits_count}
use Rattle.types.proofs.FormExistenceLemmas.{HasLengthsBelow, definite_around, indefinite_around}
use Rattle.types.proofs.BitsExistenceLemmas.{bits_contents}

-- what a kind of string has to keep so that CER can cut it: where a full segment ends, and how many octets a string
-- weighs
pub record IsCuttable {A : Type 0} (Holds : List A → List ℕ → Type 0) (Whole : List A → Type 0) (full : ℕ) (weight : List A → ℕ) : Type 0 where
  pub some : 0 < full
  pub held : (piece : List A) → (contents : List ℕ) × Holds piece contents
  pub size : (piece : List A) (contents : List ℕ) → Holds piece contents → length contents ≤ 1 + weight piece
  pub few : (piece : List A) (contents : List ℕ) → Holds piece contents → length piece ≤ full → length contents ≤ 1000
  pub exact : (piece : List A) (contents : List ℕ) → Holds piece contents → length piece ≡ full → length contents ≡ 1000
  pub many : (piece : List A) (contents : List ℕ) → Holds piece contents → full < length piece → 1000 < length contents
  pub whole : (piece : List A) → length piece ≡ full → Whole piece
  pub more : (piece others : List A) → length piece ≡ full → 133 + weight others ≤ weight (piece ++ others)

-- an encoding of a string that weighs so much
pub record HasStringEncoding {A : Type 0} (rule : Rule) (tag inner : Tag) (Holds : List A → List ℕ → Type 0) (Whole : List A → Type 0) (weight : ℕ) (string : List A) : Type 0 where
  pub octets : List ℕ
  pub encoding : IsStringEncoding rule tag inner Holds Whole string octets
  pub size : length octets ≤ 10 * weight + 2000

not_nil : {A : Type 0} (xs : List A) → 0 < length xs → xs ≢ []
not_nil xs some = λ none. absurd (omega (arith, ap length none))

module _ {A : Type 0} (room : ℕ) (lengths : HasLengthsBelow room) (wide : 1000 < room) (inner : Tag) (inner_within : IsTagWithin inner) (Holds : List A → List ℕ → Type 0) (Whole : List A → Type 0) (full : ℕ) (weight : List A → ℕ) (kind : IsCuttable Holds Whole full weight) where
  -- segments of a string
  record HasSegments (string : List A) : Type 0 where
    octets : List ℕ
    segments : AreCerSegments inner Holds Whole string octets
    size : length octets ≤ 10 * weight string + 1200

  last_segment : (string : List A) → 0 < length string → length string ≤ full → HasSegments string
  last_segment string some short =
      let contents = kind.held string in
      let few : length contents.0 ≤ 1000 = kind.few string contents.0 contents.1 short in
      let around = definite_around room lengths cer inner false contents.0 inner_within (omega arith) in
      record { octets = around.octets; segments = AreCerSegments.last string contents.0 around.octets contents.1 (not_nil string some) few around.whole; size = omega (arith, around.size) }

  more_segments : (piece others : List A) → length piece ≡ full → HasSegments others → HasSegments (piece ++ others)
  more_segments piece others fills rest =
      let contents = kind.held piece in
      let exact : length contents.0 ≡ 1000 = kind.exact piece contents.0 contents.1 fills in
      let around = definite_around room lengths cer inner false contents.0 inner_within (omega arith) in
      let more : 133 + weight others ≤ weight (piece ++ others) = kind.more piece others fills in
      record {
        octets = around.octets ++ rest.octets;
        segments = AreCerSegments.more piece contents.0 around.octets contents.1 (kind.whole piece fills) exact around.whole rest.segments;
        size = omega (arith, length-append around.octets rest.octets, around.size, rest.size);
      }

  segments_of : (n : ℕ) (string : List A) → 0 < length string → length string ≤ n → HasSegments string
  segments_of zero string some within = absurd (omega arith)
  segments_of (suc n) string some within = cut_at (cases_lt full (length string)) (segments_of n (drop full string))
    where
      cut_at : (full < length string) ⊎ (length string ≤ full) → (0 < length (drop full string) → length (drop full string) ≤ n → HasSegments (drop full string)) → HasSegments string
      cut_at (inr short) next = last_segment string some short
      cut_at (inl long) next =
          let left : length (drop full string) ≡ length string - full = length-drop full string in
          let size : length (take full string) ≡ full = length-take-le full string (omega arith) in
          let rest = next (omega (arith, left)) (omega (arith, left, kind.some)) in
          subst HasSegments (take-append-drop full string) (more_segments (take full string) (drop full string) size rest)

  pub string_encoding : (rule : Rule) (tag : Tag) (string : List A) → IsCanonical rule → IsTagWithin tag → 1 + weight string < room → HasStringEncoding rule tag inner Holds Whole (weight string) string
  string_encoding ber tag string canonical within fits = absurd (canonical refl)
  string_encoding cer tag string canonical within fits = encoded (cases_lt full (length string))
    where
      encoded : (full < length string) ⊎ (length string ≤ full) → HasStringEncoding cer tag inner Holds Whole (weight string) string
      encoded (inr short) =
          let contents = kind.held string in
          let few : length contents.0 ≤ 1000 = kind.few string contents.0 contents.1 short in
          let around = definite_around room lengths cer tag false contents.0 within (omega arith) in
          record { octets = around.octets; encoding = inl record { contents = contents.0; holds = contents.1; short = few; primitive = around.whole }; size = omega (arith, around.size) }
      encoded (inl long) =
          let row = segments_of (length string) string (omega arith) (omega arith) in
          let around = indefinite_around tag row.octets within in
          record {
            octets = around.octets;
            encoding = inr record { long = λ contents holds. kind.many string contents holds long; segments_octets = row.octets; segments = row.segments; constructed = around.whole };
            size = omega (arith, around.size, row.size);
          }
  string_encoding der tag string canonical within fits =
      let contents = kind.held string in
      let few : length contents.0 ≤ 1 + weight string = kind.size string contents.0 contents.1 in
      let around = definite_around room lengths der tag false contents.0 within (omega arith) in
      record { octets = around.octets; encoding = record { contents = contents.0; holds = contents.1; primitive = around.whole }; size = omega (arith, around.size) }

-- octets are cut after 1000
octets_cuttable : IsCuttable AreOctets AlwaysWhole 1000 (λ octets. length octets)
octets_cuttable = record {
  some = omega arith;
  held = λ piece. (piece, refl);
  size = λ piece contents h. omega (arith, ap length h);
  few = λ piece contents h short. omega (arith, ap length h);
  exact = λ piece contents h fills. omega (arith, ap length h);
  many = λ piece contents h long. omega (arith, ap length h);
  whole = λ piece fills. tt;
  more = λ piece others fills. omega (arith, length-append piece others);
}

-- bits are cut after 999 octets of them
abbrev octets_for : List Bool → ℕ
octets_for bits = (length bits + 7) / 8

bits_cuttable : (rule : Rule) → IsCuttable (IsBits rule) IsWholeOctets 7992 octets_for
bits_cuttable rule = record {
  some = omega arith;
  held = bits_contents rule;
  size = λ piece contents h. omega (arith, bits_count rule piece contents h, h.at_most_7);
  few = λ piece contents h short. omega (arith, bits_count rule piece contents h, h.at_most_7);
  exact = λ piece contents h fills. omega (arith, bits_count rule piece contents h, h.at_most_7);
  many = λ piece contents h long. omega (arith, bits_count rule piece contents h, h.at_most_7);
  whole = λ piece fills. (999, omega arith);
  more = λ piece others fills. omega (arith, length-append piece others);
}

-- an encoding of a value of a string type
pub record HasValueEncoding (rule : Rule) (tag : Tag) (type : StringType) (value : StringValue) : Type 0 where
  pub octets : List ℕ
  pub encoding : IsEncodingOfString rule tag type (Val.string value) octets
  pub size : length octets ≤ 10 * weight_of_string value + 2000

octets_encoding : (room : ℕ) → HasLengthsBelow room → 1000 < room → (rule : Rule) (tag : Tag) (string : List ℕ) → IsCanonical rule → IsTagWithin tag → 1 + length string < room
    → HasStringEncoding rule tag octet_segment AreOctets AlwaysWhole (length string) string
octets_encoding room lengths wide rule tag string canonical within fits =
    string_encoding room lengths wide octet_segment (omega arith) AreOctets AlwaysWhole 1000 (λ octets. length octets) octets_cuttable rule tag string canonical within fits

pub encoding_of_string : (room : ℕ) → HasLengthsBelow room → 1000 < room → (rule : Rule) (tag : Tag) (type : StringType) (value : StringValue) → IsCanonical rule → IsTagWithin tag → StringConforms type value → weight_of_string value < room
    → HasValueEncoding rule tag type value
encoding_of_string room lengths wide rule tag StringType.bit_string (StringValue.bits bits) canonical within c fits =
    let made = string_encoding room lengths wide bit_segment (omega arith) (IsBits rule) IsWholeOctets 7992 octets_for (bits_cuttable rule) rule tag bits canonical within fits in
    record { octets = made.octets; encoding = record { bits = bits; is = refl; string = made.encoding }; size = omega (arith, made.size) }
encoding_of_string room lengths wide rule tag (StringType.named_bits names) (StringValue.bits bits) canonical within c fits =
    let made = string_encoding room lengths wide bit_segment (omega arith) (IsBits rule) IsWholeOctets 7992 octets_for (bits_cuttable rule) rule tag bits canonical within fits in
    let string = subst (λ s. IsStringEncoding rule tag bit_segment (IsBits rule) IsWholeOctets s made.octets) (sym (append-nil bits)) made.encoding in
    record { octets = made.octets; encoding = record { bits = bits; is = refl; trimmed = c; zeros = 0; canonical = λ k. refl; string = string }; size = omega (arith, made.size) }
encoding_of_string room lengths wide rule tag StringType.octet_string (StringValue.octets octets) canonical within c fits =
    let made = octets_encoding room lengths wide rule tag octets canonical within fits in
    record { octets = made.octets; encoding = record { string_octets = octets; is = refl; conforms = c; string = made.encoding }; size = omega (arith, made.size) }
encoding_of_string room lengths wide rule tag (StringType.text kind) (StringValue.text octets) canonical within c fits =
    let made = octets_encoding room lengths wide rule tag octets canonical within fits in
    record { octets = made.octets; encoding = record { string_octets = octets; is = refl; conforms = c; string = made.encoding }; size = omega (arith, made.size) }
encoding_of_string room lengths wide rule tag (StringType.time kind) (StringValue.text octets) canonical within c fits =
    let made = octets_encoding room lengths wide rule tag octets canonical within fits in
    record { octets = made.octets; encoding = record { string_octets = octets; is = refl; conforms = c; string = made.encoding }; size = omega (arith, made.size) }
encoding_of_string room lengths wide rule tag type value canonical within c fits = elim c [ ]
