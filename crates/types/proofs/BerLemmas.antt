-- Lemmas on the encodings of CER and DER: BER takes them, as encodings of the same values.
use Rattle.std.proofs.Common.{inl, inr, ℕ, zero, suc, false, List, [], ◌∷◌, ◌++◌, replicate, Option, Some, None, refl, subst₂, append-nil}
use Rattle.std.specs.List.{AllZip, concat}
use Rattle.octets.specs.declared.tag.Tag.{Tag}
use Rattle.octets.specs.Rule.{Rule, ber, cer, der}
use Rattle.primitives.specs.Bits.{IsBits}
use Rattle.primitives.proofs.BitsLemmas.{canonical_bits_are_ber}
use Rattle.primitives.proofs.BooleanLemmas.{canonical_boolean_is_ber}
use Rattle.types.specs.Shape.{StringType, SimpleValue, StringValue, Val, Slots, no_slot, absent, present, listed, Requirement, required, optional, default, Shape, Components, no_component, component, Alternatives, no_alternative, alternative}
use Rattle.types.specs.Contents.{IsContents}
use Rattle.types.specs.Form.{IsConstructed}
use Rattle.types.specs.Strings.{AreSegments, AreCerSegments, IsStringEncoding, bit_segment, octet_segment, IsWholeOctets, AreOctets, AlwaysWhole}
use Rattle.types.specs.Encoding.{Meaning, IsOctetStringEncoding, IsEncodingOfString, standing, StandsForAbsent, IsEncoding, AreSlotEncodings, IsAlternativeEncoding}
use Rattle.types.proofs.CanonicalLemmas.{primitive_by_ber}

pub constructed_by_ber : (rule : Rule) (tag : Tag) (contents octets : List ℕ) → IsConstructed rule tag contents octets → IsConstructed ber tag contents octets
constructed_by_ber ber tag contents octets h = h
constructed_by_ber cer tag contents octets h = inr h
constructed_by_ber der tag contents octets h = inl record { identifier = h.identifier; size = h.size; tagged = h.tagged; sized = h.sized.form; joined = h.joined }

pub contents_by_ber : (rule : Rule) (value : SimpleValue) (contents : List ℕ) → IsContents rule value contents → IsContents ber value contents
contents_by_ber rule (SimpleValue.boolean truth) contents h = canonical_boolean_is_ber rule truth contents h
contents_by_ber rule (SimpleValue.integer number) contents h = h
contents_by_ber rule (SimpleValue.wide_integer wide) contents h = h
contents_by_ber rule (SimpleValue.enumerated number) contents h = h
contents_by_ber rule SimpleValue.null contents h = h
contents_by_ber rule (SimpleValue.oid arcs) contents h = h
contents_by_ber rule (SimpleValue.relative_oid arcs) contents h = h

-- the cut of CER is one way of many
module _ {A : Type 0} (inner : Tag) (Holds : Rule → List A → List ℕ → Type 0) (Whole : List A → Type 0) (by_ber : (rule : Rule) (string : List A) (contents : List ℕ) → Holds rule string contents → Holds ber string contents) where
  pub segments_by_ber : (string : List A) (octets : List ℕ) → AreCerSegments inner (Holds cer) Whole string octets → AreSegments inner (Holds ber) Whole string octets
  segments_by_ber string octets (AreCerSegments.last piece contents segment holds some few primitive) =
      subst₂ (AreSegments inner (Holds ber) Whole) (append-nil piece) (append-nil segment)
      (AreSegments.primitive piece contents segment (by_ber cer piece contents holds) (primitive_by_ber cer inner contents segment primitive) AreSegments.none (λ more. absurd (more refl)))
  segments_by_ber string octets (AreCerSegments.more {others = others} {rest = rest} piece contents segment holds whole full primitive following) =
      AreSegments.primitive piece contents segment (by_ber cer piece contents holds) (primitive_by_ber cer inner contents segment primitive) (segments_by_ber others rest following) (λ more. whole)

  pub string_by_ber : (rule : Rule) (tag : Tag) (string : List A) (octets : List ℕ) → IsStringEncoding rule tag inner (Holds rule) Whole string octets → IsStringEncoding ber tag inner (Holds ber) Whole string octets
  string_by_ber ber tag string octets h = h
  string_by_ber cer tag string octets (inl h) =
      inl record { contents = h.contents; holds = by_ber cer string h.contents h.holds; primitive = primitive_by_ber cer tag h.contents octets h.primitive }
  string_by_ber cer tag string octets (inr h) =
      inr record { contents = h.segments_octets; segments = segments_by_ber string h.segments_octets h.segments; constructed = inr h.constructed }
  string_by_ber der tag string octets h =
      inl record { contents = h.contents; holds = by_ber der string h.contents h.holds; primitive = primitive_by_ber der tag h.contents octets h.primitive }

octets_by_ber : (rule : Rule) (tag : Tag) (type : StringType) (value_of : List ℕ → StringValue) (v : Val) (octets : List ℕ) → IsOctetStringEncoding rule tag type value_of v octets → IsOctetStringEncoding ber tag type value_of v octets
octets_by_ber rule tag type value_of v octets h = record {
  string_octets = h.string_octets;
  is = h.is;
  conforms = h.conforms;
  string = string_by_ber octet_segment (λ any. AreOctets) AlwaysWhole (λ any string contents k. k) rule tag h.string_octets octets h.string;
}

pub string_encoding_by_ber : (rule : Rule) (tag : Tag) (type : StringType) (v : Val) (octets : List ℕ) → IsEncodingOfString rule tag type v octets → IsEncodingOfString ber tag type v octets
string_encoding_by_ber rule tag StringType.bit_string v octets h =
    record { bits = h.bits; is = h.is; string = string_by_ber bit_segment IsBits IsWholeOctets canonical_bits_are_ber rule tag h.bits octets h.string }
string_encoding_by_ber rule tag (StringType.named_bits names) v octets h = record {
  bits = h.bits;
  is = h.is;
  trimmed = h.trimmed;
  zeros = h.zeros;
  canonical = λ canonical. absurd (canonical refl);
  string = string_by_ber bit_segment IsBits IsWholeOctets canonical_bits_are_ber rule tag (h.bits ++ replicate h.zeros false) octets h.string;
}
string_encoding_by_ber rule tag StringType.octet_string v octets h = octets_by_ber rule tag StringType.octet_string StringValue.octets v octets h
string_encoding_by_ber rule tag (StringType.text kind) v octets h = octets_by_ber rule tag (StringType.text kind) StringValue.text v octets h
string_encoding_by_ber rule tag (StringType.time kind) v octets h = octets_by_ber rule tag (StringType.time kind) StringValue.text v octets h

-- what one rule of two gives each pair
pub zip_map : {A B : Type 0} (P Q : A → B → Type 0) → ((a : A) (b : B) → P a b → Q a b) → (xs : List A) (ys : List B) → AllZip P xs ys → AllZip Q xs ys
zip_map P Q f [] [] h = tt
zip_map P Q f [] (y ∷ ys) h = elim h [ ]
zip_map P Q f (x ∷ xs) [] h = elim h [ ]
zip_map P Q f (x ∷ xs) (y ∷ ys) h = (f x y h.0, zip_map P Q f xs ys h.1)

absent_by_ber : (rule : Rule) (requirement : Requirement) (P Q : Meaning) → ((v : Val) (octets : List ℕ) → P v octets → Q v octets) → (encoding : Option (List ℕ)) → StandsForAbsent rule requirement P encoding → StandsForAbsent ber requirement Q encoding
absent_by_ber rule required P Q f encoding h = elim h [ ]
absent_by_ber rule optional P Q f encoding h = h
absent_by_ber ber (default value) P Q f None h = tt
absent_by_ber ber (default value) P Q f (Some octets) h = f value octets h
absent_by_ber cer (default value) P Q f None h = tt
absent_by_ber cer (default value) P Q f (Some octets) h = cc
absent_by_ber der (default value) P Q f None h = tt
absent_by_ber der (default value) P Q f (Some octets) h = cc

mutual
  -- what a rule spells, BER spells
  pub encoding_by_ber : (rule : Rule) (shape : Shape) (v : Val) (octets : List ℕ) → IsEncoding rule shape v octets → IsEncoding ber shape v octets
  encoding_by_ber rule (Shape.simple tag type) v octets h =
      record { value = h.value; is = h.is; conforms = h.conforms; contents = h.contents; spelt = contents_by_ber rule h.value h.contents h.spelt; primitive = primitive_by_ber rule tag h.contents octets h.primitive }
  encoding_by_ber rule (Shape.string tag type) v octets h = string_encoding_by_ber rule tag type v octets h
  encoding_by_ber rule (Shape.sequence tag components) v octets h = record {
    slots = h.slots;
    is = h.is;
    encodings = h.encodings;
    each = slots_by_ber rule components h.slots h.encodings h.each;
    whole = constructed_by_ber rule tag (concat (standing h.encodings)) octets h.whole;
  }
  encoding_by_ber rule (Shape.set tag components) v octets h = record {
    slots = h.slots;
    is = h.is;
    encodings = h.encodings;
    each = slots_by_ber rule components h.slots h.encodings h.each;
    order = h.order;
    permutes = h.permutes;
    ascends = λ canonical. absurd (canonical refl);
    whole = constructed_by_ber rule tag (concat h.order) octets h.whole;
  }
  encoding_by_ber rule (Shape.sequence_of tag type) v octets h = record {
    items = h.items;
    is = h.is;
    encodings = h.encodings;
    each = zip_map (IsEncoding rule type) (IsEncoding ber type) (λ w part k. encoding_by_ber rule type w part k) (listed h.items) h.encodings h.each;
    whole = constructed_by_ber rule tag (concat h.encodings) octets h.whole;
  }
  encoding_by_ber rule (Shape.set_of tag type) v octets h = record {
    items = h.items;
    is = h.is;
    encodings = h.encodings;
    each = zip_map (IsEncoding rule type) (IsEncoding ber type) (λ w part k. encoding_by_ber rule type w part k) (listed h.items) h.encodings h.each;
    order = h.order;
    permutes = h.permutes;
    ascends = λ canonical. absurd (canonical refl);
    whole = constructed_by_ber rule tag (concat h.order) octets h.whole;
  }
  encoding_by_ber rule (Shape.choice alternatives) v octets h = record { which = h.which; value = h.value; is = h.is; chosen = alternative_by_ber rule alternatives h.which h.value octets h.chosen }
  encoding_by_ber rule (Shape.explicit tag type) v octets h =
      record { inner = h.inner; encodes = encoding_by_ber rule type v h.inner h.encodes; whole = constructed_by_ber rule tag h.inner octets h.whole }

  pub slots_by_ber : (rule : Rule) (components : Components) (slots : Slots) (encodings : List (Option (List ℕ))) → AreSlotEncodings rule components slots encodings → AreSlotEncodings ber components slots encodings
  slots_by_ber rule no_component no_slot [] h = tt
  slots_by_ber rule (component name type requirement others) (absent slots) (encoding ∷ encodings) h =
      (absent_by_ber rule requirement (IsEncoding rule type) (IsEncoding ber type) (λ w part k. encoding_by_ber rule type w part k) encoding h.0, slots_by_ber rule others slots encodings h.1)
  slots_by_ber rule (component name type requirement others) (present value slots) (Some octets ∷ encodings) h =
      (encoding_by_ber rule type value octets h.0, h.1, slots_by_ber rule others slots encodings h.2)
  slots_by_ber rule components slots encodings h = elim h [ ]

  pub alternative_by_ber : (rule : Rule) (alternatives : Alternatives) (which : ℕ) (v : Val) (octets : List ℕ) → IsAlternativeEncoding rule alternatives which v octets → IsAlternativeEncoding ber alternatives which v octets
  alternative_by_ber rule no_alternative which v octets h = elim h [ ]
  alternative_by_ber rule (alternative name type others) zero v octets h = encoding_by_ber rule type v octets h
  alternative_by_ber rule (alternative name type others) (suc which) v octets h = alternative_by_ber rule others which v octets h
