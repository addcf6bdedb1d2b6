-- Lemmas on the values of string types: the constructed encodings of a text or a time are those of an
-- OCTET STRING.
use Rattle.std.proofs.Common.{◌≡◌, ◌⊎◌, inl, inr, ℕ, false, List, ◌++◌, replicate, take, drop, refl, sym, ◌∙◌, subst, ap}
use Rattle.octets.specs.Front.{HasFront}
use Rattle.octets.specs.declared.tag.Tag.{Tag}
use Rattle.octets.specs.Rule.{ber}
use Rattle.types.specs.Conforms.{Conforms}
use Rattle.types.specs.Encoding.{IsEncoding}
use Rattle.types.specs.Same.{IsSame}
use Rattle.primitives.specs.Bits.{IsBits}
use Rattle.types.specs.Strings.{IsStringEncoding, bit_segment, octet_segment, IsWholeOctets, AreOctets, AlwaysWhole}
use Rattle.types.specs.Shape.{StringType, StringValue, Shape, Val}
use Rattle.types.specs.Leaf.{tag_of}
use Rattle.types.specs.View.{ty_view}
use Rattle.types.specs.WellFormed.{nodes_of}
use Rattle.types.specs.declared.ty.Ty.{Ty}
use Rattle.types.specs.declared.ty.Ty.TheVariants.{Octets as OctetsType, Text as TextType, Time as TimeType}
use Rattle.types.specs.FirstTags.{IsUsable}
use Rattle.types.proofs.ViewLemmas.{ty-Octets, ty-Text, ty-Time}
use Rattle.types.proofs.EncodingLemmas.{AreWell, value_unique, string-injective}
use Rattle.types.proofs.NestingLemmas.{nested_unique}
use Rattle.strings.specs.declared.text.TextKind.{TextKind}
use Rattle.strings.specs.declared.time.TimeKind.{TimeKind}
use Rattle.encoding_parts.specs.declared.joined.Joined.{Joined}
use Rattle.encoding_parts.specs.declared.joined.SegmentKind.{SegmentKind}
use Rattle.encoding_parts.specs.declared.joined.SegmentKind.TheVariants.{Bits, Octets}
use Rattle.encoding_parts.specs.Contents.{text_view}
use Rattle.encoding_parts.specs.Joined.{Element, IsHeldFor, IsString, IsStringOf, segments_kind, string_of, string_shape, string_value, trimmed_bits, typed, value_of}
use Rattle.encoding_parts.specs.Parts.{IsPartOf, IsPartWithin}
use Rattle.octets.proofs.FrontLemmas.{front_of_more, whole_front}
use Rattle.encoding_parts.proofs.TrimLemmas.{trimmed_is, trimmed_bits_of}

-- a value of a string type, and the string that makes it
pub record IsTyped (levels : ℕ) (shape : Shape) (v : Val) (octets : List ℕ) : Type 0 where
  pub string : List (Element (segments_kind shape))
  pub is : v ≡ typed shape (segments_kind shape) string
  pub part : IsPartOf levels (string_shape (tag_of shape) (segments_kind shape)) (string_value (segments_kind shape) string) octets

pub string_of_part : (levels : ℕ) (shape : Shape) (v : Val) (octets : List ℕ) → IsString shape → IsPartOf levels shape v octets → IsTyped levels shape v octets
string_of_part levels (Shape.simple tag type) v octets string h = absurd string
string_of_part levels (Shape.string tag StringType.bit_string) v octets string h = record {
  string = h.encoding.bits;
  is = h.encoding.is;
  part = subst (λ w. IsPartOf levels (Shape.string tag StringType.bit_string) w octets) h.encoding.is h;
}
string_of_part levels (Shape.string tag (StringType.named_bits names)) v octets string h = record {
  string = h.encoding.bits ++ replicate h.encoding.zeros false;
  is = h.encoding.is ∙ ap (λ b. Val.string (StringValue.bits b)) (sym (trimmed_bits_of h.encoding.bits h.encoding.zeros h.encoding.trimmed));
  part = record { encoding = record { bits = h.encoding.bits ++ replicate h.encoding.zeros false; is = refl; string = h.encoding.string }; depth = h.depth };
}
string_of_part levels (Shape.string tag StringType.octet_string) v octets string h = record {
  string = h.encoding.string_octets;
  is = h.encoding.is;
  part = subst (λ w. IsPartOf levels (Shape.string tag StringType.octet_string) w octets) h.encoding.is h;
}
string_of_part levels (Shape.string tag (StringType.text kind)) v octets string h = record {
  string = h.encoding.string_octets;
  is = h.encoding.is;
  part = record { encoding = record { string_octets = h.encoding.string_octets; is = refl; conforms = h.encoding.conforms.0; string = h.encoding.string }; depth = h.depth };
}
string_of_part levels (Shape.string tag (StringType.time kind)) v octets string h = record {
  string = h.encoding.string_octets;
  is = h.encoding.is;
  part = record { encoding = record { string_octets = h.encoding.string_octets; is = refl; conforms = h.encoding.conforms.0; string = h.encoding.string }; depth = h.depth };
}
string_of_part levels (Shape.sequence tag components) v octets string h = absurd string
string_of_part levels (Shape.set tag components) v octets string h = absurd string
string_of_part levels (Shape.sequence_of tag type) v octets string h = absurd string
string_of_part levels (Shape.set_of tag type) v octets string h = absurd string
string_of_part levels (Shape.choice alternatives) v octets string h = absurd string
string_of_part levels (Shape.explicit tag type) v octets string h = absurd string

-- and the other way round
pub part_of_string_value : (levels : ℕ) (shape : Shape) (string : List (Element (segments_kind shape))) (octets : List ℕ) → IsString shape → Conforms shape (typed shape (segments_kind shape) string)
    → IsPartOf levels (string_shape (tag_of shape) (segments_kind shape)) (string_value (segments_kind shape) string) octets → IsPartOf levels shape (typed shape (segments_kind shape) string) octets
part_of_string_value levels (Shape.simple tag type) string octets is conforms h = absurd is
part_of_string_value levels (Shape.string tag StringType.bit_string) string octets is conforms h = h
part_of_string_value levels (Shape.string tag (StringType.named_bits names)) string octets is conforms h =
    let values : StringValue.bits string ≡ StringValue.bits h.encoding.bits = string-injective (StringValue.bits string) (StringValue.bits h.encoding.bits) h.encoding.is in
    let same : string ≡ h.encoding.bits = cc values in
    let front = trimmed_is string in
    record {
      encoding = record {
        bits = trimmed_bits string;
        is = refl;
        trimmed = front.0;
        zeros = front.1.0;
        canonical = λ canonical. absurd (canonical refl);
        string = subst (λ x. IsStringEncoding ber tag bit_segment (IsBits ber) IsWholeOctets x octets) (sym same ∙ front.1.1) h.encoding.string;
      };
      depth = h.depth;
    }
part_of_string_value levels (Shape.string tag StringType.octet_string) string octets is conforms h = h
part_of_string_value levels (Shape.string tag (StringType.text kind)) string octets is conforms h =
    let values : StringValue.octets string ≡ StringValue.octets h.encoding.string_octets = string-injective (StringValue.octets string) (StringValue.octets h.encoding.string_octets) h.encoding.is in
    let same : string ≡ h.encoding.string_octets = cc values in
    record {
      encoding = record { string_octets = string; is = refl; conforms = conforms; string = subst (λ x. IsStringEncoding ber tag octet_segment AreOctets AlwaysWhole x octets) (sym same) h.encoding.string };
      depth = h.depth;
    }
part_of_string_value levels (Shape.string tag (StringType.time kind)) string octets is conforms h =
    let values : StringValue.octets string ≡ StringValue.octets h.encoding.string_octets = string-injective (StringValue.octets string) (StringValue.octets h.encoding.string_octets) h.encoding.is in
    let same : string ≡ h.encoding.string_octets = cc values in
    record {
      encoding = record { string_octets = string; is = refl; conforms = conforms; string = subst (λ x. IsStringEncoding ber tag octet_segment AreOctets AlwaysWhole x octets) (sym same) h.encoding.string };
      depth = h.depth;
    }
part_of_string_value levels (Shape.sequence tag components) string octets is conforms h = absurd is
part_of_string_value levels (Shape.set tag components) string octets is conforms h = absurd is
part_of_string_value levels (Shape.sequence_of tag type) string octets is conforms h = absurd is
part_of_string_value levels (Shape.set_of tag type) string octets is conforms h = absurd is
part_of_string_value levels (Shape.choice alternatives) string octets is conforms h = absurd is
part_of_string_value levels (Shape.explicit tag type) string octets is conforms h = absurd is

-- what begins with an encoding begins with one of the string
pub string_front : (levels : ℕ) (kind : SegmentKind) (shape : Shape) (end taken : ℕ) (octets : List ℕ) → IsStringOf kind shape → HasFront (IsPartWithin levels shape end taken) octets → HasFront (IsPartWithin levels (string_shape (tag_of shape) kind) end taken) octets
string_front levels kind shape end taken octets s f =
    let part = f.2.part in
    let t = string_of_part levels shape part.value (take f.0 octets) s.string record { encoding = part.encoding; depth = part.depth } in
    let of_string : IsPartWithin levels (string_shape (tag_of shape) (segments_kind shape)) end taken (take f.0 octets) =
    record { part = record { value = string_value (segments_kind shape) t.string; encoding = t.part.encoding; depth = t.part.depth }; fits = f.2.fits } in
    subst (λ k. HasFront (IsPartWithin levels (string_shape (tag_of shape) k) end taken) octets) (sym s.kind_is) (f.0, f.1, of_string)

string_value-injective : (kind : SegmentKind) (s t : List (Element kind)) → string_value kind s ≡ string_value kind t → s ≡ t
string_value-injective Bits s t h = let same : StringValue.bits s ≡ StringValue.bits t = string-injective (StringValue.bits s) (StringValue.bits t) h in cc same
string_value-injective Octets s t h = let same : StringValue.octets s ≡ StringValue.octets t = string-injective (StringValue.octets s) (StringValue.octets t) h in cc same

-- a string type under a usable tag
well_string : (tag : Tag) (kind : SegmentKind) → IsUsable tag → AreWell (nodes_of (string_shape tag kind))
well_string tag Bits usable = record { tags = (usable, tt); defaults = (tt, tt) }
well_string tag Octets usable = record { tags = (usable, tt); defaults = (tt, tt) }

-- strings that are the same are equal
equal_strings : (tag : Tag) (kind : SegmentKind) (s t : List (Element kind)) → IsSame (string_shape tag kind) (string_value kind s) (string_value kind t) → s ≡ t
equal_strings tag Bits s t h = string_value-injective Bits s t h
equal_strings tag Octets s t h = string_value-injective Octets s t h

-- and by the one string that was read
pub same_string : (levels : ℕ) (kind : SegmentKind) (shape : Shape) (end taken : ℕ) (joined : Joined) (n : ℕ) (octets more : List ℕ) → IsUsable (tag_of shape) → IsStringOf kind shape
    → IsPartOf levels (string_shape (tag_of shape) kind) (string_value kind (string_of kind joined)) (take n octets) → (f : HasFront (IsPartWithin levels shape end taken) (octets ++ more)) → f.2.part.value ≡ value_of shape joined
same_string levels kind shape end taken joined n octets more usable s h f =
    let front = take f.0 (octets ++ more) in
    let part = f.2.part in
    let t = string_of_part levels shape part.value front s.string record { encoding = part.encoding; depth = part.depth } in
    let k = segments_kind shape in
    let tag = tag_of shape in
    let read : IsPartOf levels (string_shape tag k) (string_value k (string_of k joined)) (take n octets) = subst (λ x. IsPartOf levels (string_shape tag x) (string_value x (string_of x joined)) (take n octets)) s.kind_is h in
    let whole : front ++ drop f.0 (octets ++ more) ≡ take n octets ++ (drop n octets ++ more) = sym (whole_front f.0 (octets ++ more)) ∙ front_of_more n octets more in
    let same : front ≡ take n octets = nested_unique levels levels front (take n octets) (drop f.0 (octets ++ more)) (drop n octets ++ more) t.part.depth read.depth whole in
    let values = value_unique (string_shape tag k) (string_value k t.string) (string_value k (string_of k joined)) (take n octets) (well_string tag k usable)
    (subst (IsEncoding ber (string_shape tag k) (string_value k t.string)) same t.part.encoding) read.encoding in
    t.is ∙ ap (typed shape k) (equal_strings tag k t.string (string_of k joined) values)

-- a string that was read makes an encoding
pub part_of_joined : (levels : ℕ) (kind : SegmentKind) (shape : Shape) (joined : Joined) (v : Val) (octets : List ℕ) → IsStringOf kind shape → v ≡ value_of shape joined → Conforms shape v
    → IsPartOf levels (string_shape (tag_of shape) kind) (string_value kind (string_of kind joined)) octets → IsPartOf levels shape v octets
part_of_joined levels kind shape joined v octets s is conforms h =
    let k = segments_kind shape in
    let read : IsPartOf levels (string_shape (tag_of shape) k) (string_value k (string_of k joined)) octets = subst (λ x. IsPartOf levels (string_shape (tag_of shape) x) (string_value x (string_of x joined)) octets) s.kind_is h in
    subst (λ w. IsPartOf levels shape w octets) (sym is) (part_of_string_value levels shape (string_of k joined) octets s.string (subst (Conforms shape) is conforms) read)

-- the values of types of the code
pub octets_value : (tag : Tag) (joined : Joined) → IsHeldFor (ty_view (OctetsType tag)) joined
    → (Val.string (StringValue.octets joined.octets.items) ≡ value_of (ty_view (OctetsType tag)) joined) × Conforms (ty_view (OctetsType tag)) (Val.string (StringValue.octets joined.octets.items))
octets_value tag joined =
    let v = Val.string (StringValue.octets joined.octets.items) in
    subst (λ (shape : Shape). IsHeldFor shape joined → (v ≡ value_of shape joined) × Conforms shape v) (sym (ty-Octets tag)) (λ held. (refl, held.1.below_256))

pub text_value : (ty : Ty) (joined : Joined) → ((t : Tag) × (k : TextKind) × (ty ≡ TextType t k)) ⊎ ((t : Tag) × (k : TimeKind) × (ty ≡ TimeType t k)) → text_view joined.octets.items ≡ value_of (ty_view ty) joined
text_value ty joined (inl (t, k, is)) = subst (λ (shape : Shape). text_view joined.octets.items ≡ value_of shape joined) (sym (ap ty_view is ∙ ty-Text t k)) refl
text_value ty joined (inr (t, k, is)) = subst (λ (shape : Shape). text_view joined.octets.items ≡ value_of shape joined) (sym (ap ty_view is ∙ ty-Time t k)) refl
