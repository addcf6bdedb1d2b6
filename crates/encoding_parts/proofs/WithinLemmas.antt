-- Lemmas on encodings of types without parts within what holds them, primitive and constructed.
use Rattle.std.proofs.Common.{◌≡◌, ◌⊎◌, inl, inr, ◌+◌, ◌-◌, ◌≤◌, ℕ, suc, Bool, true, false, replicate, List, [], ◌∷◌, ◌++◌, length, take, drop, refl, sym, ap, ◌∙◌, subst, arith, append_assoc, length-append, length-take, length-drop, slice_range}
use Rattle.std.specs.List.{concat}
use Rattle.std.proofs.lemmas.List.{take-append-le}
use Rattle.octets.specs.declared.tag.Tag.{Tag}
use Rattle.octets.specs.Front.{HasFront}
use Rattle.octets.specs.Identifier.{IsIdentifier}
use Rattle.octets.specs.Length.{IsLength}
use Rattle.octets.specs.Rule.{ber}
use Rattle.octets.proofs.IdentifierLemmas.{identifier_unique}
use Rattle.primitives.specs.Bits.{IsBits, IsTrimmed}
use Rattle.types.specs.Shape.{NamedBitView, StringType, StringValue, Shape, Val}
use Rattle.types.specs.Leaf.{tag_of, IsLeaf}
use Rattle.types.specs.FirstTags.{IsUsable}
use Rattle.types.specs.Conforms.{Conforms}
use Rattle.encoding_parts.specs.Lengths.{CanHaveLength}
use Rattle.encoding_parts.proofs.ContentsLengthLemmas.{simple_length, string_length}
use Rattle.types.specs.Form.{IsPrimitive, IsConstructed}
use Rattle.types.specs.Depth.{IsNested}
use Rattle.types.specs.Strings.{AreSegments, IsInSegments, IsStringEncoding, bit_segment, octet_segment, IsWholeOctets, AreOctets, AlwaysWhole}
use Rattle.types.specs.Encoding.{IsEncoding}
use Rattle.types.proofs.FormLemmas.{definite_unique, parts_of_definite}
use Rattle.types.proofs.NestingLemmas.{parts_of_indefinite}
use Rattle.encoding_parts.specs.declared.frame.Frame.{Frame}
use Rattle.encoding_parts.specs.declared.joined.SegmentKind.{SegmentKind}
use Rattle.encoding_parts.specs.declared.joined.SegmentKind.TheVariants.{Bits, Octets}
use Rattle.encoding_parts.specs.Contents.{HoldsContents}
use Rattle.encoding_parts.specs.Completing.{Completes, IsEndOf, IsOpening, Opens}
use Rattle.encoding_parts.specs.Head.{IsPrimitiveWithin}
use Rattle.encoding_parts.specs.Parts.{IsPartOf, IsGoodType, IsPartWithin}
use Rattle.strings.specs.declared.text.TextKind.{TextKind}
use Rattle.strings.specs.declared.time.TimeKind.{TimeKind}
use Rattle.encoding_parts.specs.Joined.{Element, segment_of, HoldsPiece, IsWholePiece, string_shape, string_value, typed, IsNoString}
use Rattle.octets.proofs.FrontLemmas.{front_of_more, whole_front}
use Rattle.encoding_parts.proofs.TrimLemmas.{trimmed_bits_of}
use Rattle.encoding_parts.proofs.LeafLemmas.{simple_contents, contents_of_simple, conforms_of_encoding}
use Rattle.encoding_parts.proofs.DepthLemmas.{nested_primitive, nested_constructed, deeper, match_parts, constructed_part}
use Rattle.encoding_parts.proofs.CompletingLemmas.{framed, constructed_of_frame, completes_segments, unwind}
use Rattle.encoding_parts.proofs.JoinedLemmas.{kept_segment, joins_whole, parts_whole, empty_whole}
use Rattle.encoding_parts.specs.Segments.{CompletesBy}

-- the form of an encoding
pub record IsOfContents (shape : Shape) (v : Val) (octets : List ℕ) : Type 0 where
  pub contents : List ℕ
  pub holds : HoldsContents ber shape v contents
  pub primitive : IsPrimitive ber (tag_of shape) contents octets

pub record IsOfSegments (kind : SegmentKind) (tag : Tag) (shape : Shape) (v : Val) (octets : List ℕ) : Type 0 where
  pub string : List (Element kind)
  pub is : v ≡ typed shape kind string
  pub segments : IsInSegments tag (segment_of kind) (HoldsPiece kind) (IsWholePiece kind) string octets

abbrev pub HasForm : Shape → Val → List ℕ → Type 0
HasForm (Shape.simple tag type) v octets = IsOfContents (Shape.simple tag type) v octets
HasForm (Shape.string tag StringType.bit_string) v octets = IsOfContents (Shape.string tag StringType.bit_string) v octets ⊎ IsOfSegments Bits tag (Shape.string tag StringType.bit_string) v octets
HasForm (Shape.string tag (StringType.named_bits names)) v octets = IsOfContents (Shape.string tag (StringType.named_bits names)) v octets ⊎ IsOfSegments Bits tag (Shape.string tag (StringType.named_bits names)) v octets
HasForm (Shape.string tag type) v octets = IsOfContents (Shape.string tag type) v octets ⊎ IsOfSegments Octets tag (Shape.string tag type) v octets
HasForm _ _ _ = ⊥

bits_form : (tag : Tag) (v : Val) (octets : List ℕ) (bits : List Bool) → v ≡ Val.string (StringValue.bits bits) → IsStringEncoding ber tag bit_segment (IsBits ber) IsWholeOctets bits octets → HasForm (Shape.string tag StringType.bit_string) v octets
bits_form tag v octets bits is (inl f) = inl (record { contents = f.contents; holds = record { value = StringValue.bits bits; is = is; spelt = record { bits = bits; is = refl; spelt = f.holds } }; primitive = f.primitive })
bits_form tag v octets bits is (inr f) = inr (record { string = bits; is = is; segments = f })

named_form : (tag : Tag) (names : List NamedBitView) (v : Val) (octets : List ℕ) (bits : List Bool) (zeros : ℕ) → v ≡ Val.string (StringValue.bits bits) → IsTrimmed bits
    → IsStringEncoding ber tag bit_segment (IsBits ber) IsWholeOctets (bits ++ replicate zeros false) octets → HasForm (Shape.string tag (StringType.named_bits names)) v octets
named_form tag names v octets bits zeros is trimmed (inl f) = inl (
    record {
      contents = f.contents;
      holds = record { value = StringValue.bits bits; is = is; spelt = record { bits = bits; is = refl; trimmed = trimmed; zeros = zeros; canonical = λ canonical. absurd (canonical refl); spelt = f.holds } };
      primitive = f.primitive;
    })
named_form tag names v octets bits zeros is trimmed (inr f) =
    inr (record { string = bits ++ replicate zeros false; is = is ∙ ap (λ b. Val.string (StringValue.bits b)) (sym (trimmed_bits_of bits zeros trimmed)); segments = f })

octets_form : (tag : Tag) (v : Val) (octets string : List ℕ) → v ≡ Val.string (StringValue.octets string) → IsStringEncoding ber tag octet_segment AreOctets AlwaysWhole string octets → HasForm (Shape.string tag StringType.octet_string) v octets
octets_form tag v octets string is (inl f) = inl (record { contents = f.contents; holds = record { value = StringValue.octets string; is = is; spelt = ap StringValue.octets (sym f.holds) }; primitive = f.primitive })
octets_form tag v octets string is (inr f) = inr (record { string = string; is = is; segments = f })

text_form : (tag : Tag) (kind : TextKind) (v : Val) (octets string : List ℕ) → v ≡ Val.string (StringValue.text string) → IsStringEncoding ber tag octet_segment AreOctets AlwaysWhole string octets → HasForm (Shape.string tag (StringType.text kind)) v octets
text_form tag kind v octets string is (inl f) = inl (record { contents = f.contents; holds = record { value = StringValue.text string; is = is; spelt = ap StringValue.text (sym f.holds) }; primitive = f.primitive })
text_form tag kind v octets string is (inr f) = inr (record { string = string; is = is; segments = f })

time_form : (tag : Tag) (kind : TimeKind) (v : Val) (octets string : List ℕ) → v ≡ Val.string (StringValue.text string) → IsStringEncoding ber tag octet_segment AreOctets AlwaysWhole string octets → HasForm (Shape.string tag (StringType.time kind)) v octets
time_form tag kind v octets string is (inl f) = inl (record { contents = f.contents; holds = record { value = StringValue.text string; is = is; spelt = ap StringValue.text (sym f.holds) }; primitive = f.primitive })
time_form tag kind v octets string is (inr f) = inr (record { string = string; is = is; segments = f })

pub form_of_encoding : (shape : Shape) (v : Val) (octets : List ℕ) → IsLeaf shape → IsEncoding ber shape v octets → HasForm shape v octets
form_of_encoding (Shape.simple tag type) v octets leaf h = record {
  contents = h.contents;
  holds = record { value = h.value; is = h.is; spelt = simple_contents ber type h.value h.contents h.conforms h.spelt };
  primitive = h.primitive;
}
form_of_encoding (Shape.string tag StringType.bit_string) v octets leaf h = bits_form tag v octets h.bits h.is h.string
form_of_encoding (Shape.string tag (StringType.named_bits names)) v octets leaf h = named_form tag names v octets h.bits h.zeros h.is h.trimmed h.string
form_of_encoding (Shape.string tag StringType.octet_string) v octets leaf h = octets_form tag v octets h.string_octets h.is h.string
form_of_encoding (Shape.string tag (StringType.text kind)) v octets leaf h = text_form tag kind v octets h.string_octets h.is h.string
form_of_encoding (Shape.string tag (StringType.time kind)) v octets leaf h = time_form tag kind v octets h.string_octets h.is h.string
form_of_encoding (Shape.sequence tag components) v octets leaf h = absurd leaf
form_of_encoding (Shape.set tag components) v octets leaf h = absurd leaf
form_of_encoding (Shape.sequence_of tag type) v octets leaf h = absurd leaf
form_of_encoding (Shape.set_of tag type) v octets leaf h = absurd leaf
form_of_encoding (Shape.choice alternatives) v octets leaf h = absurd leaf
form_of_encoding (Shape.explicit tag type) v octets leaf h = absurd leaf

-- the other way round
pub encoding_of_contents : (shape : Shape) (v : Val) (contents octets : List ℕ) → Conforms shape v → HoldsContents ber shape v contents → IsPrimitive ber (tag_of shape) contents octets → IsEncoding ber shape v octets
encoding_of_contents (Shape.simple tag type) v contents octets conforms h p = record {
  value = h.value;
  is = h.is;
  conforms = subst (Conforms (Shape.simple tag type)) h.is conforms;
  contents = contents;
  spelt = contents_of_simple ber type h.value contents h.spelt;
  primitive = p;
}
encoding_of_contents (Shape.string tag StringType.bit_string) v contents octets conforms h p = record {
  bits = h.spelt.bits;
  is = h.is ∙ ap Val.string h.spelt.is;
  string = inl (record { contents = contents; holds = h.spelt.spelt; primitive = p });
}
encoding_of_contents (Shape.string tag (StringType.named_bits names)) v contents octets conforms h p = record {
  bits = h.spelt.bits;
  is = h.is ∙ ap Val.string h.spelt.is;
  trimmed = h.spelt.trimmed;
  zeros = h.spelt.zeros;
  canonical = h.spelt.canonical;
  string = inl (record { contents = contents; holds = h.spelt.spelt; primitive = p });
}
encoding_of_contents (Shape.string tag StringType.octet_string) v contents octets conforms h p =
    let is : v ≡ Val.string (StringValue.octets contents) = h.is ∙ ap Val.string h.spelt in
    record { string_octets = contents; is = is; conforms = subst (Conforms (Shape.string tag StringType.octet_string)) is conforms; string = inl (record { contents = contents; holds = refl; primitive = p }) }
encoding_of_contents (Shape.string tag (StringType.text kind)) v contents octets conforms h p =
    let is : v ≡ Val.string (StringValue.text contents) = h.is ∙ ap Val.string h.spelt in
    record { string_octets = contents; is = is; conforms = subst (Conforms (Shape.string tag (StringType.text kind))) is conforms; string = inl (record { contents = contents; holds = refl; primitive = p }) }
encoding_of_contents (Shape.string tag (StringType.time kind)) v contents octets conforms h p =
    let is : v ≡ Val.string (StringValue.text contents) = h.is ∙ ap Val.string h.spelt in
    record { string_octets = contents; is = is; conforms = subst (Conforms (Shape.string tag (StringType.time kind))) is conforms; string = inl (record { contents = contents; holds = refl; primitive = p }) }
encoding_of_contents (Shape.sequence tag components) v contents octets conforms h p = absurd h
encoding_of_contents (Shape.set tag components) v contents octets conforms h p = absurd h
encoding_of_contents (Shape.sequence_of tag type) v contents octets conforms h p = absurd h
encoding_of_contents (Shape.set_of tag type) v contents octets conforms h p = absurd h
encoding_of_contents (Shape.choice alternatives) v contents octets conforms h p = absurd h
encoding_of_contents (Shape.explicit tag type) v contents octets conforms h p = absurd h

-- the tag of a type without parts is not universal 0
pub usable_tag : (shape : Shape) → IsLeaf shape → IsGoodType shape → IsUsable (tag_of shape)
usable_tag (Shape.simple tag type) leaf well = well.tags.0
usable_tag (Shape.string tag type) leaf well = well.tags.0
usable_tag (Shape.sequence tag components) leaf well = absurd leaf
usable_tag (Shape.set tag components) leaf well = absurd leaf
usable_tag (Shape.sequence_of tag type) leaf well = absurd leaf
usable_tag (Shape.set_of tag type) leaf well = absurd leaf
usable_tag (Shape.choice alternatives) leaf well = absurd leaf
usable_tag (Shape.explicit tag type) leaf well = absurd leaf

pub part_of_contents : (levels : ℕ) (shape : Shape) (v : Val) (contents octets : List ℕ) → IsUsable (tag_of shape) → Conforms shape v → HoldsContents ber shape v contents → IsPrimitive ber (tag_of shape) contents octets → IsPartOf levels shape v octets
part_of_contents levels shape v contents octets usable conforms h p = record {
  encoding = encoding_of_contents shape v contents octets conforms h p;
  depth = nested_primitive levels octets record { tag = tag_of shape; usable = usable; contents = contents; whole = p };
}

encoding_of_segments : (kind : SegmentKind) (tag : Tag) (string : List (Element kind)) (octets : List ℕ) → Conforms (string_shape tag kind) (string_value kind string)
    → IsInSegments tag (segment_of kind) (HoldsPiece kind) (IsWholePiece kind) string octets → IsEncoding ber (string_shape tag kind) (string_value kind string) octets
encoding_of_segments Bits tag string octets conforms h = record { bits = string; is = refl; string = inr h }
encoding_of_segments Octets tag string octets conforms h = record { string_octets = string; is = refl; conforms = conforms; string = inr h }

not_constructed : (tag : Tag) (i : ℕ) (contents octets front rest : List ℕ) → IsIdentifier tag false (take i octets) → octets ≡ front ++ rest → IsConstructed ber tag contents front → ⊥
not_constructed tag i contents octets front rest id is (inl p) =
    let same = identifier_unique tag tag false true (take i octets) p.identifier (drop i octets) (p.size ++ (contents ++ rest)) id p.tagged (sym (whole_front i octets) ∙ (is ∙ parts_of_definite ber tag true contents front rest p)) in
    let form : false ≡ true = same.form in cc
not_constructed tag i contents octets front rest id is (inr p) =
    let same = identifier_unique tag tag false true (take i octets) p.identifier (drop i octets) (128 ∷ (contents ++ (0 ∷ 0 ∷ rest))) id p.tagged (sym (whole_front i octets) ∙ (is ∙ parts_of_indefinite tag contents front rest p)) in
    let form : false ≡ true = same.form in cc

not_primitive : (tag : Tag) (i : ℕ) (contents octets front rest : List ℕ) → IsIdentifier tag true (take i octets) → octets ≡ front ++ rest → IsPrimitive ber tag contents front → ⊥
not_primitive tag i contents octets front rest id is p =
    let same = identifier_unique tag tag true false (take i octets) p.identifier (drop i octets) (p.size ++ (contents ++ rest)) id p.tagged (sym (whole_front i octets) ∙ (is ∙ parts_of_definite ber tag false contents front rest p)) in
    let form : true ≡ false = same.form in cc

-- where the identifier octets are primitive, so is the encoding
primitive_form : (shape : Shape) (v : Val) (i : ℕ) (octets front rest : List ℕ) → IsIdentifier (tag_of shape) false (take i octets) → octets ≡ front ++ rest → HasForm shape v front → IsOfContents shape v front
primitive_form (Shape.simple tag type) v i octets front rest id is f = f
primitive_form (Shape.string tag StringType.bit_string) v i octets front rest id is (inl f) = f
primitive_form (Shape.string tag StringType.bit_string) v i octets front rest id is (inr f) = absurd (not_constructed tag i f.segments.contents octets front rest id is f.segments.constructed)
primitive_form (Shape.string tag (StringType.named_bits names)) v i octets front rest id is (inl f) = f
primitive_form (Shape.string tag (StringType.named_bits names)) v i octets front rest id is (inr f) = absurd (not_constructed tag i f.segments.contents octets front rest id is f.segments.constructed)
primitive_form (Shape.string tag StringType.octet_string) v i octets front rest id is (inl f) = f
primitive_form (Shape.string tag StringType.octet_string) v i octets front rest id is (inr f) = absurd (not_constructed tag i f.segments.contents octets front rest id is f.segments.constructed)
primitive_form (Shape.string tag (StringType.text kind)) v i octets front rest id is (inl f) = f
primitive_form (Shape.string tag (StringType.text kind)) v i octets front rest id is (inr f) = absurd (not_constructed tag i f.segments.contents octets front rest id is f.segments.constructed)
primitive_form (Shape.string tag (StringType.time kind)) v i octets front rest id is (inl f) = f
primitive_form (Shape.string tag (StringType.time kind)) v i octets front rest id is (inr f) = absurd (not_constructed tag i f.segments.contents octets front rest id is f.segments.constructed)
primitive_form (Shape.sequence tag components) v i octets front rest id is f = absurd f
primitive_form (Shape.set tag components) v i octets front rest id is f = absurd f
primitive_form (Shape.sequence_of tag type) v i octets front rest id is f = absurd f
primitive_form (Shape.set_of tag type) v i octets front rest id is f = absurd f
primitive_form (Shape.choice alternatives) v i octets front rest id is f = absurd f
primitive_form (Shape.explicit tag type) v i octets front rest id is f = absurd f

-- the contents octets of a primitive encoding at the front
pub record IsHeldAt (shape : Shape) (end taken : ℕ) (v : Val) (octets : List ℕ) : Type 0 where
  pub within : IsPrimitiveWithin (tag_of shape) end taken octets
  pub holds : HoldsContents ber shape v within.contents

pub primitive_of_within : (levels : ℕ) (shape : Shape) (end taken : ℕ) (leaf : IsLeaf shape) (i : ℕ) (octets more : List ℕ) → i ≤ length octets → IsIdentifier (tag_of shape) false (take i octets) → (f : HasFront (IsPartWithin levels shape end taken) (octets ++ more)) → IsHeldAt shape end taken f.2.part.value (octets ++ more)
primitive_of_within levels shape end taken leaf i octets more there id f =
    let front = take f.0 (octets ++ more) in
    let id' : IsIdentifier (tag_of shape) false (take i (octets ++ more)) = subst (IsIdentifier (tag_of shape) false) (sym (take-append-le i octets more there)) id in
    let h = primitive_form shape f.2.part.value i (octets ++ more) front (drop f.0 (octets ++ more)) id' (whole_front f.0 (octets ++ more)) (form_of_encoding shape f.2.part.value front leaf f.2.part.encoding) in
    record {
      within = record { contents = h.contents; part = front; rest = drop f.0 (octets ++ more); primitive = h.primitive; fits = f.2.fits; parts = whole_front f.0 (octets ++ more) };
      holds = h.holds;
    }

-- the contents octets that were read are those of any front
pub contents_of_within : (levels : ℕ) (shape : Shape) (end taken : ℕ) (leaf : IsLeaf shape) (i n : ℕ) (contents octets more : List ℕ) → i ≤ length octets → IsIdentifier (tag_of shape) false (take i octets) → IsPrimitive ber (tag_of shape) contents (take n octets)
    → (f : HasFront (IsPartWithin levels shape end taken) (octets ++ more)) → HoldsContents ber shape f.2.part.value contents
contents_of_within levels shape end taken leaf i n contents octets more there id p f =
    let h = primitive_of_within levels shape end taken leaf i octets more there id f in
    let w = h.within in
    let same = definite_unique ber ber (tag_of shape) (tag_of shape) false false contents w.contents (take n octets) w.part (drop n octets ++ more) w.rest p w.primitive (sym (front_of_more n octets more) ∙ w.parts) in
    subst (HoldsContents ber shape f.2.part.value) (sym same.contents) h.holds

-- as many contents octets as the type can have
length_of_contents : (shape : Shape) (v : Val) (contents : List ℕ) → Conforms shape v → HoldsContents ber shape v contents → CanHaveLength shape (length contents)
length_of_contents (Shape.simple tag type) v contents conforms h = simple_length type h.value contents (subst (Conforms (Shape.simple tag type)) h.is conforms) h.spelt
length_of_contents (Shape.string tag type) v contents conforms h = string_length type h.value contents (subst (Conforms (Shape.string tag type)) h.is conforms) h.spelt
length_of_contents (Shape.sequence tag components) v contents conforms h = absurd h
length_of_contents (Shape.set tag components) v contents conforms h = absurd h
length_of_contents (Shape.sequence_of tag type) v contents conforms h = absurd h
length_of_contents (Shape.set_of tag type) v contents conforms h = absurd h
length_of_contents (Shape.choice alternatives) v contents conforms h = absurd h
length_of_contents (Shape.explicit tag type) v contents conforms h = absurd h

-- behind the identifier octets of an encoding stand length octets
pub record IsLengthAt (shape : Shape) (octets : List ℕ) : Type 0 where
  pub contents : ℕ
  pub size : List ℕ
  pub rest : List ℕ
  pub sized : IsLength contents size
  pub parts : octets ≡ size ++ rest
  pub can : CanHaveLength shape contents

pub length_of_within : (levels : ℕ) (shape : Shape) (end taken : ℕ) (leaf : IsLeaf shape) (i : ℕ) (octets more : List ℕ) → i ≤ length octets → IsIdentifier (tag_of shape) false (take i octets) → HasFront (IsPartWithin levels shape end taken) (octets ++ more) → IsLengthAt shape (drop i octets ++ more)
length_of_within levels shape end taken leaf i octets more there id f =
    let h = primitive_of_within levels shape end taken leaf i octets more there id f in
    let w = h.within in
    let p = w.primitive in
    let same = identifier_unique (tag_of shape) (tag_of shape) false false (take i octets) p.identifier (drop i octets ++ more) (p.size ++ (w.contents ++ w.rest)) id p.tagged
    (sym (front_of_more i octets more) ∙ (w.parts ∙ parts_of_definite ber (tag_of shape) false w.contents w.part w.rest p)) in
    record { contents = length w.contents; size = p.size; rest = w.contents ++ w.rest; sized = p.sized; parts = same.rest; can = length_of_contents shape f.2.part.value w.contents (conforms_of_encoding ber shape f.2.part.value (take f.0 (octets ++ more)) leaf f.2.part.encoding) h.holds }

-- as many contents octets were read as the type can have
pub can_of_within : (levels : ℕ) (shape : Shape) (end taken : ℕ) (leaf : IsLeaf shape) (i start stop : ℕ) (octets more : List ℕ) → i ≤ length octets → IsIdentifier (tag_of shape) false (take i octets) → start ≤ stop → stop ≤ length octets → IsPrimitive ber (tag_of shape) (slice_range octets start stop) (take stop octets)
    → HasFront (IsPartWithin levels shape end taken) (octets ++ more) → CanHaveLength shape (stop - start)
can_of_within levels shape end taken leaf i start stop octets more there id ordered below p f =
    let contents = slice_range octets start stop in
    let holds = contents_of_within levels shape end taken leaf i stop contents octets more there id p f in
    let many : length contents ≡ stop - start = omega (arith, length-take (stop - start) (drop start octets), length-drop start octets, ordered, below) in
    subst (CanHaveLength shape) many (length_of_contents shape f.2.part.value contents (conforms_of_encoding ber shape f.2.part.value (take f.0 (octets ++ more)) leaf f.2.part.encoding) holds)

-- where they are constructed, so is the encoding
no_constructed : (shape : Shape) (v : Val) (i : ℕ) (octets front rest : List ℕ) → IsNoString shape → IsIdentifier (tag_of shape) true (take i octets) → octets ≡ front ++ rest → HasForm shape v front → ⊥
no_constructed (Shape.simple tag type) v i octets front rest none id is f = not_primitive tag i f.contents octets front rest id is f.primitive
no_constructed (Shape.string tag type) v i octets front rest none id is f = absurd (none tt)
no_constructed (Shape.sequence tag components) v i octets front rest none id is f = absurd f
no_constructed (Shape.set tag components) v i octets front rest none id is f = absurd f
no_constructed (Shape.sequence_of tag type) v i octets front rest none id is f = absurd f
no_constructed (Shape.set_of tag type) v i octets front rest none id is f = absurd f
no_constructed (Shape.choice alternatives) v i octets front rest none id is f = absurd f
no_constructed (Shape.explicit tag type) v i octets front rest none id is f = absurd f

pub none_constructed : (levels : ℕ) (shape : Shape) (end taken : ℕ) (leaf : IsLeaf shape) (i : ℕ) (octets more : List ℕ) → i ≤ length octets → IsNoString shape → IsIdentifier (tag_of shape) true (take i octets) → HasFront (IsPartWithin levels shape end taken) (octets ++ more) → ⊥
none_constructed levels shape end taken leaf i octets more there none id f =
    let front = take f.0 (octets ++ more) in
    let id' : IsIdentifier (tag_of shape) true (take i (octets ++ more)) = subst (IsIdentifier (tag_of shape) true) (sym (take-append-le i octets more there)) id in
    no_constructed shape f.2.part.value i (octets ++ more) front (drop f.0 (octets ++ more)) none id' (whole_front f.0 (octets ++ more)) (form_of_encoding shape f.2.part.value front leaf f.2.part.encoding)

segments_form : (kind : SegmentKind) (tag : Tag) (v : Val) (i : ℕ) (octets front rest : List ℕ) → IsIdentifier tag true (take i octets) → octets ≡ front ++ rest → HasForm (string_shape tag kind) v front → IsOfSegments kind tag (string_shape tag kind) v front
segments_form Bits tag v i octets front rest id is (inl f) = absurd (not_primitive tag i f.contents octets front rest id is f.primitive)
segments_form Bits tag v i octets front rest id is (inr f) = f
segments_form Octets tag v i octets front rest id is (inl f) = absurd (not_primitive tag i f.contents octets front rest id is f.primitive)
segments_form Octets tag v i octets front rest id is (inr f) = f

string_leaf : (tag : Tag) (kind : SegmentKind) → IsLeaf (string_shape tag kind)
string_leaf tag Bits = tt
string_leaf tag Octets = tt

-- at least one constructed encoding must be allowed for one
pub none_so_shallow : (levels : ℕ) (kind : SegmentKind) (tag : Tag) (end taken i : ℕ) (octets more : List ℕ) → levels ≡ 0 → i ≤ length octets → IsIdentifier tag true (take i octets)
    → HasFront (IsPartWithin levels (string_shape tag kind) end taken) (octets ++ more) → ⊥
none_so_shallow levels kind tag end taken i octets more none there id f =
    let front = take f.0 (octets ++ more) in
    let id' : IsIdentifier tag true (take i (octets ++ more)) = subst (IsIdentifier tag true) (sym (take-append-le i octets more there)) id in
    let s = segments_form kind tag f.2.part.value i (octets ++ more) front (drop f.0 (octets ++ more)) id' (whole_front f.0 (octets ++ more)) (form_of_encoding (string_shape tag kind) f.2.part.value front (string_leaf tag kind) f.2.part.encoding) in
    let deep = deeper levels tag s.segments.contents front front [] [] s.segments.constructed f.2.part.depth refl in
    absurd (omega (arith, none, deep.is))

-- a constructed encoding, by what opens it
pub record IsCompleted (levels : ℕ) (kind : SegmentKind) (tag : Tag) (end taken : ℕ) (octets : List ℕ) : Type 0 where
  pub opened : Frame
  pub head : List ℕ
  pub others : List ℕ
  pub opening : IsOpening tag end taken opened head
  pub parts : octets ≡ head ++ others
  pub total : List (Element kind)
  pub rest : List ℕ
  pub completes : CompletesBy kind levels (opened ∷ []) (taken + length head) [] others total rest

pub completed : (levels : ℕ) (kind : SegmentKind) (tag : Tag) (end taken i : ℕ) (octets : List ℕ) → IsIdentifier tag true (take i octets) → HasFront (IsPartWithin levels (string_shape tag kind) end taken) octets → IsCompleted levels kind tag end taken octets
completed levels kind tag end taken i octets id f =
    let front = take f.0 octets in
    let behind = drop f.0 octets in
    let s = segments_form kind tag f.2.part.value i octets front behind id (whole_front f.0 octets) (form_of_encoding (string_shape tag kind) f.2.part.value front (string_leaf tag kind) f.2.part.encoding) in
    let c = s.segments.contents in
    let fr = framed tag end taken c front s.segments.constructed f.2.fits in
    let deep = deeper levels tag c front front [] [] s.segments.constructed f.2.part.depth refl in
    let part = constructed_part (segment_of kind) (HoldsPiece kind) (IsWholePiece kind) (kept_segment kind) deep.levels tag deep.within.tag s.string c deep.within.parts front front [] []
    (λ g l m n t. match_parts (segment_of kind) (HoldsPiece kind) (IsWholePiece kind) (kept_segment kind) deep.levels s.string c deep.within.parts g l s.segments.segments deep.within.each m n t) s.segments.constructed deep.within.whole refl in
    let after = taken + length fr.head + length c in
    let ending : CompletesBy kind levels (fr.opened ∷ []) after s.string (fr.mark ++ behind) s.string behind =
    Completes.ends fr.mark behind (after + length fr.mark) fr.ends refl refl (Completes.complete refl refl) in
    record {
      opened = fr.opened;
      head = fr.head;
      others = c ++ (fr.mark ++ behind);
      opening = fr.opening;
      parts = whole_front f.0 octets ∙ (ap (λ x. x ++ behind) fr.joined ∙ (append_assoc fr.head (c ++ fr.mark) behind ∙ ap (λ x. fr.head ++ x) (append_assoc c fr.mark behind)));
      total = s.string;
      rest = behind;
      completes = completes_segments (segment_of kind) (HoldsPiece kind) (IsWholePiece kind) levels (kept_segment kind) (joins_whole kind) (parts_whole kind) deep.levels s.string c part.within fr.opened [] (taken + length fr.head) after [] s.string s.string (c ++ (fr.mark ++ behind)) (fr.mark ++ behind) behind
          (omega (arith, deep.is)) (λ more. empty_whole kind) (omega arith) fr.fits refl refl ending;
    }

-- and the other way round
pub end_within : (end taken after : ℕ) (f : Frame) (size mark : List ℕ) → Opens end taken f size → IsEndOf f after mark → after + length mark ≤ end
end_within end taken after f size mark (inl o) (inl e) = omega (arith, o.fits, e.there, ap length e.none)
end_within end taken after f size mark (inr o) (inr e) = omega (arith, o.ends, e.fits, ap length e.zeros)
end_within end taken after f size mark (inl o) (inr e) = let no : true ≡ false = sym o.definite ∙ e.indefinite in cc
end_within end taken after f size mark (inr o) (inl e) = let no : true ≡ false = sym e.definite ∙ o.indefinite in cc

-- the front that completes an open encoding
pub record IsFrontOfString (levels : ℕ) (kind : SegmentKind) (tag : Tag) (end taken : ℕ) (octets : List ℕ) (total : List (Element kind)) (rest : List ℕ) : Type 0 where
  pub front : List ℕ
  pub parts : octets ≡ front ++ rest
  pub segments : IsInSegments tag (segment_of kind) (HoldsPiece kind) (IsWholePiece kind) total front
  pub depth : IsNested levels front
  pub fits : taken + length front ≤ end

pub front_of_string : (levels : ℕ) (kind : SegmentKind) (tag : Tag) (end taken : ℕ) (opened : Frame) (head octets others : List ℕ) (total : List (Element kind)) (rest : List ℕ) → 1 ≤ levels → IsUsable tag → IsOpening tag end taken opened head → octets ≡ head ++ others
    → CompletesBy kind levels (opened ∷ []) (taken + length head) [] others total rest → IsFrontOfString levels kind tag end taken octets total rest
front_of_string levels kind tag end taken opened head octets others total rest deep kept h is k =
    let l = unwind (segment_of kind) (HoldsPiece kind) (IsWholePiece kind) levels (kept_segment kind) (joins_whole kind) (parts_whole kind) (opened ∷ []) (taken + length head) [] total others rest k in
    let c = concat l.encodings in
    let front = head ++ (c ++ l.mark) in
    let w : IsConstructed ber tag c front = constructed_of_frame tag end taken (taken + length head + length c) opened head c l.mark h l.ends refl in
    let whole : l.piece ≡ total = sym (l.next.0 ∙ l.join) in
    let size : length front ≡ length head + (length c + length l.mark) = length-append head (c ++ l.mark) ∙ ap (λ x. length head + x) (length-append c l.mark) in
    let level : levels ≡ suc (levels - 1) = omega (arith, deep) in
    let nested : IsNested (suc (levels - 1)) front = nested_constructed (levels - 1) front record { tag = tag; usable = kept; parts = l.encodings; each = l.each; whole = w } in
    let within = end_within end (taken + length h.identifier) (taken + length head + length c) opened h.size l.mark h.form l.ends in
    record {
      front = front;
      parts = is ∙ (ap (λ x. head ++ x) (l.is ∙ (ap (λ x. c ++ (l.mark ++ x)) l.next.1 ∙ sym (append_assoc c l.mark rest))) ∙ sym (append_assoc head (c ++ l.mark) rest));
      segments = record { contents = c; segments = subst (λ p. AreSegments (segment_of kind) (HoldsPiece kind) (IsWholePiece kind) p c) whole l.segments; constructed = w };
      depth = subst (λ n. IsNested n front) (sym level) nested;
      fits = omega (arith, size, within);
    }

pub part_of_string : (levels : ℕ) (kind : SegmentKind) (tag : Tag) (end taken : ℕ) (octets : List ℕ) (total : List (Element kind)) (rest : List ℕ) → Conforms (string_shape tag kind) (string_value kind total)
    → (s : IsFrontOfString levels kind tag end taken octets total rest) → IsPartOf levels (string_shape tag kind) (string_value kind total) s.front
part_of_string levels kind tag end taken octets total rest conforms s = record {
  encoding = encoding_of_segments kind tag total s.front conforms s.segments;
  depth = s.depth;
}
