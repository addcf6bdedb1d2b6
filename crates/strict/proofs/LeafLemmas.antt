-- Lemmas on encodings of types without parts: they are primitive, or CER cuts them.
use Rattle.std.proofs.Common.{◌≡◌, ◌⊎◌, inl, inr, ℕ, List, ◌++◌, Bool, true, false, replicate, take, refl, sym, ◌∙◌, ap, subst, append-nil}
use Rattle.octets.specs.declared.canonical.Canonical.{Canonical}
use Rattle.octets.specs.declared.canonical.Canonical.TheVariants.{Cer, Der}
use Rattle.octets.specs.declared.tag.Tag.{Tag}
use Rattle.octets.specs.Identifier.{IsIdentifier}
use Rattle.octets.specs.Rule.{cer, der, rule_of}
use Rattle.octets.proofs.RuleLemmas.{cer_is_canonical, der_is_canonical}
use Rattle.types.specs.Shape.{StringType, StringValue, Shape, Val}
use Rattle.types.specs.Conforms.{Conforms}
use Rattle.types.specs.Encoding.{IsEncoding}
use Rattle.types.specs.Leaf.{tag_of, IsLeaf}
use Rattle.types.specs.Strings.{bit_segment, IsWholeOctets, IsCut}
use Rattle.primitives.specs.Bits.{IsBits}
use Rattle.types.proofs.CanonicalLemmas.{primitive_by_cer, primitive_by_der}
use Rattle.types.proofs.CerLemmas.{bits_by_cer, bits_by_der, contents_by_cer, contents_by_der}
use Rattle.encoding_parts.specs.declared.joined.SegmentKind.{SegmentKind}
use Rattle.encoding_parts.specs.declared.joined.SegmentKind.TheVariants.{Bits, Octets}
use Rattle.encoding_parts.specs.Head.{IsTagWithin}
use Rattle.encoding_parts.specs.Joined.{IsStringOf}
use Rattle.encoding_parts.proofs.LeafLemmas.{simple_contents, contents_of_simple}
use Rattle.strict.specs.Head.{HasDefinite, HasConstructed}
use Rattle.strict.specs.Leaf.{IsPrimitiveLeaf, HasPrimitive, IsCutLeaf, HasCut}
use Rattle.strict.specs.Reading.{HasPart}
use Rattle.strict.proofs.HeadLemmas.{tag_of_definite, form_of_definite}
use Rattle.strict.proofs.InsideLemmas.{tag_of_indefinite, form_of_indefinite}

-- CER alone cuts, and strings alone
pub record IsCutBy (rule : Canonical) (type : Shape) (v : Val) (octets : List ℕ) : Type 0 where
  pub by : rule ≡ Cer
  pub kind : SegmentKind
  pub of : IsStringOf kind type
  pub leaf : IsCutLeaf kind type v octets

cut_of_bits : (tag : Tag) (type : StringType) (v : Val) (bits : List Bool) (octets : List ℕ) → IsStringOf Bits (Shape.string tag type) → v ≡ Val.string (StringValue.bits bits) → Conforms (Shape.string tag type) v → IsCut tag bit_segment (IsBits cer) IsWholeOctets bits octets
    → IsCutBy Cer (Shape.string tag type) v octets
cut_of_bits tag type v bits octets of is conforms h = record { by = refl; kind = Bits; of = of; leaf = record { string = bits; is = is; conforms = conforms; cut = h } }

-- an encoding by its form
pub by_form : (rule : Canonical) (type : Shape) (v : Val) (octets : List ℕ) → IsLeaf type → IsEncoding (rule_of rule) type v octets → IsPrimitiveLeaf rule type v octets ⊎ IsCutBy rule type v octets
by_form Der (Shape.simple tag type) v octets leaf h = inl record {
  contents = h.contents;
  conforms = subst (Conforms (Shape.simple tag type)) (sym h.is) h.conforms;
  holds = record { value = h.value; is = h.is; spelt = simple_contents der type h.value h.contents h.conforms h.spelt };
  whole = tt;
  primitive = h.primitive;
}
by_form Cer (Shape.simple tag type) v octets leaf h = inl record {
  contents = h.contents;
  conforms = subst (Conforms (Shape.simple tag type)) (sym h.is) h.conforms;
  holds = record { value = h.value; is = h.is; spelt = simple_contents der type h.value h.contents h.conforms (contents_by_der h.value h.contents h.spelt) };
  whole = tt;
  primitive = primitive_by_der tag h.contents octets h.primitive;
}
by_form Der (Shape.string tag StringType.bit_string) v octets leaf h = inl record {
  contents = h.string.contents;
  conforms = subst (Conforms (Shape.string tag StringType.bit_string)) (sym h.is) tt;
  holds = record { value = StringValue.bits h.bits; is = h.is; spelt = record { bits = h.bits; is = refl; spelt = h.string.holds } };
  whole = tt;
  primitive = h.string.primitive;
}
by_form Der (Shape.string tag (StringType.named_bits names)) v octets leaf h = inl record {
  contents = h.string.contents;
  conforms = subst (Conforms (Shape.string tag (StringType.named_bits names))) (sym h.is) h.trimmed;
  holds = record { value = StringValue.bits h.bits; is = h.is; spelt = record { bits = h.bits; is = refl; trimmed = h.trimmed; zeros = h.zeros; canonical = h.canonical; spelt = h.string.holds } };
  whole = tt;
  primitive = h.string.primitive;
}
by_form Der (Shape.string tag StringType.octet_string) v octets leaf h = inl record {
  contents = h.string.contents;
  conforms = subst (Conforms (Shape.string tag StringType.octet_string)) (sym h.is) h.conforms;
  holds = record { value = StringValue.octets h.string_octets; is = h.is; spelt = ap StringValue.octets (sym h.string.holds) };
  whole = tt;
  primitive = h.string.primitive;
}
by_form Der (Shape.string tag (StringType.text kind)) v octets leaf h = inl record {
  contents = h.string.contents;
  conforms = subst (Conforms (Shape.string tag (StringType.text kind))) (sym h.is) h.conforms;
  holds = record { value = StringValue.text h.string_octets; is = h.is; spelt = ap StringValue.text (sym h.string.holds) };
  whole = tt;
  primitive = h.string.primitive;
}
by_form Der (Shape.string tag (StringType.time kind)) v octets leaf h = inl record {
  contents = h.string.contents;
  conforms = subst (Conforms (Shape.string tag (StringType.time kind))) (sym h.is) h.conforms;
  holds = record { value = StringValue.text h.string_octets; is = h.is; spelt = ap StringValue.text (sym h.string.holds) };
  whole = tt;
  primitive = h.string.primitive;
}
by_form Cer (Shape.string tag StringType.bit_string) v octets leaf h = elim h.string [
  | inl s ↦ inl record {
    contents = s.contents;
    conforms = subst (Conforms (Shape.string tag StringType.bit_string)) (sym h.is) tt;
    holds = record { value = StringValue.bits h.bits; is = h.is; spelt = record { bits = h.bits; is = refl; spelt = bits_by_der h.bits s.contents s.holds } };
    whole = s.short;
    primitive = primitive_by_der tag s.contents octets s.primitive;
  }
  | inr cut ↦ inr (cut_of_bits tag StringType.bit_string v h.bits octets record { kind_is = refl; string = tt } h.is (subst (Conforms (Shape.string tag StringType.bit_string)) (sym h.is) tt) cut)
]
by_form Cer (Shape.string tag (StringType.named_bits names)) v octets leaf h =
    let none : h.zeros ≡ 0 = h.canonical cer_is_canonical in
    let same : h.bits ++ replicate h.zeros false ≡ h.bits = ap (λ n. h.bits ++ replicate n false) none ∙ append-nil h.bits in
    let conforms = subst (Conforms (Shape.string tag (StringType.named_bits names))) (sym h.is) h.trimmed in
    elim h.string [
      | inl s ↦ inl record {
        contents = s.contents;
        conforms = conforms;
        holds = record { value = StringValue.bits h.bits; is = h.is; spelt = record { bits = h.bits; is = refl; trimmed = h.trimmed; zeros = h.zeros; canonical = λ canonical. none; spelt = bits_by_der (h.bits ++ replicate h.zeros false) s.contents s.holds } };
        whole = s.short;
        primitive = primitive_by_der tag s.contents octets s.primitive;
      }
      | inr cut ↦ inr (cut_of_bits tag (StringType.named_bits names) v h.bits octets record { kind_is = refl; string = tt } h.is conforms (subst (λ b. IsCut tag bit_segment (IsBits cer) IsWholeOctets b octets) same cut))
    ]
by_form Cer (Shape.string tag StringType.octet_string) v octets leaf h =
    let conforms = subst (Conforms (Shape.string tag StringType.octet_string)) (sym h.is) h.conforms in
    elim h.string [
      | inl s ↦ inl record {
        contents = s.contents;
        conforms = conforms;
        holds = record { value = StringValue.octets h.string_octets; is = h.is; spelt = ap StringValue.octets (sym s.holds) };
        whole = s.short;
        primitive = primitive_by_der tag s.contents octets s.primitive;
      }
      | inr cut ↦ inr record { by = refl; kind = Octets; of = record { kind_is = refl; string = tt }; leaf = record { string = h.string_octets; is = h.is; conforms = conforms; cut = cut } }
    ]
by_form Cer (Shape.string tag (StringType.text kind)) v octets leaf h =
    let conforms = subst (Conforms (Shape.string tag (StringType.text kind))) (sym h.is) h.conforms in
    elim h.string [
      | inl s ↦ inl record {
        contents = s.contents;
        conforms = conforms;
        holds = record { value = StringValue.text h.string_octets; is = h.is; spelt = ap StringValue.text (sym s.holds) };
        whole = s.short;
        primitive = primitive_by_der tag s.contents octets s.primitive;
      }
      | inr cut ↦ inr record { by = refl; kind = Octets; of = record { kind_is = refl; string = tt }; leaf = record { string = h.string_octets; is = h.is; conforms = conforms; cut = cut } }
    ]
by_form Cer (Shape.string tag (StringType.time kind)) v octets leaf h =
    let conforms = subst (Conforms (Shape.string tag (StringType.time kind))) (sym h.is) h.conforms in
    elim h.string [
      | inl s ↦ inl record {
        contents = s.contents;
        conforms = conforms;
        holds = record { value = StringValue.text h.string_octets; is = h.is; spelt = ap StringValue.text (sym s.holds) };
        whole = s.short;
        primitive = primitive_by_der tag s.contents octets s.primitive;
      }
      | inr cut ↦ inr record { by = refl; kind = Octets; of = record { kind_is = refl; string = tt }; leaf = record { string = h.string_octets; is = h.is; conforms = conforms; cut = cut } }
    ]
by_form rule type v octets leaf h = absurd leaf

-- a primitive one is an encoding
pub primitive_encodes : (rule : Canonical) (type : Shape) (v : Val) (octets : List ℕ) → IsLeaf type → IsPrimitiveLeaf rule type v octets → IsEncoding (rule_of rule) type v octets
primitive_encodes Der (Shape.simple tag type) v octets leaf h =
    record { value = h.holds.value; is = h.holds.is; conforms = subst (Conforms (Shape.simple tag type)) h.holds.is h.conforms; contents = h.contents; spelt = contents_of_simple der type h.holds.value h.contents h.holds.spelt; primitive = h.primitive }
primitive_encodes Cer (Shape.simple tag type) v octets leaf h = record {
  value = h.holds.value;
  is = h.holds.is;
  conforms = subst (Conforms (Shape.simple tag type)) h.holds.is h.conforms;
  contents = h.contents;
  spelt = contents_by_cer h.holds.value h.contents (contents_of_simple der type h.holds.value h.contents h.holds.spelt);
  primitive = primitive_by_cer tag h.contents octets h.primitive;
}
primitive_encodes Der (Shape.string tag StringType.bit_string) v octets leaf h =
    let k = h.holds.spelt in
    record { bits = k.bits; is = h.holds.is ∙ ap Val.string k.is; string = record { contents = h.contents; holds = k.spelt; primitive = h.primitive } }
primitive_encodes Cer (Shape.string tag StringType.bit_string) v octets leaf h =
    let k = h.holds.spelt in
    record { bits = k.bits; is = h.holds.is ∙ ap Val.string k.is; string = inl record { contents = h.contents; holds = bits_by_cer k.bits h.contents k.spelt; short = h.whole; primitive = primitive_by_cer tag h.contents octets h.primitive } }
primitive_encodes Der (Shape.string tag (StringType.named_bits names)) v octets leaf h =
    let k = h.holds.spelt in
    record { bits = k.bits; is = h.holds.is ∙ ap Val.string k.is; trimmed = k.trimmed; zeros = k.zeros; canonical = k.canonical; string = record { contents = h.contents; holds = k.spelt; primitive = h.primitive } }
primitive_encodes Cer (Shape.string tag (StringType.named_bits names)) v octets leaf h =
    let k = h.holds.spelt in
    record {
      bits = k.bits;
      is = h.holds.is ∙ ap Val.string k.is;
      trimmed = k.trimmed;
      zeros = k.zeros;
      canonical = λ canonical. k.canonical der_is_canonical;
      string = inl record { contents = h.contents; holds = bits_by_cer (k.bits ++ replicate k.zeros false) h.contents k.spelt; short = h.whole; primitive = primitive_by_cer tag h.contents octets h.primitive };
    }
primitive_encodes Der (Shape.string tag StringType.octet_string) v octets leaf h =
    let is : v ≡ Val.string (StringValue.octets h.contents) = h.holds.is ∙ ap Val.string h.holds.spelt in
    record { string_octets = h.contents; is = is; conforms = subst (Conforms (Shape.string tag StringType.octet_string)) is h.conforms; string = record { contents = h.contents; holds = refl; primitive = h.primitive } }
primitive_encodes Cer (Shape.string tag StringType.octet_string) v octets leaf h =
    let is : v ≡ Val.string (StringValue.octets h.contents) = h.holds.is ∙ ap Val.string h.holds.spelt in
    record { string_octets = h.contents; is = is; conforms = subst (Conforms (Shape.string tag StringType.octet_string)) is h.conforms; string = inl record { contents = h.contents; holds = refl; short = h.whole; primitive = primitive_by_cer tag h.contents octets h.primitive } }
primitive_encodes Der (Shape.string tag (StringType.text kind)) v octets leaf h =
    let is : v ≡ Val.string (StringValue.text h.contents) = h.holds.is ∙ ap Val.string h.holds.spelt in
    record { string_octets = h.contents; is = is; conforms = subst (Conforms (Shape.string tag (StringType.text kind))) is h.conforms; string = record { contents = h.contents; holds = refl; primitive = h.primitive } }
primitive_encodes Cer (Shape.string tag (StringType.text kind)) v octets leaf h =
    let is : v ≡ Val.string (StringValue.text h.contents) = h.holds.is ∙ ap Val.string h.holds.spelt in
    record { string_octets = h.contents; is = is; conforms = subst (Conforms (Shape.string tag (StringType.text kind))) is h.conforms; string = inl record { contents = h.contents; holds = refl; short = h.whole; primitive = primitive_by_cer tag h.contents octets h.primitive } }
primitive_encodes Der (Shape.string tag (StringType.time kind)) v octets leaf h =
    let is : v ≡ Val.string (StringValue.text h.contents) = h.holds.is ∙ ap Val.string h.holds.spelt in
    record { string_octets = h.contents; is = is; conforms = subst (Conforms (Shape.string tag (StringType.time kind))) is h.conforms; string = record { contents = h.contents; holds = refl; primitive = h.primitive } }
primitive_encodes Cer (Shape.string tag (StringType.time kind)) v octets leaf h =
    let is : v ≡ Val.string (StringValue.text h.contents) = h.holds.is ∙ ap Val.string h.holds.spelt in
    record { string_octets = h.contents; is = is; conforms = subst (Conforms (Shape.string tag (StringType.time kind))) is h.conforms; string = inl record { contents = h.contents; holds = refl; short = h.whole; primitive = primitive_by_cer tag h.contents octets h.primitive } }
primitive_encodes rule type v octets leaf h = absurd leaf

-- and so is one that is cut
pub cut_encodes : (kind : SegmentKind) (type : Shape) (v : Val) (octets : List ℕ) → IsStringOf kind type → IsCutLeaf kind type v octets → IsEncoding cer type v octets
cut_encodes Bits (Shape.string tag StringType.bit_string) v octets of h = record { bits = h.string; is = h.is; string = inr h.cut }
cut_encodes Bits (Shape.string tag (StringType.named_bits names)) v octets of h = record {
  bits = h.string;
  is = h.is;
  trimmed = subst (Conforms (Shape.string tag (StringType.named_bits names))) h.is h.conforms;
  zeros = 0;
  canonical = λ canonical. refl;
  string = inr (subst (λ b. IsCut tag bit_segment (IsBits cer) IsWholeOctets b octets) (sym (append-nil h.string)) h.cut);
}
cut_encodes Octets (Shape.string tag StringType.octet_string) v octets of h = record { string_octets = h.string; is = h.is; conforms = subst (Conforms (Shape.string tag StringType.octet_string)) h.is h.conforms; string = inr h.cut }
cut_encodes Octets (Shape.string tag (StringType.text kind)) v octets of h = record { string_octets = h.string; is = h.is; conforms = subst (Conforms (Shape.string tag (StringType.text kind))) h.is h.conforms; string = inr h.cut }
cut_encodes Octets (Shape.string tag (StringType.time kind)) v octets of h = record { string_octets = h.string; is = h.is; conforms = subst (Conforms (Shape.string tag (StringType.time kind))) h.is h.conforms; string = inr h.cut }
cut_encodes Bits (Shape.string tag StringType.octet_string) v octets of h = absurd (cc of.kind_is)
cut_encodes Bits (Shape.string tag (StringType.text kind)) v octets of h = absurd (cc of.kind_is)
cut_encodes Bits (Shape.string tag (StringType.time kind)) v octets of h = absurd (cc of.kind_is)
cut_encodes Octets (Shape.string tag StringType.bit_string) v octets of h = absurd (cc of.kind_is)
cut_encodes Octets (Shape.string tag (StringType.named_bits names)) v octets of h = absurd (cc of.kind_is)
cut_encodes kind type v octets of h = absurd of.string

-- what stands before the contents octets of one that is cut
abbrev pub constructed_of_cut : (kind : SegmentKind) (type : Shape) (room : ℕ) (octets : List ℕ) → HasCut kind type room octets → HasConstructed cer (tag_of type) room octets
constructed_of_cut kind type room octets h = record { contents = h.encoding.cut.segments_octets; part = h.part; rest = h.rest; whole = h.encoding.cut.constructed; fits = h.fits; parts = h.parts }

abbrev pub definite_of_primitive : (rule : Canonical) (type : Shape) (room : ℕ) (octets : List ℕ) → HasPrimitive rule type room octets → HasDefinite (tag_of type) false room octets
definite_of_primitive rule type room octets h = record { contents = h.encoding.contents; part = h.part; rest = h.rest; whole = h.encoding.primitive; fits = h.fits; parts = h.parts }

-- what can stand at the front by its form
pub record HasCutBy (rule : Canonical) (type : Shape) (room : ℕ) (octets : List ℕ) : Type 0 where
  pub by : rule ≡ Cer
  pub kind : SegmentKind
  pub of : IsStringOf kind type
  pub cut : HasCut kind type room octets

pub part_by_form : (rule : Canonical) (type : Shape) (room : ℕ) (octets : List ℕ) → IsLeaf type → HasPart (rule_of rule) type room octets → HasPrimitive rule type room octets ⊎ HasCutBy rule type room octets
part_by_form rule type room octets leaf h = elim (by_form rule type h.value h.part leaf h.encoding) [
  | inl p ↦ inl record { value = h.value; part = h.part; rest = h.rest; encoding = p; fits = h.fits; parts = h.parts }
  | inr c ↦ inr record { by = c.by; kind = c.kind; of = c.of; cut = record { value = h.value; part = h.part; rest = h.rest; encoding = c.leaf; fits = h.fits; parts = h.parts } }
]

-- it begins with the tag of the type
pub tag_of_part : (rule : Canonical) (type : Shape) (room : ℕ) (octets : List ℕ) → IsLeaf type → HasPart (rule_of rule) type room octets → IsTagWithin (tag_of type) room 0 octets
tag_of_part rule type room octets leaf h = elim (part_by_form rule type room octets leaf h) [
  | inl p ↦ tag_of_definite (tag_of type) false room octets (definite_of_primitive rule type room octets p)
  | inr c ↦ tag_of_indefinite (tag_of type) room octets (constructed_of_cut c.kind type room octets c.cut)
]

form_of_cut : (kind : SegmentKind) (type : Shape) (f : Bool) (room i : ℕ) (octets more : List ℕ) → IsIdentifier (tag_of type) f (take i octets) → HasCut kind type room (octets ++ more) → f ≡ true
form_of_cut kind type f room i octets more id h = form_of_indefinite (tag_of type) f room i octets more id (constructed_of_cut kind type room (octets ++ more) h)

form_of_primitive : (rule : Canonical) (type : Shape) (f : Bool) (room i : ℕ) (octets more : List ℕ) → IsIdentifier (tag_of type) f (take i octets) → HasPrimitive rule type room (octets ++ more) → f ≡ false
form_of_primitive rule type f room i octets more id h = form_of_definite (tag_of type) f false room i octets more id (definite_of_primitive rule type room (octets ++ more) h)

-- behind identifier octets of the one form stands an encoding of that form
pub primitive_of_part : (rule : Canonical) (type : Shape) (room i : ℕ) (octets more : List ℕ) → IsLeaf type → IsIdentifier (tag_of type) false (take i octets) → HasPart (rule_of rule) type room (octets ++ more) → HasPrimitive rule type room (octets ++ more)
primitive_of_part rule type room i octets more leaf id h = elim (part_by_form rule type room (octets ++ more) leaf h) [
  | inl p ↦ p
  | inr c ↦ let no : false ≡ true = form_of_cut c.kind type false room i octets more id c.cut in absurd cc
]

pub cut_of_part : (rule : Canonical) (type : Shape) (room i : ℕ) (octets more : List ℕ) → IsLeaf type → IsIdentifier (tag_of type) true (take i octets) → HasPart (rule_of rule) type room (octets ++ more) → HasCutBy rule type room (octets ++ more)
cut_of_part rule type room i octets more leaf id h = elim (part_by_form rule type room (octets ++ more) leaf h) [
  | inl p ↦ let no : true ≡ false = form_of_primitive rule type true room i octets more id p in absurd cc
  | inr c ↦ c
]
