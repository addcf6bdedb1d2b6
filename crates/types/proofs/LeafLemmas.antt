-- Lemmas on the values without parts: contents octets have one value, and so have the encodings of strings.
use Rattle.std.proofs.Common.{◌≡◌, ℕ, ℤ, List, [], ◌++◌, Bool, true, false, replicate, FitsSigned, refl, sym, ◌∙◌, ap, subst, arith}
use Rattle.std.specs.Bool.{⊤}
use Rattle.std.specs.Int.{w128}
use Rattle.octets.specs.declared.tag.Tag.{Tag}
use Rattle.octets.specs.Rule.{ber}
use Rattle.primitives.specs.Boolean.{IsBoolean}
use Rattle.primitives.specs.Bits.{IsBits}
use Rattle.primitives.specs.Integer.{IsInteger, IsWideInteger, integer_of}
use Rattle.primitives.proofs.OidLemmas.{one_oid_value, one_relative_oid_value}
use Rattle.primitives.proofs.BitsLemmas.{one_bits_value}
use Rattle.types.specs.Shape.{SimpleType, StringType, SimpleValue, StringValue, Val}
use Rattle.types.specs.Conforms.{SimpleConforms}
use Rattle.types.specs.Contents.{IsContents}
use Rattle.types.specs.Strings.{bit_segment, octet_segment, IsWholeOctets, AreOctets, AlwaysWhole}
use Rattle.types.specs.Encoding.{IsSimpleEncoding, IsOctetStringEncoding, IsEncodingOfString}
use Rattle.types.proofs.FormLemmas.{definite_unique}
use Rattle.types.proofs.SegmentLemmas.{string_unique}
use Rattle.types.proofs.TrimLemmas.{trimmed_unique}

-- the place of a type and of a value among the six
place_of_type : SimpleType → ℕ
place_of_type SimpleType.boolean = 0
place_of_type SimpleType.integer = 1
place_of_type (SimpleType.enumerated items) = 2
place_of_type SimpleType.null = 3
place_of_type SimpleType.oid = 4
place_of_type SimpleType.relative_oid = 5

place_of_value : SimpleValue → ℕ
place_of_value (SimpleValue.boolean truth) = 0
place_of_value (SimpleValue.integer number) = 1
place_of_value (SimpleValue.wide_integer octets) = 1
place_of_value (SimpleValue.enumerated number) = 2
place_of_value SimpleValue.null = 3
place_of_value (SimpleValue.oid arcs) = 4
place_of_value (SimpleValue.relative_oid arcs) = 5

-- a value stands where its type stands
place_conforms : (type : SimpleType) (v : SimpleValue) → SimpleConforms type v → place_of_type type ≡ place_of_value v
unfolding place_of_type place_of_value
place_conforms SimpleType.boolean (SimpleValue.boolean truth) h = refl
place_conforms SimpleType.boolean _ h = elim h [ ]
place_conforms SimpleType.integer (SimpleValue.integer number) h = refl
place_conforms SimpleType.integer (SimpleValue.wide_integer octets) h = refl
place_conforms SimpleType.integer _ h = elim h [ ]
place_conforms (SimpleType.enumerated items) (SimpleValue.enumerated number) h = refl
place_conforms (SimpleType.enumerated items) _ h = elim h [ ]
place_conforms SimpleType.null SimpleValue.null h = refl
place_conforms SimpleType.null _ h = elim h [ ]
place_conforms SimpleType.oid (SimpleValue.oid arcs) h = refl
place_conforms SimpleType.oid _ h = elim h [ ]
place_conforms SimpleType.relative_oid (SimpleValue.relative_oid arcs) h = refl
place_conforms SimpleType.relative_oid _ h = elim h [ ]

-- the numbers of an INTEGER that stand as such, and the contents octets that stand for others
IsNumber : SimpleValue → Type 0
IsNumber (SimpleValue.integer number) = FitsSigned w128 number
IsNumber (SimpleValue.wide_integer octets) = IsWideInteger octets
IsNumber _ = ⊤

conforming_number : (type : SimpleType) (v : SimpleValue) → SimpleConforms type v → IsNumber v
unfolding IsNumber
conforming_number SimpleType.integer (SimpleValue.integer number) h = h
conforming_number _ (SimpleValue.integer number) h = elim h [ ]
conforming_number SimpleType.integer (SimpleValue.wide_integer octets) h = h
conforming_number _ (SimpleValue.wide_integer octets) h = elim h [ ]
conforming_number type _ h = tt

-- no number stands in both forms
one_form : (number : ℤ) (wide c : List ℕ) → FitsSigned w128 number → IsWideInteger wide → IsInteger number c → c ≡ wide → ⊥
one_form number wide c fits h spelt same = h.outside (subst (FitsSigned w128) (sym spelt.value ∙ ap integer_of same ∙ h.spelt.value) fits)

boolean_value : (v w : Bool) (c : List ℕ) → IsBoolean ber v c → IsBoolean ber w c → v ≡ w
boolean_value true true c h k = refl
boolean_value false false c h k = refl
boolean_value true false c h k = let same : h.octet ≡ 0 = cc in absurd (h.not_zero same)
boolean_value false true c h k = let same : k.octet ≡ 0 = cc in absurd (k.not_zero same)

-- contents octets have one value in each place
one_value : (v w : SimpleValue) (c : List ℕ) → place_of_value v ≡ place_of_value w → IsNumber v → IsNumber w → IsContents ber v c → IsContents ber w c → v ≡ w
unfolding place_of_value IsNumber
one_value (SimpleValue.boolean a) (SimpleValue.boolean b) c e f g h k = ap SimpleValue.boolean (boolean_value a b c h k)
one_value (SimpleValue.boolean a) _ c e f g h k = absurd (omega (arith, e))
one_value (SimpleValue.integer a) (SimpleValue.integer b) c e f g h k = ap SimpleValue.integer (sym h.value ∙ k.value)
one_value (SimpleValue.integer a) (SimpleValue.wide_integer b) c e f g h k = absurd (one_form a b c f g h k)
one_value (SimpleValue.integer a) _ c e f g h k = absurd (omega (arith, e))
one_value (SimpleValue.wide_integer a) (SimpleValue.wide_integer b) c e f g h k = ap SimpleValue.wide_integer (sym h ∙ k)
one_value (SimpleValue.wide_integer a) (SimpleValue.integer b) c e f g h k = absurd (one_form b a c g f k h)
one_value (SimpleValue.wide_integer a) _ c e f g h k = absurd (omega (arith, e))
one_value (SimpleValue.enumerated a) (SimpleValue.enumerated b) c e f g h k = ap SimpleValue.enumerated (sym h.value ∙ k.value)
one_value (SimpleValue.enumerated a) _ c e f g h k = absurd (omega (arith, e))
one_value SimpleValue.null SimpleValue.null c e f g h k = refl
one_value SimpleValue.null _ c e f g h k = absurd (omega (arith, e))
one_value (SimpleValue.oid a) (SimpleValue.oid b) c e f g h k = ap SimpleValue.oid (one_oid_value a b c h k)
one_value (SimpleValue.oid a) _ c e f g h k = absurd (omega (arith, e))
one_value (SimpleValue.relative_oid a) (SimpleValue.relative_oid b) c e f g h k = ap SimpleValue.relative_oid (one_relative_oid_value a b c h k)
one_value (SimpleValue.relative_oid a) _ c e f g h k = absurd (omega (arith, e))

-- contents octets have one value of a type
pub contents_value : (type : SimpleType) (v w : SimpleValue) (c : List ℕ) → SimpleConforms type v → SimpleConforms type w → IsContents ber v c → IsContents ber w c → v ≡ w
contents_value type v w c f g h k = one_value v w c (sym (place_conforms type v f) ∙ place_conforms type w g) (conforming_number type v f) (conforming_number type w g) h k

pub simple_value : (tag : Tag) (type : SimpleType) (v w : Val) (octets : List ℕ) → IsSimpleEncoding ber tag type v octets → IsSimpleEncoding ber tag type w octets → v ≡ w
simple_value tag type v w octets h g =
    let same = definite_unique ber ber tag tag false false h.contents g.contents octets octets [] [] h.primitive g.primitive refl in
    let value : h.value ≡ g.value = contents_value type h.value g.value g.contents h.conforms g.conforms (subst (IsContents ber h.value) same.contents h.spelt) g.spelt in
    h.is ∙ (ap Val.simple value ∙ sym g.is)

octet_string_value : (tag : Tag) (type : StringType) (value_of : List ℕ → StringValue) (v w : Val) (octets : List ℕ) → IsOctetStringEncoding ber tag type value_of v octets → IsOctetStringEncoding ber tag type value_of w octets → v ≡ w
octet_string_value tag type value_of v w octets h g =
    let same = string_unique octet_segment AreOctets AlwaysWhole (λ p q c m n. sym m ∙ n) (λ u. omega arith) tag h.string_octets g.string_octets octets octets [] [] h.string g.string refl in
    h.is ∙ (ap (λ x. Val.string (value_of x)) same.string ∙ sym g.is)

-- an encoding of a string type has one value
pub string_value : (tag : Tag) (type : StringType) (v w : Val) (octets : List ℕ) → IsEncodingOfString ber tag type v octets → IsEncodingOfString ber tag type w octets → v ≡ w
string_value tag StringType.bit_string v w octets h g =
    let same = string_unique bit_segment (IsBits ber) IsWholeOctets (λ p q c m n. one_bits_value ber ber p q c m n) (λ u. omega arith) tag h.bits g.bits octets octets [] [] h.string g.string refl in
    h.is ∙ (ap (λ x. Val.string (StringValue.bits x)) same.string ∙ sym g.is)
string_value tag (StringType.named_bits names) v w octets h g =
    let same = string_unique bit_segment (IsBits ber) IsWholeOctets (λ p q c m n. one_bits_value ber ber p q c m n) (λ u. omega arith) tag (h.bits ++ replicate h.zeros false) (g.bits ++ replicate g.zeros false) octets octets [] [] h.string g.string refl in
    let bits : h.bits ≡ g.bits = trimmed_unique h.bits g.bits h.zeros g.zeros h.trimmed g.trimmed same.string in
    h.is ∙ (ap (λ x. Val.string (StringValue.bits x)) bits ∙ sym g.is)
string_value tag StringType.octet_string v w octets h g = octet_string_value tag StringType.octet_string StringValue.octets v w octets h g
string_value tag (StringType.text kind) v w octets h g = octet_string_value tag (StringType.text kind) StringValue.text v w octets h g
string_value tag (StringType.time kind) v w octets h g = octet_string_value tag (StringType.time kind) StringValue.text v w octets h g
