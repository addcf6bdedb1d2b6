-- Lemmas on the values without parts: each has one encoding under CER and under DER.
use Rattle.std.proofs.Common.{◌≡◌, ℕ, List, ◌++◌, Bool, true, false, replicate, refl, sym, ap, ◌∙◌, subst}
use Rattle.octets.specs.declared.tag.Tag.{Tag}
use Rattle.octets.specs.Rule.{Rule, ber, cer, der, IsCanonical}
use Rattle.primitives.specs.Bits.{IsBits}
use Rattle.primitives.specs.Boolean.{IsBoolean}
use Rattle.primitives.proofs.IntegerLemmas.{one_integer_encoding}
use Rattle.primitives.proofs.OidLemmas.{one_oid_encoding, one_relative_oid_encoding}
use Rattle.types.specs.Shape.{SimpleType, StringType, SimpleValue, StringValue, Val}
use Rattle.types.specs.Form.{IsPrimitive, IsConstructed}
use Rattle.types.specs.Contents.{IsContents}
use Rattle.types.specs.Encoding.{IsSimpleEncoding, IsOctetStringEncoding, IsEncodingOfString}
use Rattle.types.specs.Strings.{IsStringEncoding, bit_segment, octet_segment, IsWholeOctets, AreOctets, AlwaysWhole}
use Rattle.types.proofs.FormLemmas.{one_definite}
use Rattle.types.proofs.EncodingLemmas.{simple-injective, string-injective}
use Rattle.types.proofs.CerLemmas.{one_indefinite, one_string_encoding, octets_cut_once, bits_cut_once, one_der_bits, simple_by_der}

-- equal contents octets have one encoding of a form under CER and under DER
pub one_constructed : (rule : Rule) (tag : Tag) (c d a b : List ℕ) → IsCanonical rule → c ≡ d → IsConstructed rule tag c a → IsConstructed rule tag d b → a ≡ b
one_constructed ber tag c d a b canonical same h g = absurd (canonical refl)
one_constructed cer tag c d a b canonical same h g = one_indefinite tag c d a b same h g
one_constructed der tag c d a b canonical same h g = one_definite tag true d a b (subst (λ x. IsConstructed der tag x a) same h) g

one_der_primitive : (tag : Tag) (c d a b : List ℕ) → c ≡ d → IsPrimitive der tag c a → IsPrimitive der tag d b → a ≡ b
one_der_primitive tag c d a b same h g = one_definite tag false d a b (subst (λ x. IsPrimitive der tag x a) same h) g

one_boolean : (truth : Bool) (c d : List ℕ) → IsBoolean der truth c → IsBoolean der truth d → c ≡ d
one_boolean true c d h g = h ∙ sym g
one_boolean false c d h g = h ∙ sym g

pub one_contents : (v : SimpleValue) (c d : List ℕ) → IsContents der v c → IsContents der v d → c ≡ d
one_contents (SimpleValue.boolean truth) c d h g = one_boolean truth c d h g
one_contents (SimpleValue.integer number) c d h g = one_integer_encoding number c d h g
one_contents (SimpleValue.wide_integer octets) c d h g = h ∙ sym g
one_contents (SimpleValue.enumerated number) c d h g = one_integer_encoding number c d h g
one_contents SimpleValue.null c d h g = h ∙ sym g
one_contents (SimpleValue.oid arcs) c d h g = one_oid_encoding arcs c d h g
one_contents (SimpleValue.relative_oid arcs) c d h g = one_relative_oid_encoding arcs c d h g

one_der_simple : (tag : Tag) (type : SimpleType) (v : Val) (a b : List ℕ) → IsSimpleEncoding der tag type v a → IsSimpleEncoding der tag type v b → a ≡ b
one_der_simple tag type v a b h g =
    let same : h.value ≡ g.value = simple-injective h.value g.value (sym h.is ∙ g.is) in
    let contents : h.contents ≡ g.contents = one_contents g.value h.contents g.contents (subst (λ x. IsContents der x h.contents) same h.spelt) g.spelt in
    one_der_primitive tag h.contents g.contents a b contents h.primitive g.primitive

pub one_simple : (rule : Rule) (tag : Tag) (type : SimpleType) (v : Val) (a b : List ℕ) → IsCanonical rule → IsSimpleEncoding rule tag type v a → IsSimpleEncoding rule tag type v b → a ≡ b
one_simple ber tag type v a b canonical h g = absurd (canonical refl)
one_simple cer tag type v a b canonical h g = one_der_simple tag type v a b (simple_by_der tag type v a h) (simple_by_der tag type v b g)
one_simple der tag type v a b canonical h g = one_der_simple tag type v a b h g

one_bits : (rule : Rule) (tag : Tag) (bits : List Bool) (a b : List ℕ) → IsCanonical rule → IsStringEncoding rule tag bit_segment (IsBits rule) IsWholeOctets bits a → IsStringEncoding rule tag bit_segment (IsBits rule) IsWholeOctets bits b → a ≡ b
one_bits ber tag bits a b canonical h g = absurd (canonical refl)
one_bits cer tag bits a b canonical h g = one_string_encoding bit_segment (IsBits cer) IsWholeOctets bits_cut_once tag bits a b h g
one_bits der tag bits a b canonical h g = one_der_primitive tag h.contents g.contents a b (one_der_bits bits h.contents g.contents h.holds g.holds) h.primitive g.primitive

one_octets : (rule : Rule) (tag : Tag) (string a b : List ℕ) → IsCanonical rule → IsStringEncoding rule tag octet_segment AreOctets AlwaysWhole string a → IsStringEncoding rule tag octet_segment AreOctets AlwaysWhole string b → a ≡ b
one_octets ber tag string a b canonical h g = absurd (canonical refl)
one_octets cer tag string a b canonical h g = one_string_encoding octet_segment AreOctets AlwaysWhole octets_cut_once tag string a b h g
one_octets der tag string a b canonical h g = one_der_primitive tag h.contents g.contents a b (h.holds ∙ sym g.holds) h.primitive g.primitive

one_octet_string : (rule : Rule) (tag : Tag) (type : StringType) (value_of : List ℕ → StringValue) (v : Val) (a b : List ℕ) → IsCanonical rule → ((p q : List ℕ) → value_of p ≡ value_of q → p ≡ q)
    → IsOctetStringEncoding rule tag type value_of v a → IsOctetStringEncoding rule tag type value_of v b → a ≡ b
one_octet_string rule tag type value_of v a b canonical injective h g =
    let same : h.string_octets ≡ g.string_octets = injective h.string_octets g.string_octets (string-injective (value_of h.string_octets) (value_of g.string_octets) (sym h.is ∙ g.is)) in
    one_octets rule tag g.string_octets a b canonical (subst (λ s. IsStringEncoding rule tag octet_segment AreOctets AlwaysWhole s a) same h.string) g.string

bits-injective : (p q : List Bool) → StringValue.bits p ≡ StringValue.bits q → p ≡ q
bits-injective p q h = cc

octets-injective : (p q : List ℕ) → StringValue.octets p ≡ StringValue.octets q → p ≡ q
octets-injective p q h = cc

text-injective : (p q : List ℕ) → StringValue.text p ≡ StringValue.text q → p ≡ q
text-injective p q h = cc

pub one_string : (rule : Rule) (tag : Tag) (type : StringType) (v : Val) (a b : List ℕ) → IsCanonical rule → IsEncodingOfString rule tag type v a → IsEncodingOfString rule tag type v b → a ≡ b
one_string rule tag StringType.bit_string v a b canonical h g =
    let same : h.bits ≡ g.bits = bits-injective h.bits g.bits (string-injective (StringValue.bits h.bits) (StringValue.bits g.bits) (sym h.is ∙ g.is)) in
    one_bits rule tag g.bits a b canonical (subst (λ s. IsStringEncoding rule tag bit_segment (IsBits rule) IsWholeOctets s a) same h.string) g.string
one_string rule tag (StringType.named_bits names) v a b canonical h g =
    let same : h.bits ≡ g.bits = bits-injective h.bits g.bits (string-injective (StringValue.bits h.bits) (StringValue.bits g.bits) (sym h.is ∙ g.is)) in
    let zeros : h.zeros ≡ g.zeros = h.canonical canonical ∙ sym (g.canonical canonical) in
    let string : h.bits ++ replicate h.zeros false ≡ g.bits ++ replicate g.zeros false = ap (λ bits. bits ++ replicate h.zeros false) same ∙ ap (λ n. g.bits ++ replicate n false) zeros in
    one_bits rule tag (g.bits ++ replicate g.zeros false) a b canonical (subst (λ s. IsStringEncoding rule tag bit_segment (IsBits rule) IsWholeOctets s a) string h.string) g.string
one_string rule tag StringType.octet_string v a b canonical h g = one_octet_string rule tag StringType.octet_string StringValue.octets v a b canonical octets-injective h g
one_string rule tag (StringType.text kind) v a b canonical h g = one_octet_string rule tag (StringType.text kind) StringValue.text v a b canonical text-injective h g
one_string rule tag (StringType.time kind) v a b canonical h g = one_octet_string rule tag (StringType.time kind) StringValue.text v a b canonical text-injective h g
