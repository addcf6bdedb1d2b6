-- Lemmas on contents octets under the canonical rules and under BER.
use Rattle.std.proofs.Common.{ℕ, List, ◌++◌, false, replicate, refl}
use Rattle.octets.specs.Rule.{ber, der}
use Rattle.primitives.proofs.BitsLemmas.{canonical_bits_are_ber}
use Rattle.primitives.proofs.BooleanLemmas.{canonical_boolean_is_ber}
use Rattle.types.specs.Shape.{SimpleType, StringType, Shape, Val}
use Rattle.encoding_parts.specs.Contents.{HoldsContents}

-- what the canonical rules take BER takes
pub contents_by_ber : (type : Shape) (v : Val) (contents : List ℕ) → HoldsContents der type v contents → HoldsContents ber type v contents
contents_by_ber (Shape.simple tag SimpleType.boolean) v contents h = record { value = h.value; is = h.is; spelt = record { truth = h.spelt.truth; is = h.spelt.is; spelt = canonical_boolean_is_ber der h.spelt.truth contents h.spelt.spelt } }
contents_by_ber (Shape.simple tag SimpleType.integer) v contents h = record { value = h.value; is = h.is; spelt = h.spelt }
contents_by_ber (Shape.simple tag (SimpleType.enumerated items)) v contents h = record { value = h.value; is = h.is; spelt = h.spelt }
contents_by_ber (Shape.simple tag SimpleType.null) v contents h = record { value = h.value; is = h.is; spelt = h.spelt }
contents_by_ber (Shape.simple tag SimpleType.oid) v contents h = record { value = h.value; is = h.is; spelt = h.spelt }
contents_by_ber (Shape.simple tag SimpleType.relative_oid) v contents h = record { value = h.value; is = h.is; spelt = h.spelt }
contents_by_ber (Shape.string tag StringType.bit_string) v contents h = record { value = h.value; is = h.is; spelt = record { bits = h.spelt.bits; is = h.spelt.is; spelt = canonical_bits_are_ber der h.spelt.bits contents h.spelt.spelt } }
contents_by_ber (Shape.string tag (StringType.named_bits names)) v contents h =
    let k = h.spelt in
    record { value = h.value; is = h.is; spelt = record { bits = k.bits; is = k.is; trimmed = k.trimmed; zeros = k.zeros; canonical = λ canonical. absurd (canonical refl); spelt = canonical_bits_are_ber der (k.bits ++ replicate k.zeros false) contents k.spelt } }
contents_by_ber (Shape.string tag StringType.octet_string) v contents h = record { value = h.value; is = h.is; spelt = h.spelt }
contents_by_ber (Shape.string tag (StringType.text kind)) v contents h = record { value = h.value; is = h.is; spelt = h.spelt }
contents_by_ber (Shape.string tag (StringType.time kind)) v contents h = record { value = h.value; is = h.is; spelt = h.spelt }
contents_by_ber type v contents h = absurd h
