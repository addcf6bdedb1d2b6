-- Octets that are no encodings of values without parts, or not of these values.
use Rattle.std.proofs.Common.{◌≡◌, ℕ, List, [], ◌∷◌, inl, refl, sym, subst₂, arith, true, false, ℤ}
use Rattle.octets.specs.declared.tag.Class.TheVariants.{Universal}
use Rattle.octets.specs.declared.tag.Tag.{Tag}
use Rattle.octets.specs.Rule.{Rule, ber, IsCanonical}
use Rattle.types.specs.Shape.{SimpleType, Shape, SimpleValue, Val}
use Rattle.types.specs.Form.{IsDefinite, IsConstructed}
use Rattle.types.specs.Contents.{IsContents}
use Rattle.types.specs.Encoding.{IsEncoding}
use Rattle.types.proofs.CanonicalLemmas.{primitive_by_ber}
use Rattle.types.proofs.FormLemmas.{definite_unique}
use Rattle.types.proofs.EncodingLemmas.{simple-injective}
use Rattle.types.proofs.NestingLemmas.{primitive_not_constructed}
use Rattle.types.proofs.FormInstances.{universal, usable_universal, definite}
use Rattle.types.proofs.LeafInstances.{boolean, integer, null, enumerated, truth, number, nothing, true_FF, false_00, null_00}
use Rattle.types.proofs.TypeInstances.{well_formed_boolean, well_formed_null, lower, not_alone}
use Rattle.types.proofs.ApartInstances.{of_another, in_other_octets, gone_on, begins, with_another_tag}

-- under CER and DER TRUE is neither 01 01 2A nor 01 81 01 FF
true_other : (rule : Rule) (octets : List ℕ) → IsCanonical rule → (0x01 ∷ 0x01 ∷ 0xFF ∷ [] ≡ octets → ⊥) → IsEncoding rule boolean (truth true) octets → ⊥
true_other rule octets canonical apart h = in_other_octets rule boolean (truth true) (0x01 ∷ 0x01 ∷ 0xFF ∷ []) octets well_formed_boolean canonical (true_FF rule) apart h

true_2A-canonical : (rule : Rule) → IsCanonical rule → IsEncoding rule boolean (truth true) (0x01 ∷ 0x01 ∷ 0x2A ∷ []) → ⊥
true_2A-canonical rule canonical h = true_other rule (0x01 ∷ 0x01 ∷ 0x2A ∷ []) canonical (λ same. cc) h

true_81-canonical : (rule : Rule) → IsCanonical rule → IsEncoding rule boolean (truth true) (0x01 ∷ 0x81 ∷ 0x01 ∷ 0xFF ∷ []) → ⊥
true_81-canonical rule canonical h = true_other rule (0x01 ∷ 0x81 ∷ 0x01 ∷ 0xFF ∷ []) canonical (λ same. cc) h

-- under no rule 01 01 00, which is FALSE
true_00 : (rule : Rule) → IsEncoding rule boolean (truth true) (0x01 ∷ 0x01 ∷ 0x00 ∷ []) → ⊥
true_00 rule h = of_another rule boolean (truth true) (truth false) (0x01 ∷ 0x01 ∷ 0x00 ∷ []) well_formed_boolean (false_00 ber) (λ same. cc) h

-- nor is any BOOLEAN 01 01 FF with another octet after it
boolean-more : (rule : Rule) (v : Val) (octet : ℕ) (octets : List ℕ) → IsEncoding rule boolean v (0x01 ∷ 0x01 ∷ 0xFF ∷ octet ∷ octets) → ⊥
boolean-more rule v octet octets h = gone_on rule boolean v (truth true) (0x01 ∷ 0x01 ∷ 0xFF ∷ []) octets octet well_formed_boolean (true_FF ber) h

-- a type without parts has no constructed encoding: 21 03 01 01 FF, 22 04 02 02 FF 7F and 25 00
no_constructed : (rule : Rule) (tag : Tag) (type : SimpleType) (v : Val) (contents octets : List ℕ) → IsConstructed ber tag contents octets → IsEncoding rule (Shape.simple tag type) v octets → ⊥
no_constructed rule tag type v contents octets h g = primitive_not_constructed tag tag g.contents contents octets octets [] [] (primitive_by_ber rule tag g.contents octets g.primitive) h refl

boolean-constructed : (rule : Rule) (v : Val) → IsEncoding rule boolean v (0x21 ∷ 0x03 ∷ 0x01 ∷ 0x01 ∷ 0xFF ∷ []) → ⊥
boolean-constructed rule v h =
    no_constructed rule (universal 1) SimpleType.boolean v (0x01 ∷ 0x01 ∷ 0xFF ∷ []) (0x21 ∷ 0x03 ∷ 0x01 ∷ 0x01 ∷ 0xFF ∷ []) (inl (definite ber Universal 1 true (0x01 ∷ 0x01 ∷ 0xFF ∷ []) (omega arith) (omega arith))) h

integer-constructed : (rule : Rule) (v : Val) → IsEncoding rule integer v (0x22 ∷ 0x04 ∷ 0x02 ∷ 0x02 ∷ 0xFF ∷ 0x7F ∷ []) → ⊥
integer-constructed rule v h =
    no_constructed rule (universal 2) SimpleType.integer v (0x02 ∷ 0x02 ∷ 0xFF ∷ 0x7F ∷ []) (0x22 ∷ 0x04 ∷ 0x02 ∷ 0x02 ∷ 0xFF ∷ 0x7F ∷ [])
    (inl (definite ber Universal 2 true (0x02 ∷ 0x02 ∷ 0xFF ∷ 0x7F ∷ []) (omega arith) (omega arith))) h

null-constructed : (rule : Rule) (v : Val) → IsEncoding rule (null (universal 5)) v (0x25 ∷ 0x00 ∷ []) → ⊥
null-constructed rule v h = no_constructed rule (universal 5) SimpleType.null v [] (0x25 ∷ 0x00 ∷ []) (inl (definite ber Universal 5 true [] (omega arith) (omega arith))) h

-- the contents of a primitive encoding of a type without parts
contents_are : (rule : Rule) (tag : Tag) (type : SimpleType) (v : Val) (contents octets : List ℕ) → IsDefinite ber tag false contents octets → (h : IsEncoding rule (Shape.simple tag type) v octets) → h.contents ≡ contents
contents_are rule tag type v contents octets f h =
    (definite_unique ber ber tag tag false false h.contents contents octets octets [] [] (primitive_by_ber rule tag h.contents octets h.primitive) f refl).contents

-- 02 03 FF FF 7F is no INTEGER, since its first nine bits are 1, nor is 02 00
integer-nine_bits : (rule : Rule) (n : ℤ) → IsEncoding rule integer (number n) (0x02 ∷ 0x03 ∷ 0xFF ∷ 0xFF ∷ 0x7F ∷ []) → ⊥
integer-nine_bits rule n h =
    let contents : h.contents ≡ 0xFF ∷ 0xFF ∷ 0x7F ∷ [] = contents_are rule (universal 2) SimpleType.integer (number n) (0xFF ∷ 0xFF ∷ 0x7F ∷ []) (0x02 ∷ 0x03 ∷ 0xFF ∷ 0xFF ∷ 0x7F ∷ []) (definite ber Universal 2 false (0xFF ∷ 0xFF ∷ 0x7F ∷ []) (omega arith) (omega arith)) h in
    let value : SimpleValue.integer n ≡ h.value = simple-injective (SimpleValue.integer n) h.value h.is in
    let spelt : IsContents rule (SimpleValue.integer n) (0xFF ∷ 0xFF ∷ 0x7F ∷ []) = subst₂ (IsContents rule) (sym value) contents h.spelt in
    absurd (omega (arith, spelt.shortest.1 refl))

integer-empty : (rule : Rule) (n : ℤ) → IsEncoding rule integer (number n) (0x02 ∷ 0x00 ∷ []) → ⊥
integer-empty rule n h =
    let contents : h.contents ≡ [] = contents_are rule (universal 2) SimpleType.integer (number n) [] (0x02 ∷ 0x00 ∷ []) (definite ber Universal 2 false [] (omega arith) (omega arith)) h in
    let value : SimpleValue.integer n ≡ h.value = simple-injective (SimpleValue.integer n) h.value h.is in
    let spelt : IsContents rule (SimpleValue.integer n) [] = subst₂ (IsContents rule) (sym value) contents h.spelt in
    absurd (omega (arith, spelt.at_least_one))

-- nor is NULL 05 01 00, or 05 00 with more after it, and an ENUMERATED is not under the tag of INTEGER: 02 01 03
null-contents : (rule : Rule) → IsEncoding rule (null (universal 5)) nothing (0x05 ∷ 0x01 ∷ 0x00 ∷ []) → ⊥
null-contents rule h =
    let contents : h.contents ≡ 0x00 ∷ [] = contents_are rule (universal 5) SimpleType.null nothing (0x00 ∷ []) (0x05 ∷ 0x01 ∷ 0x00 ∷ []) (definite ber Universal 5 false (0x00 ∷ []) (omega arith) (omega arith)) h in
    let value : SimpleValue.null ≡ h.value = simple-injective SimpleValue.null h.value h.is in
    let spelt : IsContents rule SimpleValue.null (0x00 ∷ []) = subst₂ (IsContents rule) (sym value) contents h.spelt in
    cc spelt

null-more : (rule : Rule) (v : Val) (octet : ℕ) (octets : List ℕ) → IsEncoding rule (null (universal 5)) v (0x05 ∷ 0x00 ∷ octet ∷ octets) → ⊥
null-more rule v octet octets h = gone_on rule (null (universal 5)) v nothing (0x05 ∷ 0x00 ∷ []) octets octet (well_formed_null (universal 5) (usable_universal 5 (omega arith)) (omega arith)) (null_00 ber Universal 5 (omega arith)) h

enumerated-integer : (rule : Rule) (v : Val) → IsEncoding rule enumerated v (0x02 ∷ 0x01 ∷ 0x03 ∷ []) → ⊥
enumerated-integer rule v h =
    with_another_tag rule enumerated v (0x02 ∷ 0x01 ∷ 0x03 ∷ []) (universal 2) (begins Universal 2 false (0x01 ∷ 0x03 ∷ []) (omega arith))
    (λ c. not_alone (universal 2) (universal 10) (lower (universal 2) (universal 10) (omega arith)) c) h
