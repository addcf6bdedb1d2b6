-- Lemmas on values whose encodings are primitive.
use Rattle.std.proofs.Common.{◌≡◌, ◌≤◌, ◌⊎◌, inl, inr, ◌∙◌, ◌^◌, ℕ, ℤ, FitsSigned, Bool, false, true, List, ◌++◌, length, refl, sym, ap, subst, arith, append_assoc}
use Rattle.std.specs.Int.{w128}
use Rattle.octets.specs.declared.canonical.Canonical.{Canonical}
use Rattle.octets.specs.declared.canonical.Canonical.TheVariants.{Cer, Der}
use Rattle.octets.specs.declared.TheConstants.{MAX_TAG_NUMBER}
use Rattle.octets.specs.declared.tag.Tag.{Tag}
use Rattle.octets.specs.Front.{Appends}
use Rattle.octets.specs.Length.{IsShortestLength}
use Rattle.octets.specs.Rule.{Rule, der, IsCanonical, rule_of}
use Rattle.octets.proofs.RuleLemmas.{rule_is_canonical}
use Rattle.primitives.specs.Boolean.{IsBoolean, IsCanonicalBoolean}
use Rattle.types.specs.declared.value.Value.{Value}
use Rattle.types.specs.declared.value.Value as value_is
use Rattle.types.specs.Shape.{SimpleType, SimpleValue, Val}
use Rattle.types.specs.View.{value_view}
use Rattle.types.specs.Contents.{IsContents}
use Rattle.types.specs.Form.{IsPrimitive}
use Rattle.types.proofs.CanonicalLemmas.{primitive_by_cer, primitive_by_der}
use Rattle.types.proofs.CerLemmas.{contents_by_cer, contents_by_der}
use Rattle.types.proofs.ContentsExistenceLemmas.{simple_contents}
use Rattle.types.proofs.ViewLemmas.{value-Integer, value-Enumerated}
use Rattle.canon.specs.Leaf.{IsContentsOf, IsSimple, IsWithin, IsPrimitiveHead, IsNumberEncoding, IsSimplyEncoded}
use Rattle.canon.specs.Opening.{IsOpening, IsLengthPut}
use Rattle.canon.specs.Size.{HasSize}
use Rattle.canon.proofs.OpeningLemmas.{closed_definite}
use Rattle.canon.proofs.PrimitiveLemmas.{primitive_exists}
use Rattle.canon.proofs.StringSizeLemmas.{SizesPrimitive}

-- CER and DER have the same primitive encodings
primitive_to_der : (rule : Canonical) (tag : Tag) (contents octets : List ℕ) → IsPrimitive (rule_of rule) tag contents octets → IsPrimitive der tag contents octets
primitive_to_der Cer tag contents octets h = primitive_by_der tag contents octets h
primitive_to_der Der tag contents octets h = h

primitive_from_der : (rule : Canonical) (tag : Tag) (contents octets : List ℕ) → IsPrimitive der tag contents octets → IsPrimitive (rule_of rule) tag contents octets
primitive_from_der Cer tag contents octets h = primitive_by_cer tag contents octets h
primitive_from_der Der tag contents octets h = h

-- and the same contents octets
contents_to_der : (rule : Canonical) (v : Val) (contents : List ℕ) → IsContentsOf (rule_of rule) v contents → IsContentsOf der v contents
contents_to_der Cer (Val.simple value) contents h = contents_by_der value contents h
contents_to_der Cer v contents h = elim h [ ]
contents_to_der Der v contents h = h

contents_from_der : (rule : Canonical) (v : Val) (contents : List ℕ) → IsContentsOf der v contents → IsContentsOf (rule_of rule) v contents
contents_from_der Cer (Val.simple value) contents h = contents_by_cer value contents h
contents_from_der Cer v contents h = elim h [ ]
contents_from_der Der v contents h = h

pub simply_from_der : (rule : Canonical) (tag : Tag) (v : Val) (octets : List ℕ) → IsSimplyEncoded der tag v octets → IsSimplyEncoded (rule_of rule) tag v octets
simply_from_der rule tag v octets h = record { contents = h.contents; spelt = contents_from_der rule v h.contents h.spelt; primitive = primitive_from_der rule tag h.contents octets h.primitive }

-- what stands before contents octets, and they behind it
pub simple_made : (tag : Tag) (v : Val) (n : ℕ) (old mid new : List ℕ) → Appends (IsPrimitiveHead tag n) old mid → Appends (IsContentsOf der v) mid new → ((contents : List ℕ) → IsContentsOf der v contents → length contents ≡ n) → Appends (IsSimplyEncoded der tag v) old new
simple_made tag v n old mid new head contents count =
    let h = head.2 in
    let whole = head.0 ++ contents.0 in
    let sized : IsShortestLength (length contents.0) h.size = subst (λ k. IsShortestLength k h.size) (sym (count contents.0 contents.2)) h.sized in
    let joined = ap (λ x. x ++ contents.0) h.joined ∙ append_assoc h.identifier h.size contents.0 in (
      whole,
      contents.1 ∙ ap (λ x. x ++ contents.0) head.1 ∙ append_assoc old head.0 contents.0,
      record { contents = contents.0; spelt = contents.2; primitive = record { identifier = h.identifier; size = h.size; tagged = h.tagged; sized = sized; joined = joined } },
    )

-- an opening, contents octets behind it, and their length in its place
pub simple_closed : (tag : Tag) (v : Val) (place : ℕ) (old one two new : List ℕ) → IsOpening tag false old one place → Appends (IsContentsOf der v) one two → IsLengthPut place two new → Appends (IsSimplyEncoded der tag v) old new
simple_closed tag v place old one two new opening contents put =
    let whole = closed_definite tag false place old one contents.0 two new opening contents.1 put in (
      whole.0,
      whole.1,
      record { contents = contents.0; spelt = contents.2; primitive = whole.2 },
    )

-- some contents octets
within_contents : (rule : Rule) (value : SimpleValue) → IsCanonical rule → IsWithin value → (contents : List ℕ) × IsContents rule value contents
within_contents rule (SimpleValue.boolean truth) canonical h = let made = simple_contents rule SimpleType.boolean (SimpleValue.boolean truth) canonical h in (made.0, made.1)
within_contents rule (SimpleValue.integer number) canonical h = let made = simple_contents rule SimpleType.integer (SimpleValue.integer number) canonical h in (made.0, made.1)
within_contents rule (SimpleValue.wide_integer octets) canonical h = (octets, refl)
within_contents rule (SimpleValue.enumerated number) canonical h = let made = simple_contents rule SimpleType.integer (SimpleValue.integer number) canonical h in (made.0, made.1)
within_contents rule SimpleValue.null canonical h = let made = simple_contents rule SimpleType.null SimpleValue.null canonical h in (made.0, made.1)
within_contents rule (SimpleValue.oid arcs) canonical h = let made = simple_contents rule SimpleType.oid (SimpleValue.oid arcs) canonical h in (made.0, made.1)
within_contents rule (SimpleValue.relative_oid arcs) canonical h = let made = simple_contents rule SimpleType.relative_oid (SimpleValue.relative_oid arcs) canonical h in (made.0, made.1)

contents_there : (rule : Canonical) (v : Val) → IsSimple v → (contents : List ℕ) × IsContentsOf (rule_of rule) v contents
contents_there rule (Val.simple value) h = within_contents (rule_of rule) value (rule_is_canonical rule) h
contents_there rule v h = elim h [ ]

some_simple : (rule : Canonical) (tag : Tag) (v : Val) (n : ℕ) → tag.number ≤ MAX_TAG_NUMBER → IsSimple v → n ≤ 2451 → ((contents : List ℕ) → IsContentsOf der v contents → length contents ≡ n) → (octets : List ℕ) × IsSimplyEncoded (rule_of rule) tag v octets
some_simple rule tag v n kept simple few count =
    let some = contents_there rule v simple in
    let wide : 2 ^ 64 ≡ 18446744073709551616 = refl in
    let p = primitive_exists tag some.0 kept (omega (arith, count some.0 (contents_to_der rule v some.0 some.1), few, wide)) in
    (p.0, record { contents = some.0; spelt = some.1; primitive = primitive_from_der rule tag some.0 p.0 (primitive_by_der tag some.0 p.0 p.1) })

pub simple_size : (rule : Canonical) (tag : Tag) (v : Val) (n size : ℕ) → tag.number ≤ MAX_TAG_NUMBER → IsSimple v → n ≤ 2451 → ((contents : List ℕ) → IsContentsOf der v contents → length contents ≡ n) → SizesPrimitive tag n size
    → HasSize (IsSimplyEncoded (rule_of rule) tag v) size
simple_size rule tag v n size kept simple few count sizes = record {
  each = λ octets h. sizes h.contents octets (omega (arith, count h.contents (contents_to_der rule v h.contents h.spelt), few)) (primitive_to_der rule tag h.contents octets h.primitive);
  there = λ within. some_simple rule tag v n kept simple few count;
}

-- what is written of a BOOLEAN
pub boolean_counts : (truth : Bool) (contents : List ℕ) → IsBoolean der truth contents → length contents ≡ 1
boolean_counts false contents h = ap length h
boolean_counts true contents h = ap length h

pub boolean_contents : (truth : Bool) (old new : List ℕ) → Appends (IsCanonicalBoolean truth) old new → Appends (IsContentsOf der (Val.simple (SimpleValue.boolean truth))) old new
boolean_contents truth old new h = (h.0, h.1, h.2.1)

-- of an INTEGER or ENUMERATED
abbrev pub IsNumber : Val → ℤ → Type 0
IsNumber v number = (v ≡ Val.simple (SimpleValue.integer number)) ⊎ (v ≡ Val.simple (SimpleValue.enumerated number))

pub number_view : (value : Value) (number : ℤ) → (value ≡ value_is.Integer number) ⊎ (value ≡ value_is.Enumerated number) → IsNumber (value_view value) number
number_view value number (inl is) = inl (ap value_view is ∙ value-Integer number)
number_view value number (inr is) = inr (ap value_view is ∙ value-Enumerated number)

pub number_fits : (v : Val) (number : ℤ) → IsNumber v number → IsSimple v → FitsSigned w128 number
number_fits v number (inl is) h = subst IsSimple is h
number_fits v number (inr is) h = subst IsSimple is h

pub number_encoded : (tag : Tag) (v : Val) (number : ℤ) (octets : List ℕ) → IsNumber v number → IsNumberEncoding tag number octets → IsSimplyEncoded der tag v octets
number_encoded tag v number octets (inl is) h = record { contents = h.contents; spelt = subst (λ w. IsContentsOf der w h.contents) (sym is) h.spelt; primitive = h.primitive }
number_encoded tag v number octets (inr is) h = record { contents = h.contents; spelt = subst (λ w. IsContentsOf der w h.contents) (sym is) h.spelt; primitive = h.primitive }
