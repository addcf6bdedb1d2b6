-- Lemmas on the encodings of types without parts.
use Rattle.std.proofs.Common.{inl, inr, ℕ, List, refl, sym, ap, subst}
use Rattle.octets.specs.Rule.{Rule}
use Rattle.types.specs.Shape.{SimpleType, StringType, SimpleValue, Shape, Val}
use Rattle.types.specs.Conforms.{SimpleConforms, Conforms}
use Rattle.types.specs.Contents.{IsContents}
use Rattle.types.specs.Encoding.{IsEncoding}
use Rattle.types.specs.Leaf.{IsLeaf}
use Rattle.encoding_parts.specs.Contents.{IsSimpleContents}

-- contents octets by cases on the value are those by cases on the type, where the value conforms
pub simple_contents : (rule : Rule) (type : SimpleType) (value : SimpleValue) (c : List ℕ) → SimpleConforms type value → IsContents rule value c → IsSimpleContents rule type value c
simple_contents rule SimpleType.boolean (SimpleValue.boolean x) c conforms h = record { truth = x; is = refl; spelt = h }
simple_contents rule SimpleType.boolean (SimpleValue.integer x) c conforms h = absurd conforms
simple_contents rule SimpleType.boolean (SimpleValue.wide_integer x) c conforms h = absurd conforms
simple_contents rule SimpleType.boolean (SimpleValue.enumerated x) c conforms h = absurd conforms
simple_contents rule SimpleType.boolean SimpleValue.null c conforms h = absurd conforms
simple_contents rule SimpleType.boolean (SimpleValue.oid x) c conforms h = absurd conforms
simple_contents rule SimpleType.boolean (SimpleValue.relative_oid x) c conforms h = absurd conforms
simple_contents rule SimpleType.integer (SimpleValue.boolean x) c conforms h = absurd conforms
simple_contents rule SimpleType.integer (SimpleValue.integer x) c conforms h = inl (record { number = x; is = refl; spelt = h })
simple_contents rule SimpleType.integer (SimpleValue.wide_integer x) c conforms h = inr (ap SimpleValue.wide_integer (sym h))
simple_contents rule SimpleType.integer (SimpleValue.enumerated x) c conforms h = absurd conforms
simple_contents rule SimpleType.integer SimpleValue.null c conforms h = absurd conforms
simple_contents rule SimpleType.integer (SimpleValue.oid x) c conforms h = absurd conforms
simple_contents rule SimpleType.integer (SimpleValue.relative_oid x) c conforms h = absurd conforms
simple_contents rule (SimpleType.enumerated items) (SimpleValue.boolean x) c conforms h = absurd conforms
simple_contents rule (SimpleType.enumerated items) (SimpleValue.integer x) c conforms h = absurd conforms
simple_contents rule (SimpleType.enumerated items) (SimpleValue.wide_integer x) c conforms h = absurd conforms
simple_contents rule (SimpleType.enumerated items) (SimpleValue.enumerated x) c conforms h = record { number = x; is = refl; spelt = h }
simple_contents rule (SimpleType.enumerated items) SimpleValue.null c conforms h = absurd conforms
simple_contents rule (SimpleType.enumerated items) (SimpleValue.oid x) c conforms h = absurd conforms
simple_contents rule (SimpleType.enumerated items) (SimpleValue.relative_oid x) c conforms h = absurd conforms
simple_contents rule SimpleType.null (SimpleValue.boolean x) c conforms h = absurd conforms
simple_contents rule SimpleType.null (SimpleValue.integer x) c conforms h = absurd conforms
simple_contents rule SimpleType.null (SimpleValue.wide_integer x) c conforms h = absurd conforms
simple_contents rule SimpleType.null (SimpleValue.enumerated x) c conforms h = absurd conforms
simple_contents rule SimpleType.null SimpleValue.null c conforms h = record { is = refl; spelt = h }
simple_contents rule SimpleType.null (SimpleValue.oid x) c conforms h = absurd conforms
simple_contents rule SimpleType.null (SimpleValue.relative_oid x) c conforms h = absurd conforms
simple_contents rule SimpleType.oid (SimpleValue.boolean x) c conforms h = absurd conforms
simple_contents rule SimpleType.oid (SimpleValue.integer x) c conforms h = absurd conforms
simple_contents rule SimpleType.oid (SimpleValue.wide_integer x) c conforms h = absurd conforms
simple_contents rule SimpleType.oid (SimpleValue.enumerated x) c conforms h = absurd conforms
simple_contents rule SimpleType.oid SimpleValue.null c conforms h = absurd conforms
simple_contents rule SimpleType.oid (SimpleValue.oid x) c conforms h = record { arcs = x; is = refl; spelt = h }
simple_contents rule SimpleType.oid (SimpleValue.relative_oid x) c conforms h = absurd conforms
simple_contents rule SimpleType.relative_oid (SimpleValue.boolean x) c conforms h = absurd conforms
simple_contents rule SimpleType.relative_oid (SimpleValue.integer x) c conforms h = absurd conforms
simple_contents rule SimpleType.relative_oid (SimpleValue.wide_integer x) c conforms h = absurd conforms
simple_contents rule SimpleType.relative_oid (SimpleValue.enumerated x) c conforms h = absurd conforms
simple_contents rule SimpleType.relative_oid SimpleValue.null c conforms h = absurd conforms
simple_contents rule SimpleType.relative_oid (SimpleValue.oid x) c conforms h = absurd conforms
simple_contents rule SimpleType.relative_oid (SimpleValue.relative_oid x) c conforms h = record { arcs = x; is = refl; spelt = h }

pub contents_of_simple : (rule : Rule) (type : SimpleType) (value : SimpleValue) (c : List ℕ) → IsSimpleContents rule type value c → IsContents rule value c
contents_of_simple rule SimpleType.boolean value c h = subst (λ v. IsContents rule v c) (sym h.is) h.spelt
contents_of_simple rule SimpleType.integer value c (inl h) = subst (λ v. IsContents rule v c) (sym h.is) h.spelt
contents_of_simple rule SimpleType.integer value c (inr is) = subst (λ v. IsContents rule v c) (sym is) refl
contents_of_simple rule (SimpleType.enumerated items) value c h = subst (λ v. IsContents rule v c) (sym h.is) h.spelt
contents_of_simple rule SimpleType.null value c h = subst (λ v. IsContents rule v c) (sym h.is) h.spelt
contents_of_simple rule SimpleType.oid value c h = subst (λ v. IsContents rule v c) (sym h.is) h.spelt
contents_of_simple rule SimpleType.relative_oid value c h = subst (λ v. IsContents rule v c) (sym h.is) h.spelt

pub conforms_of_encoding : (rule : Rule) (shape : Shape) (v : Val) (octets : List ℕ) → IsLeaf shape → IsEncoding rule shape v octets → Conforms shape v
conforms_of_encoding rule (Shape.simple tag type) v octets leaf h = subst (Conforms (Shape.simple tag type)) (sym h.is) h.conforms
conforms_of_encoding rule (Shape.string tag StringType.bit_string) v octets leaf h = subst (Conforms (Shape.string tag StringType.bit_string)) (sym h.is) tt
conforms_of_encoding rule (Shape.string tag (StringType.named_bits names)) v octets leaf h = subst (Conforms (Shape.string tag (StringType.named_bits names))) (sym h.is) h.trimmed
conforms_of_encoding rule (Shape.string tag StringType.octet_string) v octets leaf h = subst (Conforms (Shape.string tag StringType.octet_string)) (sym h.is) h.conforms
conforms_of_encoding rule (Shape.string tag (StringType.text kind)) v octets leaf h = subst (Conforms (Shape.string tag (StringType.text kind))) (sym h.is) h.conforms
conforms_of_encoding rule (Shape.string tag (StringType.time kind)) v octets leaf h = subst (Conforms (Shape.string tag (StringType.time kind))) (sym h.is) h.conforms
conforms_of_encoding rule (Shape.sequence tag components) v octets leaf h = absurd leaf
conforms_of_encoding rule (Shape.set tag components) v octets leaf h = absurd leaf
conforms_of_encoding rule (Shape.sequence_of tag type) v octets leaf h = absurd leaf
conforms_of_encoding rule (Shape.set_of tag type) v octets leaf h = absurd leaf
conforms_of_encoding rule (Shape.choice alternatives) v octets leaf h = absurd leaf
conforms_of_encoding rule (Shape.explicit tag type) v octets leaf h = absurd leaf
