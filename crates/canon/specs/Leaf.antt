-- Encodings of values without parts, by the tag of the type alone.
use Rattle.std.specs.Prelude.{◌≡◌, ◌⊎◌, ⊤, ℕ, ◌<◌, false, All, List, ◌++◌, ℤ, FitsSigned}
use Rattle.std.specs.Int.{w128}
use Rattle.octets.specs.declared.tag.Tag.{Tag}
use Rattle.octets.specs.Identifier.{IsIdentifier}
use Rattle.octets.specs.Length.{IsShortestLength}
use Rattle.octets.specs.Rule.{Rule, der}
use Rattle.primitives.specs.Bits.{IsBits}
use Rattle.primitives.specs.Integer.{IsInteger, IsWideInteger}
use Rattle.primitives.specs.Oid.{IsOidValue, IsRelativeOidValue}
use Rattle.types.specs.Shape.{SimpleType, StringType, SimpleValue, StringValue, Val, Shape}
use Rattle.types.specs.Form.{IsPrimitive}
use Rattle.types.specs.Contents.{IsContents}
use Rattle.types.specs.Strings.{IsStringEncoding, bit_segment, octet_segment, IsWholeOctets, AreOctets, AlwaysWhole}

-- a type without parts and its tag
abbrev pub IsLeafOf : Tag → Shape → Type 0
IsLeafOf tag shape = ((type : SimpleType) × (shape ≡ Shape.simple tag type)) ⊎ ((type : StringType) × (shape ≡ Shape.string tag type))

-- numbers of 128 bits, contents octets of wider ones, and arcs, within the limits
abbrev pub IsWithin : SimpleValue → Type 0
IsWithin (SimpleValue.boolean truth) = ⊤
IsWithin (SimpleValue.integer number) = FitsSigned w128 number
IsWithin (SimpleValue.wide_integer octets) = IsWideInteger octets
IsWithin (SimpleValue.enumerated number) = FitsSigned w128 number
IsWithin SimpleValue.null = ⊤
IsWithin (SimpleValue.oid arcs) = IsOidValue arcs
IsWithin (SimpleValue.relative_oid arcs) = IsRelativeOidValue arcs

-- a value without parts, within the limits
abbrev pub IsLeafValue : Val → Type 0
IsLeafValue (Val.simple value) = IsWithin value
IsLeafValue (Val.string (StringValue.bits bits)) = ⊤
IsLeafValue (Val.string (StringValue.octets string)) = All (λ octet. octet < 256) string
IsLeafValue (Val.string (StringValue.text string)) = All (λ octet. octet < 256) string
IsLeafValue _ = ⊥

-- one whose encodings are primitive
abbrev pub IsSimple : Val → Type 0
IsSimple (Val.simple value) = IsWithin value
IsSimple _ = ⊥

-- the contents octets of a value whose encodings are primitive
abbrev pub IsContentsOf : Rule → Val → List ℕ → Type 0
IsContentsOf rule (Val.simple value) contents = IsContents rule value contents
IsContentsOf rule _ contents = ⊥

-- identifier octets and the shortest length of so many contents octets
pub record IsPrimitiveHead (tag : Tag) (contents : ℕ) (octets : List ℕ) : Type 0 where
  pub identifier : List ℕ
  pub size : List ℕ
  pub tagged : IsIdentifier tag false identifier
  pub sized : IsShortestLength contents size
  pub joined : octets ≡ identifier ++ size

-- a primitive encoding of them
pub record IsSimplyEncoded (rule : Rule) (tag : Tag) (v : Val) (octets : List ℕ) : Type 0 where
  pub contents : List ℕ
  pub spelt : IsContentsOf rule v contents
  pub primitive : IsPrimitive rule tag contents octets

-- the encoding of an INTEGER or ENUMERATED number
pub record IsNumberEncoding (tag : Tag) (number : ℤ) (octets : List ℕ) : Type 0 where
  pub contents : List ℕ
  pub spelt : IsInteger number contents
  pub primitive : IsPrimitive der tag contents octets

-- the encodings of a value without parts under the tag
abbrev pub IsLeafEncoding : Rule → Tag → Val → List ℕ → Type 0
IsLeafEncoding rule tag (Val.string (StringValue.bits bits)) octets = IsStringEncoding rule tag bit_segment (IsBits rule) IsWholeOctets bits octets
IsLeafEncoding rule tag (Val.string (StringValue.octets string)) octets = IsStringEncoding rule tag octet_segment AreOctets AlwaysWhole string octets
IsLeafEncoding rule tag (Val.string (StringValue.text string)) octets = IsStringEncoding rule tag octet_segment AreOctets AlwaysWhole string octets
IsLeafEncoding rule tag v octets = IsSimplyEncoded rule tag v octets
