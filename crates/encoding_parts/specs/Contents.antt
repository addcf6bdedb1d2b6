-- The contents octets that primitive encodings hold.
use Rattle.std.specs.Prelude.{◌≡◌, ◌⊎◌, ℕ, ℤ, Bool, false, List, ◌++◌, replicate, ⊤}
use Rattle.octets.specs.Rule.{Rule, IsCanonical}
use Rattle.types.specs.declared.ty.Ty.{Ty}
use Rattle.types.specs.declared.ty.Ty.TheVariants.{Enumerated as EnumeratedType, Text as TextType, Time as TimeType}
use Rattle.types.specs.declared.refusal.Refusal.{Refusal}
use Rattle.types.specs.declared.refusal.Refusal.TheVariants.{Contents, Alphabet, NoMemory}
use Rattle.primitives.specs.Boolean.{IsBoolean}
use Rattle.primitives.specs.Integer.{IsInteger}
use Rattle.primitives.specs.Null.{IsNull}
use Rattle.primitives.specs.Oid.{IsOid, IsRelativeOid}
use Rattle.primitives.specs.Bits.{IsBits, IsTrimmed}
use Rattle.types.specs.Conforms.{Conforms}
use Rattle.types.specs.Shape.{SimpleType, StringType, SimpleValue, StringValue, Shape, Val}

pub record IsBooleanContents (rule : Rule) (value : SimpleValue) (contents : List ℕ) : Type 0 where
  pub truth : Bool
  pub is : value ≡ SimpleValue.boolean truth
  pub spelt : IsBoolean rule truth contents

pub record IsNumberContents (value : SimpleValue) (contents : List ℕ) : Type 0 where
  pub number : ℤ
  pub is : value ≡ SimpleValue.integer number
  pub spelt : IsInteger number contents

-- a number past 128 bits is its contents octets
abbrev pub IsIntegerContents : SimpleValue → List ℕ → Type 0
IsIntegerContents value contents = IsNumberContents value contents ⊎ (value ≡ SimpleValue.wide_integer contents)

pub record IsEnumeratedContents (value : SimpleValue) (contents : List ℕ) : Type 0 where
  pub number : ℤ
  pub is : value ≡ SimpleValue.enumerated number
  pub spelt : IsInteger number contents

pub record IsNullContents (value : SimpleValue) (contents : List ℕ) : Type 0 where
  pub is : value ≡ SimpleValue.null
  pub spelt : IsNull contents

pub record IsOidContents (value : SimpleValue) (contents : List ℕ) : Type 0 where
  pub arcs : List ℕ
  pub is : value ≡ SimpleValue.oid arcs
  pub spelt : IsOid arcs contents

pub record IsRelativeOidContents (value : SimpleValue) (contents : List ℕ) : Type 0 where
  pub arcs : List ℕ
  pub is : value ≡ SimpleValue.relative_oid arcs
  pub spelt : IsRelativeOid arcs contents

-- these are contents octets of the value under the rule
abbrev pub IsSimpleContents : Rule → SimpleType → SimpleValue → List ℕ → Type 0
IsSimpleContents rule SimpleType.boolean value contents = IsBooleanContents rule value contents
IsSimpleContents rule SimpleType.integer value contents = IsIntegerContents value contents
IsSimpleContents rule (SimpleType.enumerated numbers) value contents = IsEnumeratedContents value contents
IsSimpleContents rule SimpleType.null value contents = IsNullContents value contents
IsSimpleContents rule SimpleType.oid value contents = IsOidContents value contents
IsSimpleContents rule SimpleType.relative_oid value contents = IsRelativeOidContents value contents

-- the contents octets of a primitive BIT STRING (8.6.2)
pub record IsBitsContents (rule : Rule) (value : StringValue) (contents : List ℕ) : Type 0 where
  pub bits : List Bool
  pub is : value ≡ StringValue.bits bits
  pub spelt : IsBits rule bits contents

-- 11.2.2: those of a BIT STRING with named bits, behind which under BER alone may be any number of bits 0
pub record IsNamedBitsContents (rule : Rule) (value : StringValue) (contents : List ℕ) : Type 0 where
  pub bits : List Bool
  pub is : value ≡ StringValue.bits bits
  pub trimmed : IsTrimmed bits
  pub zeros : ℕ
  pub canonical : IsCanonical rule → zeros ≡ 0
  pub spelt : IsBits rule (bits ++ replicate zeros false) contents

-- 8.7.2: the contents octets of a primitive OCTET STRING are the value's octets
abbrev pub IsStringContents : Rule → StringType → StringValue → List ℕ → Type 0
IsStringContents rule StringType.bit_string value contents = IsBitsContents rule value contents
IsStringContents rule (StringType.named_bits names) value contents = IsNamedBitsContents rule value contents
IsStringContents rule StringType.octet_string value contents = value ≡ StringValue.octets contents
IsStringContents rule (StringType.text kind) value contents = value ≡ StringValue.text contents
IsStringContents rule (StringType.time kind) value contents = value ≡ StringValue.text contents

-- they are those of a value without parts that is no string
pub record HoldsSimple (rule : Rule) (type : SimpleType) (v : Val) (contents : List ℕ) : Type 0 where
  pub value : SimpleValue
  pub is : v ≡ Val.simple value
  pub spelt : IsSimpleContents rule type value contents

-- or of a string
pub record HoldsString (rule : Rule) (type : StringType) (v : Val) (contents : List ℕ) : Type 0 where
  pub value : StringValue
  pub is : v ≡ Val.string value
  pub spelt : IsStringContents rule type value contents

-- the contents octets of a primitive encoding are those of the value
abbrev pub HoldsContents : Rule → Shape → Val → List ℕ → Type 0
HoldsContents rule (Shape.simple tag type) v contents = HoldsSimple rule type v contents
HoldsContents rule (Shape.string tag type) v contents = HoldsString rule type v contents
HoldsContents _ _ _ _ = ⊥

-- they are those of this value of the type
abbrev pub HoldsValue : Rule → Shape → Val → List ℕ → Type 0
HoldsValue rule type v contents = Conforms type v × HoldsContents rule type v contents

-- they are those of no value of it
abbrev pub HoldsNoValue : Rule → Shape → List ℕ → Type 0
HoldsNoValue rule type contents = (v : Val) → Conforms type v → ¬ HoldsContents rule type v contents

-- the type is an ENUMERATED
abbrev pub IsEnumerated : Ty → Type 0
IsEnumerated (EnumeratedType tag items) = ⊤
IsEnumerated _ = ⊥

-- the type is a character string or a time
abbrev pub IsTextual : Ty → Type 0
IsTextual (TextType tag kind) = ⊤
IsTextual (TimeType tag kind) = ⊤
IsTextual _ = ⊥

-- the value of an INTEGER past 128 bits with these contents octets
abbrev pub wide_view : List ℕ → Val
wide_view octets = Val.simple (SimpleValue.wide_integer octets)

-- the value of an OCTET STRING with these octets
abbrev pub octets_view : List ℕ → Val
octets_view octets = Val.string (StringValue.octets octets)

-- the value of a character string or a time with these octets
abbrev pub text_view : List ℕ → Val
text_view octets = Val.string (StringValue.text octets)

-- 6, 7 and 17: what contents octets are refused with
abbrev pub IsOfContents : Refusal → Type 0
IsOfContents Contents = ⊤
IsOfContents Alphabet = ⊤
IsOfContents NoMemory = ⊤
IsOfContents _ = ⊥
