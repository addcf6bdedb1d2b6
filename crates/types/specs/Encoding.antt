-- The encodings of a value (X.690 clauses 8 to 11), by cases on its type.
use Rattle.std.specs.Prelude.{◌≡◌, ◌≤◌, ⊤, ℕ, zero, suc, Bool, false, List, [], ◌∷◌, ◌++◌, length, replicate, Option, Some, None, IsPermutation}
use Rattle.std.specs.List.{AllZip, concat}
use Rattle.octets.specs.declared.tag.Tag.{Tag}
use Rattle.octets.specs.Rule.{Rule, ber, cer, der, IsCanonical}
use Rattle.primitives.specs.Bits.{IsBits, IsTrimmed}
use Rattle.types.specs.Shape.{SimpleType, StringType, SimpleValue, StringValue, Val, Slots, no_slot, absent, present, Items, listed, Requirement, required, optional, default, Shape, Components, no_component, component, Alternatives, no_alternative, alternative}
use Rattle.types.specs.Conforms.{SimpleConforms, StringConforms, DiffersFromDefault}
use Rattle.types.specs.Form.{IsPrimitive, IsConstructed}
use Rattle.types.specs.Contents.{IsContents}
use Rattle.types.specs.Strings.{IsStringEncoding, bit_segment, octet_segment, IsWholeOctets, AreOctets, AlwaysWhole}
use Rattle.types.specs.Order.{Ascends, AscendsByTag}
use Rattle.types.specs.Depth.{IsNested}

-- what octets encode a value of some type
abbrev pub Meaning : Type 1
Meaning = Val → List ℕ → Type 0

-- a primitive encoding of the contents octets (8.2 to 8.4, 8.8, 8.19 and 8.20)
pub record IsSimpleEncoding (rule : Rule) (tag : Tag) (type : SimpleType) (v : Val) (octets : List ℕ) : Type 0 where
  pub value : SimpleValue
  pub is : v ≡ Val.simple value
  pub conforms : SimpleConforms type value
  pub contents : List ℕ
  pub spelt : IsContents rule value contents
  pub primitive : IsPrimitive rule tag contents octets

-- an encoding of a BIT STRING (8.6)
pub record IsBitStringEncoding (rule : Rule) (tag : Tag) (v : Val) (octets : List ℕ) : Type 0 where
  pub bits : List Bool
  pub is : v ≡ Val.string (StringValue.bits bits)
  pub string : IsStringEncoding rule tag bit_segment (IsBits rule) IsWholeOctets bits octets

-- an encoding of a BIT STRING with named bits: of its bits and, under BER alone, any number of bits 0 behind them (11.2.2)
pub record IsNamedBitsEncoding (rule : Rule) (tag : Tag) (v : Val) (octets : List ℕ) : Type 0 where
  pub bits : List Bool
  pub is : v ≡ Val.string (StringValue.bits bits)
  pub trimmed : IsTrimmed bits
  pub zeros : ℕ
  pub canonical : IsCanonical rule → zeros ≡ 0
  pub string : IsStringEncoding rule tag bit_segment (IsBits rule) IsWholeOctets (bits ++ replicate zeros false) octets

-- an encoding of an OCTET STRING (8.7), and, as of one, of a character string or a time (8.23 and 8.25)
pub record IsOctetStringEncoding (rule : Rule) (tag : Tag) (type : StringType) (value_of : List ℕ → StringValue) (v : Val) (octets : List ℕ) : Type 0 where
  pub string_octets : List ℕ
  pub is : v ≡ Val.string (value_of string_octets)
  pub conforms : StringConforms type (value_of string_octets)
  pub string : IsStringEncoding rule tag octet_segment AreOctets AlwaysWhole string_octets octets

abbrev pub IsEncodingOfString : Rule → Tag → StringType → Meaning
IsEncodingOfString rule tag StringType.bit_string v octets = IsBitStringEncoding rule tag v octets
IsEncodingOfString rule tag (StringType.named_bits names) v octets = IsNamedBitsEncoding rule tag v octets
IsEncodingOfString rule tag StringType.octet_string v octets = IsOctetStringEncoding rule tag StringType.octet_string StringValue.octets v octets
IsEncodingOfString rule tag (StringType.text kind) v octets = IsOctetStringEncoding rule tag (StringType.text kind) StringValue.text v octets
IsEncodingOfString rule tag (StringType.time kind) v octets = IsOctetStringEncoding rule tag (StringType.time kind) StringValue.text v octets

-- the slots of a SEQUENCE or SET, and for each the encoding that stands for it, if one does
abbrev pub SlotMeaning : Type 1
SlotMeaning = Slots → List (Option (List ℕ)) → Type 0

-- the encodings that stand
abbrev pub standing : List (Option (List ℕ)) → List (List ℕ)
standing [] = []
standing (None ∷ others) = standing others
standing (Some octets ∷ others) = octets ∷ standing others

-- 8.9: the components' encodings in order of declaration
pub record IsSequenceEncoding (AreSlots : SlotMeaning) (rule : Rule) (tag : Tag) (v : Val) (octets : List ℕ) : Type 0 where
  pub slots : Slots
  pub is : v ≡ Val.fields slots
  pub encodings : List (Option (List ℕ))
  pub each : AreSlots slots encodings
  pub whole : IsConstructed rule tag (concat (standing encodings)) octets

-- 8.11: the components' encodings in some order, which is fixed under CER (9.3) and DER (10.3)
pub record IsSetEncoding (IsInOrder : List (List ℕ) → Type 0) (AreSlots : SlotMeaning) (rule : Rule) (tag : Tag) (v : Val) (octets : List ℕ) : Type 0 where
  pub slots : Slots
  pub is : v ≡ Val.fields slots
  pub encodings : List (Option (List ℕ))
  pub each : AreSlots slots encodings
  pub order : List (List ℕ)
  pub permutes : IsPermutation (standing encodings) order
  pub ascends : IsCanonical rule → IsInOrder order
  pub whole : IsConstructed rule tag (concat order) octets

-- 8.10: the items' encodings in order
pub record IsSequenceOfEncoding (IsItem : Meaning) (rule : Rule) (tag : Tag) (v : Val) (octets : List ℕ) : Type 0 where
  pub items : Items
  pub is : v ≡ Val.items items
  pub encodings : List (List ℕ)
  pub each : AllZip IsItem (listed items) encodings
  pub whole : IsConstructed rule tag (concat encodings) octets

-- 8.12: the items' encodings in some order, which ascends under CER and DER (11.6)
pub record IsSetOfEncoding (IsItem : Meaning) (rule : Rule) (tag : Tag) (v : Val) (octets : List ℕ) : Type 0 where
  pub items : Items
  pub is : v ≡ Val.items items
  pub encodings : List (List ℕ)
  pub each : AllZip IsItem (listed items) encodings
  pub order : List (List ℕ)
  pub permutes : IsPermutation encodings order
  pub ascends : IsCanonical rule → Ascends order
  pub whole : IsConstructed rule tag (concat order) octets

-- 8.13: the encoding of the chosen alternative
pub record IsChoiceEncoding (IsAlternative : ℕ → Meaning) (v : Val) (octets : List ℕ) : Type 0 where
  pub which : ℕ
  pub value : Val
  pub is : v ≡ Val.chosen which value
  pub chosen : IsAlternative which value octets

-- 8.14.3: an explicit tag around one encoding
pub record IsExplicitEncoding (IsInner : Meaning) (rule : Rule) (tag : Tag) (v : Val) (octets : List ℕ) : Type 0 where
  pub inner : List ℕ
  pub encodes : IsInner v inner
  pub whole : IsConstructed rule tag inner octets

-- what stands for an absent slot: nothing, or under BER an encoding of its default; CER and DER encode no default (11.5)
abbrev pub StandsForAbsent : Rule → Requirement → Meaning → Option (List ℕ) → Type 0
StandsForAbsent rule required Encodes encoding = ⊥
StandsForAbsent rule optional Encodes encoding = encoding ≡ None
StandsForAbsent ber (default value) Encodes None = ⊤
StandsForAbsent ber (default value) Encodes (Some octets) = Encodes value octets
StandsForAbsent cer (default value) Encodes encoding = encoding ≡ None
StandsForAbsent der (default value) Encodes encoding = encoding ≡ None

-- the octets are an encoding of the value, of any length and depth; then the value conforms to the type
abbrev mutual
  pub IsEncoding : Rule → Shape → Val → List ℕ → Type 0
  IsEncoding rule (Shape.simple tag type) v octets = IsSimpleEncoding rule tag type v octets
  IsEncoding rule (Shape.string tag type) v octets = IsEncodingOfString rule tag type v octets
  IsEncoding rule (Shape.sequence tag components) v octets = IsSequenceEncoding (AreSlotEncodings rule components) rule tag v octets
  IsEncoding rule (Shape.set tag components) v octets = IsSetEncoding (AscendsByTag rule components) (AreSlotEncodings rule components) rule tag v octets
  IsEncoding rule (Shape.sequence_of tag type) v octets = IsSequenceOfEncoding (IsEncoding rule type) rule tag v octets
  IsEncoding rule (Shape.set_of tag type) v octets = IsSetOfEncoding (IsEncoding rule type) rule tag v octets
  IsEncoding rule (Shape.choice alternatives) v octets = IsChoiceEncoding (IsAlternativeEncoding rule alternatives) v octets
  IsEncoding rule (Shape.explicit tag type) v octets = IsExplicitEncoding (IsEncoding rule type) rule tag v octets

  pub AreSlotEncodings : Rule → Components → Slots → List (Option (List ℕ)) → Type 0
  AreSlotEncodings rule no_component no_slot [] = ⊤
  AreSlotEncodings rule (component name type requirement others) (absent slots) (encoding ∷ encodings) =
      StandsForAbsent rule requirement (IsEncoding rule type) encoding × AreSlotEncodings rule others slots encodings
  AreSlotEncodings rule (component name type requirement others) (present value slots) (Some octets ∷ encodings) =
      IsEncoding rule type value octets × DiffersFromDefault requirement value × AreSlotEncodings rule others slots encodings
  AreSlotEncodings _ _ _ _ = ⊥

  pub IsAlternativeEncoding : Rule → Alternatives → ℕ → Val → List ℕ → Type 0
  IsAlternativeEncoding rule no_alternative which v octets = ⊥
  IsAlternativeEncoding rule (alternative name type others) zero v octets = IsEncoding rule type v octets
  IsAlternativeEncoding rule (alternative name type others) (suc which) v octets = IsAlternativeEncoding rule others which v octets

-- how many constructed encodings may nest
abbrev pub most_nested : ℕ
most_nested = 64

-- an encoding within the limits
pub record IsAccepted (rule : Rule) (shape : Shape) (v : Val) (octets : List ℕ) : Type 0 where
  pub encoding : IsEncoding rule shape v octets
  pub depth : IsNested most_nested octets
  pub size : length octets ≤ 1_048_576

-- an encoding within the limits of some value
abbrev pub IsSomeAccepted : Rule → Shape → List ℕ → Type 0
IsSomeAccepted rule shape octets = (v : Val) × IsAccepted rule shape v octets
