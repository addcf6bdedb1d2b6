-- Which values a type has.
use Rattle.primitives.specs.Bits.{IsTrimmed}
use Rattle.primitives.specs.Integer.{IsWideInteger}
use Rattle.primitives.specs.Oid.{IsOidValue, IsRelativeOidValue}
use Rattle.strings.specs.Time.{IsTime}
use Rattle.strings.specs.Alphabet.{IsText}
use Rattle.std.specs.Prelude.{◌≢◌, ◌<◌, All, ⊤, FitsSigned, Contains, map, ℕ, zero, suc}
use Rattle.std.specs.List.{AllByRecursion}
use Rattle.std.specs.Int.{w128}
use Rattle.types.specs.Shape.{SimpleType, StringType, SimpleValue, StringValue, Val, Slots, no_slot, absent, present, listed, Requirement, required, optional, default, Shape, Components, no_component, component, Alternatives, no_alternative, alternative}

-- numbers are those of 128 bits in two's complement, or wider ones as their contents octets; an ENUMERATED number is an item's
abbrev pub SimpleConforms : SimpleType → SimpleValue → Type 0
SimpleConforms SimpleType.boolean (SimpleValue.boolean truth) = ⊤
SimpleConforms SimpleType.integer (SimpleValue.integer number) = FitsSigned w128 number
SimpleConforms SimpleType.integer (SimpleValue.wide_integer octets) = IsWideInteger octets
SimpleConforms (SimpleType.enumerated items) (SimpleValue.enumerated number) = Contains (map (λ item. item.number) items) number × FitsSigned w128 number
SimpleConforms SimpleType.null SimpleValue.null = ⊤
SimpleConforms SimpleType.oid (SimpleValue.oid arcs) = IsOidValue arcs
SimpleConforms SimpleType.relative_oid (SimpleValue.relative_oid arcs) = IsRelativeOidValue arcs
SimpleConforms _ _ = ⊥

-- 11.2.2: named bits have no 0 behind their last 1
abbrev pub StringConforms : StringType → StringValue → Type 0
StringConforms StringType.bit_string (StringValue.bits bits) = ⊤
StringConforms (StringType.named_bits names) (StringValue.bits bits) = IsTrimmed bits
StringConforms StringType.octet_string (StringValue.octets octets) = All (λ octet. octet < 256) octets
StringConforms (StringType.text kind) (StringValue.text octets) = All (λ octet. octet < 256) octets × IsText kind octets
StringConforms (StringType.time kind) (StringValue.text octets) = All (λ octet. octet < 256) octets × IsTime kind octets
StringConforms _ _ = ⊥

-- X.680 25.9 and 27.1: OPTIONAL and DEFAULT components may be absent
abbrev pub MayBeAbsent : Requirement → Type 0
MayBeAbsent required = ⊥
MayBeAbsent optional = ⊤
MayBeAbsent (default value) = ⊤

-- a component that equals its default stands as absent
abbrev pub DiffersFromDefault : Requirement → Val → Type 0
DiffersFromDefault required value = ⊤
DiffersFromDefault optional value = ⊤
DiffersFromDefault (default other) value = value ≢ other

-- the value is one of the type; under an explicit tag, one of the type within
abbrev mutual
  pub Conforms : Shape → Val → Type 0
  Conforms (Shape.simple tag type) (Val.simple value) = SimpleConforms type value
  Conforms (Shape.string tag type) (Val.string value) = StringConforms type value
  Conforms (Shape.sequence tag components) (Val.fields slots) = SlotsConform components slots
  Conforms (Shape.set tag components) (Val.fields slots) = SlotsConform components slots
  Conforms (Shape.sequence_of tag type) (Val.items items) = AllByRecursion (Conforms type) (listed items)
  Conforms (Shape.set_of tag type) (Val.items items) = AllByRecursion (Conforms type) (listed items)
  Conforms (Shape.choice alternatives) (Val.chosen which value) = AlternativeConforms alternatives which value
  Conforms (Shape.explicit tag type) value = Conforms type value
  Conforms _ _ = ⊥

  -- one slot for each component
  pub SlotsConform : Components → Slots → Type 0
  SlotsConform no_component no_slot = ⊤
  SlotsConform (component name type requirement others) (absent slots) = MayBeAbsent requirement × SlotsConform others slots
  SlotsConform (component name type requirement others) (present value slots) = Conforms type value × DiffersFromDefault requirement value × SlotsConform others slots
  SlotsConform _ _ = ⊥

  -- the alternatives are counted from 0
  pub AlternativeConforms : Alternatives → ℕ → Val → Type 0
  AlternativeConforms no_alternative which value = ⊥
  AlternativeConforms (alternative name type others) zero value = Conforms type value
  AlternativeConforms (alternative name type others) (suc which) value = AlternativeConforms others which value
