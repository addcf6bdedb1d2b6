-- Types that are well formed.
use Rattle.std.specs.Prelude.{◌≢◌, ◌≤◌, ⊤, ℕ, suc, max, map, All, length, List, [], ◌∷◌, ◌++◌}
use Rattle.std.specs.List.{AllPairs, AllByRecursion}
use Rattle.strings.specs.declared.text.TextKind.TheVariants.{Bmp}
use Rattle.octets.specs.declared.tag.Tag.{Tag}
use Rattle.types.specs.Shape.{NamedBitView, SimpleType, StringType, SimpleValue, Val, Requirement, required, optional, default, Shape, Components, no_component, component, Alternatives, no_alternative, alternative}
use Rattle.types.specs.FirstTags.{HasDistinctTags}
use Rattle.types.specs.Conforms.{Conforms}

-- a type and all types within it, one that stands twice counted twice
abbrev mutual
  pub nodes_of : Shape → List Shape
  nodes_of (Shape.simple tag type) = Shape.simple tag type ∷ []
  nodes_of (Shape.string tag type) = Shape.string tag type ∷ []
  nodes_of (Shape.sequence tag components) = Shape.sequence tag components ∷ nodes_of_components components
  nodes_of (Shape.set tag components) = Shape.set tag components ∷ nodes_of_components components
  nodes_of (Shape.sequence_of tag type) = Shape.sequence_of tag type ∷ nodes_of type
  nodes_of (Shape.set_of tag type) = Shape.set_of tag type ∷ nodes_of type
  nodes_of (Shape.choice alternatives) = Shape.choice alternatives ∷ nodes_of_alternatives alternatives
  nodes_of (Shape.explicit tag type) = Shape.explicit tag type ∷ nodes_of type

  pub nodes_of_components : Components → List Shape
  nodes_of_components no_component = []
  nodes_of_components (component name type requirement others) = nodes_of type ++ nodes_of_components others

  pub nodes_of_alternatives : Alternatives → List Shape
  nodes_of_alternatives no_alternative = []
  nodes_of_alternatives (alternative name type others) = nodes_of type ++ nodes_of_alternatives others

-- how many constructed encodings nest in an encoding of the type, those of strings not counted
abbrev mutual
  pub levels_of : Shape → ℕ
  levels_of (Shape.simple tag type) = 0
  levels_of (Shape.string tag type) = 0
  levels_of (Shape.sequence tag components) = suc (levels_of_components components)
  levels_of (Shape.set tag components) = suc (levels_of_components components)
  levels_of (Shape.sequence_of tag type) = suc (levels_of type)
  levels_of (Shape.set_of tag type) = suc (levels_of type)
  levels_of (Shape.choice alternatives) = levels_of_alternatives alternatives
  levels_of (Shape.explicit tag type) = suc (levels_of type)

  pub levels_of_components : Components → ℕ
  levels_of_components no_component = 0
  levels_of_components (component name type requirement others) = max (levels_of type) (levels_of_components others)

  pub levels_of_alternatives : Alternatives → ℕ
  levels_of_alternatives no_alternative = 0
  levels_of_alternatives (alternative name type others) = max (levels_of type) (levels_of_alternatives others)

abbrev pub count_of_components : Components → ℕ
count_of_components no_component = 0
count_of_components (component name type requirement others) = suc (count_of_components others)

abbrev pub count_of_alternatives : Alternatives → ℕ
count_of_alternatives no_alternative = 0
count_of_alternatives (alternative name type others) = suc (count_of_alternatives others)

abbrev pub IsTagWithin : Tag → Type 0
IsTagWithin tag = tag.number ≤ 268_435_455

abbrev pub AreItemsWithin : SimpleType → Type 0
AreItemsWithin (SimpleType.enumerated items) = (1 ≤ length items) × (length items ≤ 256)
AreItemsWithin _ = ⊤

-- 1 to 256 named bits, each of the first 65,536
pub record AreNamedBitsWithin (bits : List NamedBitView) : Type 0 where
  pub at_least_one : 1 ≤ length bits
  pub at_most_256 : length bits ≤ 256
  pub each : All (λ bit. bit.number ≤ 65_535) bits

abbrev pub AreBitsWithin : StringType → Type 0
AreBitsWithin (StringType.named_bits bits) = AreNamedBitsWithin bits
AreBitsWithin _ = ⊤

-- a node's tag number and list are within their limits
abbrev pub IsNodeWithin : Shape → Type 0
IsNodeWithin (Shape.simple tag type) = IsTagWithin tag × AreItemsWithin type
IsNodeWithin (Shape.string tag type) = IsTagWithin tag × AreBitsWithin type
IsNodeWithin (Shape.sequence tag components) = IsTagWithin tag × (count_of_components components ≤ 256)
IsNodeWithin (Shape.set tag components) = IsTagWithin tag × (count_of_components components ≤ 256)
IsNodeWithin (Shape.sequence_of tag type) = IsTagWithin tag
IsNodeWithin (Shape.set_of tag type) = IsTagWithin tag
IsNodeWithin (Shape.choice alternatives) = (1 ≤ count_of_alternatives alternatives) × (count_of_alternatives alternatives ≤ 256)
IsNodeWithin (Shape.explicit tag type) = IsTagWithin tag

pub record KeepsLimits (shape : Shape) : Type 0 where
  pub nodes : length (nodes_of shape) ≤ 4_096
  pub levels : levels_of shape ≤ 60
  pub each : AllByRecursion IsNodeWithin (nodes_of shape)

-- the numbers of an ENUMERATED's items differ (X.680 clause 20), and so do those of named bits (22.4)
abbrev pub NumbersDiffer : Shape → Type 0
NumbersDiffer (Shape.simple tag (SimpleType.enumerated items)) = AllPairs (λ a b. a ≢ b) (map (λ item. item.number) items)
NumbersDiffer (Shape.string tag (StringType.named_bits bits)) = AllPairs (λ a b. a ≢ b) (map (λ bit. bit.number) bits)
NumbersDiffer _ = ⊤

-- the types that take a DEFAULT in this profile, seen through explicit tags
abbrev pub TakesDefault : Shape → Type 0
TakesDefault (Shape.simple tag SimpleType.boolean) = ⊤
TakesDefault (Shape.simple tag SimpleType.integer) = ⊤
TakesDefault (Shape.simple tag (SimpleType.enumerated items)) = ⊤
TakesDefault (Shape.string tag StringType.bit_string) = ⊤
TakesDefault (Shape.string tag (StringType.named_bits bits)) = ⊤
TakesDefault (Shape.string tag StringType.octet_string) = ⊤
TakesDefault (Shape.string tag (StringType.text Bmp)) = ⊥
TakesDefault (Shape.string tag (StringType.text kind)) = ⊤
TakesDefault (Shape.explicit tag type) = TakesDefault type
TakesDefault _ = ⊥

-- a DEFAULT on INTEGER is a number of 128 bits
abbrev pub IsNoWideInteger : Val → Type 0
IsNoWideInteger (Val.simple (SimpleValue.wide_integer octets)) = ⊥
IsNoWideInteger _ = ⊤

abbrev pub IsGoodDefault : Shape → Requirement → Type 0
IsGoodDefault type required = ⊤
IsGoodDefault type optional = ⊤
IsGoodDefault type (default value) = TakesDefault type × Conforms type value × IsNoWideInteger value

abbrev pub AreGoodDefaults : Components → Type 0
AreGoodDefaults no_component = ⊤
AreGoodDefaults (component name type requirement others) = IsGoodDefault type requirement × AreGoodDefaults others

-- each default of a node's components is a value of a type that takes one
abbrev pub HasGoodDefaults : Shape → Type 0
HasGoodDefaults (Shape.sequence tag components) = AreGoodDefaults components
HasGoodDefaults (Shape.set tag components) = AreGoodDefaults components
HasGoodDefaults _ = ⊤

-- each field is said of the type and of all types within it
pub record IsWellFormed (shape : Shape) : Type 0 where
  pub limits : KeepsLimits shape
  pub tags : AllByRecursion HasDistinctTags (nodes_of shape)
  pub numbers : AllByRecursion NumbersDiffer (nodes_of shape)
  pub defaults : AllByRecursion HasGoodDefaults (nodes_of shape)
