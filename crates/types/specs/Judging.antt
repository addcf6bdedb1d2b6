-- What is judged of a type one node at a time, each pair of tags once.
use Rattle.std.specs.Prelude.{◌≡◌, ◌+◌, ◌≤◌, ⊤, ℕ, length, List, Option, Some, None, Contains}
use Rattle.octets.specs.declared.tag.Tag.{Tag}
use Rattle.types.specs.declared.condition.Condition.{Condition}
use Rattle.types.specs.declared.condition.Condition.TheVariants.{Limits, Numbers, Tags, Defaults}
use Rattle.types.specs.Shape.{SimpleType, StringType, Shape, Components, no_component, component, Alternatives, no_alternative, alternative}
use Rattle.types.specs.Conforms.{MayBeAbsent}
use Rattle.types.specs.FirstTags.{first_tags, tags_of_components, tags_of_run, tags_of_alternatives, IsUsable}
use Rattle.types.specs.WellFormed.{IsNodeWithin, NumbersDiffer, HasGoodDefaults}

-- no tag is in both lists
abbrev pub AreApart : List Tag → List Tag → Type 0
AreApart tags others = (tag : Tag) → Contains tags tag → Contains others tag → ⊥

-- each component that may be absent is apart from the run behind it
abbrev pub RunsAreApart : Components → Type 0
RunsAreApart no_component = ⊤
RunsAreApart (component name type requirement others) = (MayBeAbsent requirement → AreApart (first_tags type) (tags_of_run others)) × RunsAreApart others

abbrev pub ComponentsAreApart : Components → Type 0
ComponentsAreApart no_component = ⊤
ComponentsAreApart (component name type requirement others) = AreApart (first_tags type) (tags_of_components others) × ComponentsAreApart others

abbrev pub AlternativesAreApart : Alternatives → Type 0
AlternativesAreApart no_alternative = ⊤
AlternativesAreApart (alternative name type others) = AreApart (first_tags type) (tags_of_alternatives others) × AlternativesAreApart others

-- the parts of a node are apart; whether the tags of one part differ is judged at that part
abbrev pub TellsPartsApart : Shape → Type 0
TellsPartsApart (Shape.simple tag type) = IsUsable tag
TellsPartsApart (Shape.string tag type) = IsUsable tag
TellsPartsApart (Shape.sequence tag components) = IsUsable tag × RunsAreApart components
TellsPartsApart (Shape.set tag components) = IsUsable tag × ComponentsAreApart components
TellsPartsApart (Shape.sequence_of tag type) = IsUsable tag
TellsPartsApart (Shape.set_of tag type) = IsUsable tag
TellsPartsApart (Shape.choice alternatives) = AlternativesAreApart alternatives
TellsPartsApart (Shape.explicit tag type) = IsUsable tag

-- the items of an ENUMERATED, or the named bits of a BIT STRING, are not more than the limit
abbrev pub HasFewItems : Shape → Type 0
HasFewItems (Shape.simple tag (SimpleType.enumerated items)) = length items ≤ 256
HasFewItems (Shape.string tag (StringType.named_bits bits)) = length bits ≤ 256
HasFewItems _ = ⊤

-- a node meets one of the conditions of a well-formed type
abbrev pub Meets : Condition → Shape → Type 0
Meets Limits node = IsNodeWithin node
Meets Numbers node = HasFewItems node → NumbersDiffer node
Meets Tags node = TellsPartsApart node
Meets Defaults node = HasGoodDefaults node

-- what is left of room for so many nodes, once a part of so many nodes and levels has taken its own; nothing where the part does not fit
abbrev pub IsLeft : (nodes levels : ℕ) → (count depth : ℕ) → Option ℕ → Type 0
IsLeft nodes levels count depth None = (count ≤ nodes) → (depth ≤ levels) → ⊥
IsLeft nodes levels count depth (Some left) = (left + count ≡ nodes) × (depth ≤ levels)
