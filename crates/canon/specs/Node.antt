-- The parts of a constructed encoding.
use Rattle.std.specs.Prelude.{◌≡◌, ℕ, List, [], Option, IsPermutation}
use Rattle.std.specs.List.{AllByRecursion, AllZip, concat}
use Rattle.octets.specs.declared.tag.Tag.{Tag}
use Rattle.octets.specs.Rule.{Rule}
use Rattle.types.specs.Shape.{Val, Slots, listed, Shape, Components}
use Rattle.types.specs.FirstTags.{HasDistinctTags}
use Rattle.types.specs.WellFormed.{nodes_of, nodes_of_components, IsNodeWithin}
use Rattle.types.specs.Form.{IsConstructed}
use Rattle.types.specs.Order.{Ascends, AscendsByTag}
use Rattle.types.specs.Encoding.{Meaning, IsEncoding, AreSlotEncodings, standing}

-- what a writer needs of types: tags and lists within their limits, and tags that differ
pub record AreGood (nodes : List Shape) : Type 0 where
  pub within : AllByRecursion IsNodeWithin nodes
  pub tags : AllByRecursion HasDistinctTags nodes

abbrev pub HasGoodNodes : Shape → Type 0
HasGoodNodes shape = AreGood (nodes_of shape)

abbrev pub HaveGoodNodes : Components → Type 0
HaveGoodNodes components = AreGood (nodes_of_components components)

-- a constructed encoding of contents octets of some kind
pub record IsAround (IsInside : List ℕ → Type 0) (rule : Rule) (tag : Tag) (octets : List ℕ) : Type 0 where
  pub contents : List ℕ
  pub inside : IsInside contents
  pub whole : IsConstructed rule tag contents octets

-- encodings of the items, in order
pub record AreItems (IsItem : Meaning) (values : List Val) (octets : List ℕ) : Type 0 where
  pub encodings : List (List ℕ)
  pub each : AllZip IsItem values encodings
  pub joined : octets ≡ concat encodings

-- the encodings of items in ascending order, one after another
pub record AreItemsInOrder (IsItem : Meaning) (values : List Val) (octets : List ℕ) : Type 0 where
  pub encodings : List (List ℕ)
  pub each : AllZip IsItem values encodings
  pub order : List (List ℕ)
  pub permutes : IsPermutation encodings order
  pub ascends : Ascends order
  pub joined : octets ≡ concat order

-- encodings of the components, in order of declaration
pub record AreComponents (rule : Rule) (components : Components) (slots : Slots) (octets : List ℕ) : Type 0 where
  pub encodings : List (Option (List ℕ))
  pub each : AreSlotEncodings rule components slots encodings
  pub joined : octets ≡ concat (standing encodings)

-- the encodings of the components that are present in the order of their tags, one after another
pub record AreComponentsByTag (rule : Rule) (components : Components) (slots : Slots) (octets : List ℕ) : Type 0 where
  pub encodings : List (Option (List ℕ))
  pub each : AreSlotEncodings rule components slots encodings
  pub order : List (List ℕ)
  pub permutes : IsPermutation (standing encodings) order
  pub ascends : AscendsByTag rule components order
  pub joined : octets ≡ concat order

-- the contents octets of a constructed encoding, but of one under an explicit tag; nothing of a value that has none
abbrev pub ArePartsOf : Rule → Shape → Val → List ℕ → Type 0
ArePartsOf rule (Shape.sequence tag components) (Val.fields slots) = AreComponents rule components slots
ArePartsOf rule (Shape.set tag components) (Val.fields slots) = AreComponentsByTag rule components slots
ArePartsOf rule (Shape.sequence_of tag type) (Val.items items) = AreItems (IsEncoding rule type) (listed items)
ArePartsOf rule (Shape.set_of tag type) (Val.items items) = AreItemsInOrder (IsEncoding rule type) (listed items)
ArePartsOf rule _ _ = λ octets. octets ≡ []
