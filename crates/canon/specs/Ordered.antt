-- Values whose SET OF items stand in the order of their encodings under DER (X.690 11.6).
use Rattle.std.specs.Prelude.{⊤, ◌⊎◌, ◌≤◌, ℕ, zero, suc, List, length}
use Rattle.std.specs.List.{AllByRecursion, AllZip}
use Rattle.octets.specs.Rule.{der}
use Rattle.types.specs.Shape.{Val, Slots, no_slot, absent, present, listed, Shape, Components, no_component, component, Alternatives, no_alternative, alternative}
use Rattle.types.specs.WellFormed.{nodes_of, nodes_of_components, HasGoodDefaults}
use Rattle.types.specs.Order.{Ascends}
use Rattle.types.specs.Encoding.{Meaning, IsEncoding}
use Rattle.types.specs.Same.{IsSame, AreSameSlots, AreSameInSomeOrder}
use Rattle.canon.specs.Node.{HasGoodNodes, HaveGoodNodes}

-- the encodings of the items ascend
pub record AreAscending (IsItem : Meaning) (values : List Val) : Type 0 where
  pub encodings : List (List ℕ)
  pub each : AllZip IsItem values encodings
  pub ascends : Ascends encodings

-- there is at most one item, or they ascend
abbrev pub AreInOrder : Meaning → List Val → Type 0
AreInOrder IsItem values = (length values ≤ 1) ⊎ AreAscending IsItem values

-- the items of each SET OF, at any depth, are in order
abbrev mutual
  pub IsOrdered : Shape → Val → Type 0
  IsOrdered (Shape.simple tag type) v = ⊤
  IsOrdered (Shape.string tag type) v = ⊤
  IsOrdered (Shape.sequence tag components) (Val.fields slots) = AreOrderedSlots components slots
  IsOrdered (Shape.set tag components) (Val.fields slots) = AreOrderedSlots components slots
  IsOrdered (Shape.sequence_of tag type) (Val.items items) = AllByRecursion (IsOrdered type) (listed items)
  IsOrdered (Shape.set_of tag type) (Val.items items) = AllByRecursion (IsOrdered type) (listed items) × AreInOrder (IsEncoding der type) (listed items)
  IsOrdered (Shape.choice alternatives) (Val.chosen which v) = IsOrderedAlternative alternatives which v
  IsOrdered (Shape.explicit tag type) v = IsOrdered type v
  IsOrdered _ _ = ⊥

  pub AreOrderedSlots : Components → Slots → Type 0
  AreOrderedSlots no_component no_slot = ⊤
  AreOrderedSlots (component name type requirement others) (absent slots) = AreOrderedSlots others slots
  AreOrderedSlots (component name type requirement others) (present value slots) = IsOrdered type value × AreOrderedSlots others slots
  AreOrderedSlots _ _ = ⊥

  pub IsOrderedAlternative : Alternatives → ℕ → Val → Type 0
  IsOrderedAlternative no_alternative which v = ⊥
  IsOrderedAlternative (alternative name type others) zero v = IsOrdered type v
  IsOrderedAlternative (alternative name type others) (suc which) v = IsOrderedAlternative others which v

-- a value of the same meaning, in order
pub record IsOrderedFrom (shape : Shape) (v w : Val) : Type 0 where
  pub same : IsSame shape v w
  pub ordered : IsOrdered shape w

pub record AreOrderedFrom (components : Components) (v w : Slots) : Type 0 where
  pub same : AreSameSlots components v w
  pub ordered : AreOrderedSlots components w

-- the items of a SET OF in order, and each of them
pub record AreItemsOrderedFrom (type : Shape) (vs ws : List Val) : Type 0 where
  pub same : AreSameInSomeOrder (IsSame type) vs ws
  pub each : AllByRecursion (IsOrdered type) ws
  pub order : AreInOrder (IsEncoding der type) ws

-- what an order of values needs of their type: what a writer needs, and good defaults
pub record IsSound (shape : Shape) : Type 0 where
  pub nodes : HasGoodNodes shape
  pub defaults : AllByRecursion HasGoodDefaults (nodes_of shape)

pub record AreSound (components : Components) : Type 0 where
  pub nodes : HaveGoodNodes components
  pub defaults : AllByRecursion HasGoodDefaults (nodes_of_components components)
