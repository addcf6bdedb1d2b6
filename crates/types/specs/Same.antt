-- When two values of a type are the same.
use Rattle.std.specs.Prelude.{◌≡◌, ⊤, ℕ, zero, suc, List, IsPermutation}
use Rattle.std.specs.List.{AllZip}
use Rattle.types.specs.Shape.{Val, Slots, no_slot, absent, present, listed, Shape, Components, no_component, component, Alternatives, no_alternative, alternative}

-- item by item, once those of one list are put in some order
pub record AreSameInSomeOrder (AreSame : Val → Val → Type 0) (vs ws : List Val) : Type 0 where
  pub order : List Val
  pub permutes : IsPermutation vs order
  pub each : AllZip AreSame order ws

-- component by component, and the items of a SET OF up to their order; values without parts where they are equal
abbrev mutual
  pub IsSame : Shape → Val → Val → Type 0
  IsSame (Shape.simple tag type) v w = v ≡ w
  IsSame (Shape.string tag type) v w = v ≡ w
  IsSame (Shape.sequence tag components) (Val.fields v) (Val.fields w) = AreSameSlots components v w
  IsSame (Shape.set tag components) (Val.fields v) (Val.fields w) = AreSameSlots components v w
  IsSame (Shape.sequence_of tag type) (Val.items v) (Val.items w) = AllZip (IsSame type) (listed v) (listed w)
  IsSame (Shape.set_of tag type) (Val.items v) (Val.items w) = AreSameInSomeOrder (IsSame type) (listed v) (listed w)
  IsSame (Shape.choice alternatives) (Val.chosen i v) (Val.chosen j w) = (i ≡ j) × IsSameAlternative alternatives i v w
  IsSame (Shape.explicit tag type) v w = IsSame type v w
  IsSame _ _ _ = ⊥

  pub AreSameSlots : Components → Slots → Slots → Type 0
  AreSameSlots no_component no_slot no_slot = ⊤
  AreSameSlots (component name type requirement others) (absent v) (absent w) = AreSameSlots others v w
  AreSameSlots (component name type requirement others) (present v vs) (present w ws) = IsSame type v w × AreSameSlots others vs ws
  AreSameSlots _ _ _ = ⊥

  pub IsSameAlternative : Alternatives → ℕ → Val → Val → Type 0
  IsSameAlternative no_alternative which v w = ⊥
  IsSameAlternative (alternative name type others) zero v w = IsSame type v w
  IsSameAlternative (alternative name type others) (suc which) v w = IsSameAlternative others which v w
