-- The parts of an open constructed encoding: which have come, and which may still come.
use Rattle.std.specs.Prelude.{◌≡◌, ◌≢◌, ◌⊎◌, ◌+◌, ◌≤◌, ⊤, ℕ, zero, suc, List, [], ◌∷◌, ◌++◌, length, drop, map, Option, Some, None, IsPermutation}
use Rattle.std.specs.List.{AllByRecursion, AllZip, concat}
use Rattle.octets.specs.declared.tag.Tag.{Tag}
use Rattle.octets.specs.Rule.{ber}
use Rattle.types.specs.Shape.{Val, Requirement, required, optional, default, Shape, Alternatives, no_alternative, alternative}
use Rattle.types.specs.View.{ComponentView, components_of, slots_of, items_of}
use Rattle.types.specs.Conforms.{MayBeAbsent, DiffersFromDefault}
use Rattle.types.specs.FirstTags.{AreDistinct, RunsAreDistinct, tags_of_components, HasDistinctTags}
use Rattle.types.specs.WellFormed.{nodes_of, IsNodeWithin, IsGoodDefault, HasGoodDefaults}
use Rattle.types.specs.Encoding.{IsEncoding, standing, StandsForAbsent}
use Rattle.types.specs.Depth.{IsNested}

-- a component of a SET, and the value that has come for it, if one has
pub record SetComponent : Type 0 where
  pub component : ComponentView
  pub come : Option Val

-- what an open encoding holds of its parts: the one that an explicit tag stands around, the items so far, the slots
-- of the components of a SEQUENCE that have come or been passed over and the components that are left, or what has come of
-- each component of a SET
pub data Parts : Type 0 where
  explicit : Shape → Option Val → Parts
  items : Shape → List Val → Parts
  sequence : List ComponentView → List (Option Val) → List ComponentView → Parts
  set : List SetComponent → Parts

-- an encoding of some value, in which at most so many constructed ones nest
pub record IsPart (levels : ℕ) (type : Shape) (octets : List ℕ) : Type 0 where
  pub value : Val
  pub encoding : IsEncoding ber type value octets
  pub depth : IsNested levels octets

-- an encoding of the value, in which at most so many constructed ones nest
pub record IsPartOf (levels : ℕ) (type : Shape) (value : Val) (octets : List ℕ) : Type 0 where
  pub encoding : IsEncoding ber type value octets
  pub depth : IsNested levels octets

-- an encoding of the type that ends within what holds it, after so many octets
pub record IsPartWithin (levels : ℕ) (type : Shape) (end taken : ℕ) (octets : List ℕ) : Type 0 where
  pub part : IsPart levels type octets
  pub fits : taken + length octets ≤ end

-- the component so far on is of this type, and those before it may be absent
abbrev pub IsNextOf : List ComponentView → ℕ → Shape → Type 0
IsNextOf [] which type = ⊥
IsNextOf (c ∷ others) zero type = c.type ≡ type
IsNextOf (c ∷ others) (suc which) type = MayBeAbsent c.requirement × IsNextOf others which type

-- this component of a SET is of this type and has not come
abbrev pub IsVacant : List SetComponent → ℕ → Shape → Type 0
IsVacant [] which type = ⊥
IsVacant (s ∷ others) zero type = (s.come ≡ None) × (s.component.type ≡ type)
IsVacant (s ∷ others) (suc which) type = IsVacant others which type

-- a part of this type may come next, as this one
abbrev pub IsDue : Parts → ℕ → Shape → Type 0
IsDue (Parts.explicit inner None) which type = inner ≡ type
IsDue (Parts.explicit inner (Some value)) which type = ⊥
IsDue (Parts.items inner values) which type = inner ≡ type
IsDue (Parts.sequence passed slots left) which type = IsNextOf left which type
IsDue (Parts.set set_components) which type = IsVacant set_components which type

-- what stands for a component that is left: nothing, if it may be absent, or an encoding
abbrev pub IsLeft : ℕ → ComponentView → Option (List ℕ) → Type 0
IsLeft levels c None = MayBeAbsent c.requirement
IsLeft levels c (Some octets) = IsPart levels c.type octets

abbrev pub IsLeftOfSetComponent : ℕ → SetComponent → Option (List ℕ) → Type 0
IsLeftOfSetComponent levels s encoding = SetComponentLeft s.come levels s.component encoding
  where
    SetComponentLeft : Option Val → ℕ → ComponentView → Option (List ℕ) → Type 0
    SetComponentLeft (Some value) levels c encoding = encoding ≡ None
    SetComponentLeft None levels c encoding = IsLeft levels c encoding

-- encodings of all parts that are left, joined
pub record AreItemsLeft (levels : ℕ) (type : Shape) (octets : List ℕ) : Type 0 where
  pub encodings : List (List ℕ)
  pub each : AllByRecursion (IsPart levels type) encodings
  pub joined : octets ≡ concat encodings

pub record IsRunLeft (levels : ℕ) (left : List ComponentView) (octets : List ℕ) : Type 0 where
  pub encodings : List (Option (List ℕ))
  pub each : AllZip (IsLeft levels) left encodings
  pub joined : octets ≡ concat (standing encodings)

-- encodings of the components of a SET, joined in some order
pub record AreSetComponents (IsOne : SetComponent → Option (List ℕ) → Type 0) (set_components : List SetComponent) (octets : List ℕ) : Type 0 where
  pub encodings : List (Option (List ℕ))
  pub each : AllZip IsOne set_components encodings
  pub order : List (List ℕ)
  pub permutes : IsPermutation (standing encodings) order
  pub joined : octets ≡ concat order

-- these contents octets complete the parts
abbrev pub CanFill : ℕ → Parts → List ℕ → Type 0
CanFill levels (Parts.explicit inner None) octets = IsPart levels inner octets
CanFill levels (Parts.explicit inner (Some value)) octets = octets ≡ []
CanFill levels (Parts.items inner values) octets = AreItemsLeft levels inner octets
CanFill levels (Parts.sequence passed slots left) octets = IsRunLeft levels left octets
CanFill levels (Parts.set set_components) octets = AreSetComponents (IsLeftOfSetComponent levels) set_components octets

-- the parts once this one has come, as far as more may come: any value serves where only that is asked
abbrev pub any_value : Val
any_value = Val.fields (slots_of [])

abbrev pub taken_set_component : List SetComponent → ℕ → List SetComponent
taken_set_component [] which = []
taken_set_component (s ∷ others) zero = record { component = s.component; come = Some any_value } ∷ others
taken_set_component (s ∷ others) (suc which) = s ∷ taken_set_component others which

abbrev pub once_come : Parts → ℕ → Parts
once_come (Parts.explicit inner held) which = Parts.explicit inner (Some any_value)
once_come (Parts.items inner values) which = Parts.items inner values
once_come (Parts.sequence passed slots left) which = Parts.sequence passed slots (drop (suc which) left)
once_come (Parts.set set_components) which = Parts.set (taken_set_component set_components which)

-- what has come for a component, and its slot: an encoding of the value, of the default, or nothing
abbrev pub IsCome : ℕ → ComponentView → Option Val → Option (List ℕ) → Type 0
IsCome levels c None None = MayBeAbsent c.requirement
IsCome levels c None (Some octets) = StandsForAbsent ber c.requirement (IsPartOf levels c.type) (Some octets)
IsCome levels c (Some value) None = ⊥
IsCome levels c (Some value) (Some octets) = IsPartOf levels c.type value octets × DiffersFromDefault c.requirement value

-- the slots of components that have come or been passed over, and the encodings
abbrev pub AreCome : ℕ → List ComponentView → List (Option Val) → List (Option (List ℕ)) → Type 0
AreCome levels [] [] [] = ⊤
AreCome levels (c ∷ cs) (slot ∷ slots) (encoding ∷ encodings) = IsCome levels c slot encoding × AreCome levels cs slots encodings
AreCome _ _ _ _ = ⊥

-- an encoding of the value that has come for a component of a SET, or nothing where none has
abbrev pub HasComeBy : ℕ → SetComponent → Option (List ℕ) → Type 0
HasComeBy levels s encoding = ComeBy s.come levels s.component.type encoding
  where
    ComeBy : Option Val → ℕ → Shape → Option (List ℕ) → Type 0
    ComeBy None levels type encoding = encoding ≡ None
    ComeBy (Some value) levels type None = ⊥
    ComeBy (Some value) levels type (Some octets) = IsPartOf levels type value octets

pub record AreItemsCome (levels : ℕ) (type : Shape) (values : List Val) (octets : List ℕ) : Type 0 where
  pub encodings : List (List ℕ)
  pub each : AllZip (IsPartOf levels type) values encodings
  pub joined : octets ≡ concat encodings

pub record IsRunCome (levels : ℕ) (passed : List ComponentView) (slots : List (Option Val)) (octets : List ℕ) : Type 0 where
  pub encodings : List (Option (List ℕ))
  pub each : AreCome levels passed slots encodings
  pub joined : octets ≡ concat (standing encodings)

-- these contents octets are the parts that have come
abbrev pub Holds : ℕ → Parts → List ℕ → Type 0
Holds levels (Parts.explicit inner None) octets = octets ≡ []
Holds levels (Parts.explicit inner (Some value)) octets = IsPartOf levels inner value octets
Holds levels (Parts.items inner values) octets = AreItemsCome levels inner values octets
Holds levels (Parts.sequence passed slots left) octets = IsRunCome levels passed slots octets
Holds levels (Parts.set set_components) octets = AreSetComponents (HasComeBy levels) set_components octets

-- these are parts of an encoding of this type
abbrev pub ArePartsOf : Shape → Parts → Type 0
ArePartsOf (Shape.explicit tag inner) (Parts.explicit type held) = inner ≡ type
ArePartsOf (Shape.sequence_of tag inner) (Parts.items type values) = inner ≡ type
ArePartsOf (Shape.set_of tag inner) (Parts.items type values) = inner ≡ type
ArePartsOf (Shape.sequence tag components) (Parts.sequence passed slots left) = components ≡ components_of (passed ++ left)
ArePartsOf (Shape.set tag components) (Parts.set set_components) = components ≡ components_of (map (λ s. s.component) set_components)
ArePartsOf _ _ = ⊥

-- nothing has come
abbrev pub AreNone : Parts → Type 0
AreNone (Parts.explicit type held) = held ≡ None
AreNone (Parts.items type values) = values ≡ []
AreNone (Parts.sequence passed slots left) = (passed ≡ []) × (slots ≡ [])
AreNone (Parts.set set_components) = AllByRecursion (λ s. s.come ≡ None) set_components

-- a value's slot: none where it is the default
abbrev pub IsSlotOf : Requirement → Val → Option Val → Type 0
IsSlotOf required value slot = slot ≡ Some value
IsSlotOf optional value slot = slot ≡ Some value
IsSlotOf (default other) value None = value ≡ other
IsSlotOf (default other) value (Some kept) = (kept ≡ value) × (value ≢ other)

-- the value has come for the component so far on; those before it were passed over
pub record IsPassed (left : List ComponentView) (which : ℕ) (value : Val) (passed : List ComponentView) (slots : List (Option Val)) (others : List ComponentView) : Type 0 where
  pub component : ComponentView
  pub slot : Option Val
  pub slot_is : IsSlotOf component.requirement value slot
  pub before : List ComponentView
  pub count : length before ≡ which
  pub left_is : left ≡ before ++ (component ∷ others)
  pub passed_is : passed ≡ before ++ (component ∷ [])
  pub slots_are : slots ≡ map (λ c. None) before ++ (slot ∷ [])

-- the value has come for this component of a SET
pub record IsTakenBy (value : Val) (old new : SetComponent) : Type 0 where
  pub component : new.component ≡ old.component
  pub come : new.come ≡ Some value

abbrev pub IsSetComponentTaken : List SetComponent → ℕ → Val → List SetComponent → Type 0
IsSetComponentTaken (s ∷ set_components) zero value (t ∷ others) = IsTakenBy value s t × (others ≡ set_components)
IsSetComponentTaken (s ∷ set_components) (suc which) value (t ∷ others) = (t ≡ s) × IsSetComponentTaken set_components which value others
IsSetComponentTaken _ _ _ _ = ⊥

-- components have been passed
pub record IsPutInto (passed : List ComponentView) (slots : List (Option Val)) (left : List ComponentView) (which : ℕ) (value : Val) (new_passed : List ComponentView) (new_slots : List (Option Val)) (new_left : List ComponentView) : Type 0 where
  pub more_passed : List ComponentView
  pub more_slots : List (Option Val)
  pub come : IsPassed left which value more_passed more_slots new_left
  pub passed_are : new_passed ≡ passed ++ more_passed
  pub slots_are : new_slots ≡ slots ++ more_slots

-- the parts after the value has come for this one
abbrev pub IsPut : Parts → ℕ → Val → Parts → Type 0
IsPut (Parts.explicit type held) which value (Parts.explicit other kept) = (type ≡ other) × (kept ≡ Some value)
IsPut (Parts.items type values) which value (Parts.items other kept) = (type ≡ other) × (kept ≡ values ++ (value ∷ []))
IsPut (Parts.sequence passed slots left) which value (Parts.sequence new_passed new_slots new_left) = IsPutInto passed slots left which value new_passed new_slots new_left
IsPut (Parts.set set_components) which value (Parts.set others) = IsSetComponentTaken set_components which value others
IsPut _ _ _ _ = ⊥

-- the slot of a component of a SET behind which none comes: that of the value that has come, or an empty one
abbrev pub IsSettled : SetComponent → Option Val → Type 0
IsSettled s slot = Settled s.come s.component.requirement slot
  where
    Settled : Option Val → Requirement → Option Val → Type 0
    Settled None requirement slot = slot ≡ None
    Settled (Some value) requirement slot = IsSlotOf requirement value slot

-- the value of a SET for which these have come
pub record IsValueOfSet (set_components : List SetComponent) (value : Val) : Type 0 where
  pub filled : AllByRecursion (λ s. s.come ≡ None → MayBeAbsent s.component.requirement) set_components
  pub slots : List (Option Val)
  pub each : AllZip IsSettled set_components slots
  pub value_is : value ≡ Val.fields (slots_of slots)

-- a value of a type that has these parts, once nothing is left
abbrev pub IsValueOf : Parts → Val → Type 0
IsValueOf (Parts.explicit type held) value = held ≡ Some value
IsValueOf (Parts.items type values) value = value ≡ Val.items (items_of values)
IsValueOf (Parts.sequence passed slots left) value = AllByRecursion (λ c. MayBeAbsent c.requirement) left × (value ≡ Val.fields (slots_of (slots ++ map (λ c. None) left)))
IsValueOf (Parts.set set_components) value = IsValueOfSet set_components value

-- the types of parts are well formed, and their tags tell them apart
pub record IsGoodType (type : Shape) : Type 0 where
  pub within : AllByRecursion IsNodeWithin (nodes_of type)
  pub tags : AllByRecursion HasDistinctTags (nodes_of type)
  pub defaults : AllByRecursion HasGoodDefaults (nodes_of type)

pub record IsGoodComponent (c : ComponentView) : Type 0 where
  pub type : IsGoodType c.type
  pub default : IsGoodDefault c.type c.requirement

abbrev pub AreGood : Parts → Type 0
AreGood (Parts.explicit type held) = IsGoodType type
AreGood (Parts.items type values) = IsGoodType type
AreGood (Parts.sequence passed slots left) = AllByRecursion IsGoodComponent left × RunsAreDistinct (components_of left)
AreGood (Parts.set set_components) = AllByRecursion (λ s. IsGoodComponent s.component) set_components × AreDistinct (tags_of_components (components_of (map (λ s. s.component) set_components)))

-- the node of a type whose encodings begin with the tag: the type itself, or, of a CHOICE, that of an alternative
abbrev mutual
  pub IsNodeFor : Tag → Shape → Shape → Type 0
  IsNodeFor tag (Shape.simple own type) node = (own ≡ tag) × (node ≡ Shape.simple own type)
  IsNodeFor tag (Shape.string own type) node = (own ≡ tag) × (node ≡ Shape.string own type)
  IsNodeFor tag (Shape.sequence own components) node = (own ≡ tag) × (node ≡ Shape.sequence own components)
  IsNodeFor tag (Shape.set own components) node = (own ≡ tag) × (node ≡ Shape.set own components)
  IsNodeFor tag (Shape.sequence_of own type) node = (own ≡ tag) × (node ≡ Shape.sequence_of own type)
  IsNodeFor tag (Shape.set_of own type) node = (own ≡ tag) × (node ≡ Shape.set_of own type)
  IsNodeFor tag (Shape.choice alternatives) node = IsNodeForOneOf tag alternatives node
  IsNodeFor tag (Shape.explicit own type) node = (own ≡ tag) × (node ≡ Shape.explicit own type)

  pub IsNodeForOneOf : Tag → Alternatives → Shape → Type 0
  IsNodeForOneOf tag no_alternative node = ⊥
  IsNodeForOneOf tag (alternative name type others) node = IsNodeFor tag type node ⊎ IsNodeForOneOf tag others node

-- what encodes the value of the node encodes that of the type
abbrev pub IsWrapped : Shape → Tag → Val → Val → Type 0
IsWrapped type tag value wrapped = (node : Shape) (octets : List ℕ) → IsNodeFor tag type node → IsEncoding ber node value octets → IsEncoding ber type wrapped octets
