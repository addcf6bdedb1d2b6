-- Values that have been read at the front of some octets.
use Rattle.std.specs.Prelude.{◌≡◌, ◌≤◌, ℕ, List, [], ◌∷◌, ◌++◌, Option, Vec, length, take, map, option_map}
use Rattle.std.specs.Global.{Global}
use Rattle.std.specs.List.{concat}
use Rattle.octets.specs.declared.tag.Tag.{Tag}
use Rattle.types.specs.declared.value.Value.{Value}
use Rattle.types.specs.declared.value.Value.TheVariants as value
use Rattle.types.specs.Shape.{Val, Shape}
use Rattle.types.specs.View.{ComponentView, value_view, components_of}
use Rattle.types.specs.Encoding.{standing}
use Rattle.encoding_parts.specs.Parts.{Parts, IsPartOf, IsCome, Holds, ArePartsOf, IsValueOf, IsDue, IsPut}

-- so many octets are an encoding of the value, in which at most so many constructed ones nest
abbrev pub IsRead : ℕ → Shape → List ℕ → Value → ℕ → Type 0
IsRead levels type octets value used = (used ≤ length octets) × IsPartOf levels type (value_view value) (take used octets)

-- so many are the contents octets of an encoding of the value, which has parts
pub record AreContentsRead (levels : ℕ) (type : Shape) (octets : List ℕ) (v : Value) (used : ℕ) : Type 0 where
  pub there : used ≤ length octets
  pub parts : Parts
  pub of : ArePartsOf type parts
  pub come : Holds levels parts (take used octets)
  pub value : IsValueOf parts (value_view v)

-- so many are what stands for a component: an encoding of the value in its slot, or of its default, or nothing
pub record IsComponentRead (levels : ℕ) (component : ComponentView) (octets : List ℕ) (slot : Option Value) (used : ℕ) : Type 0 where
  pub there : used ≤ length octets
  pub encoding : Option (List ℕ)
  pub come : IsCome levels component (option_map value_view slot) encoding
  pub joined : take used octets ≡ concat (standing (encoding ∷ []))

-- so many are what stands for all of the components
pub record AreComponentsRead (levels : ℕ) (components : List ComponentView) (octets : List ℕ) (slots : List (Option Value)) (used : ℕ) : Type 0 where
  pub there : used ≤ length octets
  pub come : Holds levels (Parts.sequence components (map (option_map value_view) slots) []) (take used octets)

-- whatever components the value has, they are so many
abbrev pub HasSlots : ℕ → Value → Type 0
HasSlots count v = (slots : Vec (Option Value) Global) → v ≡ value.Fields slots → length slots.items ≡ count

-- so many are encodings of the items
pub record AreItemsRead (levels : ℕ) (type : Shape) (octets : List ℕ) (items : List Value) (used : ℕ) : Type 0 where
  pub there : used ≤ length octets
  pub come : Holds levels (Parts.items type (map value_view items)) (take used octets)

-- so many are encodings of the items behind those that had come
pub record AreMoreItemsRead (levels : ℕ) (type : Shape) (octets : List ℕ) (old new : List Value) (used : ℕ) : Type 0 where
  pub more : List Value
  pub joined : new ≡ old ++ more
  pub read : AreItemsRead levels type octets more used

-- so many are an encoding of the one item behind them
pub record IsItemRead (levels : ℕ) (type : Shape) (octets : List ℕ) (old new : List Value) (used : ℕ) : Type 0 where
  pub value : Value
  pub joined : new ≡ old ++ (value ∷ [])
  pub read : IsRead levels type octets value used

-- the parts of a SET with these components
abbrev pub AreSetComponentsOf : List ComponentView → Parts → Type 0
AreSetComponentsOf components parts = (tag : Tag) → ArePartsOf (Shape.set tag (components_of components)) parts

-- so many octets are encodings of the components of a SET that have come
pub record AreMembersRead (levels : ℕ) (components : List ComponentView) (octets : List ℕ) (parts : Parts) (used : ℕ) : Type 0 where
  pub there : used ≤ length octets
  pub set_components : AreSetComponentsOf components parts
  pub come : Holds levels parts (take used octets)

-- so many are the encoding of a component that may come next, and has come
pub record IsMemberRead (levels : ℕ) (octets : List ℕ) (old new : Parts) (used : ℕ) : Type 0 where
  pub there : used ≤ length octets
  pub which : ℕ
  pub type : Shape
  pub value : Val
  pub due : IsDue old which type
  pub part : IsPartOf levels type value (take used octets)
  pub put : IsPut old which value new
