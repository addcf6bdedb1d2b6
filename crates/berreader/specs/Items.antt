-- Items of a list that are taken at once, behind those that have come.
use Rattle.std.specs.Prelude.{◌≡◌, ◌⊎◌, ◌+◌, ◌≤◌, ℕ, List, ◌∷◌, ◌++◌, length, take}
use Rattle.types.specs.Shape.{Val, Shape}
use Rattle.encoding_parts.specs.Parts.{Parts, Holds}
use Rattle.berreader.specs.Stack.{Layer, with_parts}

-- so many of the octets, which end within the innermost encoding, are items behind those that have come
pub record HasMoreItems (levels : ℕ) (old new : List Layer) (taken : ℕ) (octets : List ℕ) (used : ℕ) : Type 0 where
  pub layer : Layer
  pub others : List Layer
  pub type : Shape
  pub values : List Val
  pub more : List Val
  pub were : old ≡ layer ∷ others
  pub list : layer.parts ≡ Parts.items type values
  pub are : new ≡ with_parts layer (Parts.items type (values ++ more)) ∷ others
  pub there : used ≤ length octets
  pub fits : taken + used ≤ layer.frame.end
  pub come : Holds levels (Parts.items type more) (take used octets)

-- or none was taken
abbrev pub AreItemsInside : ℕ → List Layer → List Layer → ℕ → List ℕ → ℕ → Type 0
AreItemsInside levels old new taken octets used = ((used ≡ 0) × (new ≡ old)) ⊎ HasMoreItems levels old new taken octets used
