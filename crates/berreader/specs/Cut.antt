-- Octets that end inside what may come next where a reader stands.
use Rattle.std.specs.Prelude.{◌⊎◌, ℕ, List, [], ◌∷◌, Option, None, Some}
use Rattle.octets.specs.declared.tag.Tag.{Tag}
use Rattle.types.specs.Shape.{Shape}
use Rattle.types.specs.View.{ty_view}
use Rattle.encoding_parts.specs.Cut.{IsEndCut, IsIdentifierCut, IsPartCut, IsStringCut}
use Rattle.encoding_parts.specs.Parts.{IsNodeFor}
use Rattle.berreader.specs.declared.cursor.Cursor.{Cursor}
use Rattle.berreader.specs.declared.nest.Nest.{Nest}
use Rattle.berreader.specs.declared.nest.OpenString.{OpenString}
use Rattle.berreader.specs.Nest.{IsDueNext, end_inside, levels_left}
use Rattle.berreader.specs.Stack.{Layer, layers_of}

-- they begin a part that may come next in the innermost encoding, and have its identifier octets
pub record IsPartCutNext (shape : Shape) (layers : List Layer) (taken : ℕ) (octets : List ℕ) : Type 0 where
  pub which : ℕ
  pub type : Shape
  pub tag : Tag
  pub node : Shape
  pub due : IsDueNext shape layers which type
  pub chosen : IsNodeFor tag type node
  pub cut : IsPartCut tag node (levels_left layers) (end_inside layers) taken octets

-- none or one of the end-of-contents octets of the innermost encoding
abbrev pub IsEndCutInside : List Layer → ℕ → List ℕ → Type 0
IsEndCutInside [] taken octets = ⊥
IsEndCutInside (layer ∷ others) taken octets = IsEndCut layer.frame taken octets

-- they end inside identifier octets, inside a part that may come next, or inside the end of the innermost encoding
abbrev pub IsCutNext : Shape → List Layer → ℕ → List ℕ → Type 0
IsCutNext shape layers taken octets = IsIdentifierCut (end_inside layers) taken octets ⊎ (IsPartCutNext shape layers taken octets ⊎ IsEndCutInside layers taken octets)

abbrev pub IsNestCut : Nest → List ℕ → Type 0
IsNestCut nest octets = IsCutNext (ty_view nest.ty.now) (layers_of nest.layers) nest.taken octets

-- of the nest, or of the string that has begun in it
abbrev pub IsCutIn : Nest → Option OpenString → List ℕ → Type 0
IsCutIn nest None octets = IsNestCut nest octets
IsCutIn nest (Some string) octets = IsStringCut string.kind string.segments octets

abbrev pub IsCut : Cursor → List ℕ → Type 0
IsCut cursor octets = IsCutIn cursor.nest cursor.string octets
