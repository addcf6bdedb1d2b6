-- What stands inside an encoding of a type with parts: its contents octets, up to an end (X.690 8.9 to 8.12).
use Rattle.std.specs.Prelude.{◌≡◌, ◌-◌, ◌≤◌, ⊤, ℕ, Bool, true, false, List, [], ◌∷◌, ◌++◌, length, take, drop}
use Rattle.std.specs.List.{concat}
use Rattle.octets.specs.declared.tag.Tag.{Tag}
use Rattle.octets.specs.Rule.{Rule}
use Rattle.types.specs.declared.value.Value.{Value}
use Rattle.types.specs.Shape.{Val, Shape}
use Rattle.types.specs.View.{value_view}
use Rattle.types.specs.FirstTags.{first_tags}
use Rattle.types.specs.Form.{IsConstructed}
use Rattle.types.specs.Encoding.{IsEncoding, standing}
use Rattle.strict.specs.Head.{Fills, mark, EndsHere}

-- a type with components or items; inside an explicit tag stands one encoding alone (HasAlone)
abbrev pub HasParts : Shape → Type 0
HasParts (Shape.simple tag type) = ⊥
HasParts (Shape.string tag type) = ⊥
HasParts (Shape.choice alternatives) = ⊥
HasParts (Shape.explicit tag type) = ⊥
HasParts type = ⊤

-- a SET OF, whose items are ordered, or a SEQUENCE OF
abbrev pub list_of : Bool → Tag → Shape → Shape
list_of true tag type = Shape.set_of tag type
list_of false tag type = Shape.sequence_of tag type

-- the contents octets of an encoding of a type with parts
abbrev pub contents_of : (rule : Rule) (type : Shape) (v : Val) (octets : List ℕ) → IsEncoding rule type v octets → List ℕ
contents_of rule (Shape.sequence tag components) v octets h = concat (standing h.encodings)
contents_of rule (Shape.set tag components) v octets h = concat h.order
contents_of rule (Shape.sequence_of tag type) v octets h = concat h.encodings
contents_of rule (Shape.set_of tag type) v octets h = concat h.order
contents_of rule type v octets h = []

-- the octets begin with those of an encoding of the type up to an end
pub record HasInside (rule : Rule) (type : Shape) (definite : Bool) (room : ℕ) (octets : List ℕ) : Type 0 where
  pub value : Val
  pub whole : List ℕ
  pub encoding : IsEncoding rule type value whole
  pub rest : List ℕ
  pub fills : Fills definite room (contents_of rule type value whole encoding)
  pub parts : octets ≡ contents_of rule type value whole encoding ++ (mark definite ++ rest)

-- so many of the octets are those of an encoding of the value, and end there
pub record IsInsideRead (rule : Rule) (type : Shape) (definite : Bool) (room : ℕ) (octets : List ℕ) (value : Value) (used : ℕ) : Type 0 where
  pub there : used ≤ length octets
  pub within : used ≤ room
  pub ends : EndsHere definite (room - used) (drop used octets)
  pub makes : (tag : Tag) (whole : List ℕ) → first_tags type ≡ tag ∷ [] → IsConstructed rule tag (take used octets) whole → IsEncoding rule type (value_view value) whole
