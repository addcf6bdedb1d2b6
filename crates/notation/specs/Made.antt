-- Types that are made of expressions, each under the tag that the expression stands under.
use Rattle.std.specs.Prelude.{◌≡◌, ℕ, List}
use Rattle.octets.specs.declared.tag.Tag.{Tag}
use Rattle.types.specs.Shape.{Shape}
use Rattle.types.specs.View.{ComponentView, components_of}
use Rattle.syntax.specs.declared.tree.Group.{Group}
use Rattle.syntax.specs.Tree.{Ending, Form, list, Tree}
use Rattle.syntax.specs.View.{components_of as written_components}
use Rattle.types.specs.Tagging.{tagged_implicitly}
use Rattle.builtin_types.specs.Universal.{list_of, repeated}
use Rattle.notation.specs.Meaning.{IsMeaning}

-- the whole is a node with the tag around a meaning of the expression
abbrev pub IsAround : Tree → Tag → Form → Shape → Type 0
IsAround m tag form whole = (type : Shape) × IsMeaning m form type × (whole ≡ Shape.explicit tag type)

-- a SEQUENCE OF or SET OF a meaning of the expression, under the tag
abbrev pub IsRepeated : Tree → Group → Tag → Form → Shape → Type 0
IsRepeated m group tag form whole = (type : Shape) × IsMeaning m form type × (whole ≡ tagged_implicitly tag (repeated group type))

-- in a SEQUENCE and in a SET the components are what is written
abbrev pub AreMade : Tree → List (List ℕ × Form × Ending) → List ComponentView → Type 0
AreMade m written views = (group : Group) → IsMeaning m (list group (written_components written)) (list_of group (components_of views))
