-- Type expressions under a tag from outside, which replaces the outermost one of their types.
use Rattle.std.specs.Prelude.{◌≡◌, ◌↔◌, Option, Some, None}
use Rattle.octets.specs.declared.tag.Tag.{Tag}
use Rattle.types.specs.Shape.{Shape}
use Rattle.syntax.specs.declared.tree.TagPrefix.{TagPrefix}
use Rattle.syntax.specs.Tree.{Form, tagged, reference, Tree}
use Rattle.types.specs.Tagging.{tagged_implicitly}
use Rattle.builtin_types.specs.Tagging.{tag_of, IsUntaggedChoice, IsTagged}
use Rattle.notation.specs.Meaning.{IsMeaning}

-- the tag from outside makes this whole of the type, and of an untagged CHOICE nothing
abbrev pub IsUnder : Option Tag → Shape → Shape → Type 0
IsUnder None type whole = whole ≡ type
IsUnder (Some tag) type whole = (IsUntaggedChoice type → ⊥) × (whole ≡ tagged_implicitly tag type)

-- the whole is what the tag from outside makes of a meaning of the expression
pub record MeansUnder (m : Tree) (outer : Option Tag) (form : Form) (whole : Shape) : Type 0 where
  pub type : Shape
  pub meaning : IsMeaning m form type
  pub under : IsUnder outer type whole

-- of two tags the one from outside stands
abbrev pub outermost : Option Tag → Tag → Tag
outermost None own = own
outermost (Some outer) own = outer

-- the tag is one more node around each meaning of the expression behind it
abbrev pub IsExplicitAt : Tree → TagPrefix → Form → Type 0
IsExplicitAt m prefix form = (type whole : Shape) → IsMeaning m form type → IsTagged m.tagging prefix.mode (tag_of prefix) type whole ↔ (whole ≡ Shape.explicit (tag_of prefix) type)

-- the tag stands in place of the outermost one of each
abbrev pub IsImplicitAt : Tree → TagPrefix → Form → Type 0
IsImplicitAt m prefix form = (type whole : Shape) → IsMeaning m form type → IsTagged m.tagging prefix.mode (tag_of prefix) type whole ↔ IsUnder (Some (tag_of prefix)) type whole

-- the expression is no reference and has no implicit tag in front
abbrev pub IsAtRoot : Tree → Form → Type 0
IsAtRoot m (tagged prefix form) = IsExplicitAt m prefix form
IsAtRoot m (reference name) = ⊥
IsAtRoot m _ = Unit {0}

-- an expression under a tag is at its root another one under a tag: the two mean the same
pub record IsRoot (m : Tree) (outer : Option Tag) (form : Form) (tag : Option Tag) (root : Form) : Type 0 where
  pub at_root : IsAtRoot m root
  pub same : (whole : Shape) → MeansUnder m outer form whole ↔ MeansUnder m tag root whole
