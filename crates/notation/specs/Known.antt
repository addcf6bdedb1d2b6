-- What is known of the names of a module before their types are made.
use Rattle.std.specs.Prelude.{◌≡◌, ⊤, ℕ, Bool, true, false, List, Option, Some, None, map, length, slice_get, string_bytes}
use Rattle.octets.specs.declared.tag.Tag.{Tag}
use Rattle.types.specs.Shape.{Shape}
use Rattle.types.specs.WellFormed.{IsTagWithin}
use Rattle.syntax.specs.declared.tree.TagPrefix.{TagPrefix}
use Rattle.syntax.specs.Tree.{Form, tagged, choice, reference, Tree}
use Rattle.syntax.specs.View.{form, tree}
use Rattle.syntax.specs.declared.tree.Assignment.{Assignment}
use Rattle.syntax.specs.declared.tree.Module.{Module}
use Rattle.builtin_types.specs.Tagging.{tag_of, IsUntaggedChoice}
use Rattle.builtin_types.specs.Names.{NamesDiffer}
use Rattle.notation.specs.Meaning.{IsMeaning}
use Rattle.notation.specs.Under.{IsExplicitAt, IsImplicitAt, IsRoot}
use Rattle.notation.specs.declared.root.Root.{Root}
use Rattle.notation.specs.declared.scope.Seen.{Seen}
use Rattle.notation.specs.declared.scope.Scope.{Scope}

-- whether each meaning of the expression is an untagged CHOICE, or none is
abbrev pub TellsChoice : Bool → Tree → Form → Type 0
TellsChoice true m form = (type : Shape) → IsMeaning m form type → IsUntaggedChoice type
TellsChoice false m form = (type : Shape) → IsMeaning m form type → IsUntaggedChoice type → ⊥

-- whether the tag is one more node around each meaning of the expression behind it, or stands in place of a tag
abbrev pub TellsExplicit : Bool → Tree → TagPrefix → Form → Type 0
TellsExplicit true m prefix form = IsExplicitAt m prefix form
TellsExplicit false m prefix form = IsImplicitAt m prefix form

abbrev pub IsChoice : Form → Type 0
IsChoice (choice alternatives) = ⊤
IsChoice _ = ⊥

abbrev pub IsReferenceTo : Form → List ℕ → Type 0
IsReferenceTo (reference name) other = name ≡ other
IsReferenceTo _ other = ⊥

abbrev pub IsNoReference : Form → Type 0
IsNoReference (reference name) = ⊥
IsNoReference _ = ⊤

-- the number of the tag from outside is within its limit, or where there is none that of the tag in front
abbrev pub IsOuterWithin : Option Tag → Form → Type 0
IsOuterWithin (Some tag) form = IsTagWithin tag
IsOuterWithin None (tagged prefix form) = IsTagWithin (tag_of prefix)
IsOuterWithin None _ = ⊤

-- the expression under the tag is that root
abbrev pub LeadsTo : Tree → Option Tag → Form → Root → Type 0
LeadsTo m outer f root = IsRoot m outer f root.tag (form root.expr.now)

-- the assignment at the place has the name
pub record StandsAt (m : Module) (name : List ℕ) (place : ℕ) : Type 0 where
  pub assignment : Assignment
  pub at : slice_get m.assignments.items place ≡ Some assignment
  pub named : string_bytes assignment.name ≡ name

-- what a scope tells of the names of its module
pub record IsScope (m : Module) (scope : Scope) : Type 0 where
  pub module_is : scope.module.now ≡ m
  pub differ : NamesDiffer (map (λ a. a.0) (tree m).assignments)
  pub long : length scope.seen.items ≡ length m.assignments.items
  pub names : map (λ k. k.now) scope.names.keys ≡ map (λ a. string_bytes a.name) m.assignments.items
  pub seen : (place : ℕ) (a : Assignment) (s : Seen) → slice_get m.assignments.items place ≡ Some a → slice_get scope.seen.items place ≡ Some (Some s) → LeadsTo (tree m) None (form a.body) s.root

-- nothing is known of any name
abbrev pub KnowsNothing : List (Option Seen) → Type 0
KnowsNothing seen = (place : ℕ) (s : Seen) → slice_get seen place ≡ Some (Some s) → ⊥

-- a scope that tells nothing but the names
pub record IsNewScope (m : Module) (scope : Scope) : Type 0 where
  pub scope_of : IsScope m scope
  pub new : KnowsNothing scope.seen.items
