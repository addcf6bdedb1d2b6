-- Tags that a module writes, and those that AUTOMATIC TAGS gives (X.680 clause 31, and "automatic tagging").
use Rattle.std.specs.Prelude.{◌≡◌, ⊤, ℕ, suc, Bool, true, false, not, ◌||◌, List, if◌then◌else◌}
use Rattle.octets.specs.declared.tag.Class.{Class}
use Rattle.octets.specs.declared.tag.Class.TheVariants.{Application, Context, Private}
use Rattle.octets.specs.declared.tag.Tag.{Tag}
use Rattle.types.specs.Shape.{Shape, Components, no_component, component, Alternatives, no_alternative, alternative}
use Rattle.types.specs.Tagging.{tagged_implicitly, tagged_by_default}
use Rattle.syntax.specs.declared.tree.TagClass.{TagClass}
use Rattle.syntax.specs.declared.tree.TagClass.TheVariants.{ContextSpecific, Application as ApplicationWord, Private as PrivateWord}
use Rattle.syntax.specs.declared.tree.TagPrefix.{TagPrefix}
use Rattle.syntax.specs.declared.tree.TagMode.{TagMode}
use Rattle.syntax.specs.declared.tree.TagMode.TheVariants.{Unmarked, Implicit, Explicit}
use Rattle.syntax.specs.declared.tree.Tagging.{Tagging}
use Rattle.syntax.specs.declared.tree.Tagging.TheVariants.{Explicit as ExplicitTags, Implicit as ImplicitTags, Automatic as AutomaticTags}
use Rattle.syntax.specs.Tree.{Ending, Form, tagged, Components as WrittenComponents, no_component as no_written_component, next_component, Alternatives as WrittenAlternatives, no_alternative as no_written_alternative, next_alternative}
use Rattle.syntax.specs.View.{components_of as written_components, alternatives_of as written_alternatives}

-- without a class word a tag is context-specific
abbrev pub class_of : TagClass → Class
class_of ContextSpecific = Context
class_of ApplicationWord = Application
class_of PrivateWord = Private

abbrev pub tag_of : TagPrefix → Tag
tag_of prefix = record { class = class_of prefix.class; number = prefix.number }

-- a CHOICE has no tag of its own
abbrev pub IsUntaggedChoice : Shape → Type 0
IsUntaggedChoice (Shape.choice alternatives) = ⊤
IsUntaggedChoice _ = ⊥

-- what a tag makes of a type: with EXPLICIT a node around it; with IMPLICIT the type under the tag, and of an untagged
-- CHOICE nothing; without a keyword what the module's tag default says
abbrev pub IsTagged : Tagging → TagMode → Tag → Shape → Shape → Type 0
IsTagged environment Explicit tag type whole = whole ≡ Shape.explicit tag type
IsTagged environment Implicit tag type whole = (IsUntaggedChoice type → ⊥) × (whole ≡ tagged_implicitly tag type)
IsTagged ExplicitTags Unmarked tag type whole = whole ≡ Shape.explicit tag type
IsTagged ImplicitTags Unmarked tag type whole = whole ≡ tagged_by_default tag type
IsTagged AutomaticTags Unmarked tag type whole = whole ≡ tagged_by_default tag type

-- the type is written with a tag; a reference is not, whatever it means
abbrev pub is_tag_written : Form → Bool
is_tag_written (tagged prefix form) = true
is_tag_written _ = false

abbrev pub is_component_tagged : WrittenComponents → Bool
is_component_tagged no_written_component = false
is_component_tagged (next_component name form ending others) = is_tag_written form || is_component_tagged others

abbrev pub is_alternative_tagged : WrittenAlternatives → Bool
is_alternative_tagged no_written_alternative = false
is_alternative_tagged (next_alternative name form others) = is_tag_written form || is_alternative_tagged others

-- so for components, or alternatives, one by one
abbrev pub are_written_with_tag : List (List ℕ × Form × Ending) → Bool
are_written_with_tag written = is_component_tagged (written_components written)

abbrev pub are_alternatives_written_with_tag : List (List ℕ × Form) → Bool
are_alternatives_written_with_tag written = is_alternative_tagged (written_alternatives written)

abbrev pub context : ℕ → Tag
context number = record { class = Context; number = number }

-- the tags from this number on, by the rule for tags without a keyword
abbrev pub numbered_components : ℕ → Components → Components
numbered_components next no_component = no_component
numbered_components next (component name type requirement others) = component name (tagged_by_default (context next) type) requirement (numbered_components (suc next) others)

abbrev pub numbered_alternatives : ℕ → Alternatives → Alternatives
numbered_alternatives next no_alternative = no_alternative
numbered_alternatives next (alternative name type others) = alternative name (tagged_by_default (context next) type) (numbered_alternatives (suc next) others)

-- whether a list has automatic tags: under AUTOMATIC TAGS, where none of its types is written with a tag
abbrev pub has_automatic_tags : Tagging → Bool → Bool
has_automatic_tags ExplicitTags written = false
has_automatic_tags ImplicitTags written = false
has_automatic_tags AutomaticTags written = not written

abbrev pub components_in : Tagging → WrittenComponents → Components → Components
components_in environment written types = if has_automatic_tags environment (is_component_tagged written) then numbered_components 0 types else types

abbrev pub alternatives_in : Tagging → WrittenAlternatives → Alternatives → Alternatives
alternatives_in environment written types = if has_automatic_tags environment (is_alternative_tagged written) then numbered_alternatives 0 types else types
