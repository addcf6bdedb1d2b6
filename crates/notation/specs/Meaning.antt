-- What a type expression means in a module (X.680 clauses 17 to 31).
use Rattle.std.specs.Prelude.{◌≡◌, ℕ, List, [], ◌∷◌, map, Contains}
use Rattle.types.specs.Shape.{EnumerationItem, SimpleType, Requirement, Shape, Components, no_component, component, Alternatives, no_alternative, alternative}
use Rattle.syntax.specs.declared.tree.Simple.{Simple}
use Rattle.syntax.specs.declared.tree.Group.{Group}
use Rattle.syntax.specs.declared.tree.TagPrefix.{TagPrefix}
use Rattle.syntax.specs.Tree.{Ending, Entry, Form, tagged, list, of, choice, enumerated, named_bits, simple, reference, Components as WrittenComponents, no_component as no_written_component, next_component, Alternatives as WrittenAlternatives, no_alternative as no_written_alternative, next_alternative, Tree}
use Rattle.types.specs.Universal.{enumerated_tag}
use Rattle.builtin_types.specs.Universal.{named_by_words, with_named_bits, list_of, repeated}
use Rattle.builtin_types.specs.Tagging.{tag_of, IsTagged, components_in, alternatives_in}
use Rattle.builtin_types.specs.Names.{NamesDiffer}
use Rattle.builtin_types.specs.Numbering.{AreItems}
use Rattle.builtin_types.specs.Defaults.{IsRequirement}

abbrev pub component_names : WrittenComponents → List (List ℕ)
component_names no_written_component = []
component_names (next_component name form ending others) = name ∷ component_names others

abbrev pub alternative_names : WrittenAlternatives → List (List ℕ)
alternative_names no_written_alternative = []
alternative_names (next_alternative name form others) = name ∷ alternative_names others

-- one of the module's assignments gives the name this expression
abbrev pub IsAssigned : Tree → List ℕ → Form → Type 0
IsAssigned m name form = Contains m.assignments (name, form)

mutual
  -- the type is a meaning of the expression, by cases on it: the least such relation
  pub data IsMeaning (m : Tree) : Form → Shape → Type 0 where
    of_words : {words : Simple} {type : Shape} → type ≡ named_by_words words → IsMeaning m (simple words) type
    -- a reference means what is assigned to it
    of_reference : {name : List ℕ} {form : Form} {type : Shape} → IsAssigned m name form → IsMeaning m form type → IsMeaning m (reference name) type
    of_tag : {prefix : TagPrefix} {form : Form} {type whole : Shape} → IsMeaning m form type → IsTagged m.tagging prefix.mode (tag_of prefix) type whole → IsMeaning m (tagged prefix form) whole
    -- clause 20: the names of the items differ
    of_items : {entries : List Entry} {items : List EnumerationItem} {type : Shape} → NamesDiffer (map (λ entry. entry.0) entries) → AreItems entries items
        → type ≡ Shape.simple enumerated_tag (SimpleType.enumerated items) → IsMeaning m (enumerated entries) type
    -- clause 22: the names of the bits differ
    of_named_bits : {bits : List (List ℕ × ℕ)} {type : Shape} → NamesDiffer (map (λ bit. bit.0) bits) → type ≡ with_named_bits bits → IsMeaning m (named_bits bits) type
    -- clauses 25 and 27: the names of the components differ
    of_components : {group : Group} {written : WrittenComponents} {types : Components} {type : Shape} → NamesDiffer (component_names written) → AreMeanings m written types
        → type ≡ list_of group (components_in m.tagging written types) → IsMeaning m (list group written) type
    -- clauses 26 and 28
    of_item_type : {group : Group} {form : Form} {item type : Shape} → IsMeaning m form item → type ≡ repeated group item → IsMeaning m (of group form) type
    -- clause 29: the names of the alternatives differ
    of_alternatives : {written : WrittenAlternatives} {types : Alternatives} {type : Shape} → NamesDiffer (alternative_names written) → AreAlternativeMeanings m written types
        → type ≡ Shape.choice (alternatives_in m.tagging written types) → IsMeaning m (choice written) type

  -- the components one by one, each as it is written
  pub data AreMeanings (m : Tree) : WrittenComponents → Components → Type 0 where
    no_more : AreMeanings m no_written_component no_component
    one_more : {name : List ℕ} {form : Form} {ending : Ending} {others : WrittenComponents} {type : Shape} {requirement : Requirement} {types : Components}
        → IsMeaning m form type → IsRequirement type ending requirement → AreMeanings m others types → AreMeanings m (next_component name form ending others) (component name type requirement types)

  pub data AreAlternativeMeanings (m : Tree) : WrittenAlternatives → Alternatives → Type 0 where
    no_other : AreAlternativeMeanings m no_written_alternative no_alternative
    one_other : {name : List ℕ} {form : Form} {others : WrittenAlternatives} {type : Shape} {types : Alternatives}
        → IsMeaning m form type → AreAlternativeMeanings m others types → AreAlternativeMeanings m (next_alternative name form others) (alternative name type types)

-- in a module whose assigned names all differ, the expression means the type
pub record Means (m : Tree) (form : Form) (type : Shape) : Type 0 where
  pub names_differ : NamesDiffer (map (λ assigned. assigned.0) m.assignments)
  pub meaning : IsMeaning m form type

-- and so does a name of the module
abbrev pub NameMeans : Tree → List ℕ → Shape → Type 0
NameMeans m name type = Means m (reference name) type
