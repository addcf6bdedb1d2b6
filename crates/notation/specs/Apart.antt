-- Lists whose names differ (X.680 clauses 20, 22, 25, 27 and 29), also in what is known of the names that are referred
-- to.
use Rattle.std.specs.Prelude.{◌≡◌, ⊤, List, ℕ, Some, None, map}
use Rattle.syntax.specs.Tree.{Entry, Form, tagged, list, of, choice, enumerated, named_bits, simple, reference, Components, no_component, next_component, Alternatives, no_alternative, next_alternative}
use Rattle.syntax.specs.View.{form, tree}
use Rattle.syntax.specs.declared.tree.Module.{Module}
use Rattle.builtin_types.specs.Names.{NamesDiffer}
use Rattle.notation.specs.Meaning.{component_names, alternative_names}
use Rattle.notation.specs.Settled.{known_of, IsSettled}
use Rattle.notation.specs.declared.scope.Seen.{Seen}
use Rattle.notation.specs.declared.scope.Scope.{Scope}

abbrev mutual
  -- the names of each list in the expression differ, and each name that it refers to is of this kind
  pub HasNamesApart : (List ℕ → Type 0) → Form → Type 0
  HasNamesApart IsOne (tagged prefix form) = HasNamesApart IsOne form
  HasNamesApart IsOne (list group components) = NamesDiffer (component_names components) × ComponentsHaveNamesApart IsOne components
  HasNamesApart IsOne (of group form) = HasNamesApart IsOne form
  HasNamesApart IsOne (choice alternatives) = NamesDiffer (alternative_names alternatives) × AlternativesHaveNamesApart IsOne alternatives
  HasNamesApart IsOne (enumerated entries) = NamesDiffer (map (λ (entry : Entry). entry.0) entries)
  HasNamesApart IsOne (named_bits bits) = NamesDiffer (map (λ (bit : List ℕ × ℕ). bit.0) bits)
  HasNamesApart IsOne (simple words) = ⊤
  HasNamesApart IsOne (reference name) = IsOne name

  pub ComponentsHaveNamesApart : (List ℕ → Type 0) → Components → Type 0
  ComponentsHaveNamesApart IsOne no_component = ⊤
  ComponentsHaveNamesApart IsOne (next_component name form ending others) = HasNamesApart IsOne form × ComponentsHaveNamesApart IsOne others

  pub AlternativesHaveNamesApart : (List ℕ → Type 0) → Alternatives → Type 0
  AlternativesHaveNamesApart IsOne no_alternative = ⊤
  AlternativesHaveNamesApart IsOne (next_alternative name form others) = HasNamesApart IsOne form × AlternativesHaveNamesApart IsOne others

-- something is known of the name, and no cause to refuse it
abbrev pub IsTold : Scope → List ℕ → Type 0
IsTold scope name = (seen : Seen) × (known_of (tree scope.module.now) scope.seen.items name ≡ Some seen) × (seen.weight.cause ≡ None)

-- the names in each list of the expression differ, and no name that it refers to is refused for what is known of it
abbrev pub IsApart : Scope → Form → Type 0
IsApart scope form = HasNamesApart (IsTold scope) form

-- so it is with each name that is not refused, at its root
abbrev pub AreApart : Scope → Type 0
AreApart scope = (name : List ℕ) (seen : Seen) → known_of (tree scope.module.now) scope.seen.items name ≡ Some seen → seen.weight.cause ≡ None → IsApart scope (form seen.root.expr.now)

-- what is known suffices to make the type of the expression
pub record CanMake (m : Module) (scope : Scope) (form : Form) : Type 0 where
  pub settled : IsSettled m scope
  pub apart : AreApart scope
  pub own : IsApart scope form
