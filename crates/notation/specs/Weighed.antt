-- Weights of types that are not made yet.
use Rattle.std.specs.Prelude.{◌≡◌, ◌≤◌, ℕ, Bool, List, Some, None, slice_get}
use Rattle.syntax.specs.Tree.{Ending, Form, Tree}
use Rattle.syntax.specs.View.{form, tree}
use Rattle.syntax.specs.declared.tree.Assignment.{Assignment}
use Rattle.syntax.specs.declared.tree.Module.{Module}
use Rattle.notation.specs.Size.{HaveSize, PartHasSize, ComponentsHaveSize, AlternativesHaveSize}
use Rattle.notation.specs.Refused.{HasNoType, NeverHasType, PartHasNoType, ComponentsHaveNoTypes, AlternativesHaveNoTypes}
use Rattle.notation.specs.Known.{IsScope}
use Rattle.notation.specs.Settled.{NamesTold}
use Rattle.notation.specs.declared.scope.Seen.{Seen}
use Rattle.notation.specs.declared.scope.Scope.{Scope}
use Rattle.notation.specs.declared.weight.Weight.{Weight}

-- where no cause is named the nodes and levels are these, and where one is there is no good type
pub record Weighs (HaveThese : ℕ → ℕ → Type 0) (Never : Type 0) (weight : Weight) : Type 0 where
  pub size : weight.cause ≡ None → HaveThese weight.nodes weight.levels
  pub never : (weight.cause ≡ None → ⊥) → Never

-- whatever tag stands outside
abbrev pub IsWeight : Tree → Form → Weight → Type 0
IsWeight m form weight = Weighs (HaveSize m form) (NeverHasType m form) weight

-- where none does
abbrev pub IsOwnWeight : Tree → Form → Weight → Type 0
IsOwnWeight m form weight = Weighs (HaveSize m form) (HasNoType m None form) weight

abbrev pub IsPartWeight : Tree → Bool → ℕ → Form → Weight → Type 0
IsPartWeight m automatic place form weight = Weighs (PartHasSize m automatic place form) (PartHasNoType m automatic place form) weight

abbrev pub IsComponentsWeight : Tree → Bool → List (List ℕ × Form × Ending) → Weight → Type 0
IsComponentsWeight m automatic written weight = Weighs (ComponentsHaveSize m automatic written) (ComponentsHaveNoTypes m automatic written) weight

abbrev pub IsAlternativesWeight : Tree → Bool → List (List ℕ × Form) → Weight → Type 0
IsAlternativesWeight m automatic written weight = Weighs (AlternativesHaveSize m automatic written) (AlternativesHaveNoTypes m automatic written) weight

-- the weight, refused where there are too many nodes or levels
pub record IsLimited (weight limited : Weight) : Type 0 where
  pub means : (m : Tree) (form : Form) → IsWeight m form weight → IsWeight m form limited
  pub within : limited.cause ≡ None → (limited ≡ weight) × (weight.nodes ≤ 4_096) × (weight.levels ≤ 60)
  pub kept : weight.nodes ≤ 4_096 → weight.levels ≤ 60 → limited ≡ weight

-- the weights that are known are those of the assignments
abbrev pub AreWeighed : Module → Scope → Type 0
AreWeighed m scope =
    (place : ℕ) (a : Assignment) (s : Seen) → slice_get m.assignments.items place ≡ Some a → slice_get scope.seen.items place ≡ Some (Some s) → IsWeight (tree m) (form a.body) s.weight

-- what is known suffices to weigh the expression
pub record CanWeigh (m : Module) (scope : Scope) (form : Form) : Type 0 where
  pub known : IsScope m scope
  pub told : NamesTold (tree m) scope.seen.items form
  pub weighed : AreWeighed m scope
