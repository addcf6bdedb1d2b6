-- Expressions that mean no well-formed type.
use Rattle.std.specs.Prelude.{◌≤◌, ℕ, Bool, List, Option, map, length}
use Rattle.std.specs.List.{AllByRecursion}
use Rattle.octets.specs.declared.tag.Tag.{Tag}
use Rattle.types.specs.Shape.{Shape}
use Rattle.types.specs.View.{ComponentView, AlternativeView}
use Rattle.types.specs.WellFormed.{nodes_of, IsWellFormed}
use Rattle.syntax.specs.Tree.{Ending, Form, Tree}
use Rattle.notation.specs.Parts.{IsPart, AreComponents, AreAlternatives}
use Rattle.notation.specs.Under.{MeansUnder}

-- under this tag from outside the expression means no well-formed type
abbrev pub HasNoType : Tree → Option Tag → Form → Type 0
HasNoType m outer form = (whole : Shape) → MeansUnder m outer form whole → IsWellFormed whole → ⊥

-- and under no tag
abbrev pub NeverHasType : Tree → Form → Type 0
NeverHasType m form = (outer : Option Tag) → HasNoType m outer form

-- so for the part of a list at this place
abbrev pub PartHasNoType : Tree → Bool → ℕ → Form → Type 0
PartHasNoType m automatic place form = (type : Shape) → IsPart m automatic place form type → IsWellFormed type → ⊥

-- no views of these components are all of this kind
abbrev pub ComponentsNever : (Shape → Type 0) → Tree → Bool → List (List ℕ × Form × Ending) → Type 0
ComponentsNever IsGood m automatic written =
    (views : List ComponentView) → AreComponents m automatic 0 written views → AllByRecursion IsGood (map (λ (view : ComponentView). view.type) views) → ⊥

abbrev pub AlternativesNever : (Shape → Type 0) → Tree → Bool → List (List ℕ × Form) → Type 0
AlternativesNever IsGood m automatic written =
    (views : List AlternativeView) → AreAlternatives m automatic 0 written views → AllByRecursion IsGood (map (λ (view : AlternativeView). view.type) views) → ⊥

-- these parts are never all well formed
abbrev pub ComponentsHaveNoTypes : Tree → Bool → List (List ℕ × Form × Ending) → Type 0
ComponentsHaveNoTypes m automatic written = ComponentsNever IsWellFormed m automatic written

abbrev pub AlternativesHaveNoTypes : Tree → Bool → List (List ℕ × Form) → Type 0
AlternativesHaveNoTypes m automatic written = AlternativesNever IsWellFormed m automatic written

-- the type is well formed and has so many nodes at most
pub record IsSmall (most : ℕ) (type : Shape) : Type 0 where
  pub good : IsWellFormed type
  pub few : length (nodes_of type) ≤ most

-- under this tag from outside the expression means no well-formed type of so many nodes at most
abbrev pub HasNoTypeWithin : Tree → ℕ → Option Tag → Form → Type 0
HasNoTypeWithin m most outer form = (whole : Shape) → MeansUnder m outer form whole → IsSmall most whole → ⊥

abbrev pub PartHasNoTypeWithin : Tree → ℕ → Bool → ℕ → Form → Type 0
PartHasNoTypeWithin m most automatic place form = (type : Shape) → IsPart m automatic place form type → IsSmall most type → ⊥
