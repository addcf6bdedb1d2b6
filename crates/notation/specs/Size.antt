-- How large the types of an expression are: their nodes and levels, counted to the greatest number of 64 bits.
use Rattle.std.specs.Prelude.{◌≡◌, ℕ, min, Bool, List, length}
use Rattle.types.specs.Shape.{Shape, Components, Alternatives}
use Rattle.types.specs.View.{ComponentView, AlternativeView, components_of, alternatives_of}
use Rattle.types.specs.WellFormed.{nodes_of, levels_of, nodes_of_components, levels_of_components, nodes_of_alternatives, levels_of_alternatives}
use Rattle.syntax.specs.Tree.{Ending, Form, Tree}
use Rattle.notation.specs.Meaning.{IsMeaning}
use Rattle.notation.specs.Parts.{IsPart, AreComponents, AreAlternatives}

-- the number, or the greatest of 64 bits where that is less
abbrev pub counted : ℕ → ℕ
counted number = min number 18_446_744_073_709_551_615

-- the type has so many nodes and levels
pub record HasSize (type : Shape) (nodes levels : ℕ) : Type 0 where
  pub nodes_are : nodes ≡ counted (length (nodes_of type))
  pub levels_are : levels ≡ counted (levels_of type)

-- so has each meaning of the expression
abbrev pub HaveSize : Tree → Form → ℕ → ℕ → Type 0
HaveSize m form nodes levels = (type : Shape) → IsMeaning m form type → HasSize type nodes levels

-- so has the part of a list at this place
abbrev pub PartHasSize : Tree → Bool → ℕ → Form → ℕ → ℕ → Type 0
PartHasSize m automatic place form nodes levels = (type : Shape) → IsPart m automatic place form type → HasSize type nodes levels

pub record AreOfSize (parts : Components) (nodes levels : ℕ) : Type 0 where
  pub nodes_are : nodes ≡ counted (length (nodes_of_components parts))
  pub levels_are : levels ≡ counted (levels_of_components parts)

-- all of these components together have so many nodes, and each has so many levels at most
abbrev pub ComponentsHaveSize : Tree → Bool → List (List ℕ × Form × Ending) → ℕ → ℕ → Type 0
ComponentsHaveSize m automatic written nodes levels = (views : List ComponentView) → AreComponents m automatic 0 written views → AreOfSize (components_of views) nodes levels

pub record AreAlternativesOfSize (parts : Alternatives) (nodes levels : ℕ) : Type 0 where
  pub nodes_are : nodes ≡ counted (length (nodes_of_alternatives parts))
  pub levels_are : levels ≡ counted (levels_of_alternatives parts)

abbrev pub AlternativesHaveSize : Tree → Bool → List (List ℕ × Form) → ℕ → ℕ → Type 0
AlternativesHaveSize m automatic written nodes levels = (views : List AlternativeView) → AreAlternatives m automatic 0 written views → AreAlternativesOfSize (alternatives_of views) nodes levels
