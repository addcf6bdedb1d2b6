-- The names that type expressions refer to, and sets of names that mean nothing.
use Rattle.std.specs.Prelude.{ℕ, List, [], ◌∷◌, ◌++◌, Contains}
use Rattle.syntax.specs.Tree.{Form, tagged, list, of, choice, enumerated, named_bits, simple, reference, Components, no_component, next_component, Alternatives, no_alternative, next_alternative, Tree}
use Rattle.notation.specs.Meaning.{IsAssigned}

abbrev mutual
  -- in order of text, one that stands twice taken twice
  pub names_in : Form → List (List ℕ)
  names_in (tagged prefix form) = names_in form
  names_in (list group components) = names_in_components components
  names_in (of group form) = names_in form
  names_in (choice alternatives) = names_in_alternatives alternatives
  names_in (enumerated entries) = []
  names_in (named_bits bits) = []
  names_in (simple words) = []
  names_in (reference name) = name ∷ []

  pub names_in_components : Components → List (List ℕ)
  names_in_components no_component = []
  names_in_components (next_component name form ending others) = names_in form ++ names_in_components others

  pub names_in_alternatives : Alternatives → List (List ℕ)
  names_in_alternatives no_alternative = []
  names_in_alternatives (next_alternative name form others) = names_in form ++ names_in_alternatives others

-- what each of these names is assigned refers to one of them again; a name that is not assigned may be among them
abbrev pub IsClosed : Tree → (List ℕ → Type 0) → Type 0
IsClosed m IsOne = (name : List ℕ) → IsOne name → (form : Form) → IsAssigned m name form → (other : List ℕ) × Contains (names_in form) other × IsOne other
