-- The components and alternatives of a list one by one, each with the automatic tag of its place where the list has
-- automatic tags.
use Rattle.std.specs.Prelude.{◌≡◌, ⊤, ℕ, suc, Bool, true, false, List, [], ◌∷◌}
use Rattle.types.specs.Shape.{Shape}
use Rattle.types.specs.View.{ComponentView, AlternativeView}
use Rattle.syntax.specs.Tree.{Ending, Form, Tree}
use Rattle.types.specs.Tagging.{tagged_by_default}
use Rattle.builtin_types.specs.Tagging.{context}
use Rattle.builtin_types.specs.Defaults.{IsRequirement}
use Rattle.notation.specs.Meaning.{IsMeaning}

-- the type of the part at this place of its list
abbrev pub IsPart : Tree → Bool → ℕ → Form → Shape → Type 0
IsPart m false place form type = IsMeaning m form type
IsPart m true place form type = (own : Shape) × IsMeaning m form own × (type ≡ tagged_by_default (context place) own)

pub record IsComponent (m : Tree) (automatic : Bool) (place : ℕ) (written : List ℕ × Form × Ending) (view : ComponentView) : Type 0 where
  pub name : view.name ≡ written.0
  pub type : IsPart m automatic place written.1 view.type
  pub requirement : IsRequirement view.type written.2 view.requirement

pub record IsAlternative (m : Tree) (automatic : Bool) (place : ℕ) (written : List ℕ × Form) (view : AlternativeView) : Type 0 where
  pub name : view.name ≡ written.0
  pub type : IsPart m automatic place written.1 view.type

-- the parts of a list one by one, the first of them at this place
abbrev pub AreFrom : {Written View : Type 0} → (ℕ → Written → View → Type 0) → ℕ → List Written → List View → Type 0
AreFrom IsOne place [] [] = ⊤
AreFrom IsOne place [] (view ∷ views) = ⊥
AreFrom IsOne place (written ∷ others) [] = ⊥
AreFrom IsOne place (written ∷ others) (view ∷ views) = IsOne place written view × AreFrom IsOne (suc place) others views

abbrev pub AreComponents : Tree → Bool → ℕ → List (List ℕ × Form × Ending) → List ComponentView → Type 0
AreComponents m automatic place written views = AreFrom (IsComponent m automatic) place written views

abbrev pub AreAlternatives : Tree → Bool → ℕ → List (List ℕ × Form) → List AlternativeView → Type 0
AreAlternatives m automatic place written views = AreFrom (IsAlternative m automatic) place written views
