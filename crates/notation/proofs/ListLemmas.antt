-- What a SEQUENCE, SET or CHOICE means, said of its parts one by one.
use Rattle.std.proofs.Common.{◌≡◌, ℕ, suc, Bool, true, false, List, [], ◌∷◌, map, refl, sym, ap, ◌∙◌, if◌then◌else◌}
use Rattle.types.specs.Shape.{Shape, Components, Alternatives, no_alternative, alternative}
use Rattle.types.specs.View.{ComponentView, AlternativeView, components_of, alternatives_of}
use Rattle.syntax.specs.Tree.{Ending, Form, list, of, choice, Alternatives as WrittenAlternatives, Tree}
use Rattle.syntax.specs.View.{components_of as written_components, alternatives_of as written_alternatives}
use Rattle.syntax.specs.declared.tree.Group.{Group}
use Rattle.types.specs.Tagging.{tagged_by_default}
use Rattle.builtin_types.specs.Tagging.{context, numbered_components, numbered_alternatives, is_component_tagged, is_alternative_tagged, has_automatic_tags}
use Rattle.builtin_types.specs.Names.{NamesDiffer}
use Rattle.builtin_types.specs.Universal.{list_of, repeated}
use Rattle.notation.specs.Meaning.{component_names, alternative_names, IsMeaning, of_components, of_item_type, of_alternatives, AreAlternativeMeanings, no_other, one_other}
use Rattle.notation.specs.Parts.{IsAlternative, AreComponents, AreAlternatives}
use Rattle.notation.proofs.PartsLemmas.{numbered_if, alternatives_numbered_if, tagged_list, list_in_parts}

numbered_is : (automatic : Bool) (types : Components) → numbered_if automatic 0 types ≡ (if automatic then numbered_components 0 types else types)
numbered_is true types = refl
numbered_is false types = refl

alternatives_numbered_is : (automatic : Bool) (types : Alternatives) → alternatives_numbered_if automatic 0 types ≡ (if automatic then numbered_alternatives 0 types else types)
alternatives_numbered_is true types = refl
alternatives_numbered_is false types = refl

pub names_of_components : (ws : List (List ℕ × Form × Ending)) → component_names (written_components ws) ≡ map (λ (w : List ℕ × Form × Ending). w.0) ws
names_of_components [] = refl
names_of_components (w ∷ ws) = ap (λ (names : List (List ℕ)). w.0 ∷ names) (names_of_components ws)

pub names_of_alternatives : (ws : List (List ℕ × Form)) → alternative_names (written_alternatives ws) ≡ map (λ (w : List ℕ × Form). w.0) ws
names_of_alternatives [] = refl
names_of_alternatives (w ∷ ws) = ap (λ (names : List (List ℕ)). w.0 ∷ names) (names_of_alternatives ws)

-- whether these components have automatic tags in the module
abbrev pub automatic_in : Tree → List (List ℕ × Form × Ending) → Bool
automatic_in m ws = has_automatic_tags m.tagging (is_component_tagged (written_components ws))

abbrev pub automatic_among : Tree → List (List ℕ × Form) → Bool
automatic_among m ws = has_automatic_tags m.tagging (is_alternative_tagged (written_alternatives ws))

-- a SEQUENCE or SET means the list of its components
pub list_means : (m : Tree) (group : Group) (ws : List (List ℕ × Form × Ending)) (vs : List ComponentView) → NamesDiffer (component_names (written_components ws)) → AreComponents m (automatic_in m ws) 0 ws vs
    → IsMeaning m (list group (written_components ws)) (list_of group (components_of vs))
list_means m group ws vs differ parts =
    let r = tagged_list m (automatic_in m ws) 0 ws vs parts in
    of_components differ r.meanings (ap (list_of group) (r.are ∙ numbered_is (automatic_in m ws) r.types))

-- and what it means is such a list
pub record IsListMeaning (m : Tree) (group : Group) (ws : List (List ℕ × Form × Ending)) (type : Shape) : Type 0 where
  pub differ : NamesDiffer (component_names (written_components ws))
  pub views : List ComponentView
  pub parts : AreComponents m (automatic_in m ws) 0 ws views
  pub is : type ≡ list_of group (components_of views)

pub list-meaning : (m : Tree) (group : Group) (ws : List (List ℕ × Form × Ending)) (type : Shape) → IsMeaning m (list group (written_components ws)) type → IsListMeaning m group ws type
list-meaning m group ws type (of_components {types} differ ds e) =
    let r = list_in_parts m (automatic_in m ws) 0 ws types ds in
    record { differ = differ; views = r.0; parts = r.1; is = e ∙ ap (list_of group) (sym (r.2 ∙ numbered_is (automatic_in m ws) types)) }

-- the same of alternatives
record IsTaggedChoice (m : Tree) (automatic : Bool) (place : ℕ) (written : WrittenAlternatives) (whole : Alternatives) : Type 0 where
  types : Alternatives
  meanings : AreAlternativeMeanings m written types
  are : whole ≡ alternatives_numbered_if automatic place types

tagged_choice : (m : Tree) (automatic : Bool) (place : ℕ) (ws : List (List ℕ × Form)) (vs : List AlternativeView) → AreAlternatives m automatic place ws vs → IsTaggedChoice m automatic place (written_alternatives ws) (alternatives_of vs)
tagged_choice m true place [] [] h = record { types = no_alternative; meanings = no_other; are = refl }
tagged_choice m false place [] [] h = record { types = no_alternative; meanings = no_other; are = refl }
tagged_choice m automatic place [] (v ∷ vs) h = absurd h
tagged_choice m automatic place (w ∷ ws) [] h = absurd h
tagged_choice m true place (w ∷ ws) (v ∷ vs) h =
    let r = tagged_choice m true (suc place) ws vs h.1 in
    let own = h.0.type.0 in
    let same = h.0.type.2 in
    record {
      types = alternative w.0 own r.types;
      meanings = one_other h.0.type.1 r.meanings;
      are = ap (λ (i : List ℕ). alternative i v.type (alternatives_of vs)) h.0.name ∙ ap (λ (i : Shape). alternative w.0 i (alternatives_of vs)) same ∙ ap (alternative w.0 (tagged_by_default (context place) own)) r.are;
    }
tagged_choice m false place (w ∷ ws) (v ∷ vs) h =
    let r = tagged_choice m false (suc place) ws vs h.1 in
    record {
      types = alternative w.0 v.type r.types;
      meanings = one_other h.0.type r.meanings;
      are = ap (λ (i : List ℕ). alternative i v.type (alternatives_of vs)) h.0.name ∙ ap (alternative w.0 v.type) r.are;
    }

choice_in_parts : (m : Tree) (automatic : Bool) (place : ℕ) (ws : List (List ℕ × Form)) (types : Alternatives) → AreAlternativeMeanings m (written_alternatives ws) types
    → (vs : List AlternativeView) × AreAlternatives m automatic place ws vs × (alternatives_of vs ≡ alternatives_numbered_if automatic place types)
choice_in_parts m true place [] types no_other = ([], tt, refl)
choice_in_parts m false place [] types no_other = ([], tt, refl)
choice_in_parts m true place (w ∷ ws) types (one_other {type} {types = rest} d ds) =
    let others = choice_in_parts m true (suc place) ws rest ds in
    let view : AlternativeView = record { name = w.0; type = tagged_by_default (context place) type } in
    let one : IsAlternative m true place w view = record { name = refl; type = (type, d, refl) } in
    (view ∷ others.0, (one, others.1), ap (alternative w.0 (tagged_by_default (context place) type)) others.2)
choice_in_parts m false place (w ∷ ws) types (one_other {type} {types = rest} d ds) =
    let others = choice_in_parts m false (suc place) ws rest ds in
    let view : AlternativeView = record { name = w.0; type = type } in
    let one : IsAlternative m false place w view = record { name = refl; type = d } in
    (view ∷ others.0, (one, others.1), ap (alternative w.0 type) others.2)

pub choice_means : (m : Tree) (ws : List (List ℕ × Form)) (vs : List AlternativeView) → NamesDiffer (alternative_names (written_alternatives ws)) → AreAlternatives m (automatic_among m ws) 0 ws vs
    → IsMeaning m (choice (written_alternatives ws)) (Shape.choice (alternatives_of vs))
choice_means m ws vs differ parts =
    let r = tagged_choice m (automatic_among m ws) 0 ws vs parts in
    of_alternatives differ r.meanings (ap Shape.choice (r.are ∙ alternatives_numbered_is (automatic_among m ws) r.types))

pub record IsChoiceMeaning (m : Tree) (ws : List (List ℕ × Form)) (type : Shape) : Type 0 where
  pub differ : NamesDiffer (alternative_names (written_alternatives ws))
  pub views : List AlternativeView
  pub parts : AreAlternatives m (automatic_among m ws) 0 ws views
  pub is : type ≡ Shape.choice (alternatives_of views)

pub choice-meaning : (m : Tree) (ws : List (List ℕ × Form)) (type : Shape) → IsMeaning m (choice (written_alternatives ws)) type → IsChoiceMeaning m ws type
choice-meaning m ws type (of_alternatives {types} differ ds e) =
    let r = choice_in_parts m (automatic_among m ws) 0 ws types ds in
    record { differ = differ; views = r.0; parts = r.1; is = e ∙ ap Shape.choice (sym (r.2 ∙ alternatives_numbered_is (automatic_among m ws) types)) }

-- what the other expressions mean
pub of-meaning : (m : Tree) (group : Group) (form : Form) (type : Shape) → IsMeaning m (of group form) type → (item : Shape) × IsMeaning m form item × (type ≡ repeated group item)
of-meaning m group form type (of_item_type {item} d e) = (item, d, e)
