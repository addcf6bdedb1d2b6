-- Lists of components and alternatives, one by one.
use Rattle.std.proofs.Common.{◌≡◌, ◌+◌, ℕ, suc, Bool, true, false, List, [], ◌∷◌, ◌++◌, length, refl, sym, ap, ◌∙◌, subst, arith, add-zero}
use Rattle.octets.specs.declared.tag.Tag.{Tag}
use Rattle.types.specs.Shape.{Val, Shape, Requirement, Components, no_component, component, Alternatives}
use Rattle.types.specs.View.{ComponentView, components_of}
use Rattle.syntax.specs.Tree.{Value, Ending, required, optional, default, Form, Components as WrittenComponents, Tree}
use Rattle.syntax.specs.View.{components_of as written_components}
use Rattle.types.specs.Tagging.{tagged_implicitly, tagged_by_default}
use Rattle.builtin_types.specs.Tagging.{context, numbered_components, numbered_alternatives}
use Rattle.builtin_types.specs.Defaults.{IsDefault, IsRequirement}
use Rattle.notation.specs.Meaning.{AreMeanings, no_more, one_more}
use Rattle.notation.specs.Parts.{IsComponent, AreFrom, AreComponents}

-- one more part at the end
pub parts_push : {W V : Type 0} (IsOne : ℕ → W → V → Type 0) (place : ℕ) (ws : List W) (vs : List V) (w : W) (v : V) → AreFrom IsOne place ws vs → IsOne (place + length ws) w v → AreFrom IsOne place (ws ++ w ∷ []) (vs ++ v ∷ [])
parts_push IsOne place [] [] w v h one = (subst (λ (n : ℕ). IsOne n w v) (add-zero place) one, tt)
parts_push IsOne place [] (y ∷ vs) w v h one = absurd h
parts_push IsOne place (x ∷ ws) [] w v h one = absurd h
parts_push IsOne place (x ∷ ws) (y ∷ vs) w v h one =
    let later : place + suc (length ws) ≡ suc place + length ws = omega arith in
    (h.0, parts_push IsOne (suc place) ws vs w v h.1 (subst (λ (n : ℕ). IsOne n w v) later one))

-- the last part and those before it
pub record IsLastPart {W V : Type 0} (IsOne : ℕ → W → V → Type 0) (place : ℕ) (ws : List W) (w : W) (vs : List V) : Type 0 where
  pub front : List V
  pub last : V
  pub whole : vs ≡ front ++ last ∷ []
  pub before : AreFrom IsOne place ws front
  pub one : IsOne (place + length ws) w last

pub parts_last : {W V : Type 0} (IsOne : ℕ → W → V → Type 0) (place : ℕ) (ws : List W) (w : W) (vs : List V) → AreFrom IsOne place (ws ++ w ∷ []) vs → IsLastPart IsOne place ws w vs
parts_last IsOne place [] w [] h = absurd h
parts_last IsOne place [] w (v ∷ []) h = record { front = []; last = v; whole = refl; before = tt; one = subst (λ (n : ℕ). IsOne n w v) (sym (add-zero place)) h.0 }
parts_last IsOne place [] w (v ∷ y ∷ vs) h = absurd h.1
parts_last IsOne place (x ∷ ws) w [] h = absurd h
parts_last IsOne place (x ∷ ws) w (v ∷ vs) h =
    let r = parts_last IsOne (suc place) ws w vs h.1 in
    let later : suc place + length ws ≡ place + suc (length ws) = omega arith in
    record { front = v ∷ r.front; last = r.last; whole = ap (λ (l : List _). v ∷ l) r.whole; before = (h.0, r.before); one = subst (λ (n : ℕ). IsOne n w r.last) later r.one }

-- a default is judged alike with another outermost tag
default-implicitly : (tag : Tag) (type : Shape) (written : Value) → IsDefault (tagged_implicitly tag type) written ≡ IsDefault type written
default-implicitly tag (Shape.simple other type) written = refl
default-implicitly tag (Shape.string other type) written = refl
default-implicitly tag (Shape.sequence other components) written = refl
default-implicitly tag (Shape.set other components) written = refl
default-implicitly tag (Shape.sequence_of other type) written = refl
default-implicitly tag (Shape.set_of other type) written = refl
default-implicitly tag (Shape.choice alternatives) written = refl
default-implicitly tag (Shape.explicit other type) written = refl

default-by_default : (tag : Tag) (type : Shape) (written : Value) → IsDefault (tagged_by_default tag type) written ≡ IsDefault type written
default-by_default tag (Shape.simple other type) written = refl
default-by_default tag (Shape.string other type) written = refl
default-by_default tag (Shape.sequence other components) written = refl
default-by_default tag (Shape.set other components) written = refl
default-by_default tag (Shape.sequence_of other type) written = refl
default-by_default tag (Shape.set_of other type) written = refl
default-by_default tag (Shape.choice alternatives) written = refl
default-by_default tag (Shape.explicit other type) written = refl

pub requirement-by_default : (tag : Tag) (type : Shape) (ending : Ending) → IsRequirement (tagged_by_default tag type) ending ≡ IsRequirement type ending
requirement-by_default tag type required = refl
requirement-by_default tag type optional = refl
requirement-by_default tag type (default written) =
    ap (λ (P : Val → Type 0). λ (requirement : Requirement). (v : Val) × P v × (requirement ≡ Requirement.default v)) (default-by_default tag type written)

-- automatic tags from this place on, or none
abbrev pub numbered_if : Bool → ℕ → Components → Components
numbered_if true place types = numbered_components place types
numbered_if false place types = types

abbrev pub alternatives_numbered_if : Bool → ℕ → Alternatives → Alternatives
alternatives_numbered_if true place types = numbered_alternatives place types
alternatives_numbered_if false place types = types

-- components that are judged with their automatic tags are meanings with these tags
pub record IsTaggedList (m : Tree) (automatic : Bool) (place : ℕ) (written : WrittenComponents) (whole : Components) : Type 0 where
  pub types : Components
  pub meanings : AreMeanings m written types
  pub are : whole ≡ numbered_if automatic place types

pub tagged_list : (m : Tree) (automatic : Bool) (place : ℕ) (ws : List (List ℕ × Form × Ending)) (vs : List ComponentView) → AreComponents m automatic place ws vs → IsTaggedList m automatic place (written_components ws) (components_of vs)
tagged_list m true place [] [] h = record { types = no_component; meanings = no_more; are = refl }
tagged_list m false place [] [] h = record { types = no_component; meanings = no_more; are = refl }
tagged_list m automatic place [] (v ∷ vs) h = absurd h
tagged_list m automatic place (w ∷ ws) [] h = absurd h
tagged_list m true place (w ∷ ws) (v ∷ vs) h =
    let r = tagged_list m true (suc place) ws vs h.1 in
    let own = h.0.type.0 in
    let same = h.0.type.2 in
    record {
      types = component w.0 own v.requirement r.types;
      meanings = one_more h.0.type.1 (subst (λ (P : Requirement → Type 0). P v.requirement) (requirement-by_default (context place) own w.2) (subst (λ (i : Shape). IsRequirement i w.2 v.requirement) same h.0.requirement)) r.meanings;
      are = ap (λ (i : List ℕ). component i v.type v.requirement (components_of vs)) h.0.name ∙ ap (λ (i : Shape). component w.0 i v.requirement (components_of vs)) same ∙ ap (component w.0 (tagged_by_default (context place) own) v.requirement) r.are;
    }
tagged_list m false place (w ∷ ws) (v ∷ vs) h =
    let r = tagged_list m false (suc place) ws vs h.1 in
    record {
      types = component w.0 v.type v.requirement r.types;
      meanings = one_more h.0.type h.0.requirement r.meanings;
      are = ap (λ (i : List ℕ). component i v.type v.requirement (components_of vs)) h.0.name ∙ ap (component w.0 v.type v.requirement) r.are;
    }

-- and the other way round
pub list_in_parts : (m : Tree) (automatic : Bool) (place : ℕ) (ws : List (List ℕ × Form × Ending)) (types : Components) → AreMeanings m (written_components ws) types
    → (vs : List ComponentView) × AreComponents m automatic place ws vs × (components_of vs ≡ numbered_if automatic place types)
list_in_parts m true place [] types no_more = ([], tt, refl)
list_in_parts m false place [] types no_more = ([], tt, refl)
list_in_parts m true place (w ∷ ws) types (one_more {type} {requirement} {types = rest} d r ds) =
    let others = list_in_parts m true (suc place) ws rest ds in
    let view : ComponentView = record { name = w.0; type = tagged_by_default (context place) type; requirement = requirement } in
    let one : IsComponent m true place w view = record { name = refl; type = (type, d, refl); requirement = subst (λ (P : Requirement → Type 0). P requirement) (sym (requirement-by_default (context place) type w.2)) r } in
    (view ∷ others.0, (one, others.1), ap (component w.0 (tagged_by_default (context place) type) requirement) others.2)
list_in_parts m false place (w ∷ ws) types (one_more {type} {requirement} {types = rest} d r ds) =
    let others = list_in_parts m false (suc place) ws rest ds in
    let view : ComponentView = record { name = w.0; type = type; requirement = requirement } in
    let one : IsComponent m false place w view = record { name = refl; type = d; requirement = r } in
    (view ∷ others.0, (one, others.1), ap (component w.0 type requirement) others.2)
