-- Lemmas on the components that fields stand for.
use Rattle.std.proofs.Common.{◌≡◌, ℕ, zero, suc, ◌+◌, ◌<◌, List, [], ◌∷◌, ◌++◌, length, take, drop, map, get_or, sym, ◌∙◌, ap, subst, arith}
use Rattle.std.specs.List.{AllByRecursion}
use Rattle.std.proofs.lemmas.List.{map-append, take-append-drop, drop-map}
use Rattle.types.specs.declared.ty.Field.{Field}
use Rattle.types.specs.FirstTags.{RunsAreDistinct}
use Rattle.types.specs.View.{ComponentView, field_view, ty_view, requirement_view, components_of}
use Rattle.types.proofs.ViewLemmas.{field_is}
use Rattle.encoding_parts.specs.Parts.{IsGoodComponent}

pub field_type : (f : Field) → (field_view f).type ≡ ty_view f.ty
field_type f = ap (λ (c : ComponentView). c.type) (field_is f)

pub field_requirement : (f : Field) → (field_view f).requirement ≡ requirement_view f.presence
field_requirement f = ap (λ (c : ComponentView). c.requirement) (field_is f)

-- what is said of each component is said of those from one on
pub all_from : {X : Type 0} (P : X → Type 0) (xs : List X) (i : ℕ) → AllByRecursion P xs → AllByRecursion P (drop i xs)
all_from P xs zero h = h
all_from P [] (suc i) h = h
all_from P (x ∷ xs) (suc i) h = all_from P xs i h.1

pub runs_from : (xs : List ComponentView) (i : ℕ) → RunsAreDistinct (components_of xs) → RunsAreDistinct (components_of (drop i xs))
runs_from xs zero h = h
runs_from [] (suc i) h = h
runs_from (x ∷ xs) (suc i) h = runs_from xs i h.1

pub all_at : (P : ComponentView → Type 0) (fields : List Field) (i : ℕ) (f : Field) → i < length fields → f ≡ get_or fields i f → AllByRecursion P (map field_view fields) → P (field_view f)
all_at P [] i f below is h = absurd (omega (arith, below))
all_at P (x ∷ fields) zero f below is h = subst (λ (g : Field). P (field_view g)) (sym is) h.0
all_at P (x ∷ fields) (suc i) f below is h = all_at P fields i f (omega (arith, below)) is h.1

-- the field so far on, and those behind it
pub here_of : (fields : List Field) (i : ℕ) (f : Field) → i < length fields → f ≡ get_or fields i f → map field_view (drop i fields) ≡ field_view f ∷ map field_view (drop (i + 1) fields)
here_of [] i f below is = absurd (omega (arith, below))
here_of (x ∷ fields) zero f below is = ap (λ (g : Field). field_view g ∷ map field_view fields) (sym is)
here_of (x ∷ fields) (suc i) f below is = let next : suc i + 1 ≡ suc (i + 1) = omega arith in here_of fields i f (omega (arith, below)) is ∙ ap (λ n. field_view f ∷ map field_view (drop n (x ∷ fields))) (sym next)

pub first_of : (fields : List Field) (i : ℕ) (f : Field) → i < length fields → f ≡ get_or fields i f → map field_view (take (i + 1) fields) ≡ map field_view (take i fields) ++ (field_view f ∷ [])
first_of [] i f below is = absurd (omega (arith, below))
first_of (x ∷ fields) zero f below is = ap (λ (g : Field). field_view g ∷ []) (sym is)
first_of (x ∷ fields) (suc i) f below is = let next : suc i + 1 ≡ suc (i + 1) = omega arith in ap (λ n. map field_view (take n (x ∷ fields))) next ∙ ap (λ l. field_view x ∷ l) (first_of fields i f (omega (arith, below)) is)

pub whole_of : (fields : List Field) (i : ℕ) (f : Field) → i < length fields → f ≡ get_or fields i f → map field_view fields ≡ map field_view (take i fields) ++ (field_view f ∷ map field_view (drop (i + 1) fields))
whole_of fields i f below is = ap (map field_view) (sym (take-append-drop i fields)) ∙ (map-append field_view (take i fields) (drop i fields) ∙ ap (λ l. map field_view (take i fields) ++ l) (here_of fields i f below is))

-- the component at a place, and those behind it
pub record IsRunAt (fields : List Field) (i : ℕ) (f : Field) : Type 0 where
  pub here : map field_view (drop i fields) ≡ field_view f ∷ map field_view (drop (i + 1) fields)
  pub good : IsGoodComponent (field_view f)
  pub goods : AllByRecursion IsGoodComponent (map field_view (drop (i + 1) fields))
  pub runs : RunsAreDistinct (components_of (field_view f ∷ map field_view (drop (i + 1) fields)))

pub run_at : (fields : List Field) (i : ℕ) (f : Field) → i < length fields → f ≡ get_or fields i f → AllByRecursion IsGoodComponent (map field_view fields) → RunsAreDistinct (components_of (map field_view fields)) → IsRunAt fields i f
run_at fields i f below is good runs =
    let here = here_of fields i f below is in
    let goods = subst (AllByRecursion IsGoodComponent) (drop-map field_view i fields ∙ here) (all_from IsGoodComponent (map field_view fields) i good) in
    record { here = here; good = goods.0; goods = goods.1; runs = subst (λ l. RunsAreDistinct (components_of l)) (drop-map field_view i fields ∙ here) (runs_from (map field_view fields) i runs) }
