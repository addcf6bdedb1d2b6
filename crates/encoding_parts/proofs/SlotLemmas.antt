-- Slots for components.
use Rattle.std.proofs.Common.{◌≡◌, ◌+◌, ◌<◌, ℕ, zero, suc, List, [], ◌∷◌, ◌++◌, Option, None, length, map, take, refl, ap, ◌∙◌, arith}
use Rattle.std.proofs.lemmas.List.{length-map}
use Rattle.types.specs.declared.value.Value.{Value}
use Rattle.types.specs.declared.ty.Field.{Field}
use Rattle.types.specs.View.{ComponentView, field_view}

abbrev pub none_of : Option Value
none_of = None

-- one empty slot more
pub empty_more : (fields : List Field) (i : ℕ) → i < length fields → map (λ (c : ComponentView). none_of) (map field_view (take (i + 1) fields)) ≡ map (λ (c : ComponentView). none_of) (map field_view (take i fields)) ++ (none_of ∷ [])
empty_more [] i below = absurd (omega (arith, below))
empty_more (f ∷ fields) zero below = refl
empty_more (f ∷ fields) (suc i) below = let next : suc i + 1 ≡ suc (i + 1) = omega arith in ap (λ n. map (λ (c : ComponentView). none_of) (map field_view (take n (f ∷ fields)))) next ∙ ap (λ l. none_of ∷ l) (empty_more fields i (omega (arith, below)))

pub empty_length : (fields : List Field) (slots : List (Option Value)) → slots ≡ map (λ (c : ComponentView). none_of) (map field_view fields) → length slots ≡ length fields
empty_length fields slots is = ap length is ∙ (length-map (map field_view fields) (λ (c : ComponentView). none_of) ∙ length-map fields field_view)
