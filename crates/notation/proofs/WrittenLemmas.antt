-- What is asked of a list as it is written, said of its parts one by one.
use Rattle.std.proofs.Common.{◌≡◌, ◌⊎◌, inl, inr, ℕ, Bool, true, false, ◌||◌, List, [], ◌∷◌, ◌++◌, refl, sym, ap, ◌∙◌, append_assoc, Contains}
use Rattle.std.proofs.lemmas.List.{append-nil}
use Rattle.types.proofs.ListLemmas.{not_in_nil, contains_first, contains_later, contains_cases}
use Rattle.syntax.specs.Tree.{Ending, Form}
use Rattle.syntax.specs.View.{components_of as written_components, alternatives_of as written_alternatives}
use Rattle.builtin_types.specs.Tagging.{is_tag_written, is_component_tagged, is_alternative_tagged}
use Rattle.notation.specs.References.{names_in, names_in_components, names_in_alternatives}

-- one is tagged
pub component_tagged : (ws : List (List ℕ × Form × Ending)) (w : List ℕ × Form × Ending) → Contains ws w → is_tag_written w.1 ≡ true → is_component_tagged (written_components ws) ≡ true
component_tagged [] w c h = absurd (not_in_nil w c)
component_tagged (x ∷ ws) w c h = by_place (contains_cases x w ws c) (λ later. component_tagged ws w later h)
  where
    or_true : (mark : Bool) → mark || true ≡ true
    or_true true = refl
    or_true false = refl

    by_place : (x ≡ w) ⊎ Contains ws w → (Contains ws w → is_component_tagged (written_components ws) ≡ true) → is_tag_written x.1 || is_component_tagged (written_components ws) ≡ true
    by_place (inl same) more = ap (λ (mark : Bool). mark || is_component_tagged (written_components ws)) (ap (λ (i : List ℕ × Form × Ending). is_tag_written i.1) same ∙ h)
    by_place (inr later) more = ap (λ (mark : Bool). is_tag_written x.1 || mark) (more later) ∙ or_true (is_tag_written x.1)

-- none is
pub no_component_tagged : (ws : List (List ℕ × Form × Ending)) → ((w : List ℕ × Form × Ending) → Contains ws w → is_tag_written w.1 ≡ false) → is_component_tagged (written_components ws) ≡ false
no_component_tagged [] h = refl
no_component_tagged (x ∷ ws) h =
    ap (λ (mark : Bool). mark || is_component_tagged (written_components ws)) (h x (contains_first x x ws refl)) ∙ no_component_tagged ws (λ w c. h w (contains_later x w ws c))

pub alternative_tagged : (ws : List (List ℕ × Form)) (w : List ℕ × Form) → Contains ws w → is_tag_written w.1 ≡ true → is_alternative_tagged (written_alternatives ws) ≡ true
alternative_tagged [] w c h = absurd (not_in_nil w c)
alternative_tagged (x ∷ ws) w c h = by_place (contains_cases x w ws c) (λ later. alternative_tagged ws w later h)
  where
    or_true : (mark : Bool) → mark || true ≡ true
    or_true true = refl
    or_true false = refl

    by_place : (x ≡ w) ⊎ Contains ws w → (Contains ws w → is_alternative_tagged (written_alternatives ws) ≡ true) → is_tag_written x.1 || is_alternative_tagged (written_alternatives ws) ≡ true
    by_place (inl same) more = ap (λ (mark : Bool). mark || is_alternative_tagged (written_alternatives ws)) (ap (λ (i : List ℕ × Form). is_tag_written i.1) same ∙ h)
    by_place (inr later) more = ap (λ (mark : Bool). is_tag_written x.1 || mark) (more later) ∙ or_true (is_tag_written x.1)

pub no_alternative_tagged : (ws : List (List ℕ × Form)) → ((w : List ℕ × Form) → Contains ws w → is_tag_written w.1 ≡ false) → is_alternative_tagged (written_alternatives ws) ≡ false
no_alternative_tagged [] h = refl
no_alternative_tagged (x ∷ ws) h =
    ap (λ (mark : Bool). mark || is_alternative_tagged (written_alternatives ws)) (h x (contains_first x x ws refl)) ∙ no_alternative_tagged ws (λ w c. h w (contains_later x w ws c))

-- the names in one more part come last
pub names_in-component : (ws : List (List ℕ × Form × Ending)) (w : List ℕ × Form × Ending) → names_in_components (written_components (ws ++ w ∷ [])) ≡ names_in_components (written_components ws) ++ names_in w.1
names_in-component [] w = append-nil (names_in w.1)
names_in-component (x ∷ ws) w =
    ap (λ (names : List (List ℕ)). names_in x.1 ++ names) (names_in-component ws w) ∙ sym (append_assoc (names_in x.1) (names_in_components (written_components ws)) (names_in w.1))

pub names_in-alternative : (ws : List (List ℕ × Form)) (w : List ℕ × Form) → names_in_alternatives (written_alternatives (ws ++ w ∷ [])) ≡ names_in_alternatives (written_alternatives ws) ++ names_in w.1
names_in-alternative [] w = append-nil (names_in w.1)
names_in-alternative (x ∷ ws) w =
    ap (λ (names : List (List ℕ)). names_in x.1 ++ names) (names_in-alternative ws w) ∙ sym (append_assoc (names_in x.1) (names_in_alternatives (written_alternatives ws)) (names_in w.1))
