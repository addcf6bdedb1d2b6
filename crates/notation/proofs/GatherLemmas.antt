-- The names in a list of components or alternatives, gathered one by one.
use Rattle.std.proofs.Common.{◌≡◌, ◌+◌, ◌<◌, ℕ, List, [], ◌∷◌, ◌++◌, map, take, length, get_or, sym, ap, ◌∙◌, append_assoc}
use Rattle.std.proofs.lemmas.List.{map_more, append-nil}
use Rattle.syntax.specs.Tree.{Ending, Form}
use Rattle.syntax.specs.View.{form, component, alternative, components_of, alternatives_of}
use Rattle.syntax.specs.declared.tree.Component.{Component}
use Rattle.syntax.specs.declared.tree.Alternative.{Alternative}
use Rattle.notation.specs.References.{names_in, names_in_components, names_in_alternatives}

names-push : (ws : List (List ℕ × Form × Ending)) (w : List ℕ × Form × Ending) → names_in_components (components_of (ws ++ w ∷ [])) ≡ names_in_components (components_of ws) ++ names_in w.1
names-push [] w = append-nil (names_in w.1)
names-push (v ∷ ws) w = ap (λ (ns : List (List ℕ)). names_in v.1 ++ ns) (names-push ws w) ∙ sym (append_assoc (names_in v.1) (names_in_components (components_of ws)) (names_in w.1))

alternative_names-push : (ws : List (List ℕ × Form)) (w : List ℕ × Form) → names_in_alternatives (alternatives_of (ws ++ w ∷ [])) ≡ names_in_alternatives (alternatives_of ws) ++ names_in w.1
alternative_names-push [] w = append-nil (names_in w.1)
alternative_names-push (v ∷ ws) w = ap (λ (ns : List (List ℕ)). names_in v.1 ++ ns) (alternative_names-push ws w) ∙ sym (append_assoc (names_in v.1) (names_in_alternatives (alternatives_of ws)) (names_in w.1))

pub gathered_more : (start before after : List (List ℕ)) (cs : List Component) (i : ℕ) (c : Component) → i < length cs → c ≡ get_or cs i c → before ≡ start ++ names_in_components (components_of (map component (take i cs))) → after ≡ before ++ names_in (form c.body)
    → after ≡ start ++ names_in_components (components_of (map component (take (i + 1) cs)))
gathered_more start before after cs i c within is h e =
    let ws = map component (take i cs) in
    let more : map component (take (i + 1) cs) ≡ ws ++ component c ∷ [] = map_more component cs i c within ∙ ap (λ (d : Component). ws ++ component d ∷ []) (sym is) in
    e ∙ ap (λ (ns : List (List ℕ)). ns ++ names_in (form c.body)) h ∙ append_assoc start (names_in_components (components_of ws)) (names_in (form c.body))
    ∙ ap (λ (ns : List (List ℕ)). start ++ ns) (sym (names-push ws (component c)) ∙ ap (λ (vs : List (List ℕ × Form × Ending)). names_in_components (components_of vs)) (sym more))

pub gathered_other : (start before after : List (List ℕ)) (cs : List Alternative) (i : ℕ) (c : Alternative) → i < length cs → c ≡ get_or cs i c → before ≡ start ++ names_in_alternatives (alternatives_of (map alternative (take i cs))) → after ≡ before ++ names_in (form c.body)
    → after ≡ start ++ names_in_alternatives (alternatives_of (map alternative (take (i + 1) cs)))
gathered_other start before after cs i c within is h e =
    let ws = map alternative (take i cs) in
    let more : map alternative (take (i + 1) cs) ≡ ws ++ alternative c ∷ [] = map_more alternative cs i c within ∙ ap (λ (d : Alternative). ws ++ alternative d ∷ []) (sym is) in
    e ∙ ap (λ (ns : List (List ℕ)). ns ++ names_in (form c.body)) h ∙ append_assoc start (names_in_alternatives (alternatives_of ws)) (names_in (form c.body))
    ∙ ap (λ (ns : List (List ℕ)). start ++ ns) (sym (alternative_names-push ws (alternative c)) ∙ ap (λ (vs : List (List ℕ × Form)). names_in_alternatives (alternatives_of vs)) (sym more))
