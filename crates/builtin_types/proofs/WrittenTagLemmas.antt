-- Whether a list is written with a tag, found part by part.
use Rattle.std.proofs.Common.{◌≡◌, ◌<◌, ◌||◌, ℕ, zero, suc, Bool, true, false, List, [], ◌∷◌, ◌++◌, map, length, get_or, refl, subst, arith}
use Rattle.syntax.specs.declared.tree.Component.{Component}
use Rattle.syntax.specs.declared.tree.Alternative.{Alternative}
use Rattle.syntax.specs.Tree.{Ending, Form}
use Rattle.syntax.specs.View.{form, component, alternative}
use Rattle.builtin_types.specs.Tagging.{is_tag_written, are_written_with_tag, are_alternatives_written_with_tag}

or_first : (a b : Bool) → a ≡ true → (a || b) ≡ true
or_first true b h = refl
or_first false b h = absurd cc

or_second : (a b : Bool) → b ≡ true → (a || b) ≡ true
or_second true b h = refl
or_second false b h = h

neither : (a b : Bool) → (a || b) ≡ false → (a ≡ false) × (b ≡ false)
neither true b h = absurd cc
neither false b h = (refl, h)

or_neither : (a b : Bool) → a ≡ false → b ≡ false → (a || b) ≡ false
or_neither true b h g = absurd cc
or_neither false b h g = g

pub tag_found : (xs : List Component) (i : ℕ) (x : Component) → i < length xs → x ≡ get_or xs i x → is_tag_written (form x.body) ≡ true → are_written_with_tag (map component xs) ≡ true
tag_found [] i x within at t = absurd (omega (arith, within))
tag_found (y ∷ ys) zero x within at t = or_first (is_tag_written (form y.body)) (are_written_with_tag (map component ys)) (subst (λ (z : Component). is_tag_written (form z.body) ≡ true) at t)
tag_found (y ∷ ys) (suc i) x within at t = or_second (is_tag_written (form y.body)) (are_written_with_tag (map component ys)) (tag_found ys i x (omega (arith, within)) at t)

pub no_tag_more : (ws : List (List ℕ × Form × Ending)) (w : List ℕ × Form × Ending) → are_written_with_tag ws ≡ false → is_tag_written w.1 ≡ false → are_written_with_tag (ws ++ w ∷ []) ≡ false
no_tag_more [] w h t = or_neither (is_tag_written w.1) false t refl
no_tag_more (v ∷ ws) w h t =
    let both = neither (is_tag_written v.1) (are_written_with_tag ws) h in
    or_neither (is_tag_written v.1) (are_written_with_tag (ws ++ w ∷ [])) both.0 (no_tag_more ws w both.1 t)

pub alternative_tag_found : (xs : List Alternative) (i : ℕ) (x : Alternative) → i < length xs → x ≡ get_or xs i x → is_tag_written (form x.body) ≡ true → are_alternatives_written_with_tag (map alternative xs) ≡ true
alternative_tag_found [] i x within at t = absurd (omega (arith, within))
alternative_tag_found (y ∷ ys) zero x within at t = or_first (is_tag_written (form y.body)) (are_alternatives_written_with_tag (map alternative ys)) (subst (λ (z : Alternative). is_tag_written (form z.body) ≡ true) at t)
alternative_tag_found (y ∷ ys) (suc i) x within at t = or_second (is_tag_written (form y.body)) (are_alternatives_written_with_tag (map alternative ys)) (alternative_tag_found ys i x (omega (arith, within)) at t)

pub no_alternative_tag_more : (ws : List (List ℕ × Form)) (w : List ℕ × Form) → are_alternatives_written_with_tag ws ≡ false → is_tag_written w.1 ≡ false → are_alternatives_written_with_tag (ws ++ w ∷ []) ≡ false
no_alternative_tag_more [] w h t = or_neither (is_tag_written w.1) false t refl
no_alternative_tag_more (v ∷ ws) w h t =
    let both = neither (is_tag_written v.1) (are_alternatives_written_with_tag ws) h in
    or_neither (is_tag_written v.1) (are_alternatives_written_with_tag (ws ++ w ∷ [])) both.0 (no_alternative_tag_more ws w both.1 t)
