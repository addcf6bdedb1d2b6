-- The nodes and levels of a CHOICE are those of its alternatives together.
use Rattle.std.proofs.Common.{◌≡◌, ◌+◌, ℕ, max, Bool, List, [], ◌∷◌, ◌++◌, length, refl, sym, subst, arith, length-append}
use Rattle.types.specs.Shape.{Shape}
use Rattle.types.specs.View.{AlternativeView, alternatives_of}
use Rattle.types.specs.WellFormed.{nodes_of, levels_of, nodes_of_alternatives, levels_of_alternatives}
use Rattle.syntax.specs.Tree.{Form, choice, Tree}
use Rattle.syntax.specs.View.{alternatives_of as written_alternatives}
use Rattle.notation.specs.Parts.{IsPart, IsAlternative}
use Rattle.notation.specs.Size.{counted, HasSize, HaveSize, PartHasSize, AreAlternativesOfSize, AlternativesHaveSize}
use Rattle.notation.proofs.PartsLemmas.{parts_last}
use Rattle.notation.proofs.ListLemmas.{automatic_among, choice-meaning}

nodes_push : (vs : List AlternativeView) (v : AlternativeView) → length (nodes_of_alternatives (alternatives_of (vs ++ v ∷ []))) ≡ length (nodes_of_alternatives (alternatives_of vs)) + length (nodes_of v.type)
nodes_push [] v = omega (arith, length-append (nodes_of v.type) [])
nodes_push (x ∷ vs) v =
    omega (arith, nodes_push vs v, length-append (nodes_of x.type) (nodes_of_alternatives (alternatives_of (vs ++ v ∷ []))), length-append (nodes_of x.type) (nodes_of_alternatives (alternatives_of vs)))

levels_push : (vs : List AlternativeView) (v : AlternativeView) → levels_of_alternatives (alternatives_of (vs ++ v ∷ [])) ≡ max (levels_of_alternatives (alternatives_of vs)) (levels_of v.type)
levels_push [] v = omega arith
levels_push (x ∷ vs) v = omega (arith, levels_push vs v)

pub alternatives_size-none : (m : Tree) (automatic : Bool) → AlternativesHaveSize m automatic [] 0 0
alternatives_size-none m automatic [] h = record { nodes_are = refl; levels_are = refl }
alternatives_size-none m automatic (v ∷ vs) h = absurd h

pub alternatives_size-more : (m : Tree) (automatic : Bool) (ws : List (List ℕ × Form)) (w : List ℕ × Form) (nodes levels more deep : ℕ) → AlternativesHaveSize m automatic ws nodes levels → PartHasSize m automatic (length ws) w.1 more deep
    → AlternativesHaveSize m automatic (ws ++ w ∷ []) (counted (nodes + more)) (max levels deep)
alternatives_size-more m automatic ws w nodes levels more deep h part vs all =
    let l = parts_last (IsAlternative m automatic) 0 ws w vs all in
    let one = l.one in
    let a = h l.front l.before in
    let b = part l.last.type (subst (λ (n : ℕ). IsPart m automatic n w.1 l.last.type) (let e : 0 + length ws ≡ length ws = omega arith in e) one.type) in
    let p = a.nodes_are in
    let q = b.nodes_are in
    let r = a.levels_are in
    let s = b.levels_are in
    let n = nodes_push l.front l.last in
    let k = levels_push l.front l.last in
    subst (λ (i : List AlternativeView). AreAlternativesOfSize (alternatives_of i) (counted (nodes + more)) (max levels deep)) (sym l.whole) (record { nodes_are = omega (arith, p, q, n); levels_are = omega (arith, r, s, k) })

pub size-choice : (m : Tree) (ws : List (List ℕ × Form)) (nodes levels : ℕ) → AlternativesHaveSize m (automatic_among m ws) ws nodes levels → HaveSize m (choice (written_alternatives ws)) (counted (nodes + 1)) levels
size-choice m ws nodes levels h type d =
    let l = choice-meaning m ws type d in
    let a = h l.views l.parts in
    let p = a.nodes_are in
    let q = a.levels_are in
    subst (λ (i : Shape). HasSize i (counted (nodes + 1)) levels) (sym l.is) (record { nodes_are = omega (arith, p); levels_are = q })
