-- The items of an ENUMERATED have one number each.
use Rattle.std.proofs.Common.{◌≡◌, ◌<◌, ◌≤◌, ◌⊎◌, inl, inr, ℕ, suc, ℤ, pos, List, [], ◌∷◌, map, Some, None, refl, sym, ap, ◌∙◌, subst, arith}
use Rattle.std.proofs.lemmas.Bool.{cases_lt}
use Rattle.types.specs.Shape.{EnumerationItem}
use Rattle.syntax.specs.Tree.{Entry}
use Rattle.builtin_types.specs.Numbering.{IsNextFree, AreNumbered}

pub one_next : (written : List ℤ) (from a b : ℕ) → IsNextFree written from a → IsNextFree written from b → a ≡ b
one_next written from a b h g = by_order (cases_lt a b) (cases_lt b a)
  where
    by_order : (a < b) ⊎ (b ≤ a) → (b < a) ⊎ (a ≤ b) → a ≡ b
    by_order (inl less) q = absurd (h.free (g.first a h.from_here less))
    by_order (inr p) (inl less) = absurd (g.free (h.first b g.from_here less))
    by_order (inr p) (inr q) = omega (arith, p, q)

same_item : (a b : EnumerationItem) → a.name ≡ b.name → a.number ≡ b.number → a ≡ b
same_item a b names numbers =
    ap (λ (name : List ℕ). let item : EnumerationItem = record { name = name; number = a.number } in item) names
    ∙ ap (λ (number : ℤ). let item : EnumerationItem = record { name = b.name; number = number } in item) numbers

pub one_numbering : (written : List ℤ) (from : ℕ) (entries : List Entry) (items others : List EnumerationItem) → AreNumbered written from entries items → AreNumbered written from entries others → items ≡ others
one_numbering written from [] [] [] h g = refl
one_numbering written from [] [] (other ∷ others) h g = absurd g
one_numbering written from [] (item ∷ items) others h g = absurd h
one_numbering written from (entry ∷ entries) [] others h g = absurd h
one_numbering written from (entry ∷ entries) (item ∷ items) [] h g = absurd g
one_numbering written from ((name, Some number) ∷ entries) (item ∷ items) (other ∷ others) h g =
    let first = same_item item other (h.0 ∙ sym g.0) (h.1 ∙ sym g.1) in
    let rest = one_numbering written from entries items others h.3 g.3 in
    cc
one_numbering written from ((name, None) ∷ entries) (item ∷ items) (other ∷ others) h g =
    let next = one_next written from h.1.0 g.1.0 h.1.1 g.1.1 in
    let first = same_item item other (h.0 ∙ sym g.0) (h.1.2 ∙ ap pos next ∙ sym g.1.2) in
    let rest = one_numbering written (suc g.1.0) entries items others (subst (λ (n : ℕ). AreNumbered written (suc n) entries items) next h.1.3) g.1.3 in
    cc

-- the items have the names of their entries
pub numbered_names : (written : List ℤ) (from : ℕ) (entries : List Entry) (items : List EnumerationItem) → AreNumbered written from entries items → map (λ (item : EnumerationItem). item.name) items ≡ map (λ (entry : Entry). entry.0) entries
numbered_names written from [] [] h = refl
numbered_names written from [] (item ∷ items) h = absurd h
numbered_names written from (entry ∷ entries) [] h = absurd h
numbered_names written from ((name, Some number) ∷ entries) (item ∷ items) h =
    let first = h.0 in
    let rest = numbered_names written from entries items h.3 in
    cc
numbered_names written from ((name, None) ∷ entries) (item ∷ items) h =
    let first = h.0 in
    let rest = numbered_names written (suc h.1.0) entries items h.1.3 in
    cc
