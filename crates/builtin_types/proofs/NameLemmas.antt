-- Lists whose names differ.
use Rattle.std.proofs.Common.{◌≡◌, ◌⊎◌, inl, inr, ℕ, List, [], ◌∷◌, map, sym, ap, ◌∙◌, subst, Contains}
use Rattle.types.proofs.ListLemmas.{not_in_nil, contains_first, contains_later, contains_cases, first_differs, others_differ}
use Rattle.builtin_types.specs.Names.{NamesDiffer}

pub contains_map : {X : Type 0} {Y : Type 0} (f : X → Y) (xs : List X) (x : X) → Contains xs x → Contains (map f xs) (f x)
contains_map f [] x h = absurd (not_in_nil x h)
contains_map f (y ∷ ys) x h = by_place (contains_cases y x ys h) (contains_map f ys x)
  where
    by_place : (y ≡ x) ⊎ Contains ys x → (Contains ys x → Contains (map f ys) (f x)) → Contains (map f (y ∷ ys)) (f x)
    by_place (inl same) more = contains_first (f y) (f x) (map f ys) (ap f same)
    by_place (inr later) more = contains_later (f y) (f x) (map f ys) (more later)

-- of two elements with one name both are the same
pub one_of_name : {X : Type 0} (name : X → List ℕ) (xs : List X) → NamesDiffer (map name xs) → (a b : X) → Contains xs a → Contains xs b → name a ≡ name b → a ≡ b
one_of_name name [] differ a b h g same = absurd (not_in_nil a h)
one_of_name name (x ∷ xs) differ a b h g same =
    by_places (contains_cases x a xs h) (contains_cases x b xs g) (λ p q. one_of_name name xs (others_differ (name x) (map name xs) differ) a b p q same)
  where
    by_places : (x ≡ a) ⊎ Contains xs a → (x ≡ b) ⊎ Contains xs b → (Contains xs a → Contains xs b → a ≡ b) → a ≡ b
    by_places (inl p) (inl q) more = sym p ∙ q
    by_places (inl p) (inr q) more =
        absurd (first_differs (name x) (map name xs) differ (subst (Contains (map name xs)) (sym same ∙ ap name (sym p)) (contains_map name xs b q)))
    by_places (inr p) (inl q) more =
        absurd (first_differs (name x) (map name xs) differ (subst (Contains (map name xs)) (same ∙ ap name (sym q)) (contains_map name xs a p)))
    by_places (inr p) (inr q) more = more p q
