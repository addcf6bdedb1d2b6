-- Names of one list that differ, entered one by one until one repeats an earlier one.
use Rattle.std.specs.Prelude.{◌≡◌, ◌≢◌, ℕ, Bool, true, false, List, [], ◌∷◌, ◌++◌, take, slice_get, Some, Contains}
use Rattle.std.specs.List.{AllPairs}

abbrev pub NamesDiffer : List (List ℕ) → Type 0
NamesDiffer names = AllPairs (λ name other. name ≢ other) names

-- the name is entered behind the others where it is none of them, and else nothing is
abbrev pub IsEntered : List (List ℕ) → List ℕ → Bool → List (List ℕ) → Type 0
IsEntered names name true after = (Contains names name → ⊥) × (after ≡ names ++ name ∷ [])
IsEntered names name false after = Contains names name × (after ≡ names)

-- those that are entered are these, and they differ
pub record AreEntered (entered names : List (List ℕ)) : Type 0 where
  pub are : entered ≡ names
  pub differ : NamesDiffer names

-- the name at the place is the first that repeats an earlier one
pub record IsFirstRepeat (names : List (List ℕ)) (place : ℕ) : Type 0 where
  pub name : List ℕ
  pub at : slice_get names place ≡ Some name
  pub earlier : Contains (take place names) name
  pub differ : NamesDiffer (take place names)
