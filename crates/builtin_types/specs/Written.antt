-- The numbers that are written, in order, and the next one that is free.
use Rattle.std.specs.Prelude.{◌≡◌, ◌⊎◌, ◌≤◌, ◌<◌, ◌≤ℤ◌, ◌<ℤ◌, ◌+ℤ◌, ◌-◌, ℕ, ℤ, pos, List, [], ◌∷◌, length, get_or, FitsSigned, Contains}
use Rattle.std.specs.List.Sorted.{IsPermutation}
use Rattle.std.specs.Int.{w128}
use Rattle.syntax.specs.Tree.{Entry}
use Rattle.builtin_types.specs.Numbering.{written_numbers}

-- the same numbers in order, without those that are not of 128 bits
abbrev pub AreFitting : List ℤ → List ℤ → Type 0
AreFitting [] fitting = fitting ≡ []
AreFitting (number ∷ numbers) fitting =
    (FitsSigned w128 number × ((others : List ℤ) × (fitting ≡ number ∷ others) × AreFitting numbers others)) ⊎ ((FitsSigned w128 number → ⊥) × AreFitting numbers fitting)

-- the numbers that are written and of 128 bits are these in some order, each as often as it is written
pub record HasWritten (entries : List Entry) (written : List ℤ) : Type 0 where
  pub fitting : List ℤ
  pub are : AreFitting (written_numbers entries) fitting
  pub order : IsPermutation fitting written

-- these first numbers are below the next one
pub record IsPassed (written : List ℤ) (passed : ℕ) (next : ℤ) : Type 0 where
  pub within : passed ≤ length written
  pub below : (place : ℕ) (d : ℤ) → place < passed → get_or written place d <ℤ next

-- the first number from here on that is not written
pub record IsFree (written : List ℤ) (from number : ℤ) : Type 0 where
  pub from_here : from ≤ℤ number
  pub free : Contains written number → ⊥
  pub first : (other : ℤ) → from ≤ℤ other → other <ℤ number → Contains written other

-- the next one lies here at most once all numbers are passed
abbrev pub farthest : List ℤ → ℕ → ℤ → ℤ
farthest written passed next = next +ℤ pos (length written - passed)
