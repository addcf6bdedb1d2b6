-- The numbers of items without a number (X.680 clause 20).
use Rattle.std.specs.Prelude.{◌≤◌, ◌<◌, ◌+◌, ◌^◌, ℕ, List, Contains, length}

-- the least number from here on that is not used
pub record IsNextFree (used : List ℕ) (from number : ℕ) : Type 0 where
  pub from_here : from ≤ number
  pub free : Contains used number → ⊥
  pub first : (other : ℕ) → from ≤ other → other < number → Contains used other

-- one more number than there are used ones is used from here on, or each below 2 to the power of 128
abbrev pub AreAllUsed : List ℕ → ℕ → Type 0
AreAllUsed used from = (number : ℕ) → from ≤ number → number ≤ from + length used → number < 2 ^ 128 → Contains used number
