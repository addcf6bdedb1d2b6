-- Sizes of octets of one kind, counted up to one past the limit of 1,048,576.
use Rattle.std.specs.Prelude.{◌≡◌, ◌≤◌, ℕ, List, length, min}

-- all such octets are as many, or all pass the limit; and up to the limit there are some
pub record HasSize (Is : List ℕ → Type 0) (size : ℕ) : Type 0 where
  pub each : (octets : List ℕ) → Is octets → size ≡ min (length octets) 1_048_577
  pub there : size ≤ 1_048_576 → (octets : List ℕ) × Is octets
