-- Two arcs that share a subidentifier, for the test of an OBJECT IDENTIFIER's value.
use Rattle.std.specs.Prelude.{◌≤◌, ◌+◌, ◌*◌, ◌^◌, ◌<◌, ℕ}

-- two arcs at the front of an OBJECT IDENTIFIER share a subidentifier within the limit (X.690 8.19.4)
pub record CanShare (first second : ℕ) : Type 0 where
  pub at_most_2 : first ≤ 2
  pub at_most_39 : first ≤ 1 → second ≤ 39
  pub within : 40 * first + second < 2 ^ 128
