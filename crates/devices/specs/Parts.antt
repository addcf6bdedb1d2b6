-- Octets in parts, one after another, of which a front was written.
use Rattle.std.specs.Prelude.{◌≤◌, ◌<◌, ◌+◌, ℕ, List, length, sum, take}

-- of parts of these lengths, the first `count` and no more are whole among the first `at` octets
pub record IsWholeCount (lengths : List ℕ) (at count : ℕ) : Type 0 where
  pub within : count ≤ length lengths
  pub whole : sum (take count lengths) ≤ at
  pub next : count < length lengths → at < sum (take (count + 1) lengths)
