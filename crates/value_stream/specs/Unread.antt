-- What is left of a source behind the octets that were read, where a piece of it is at hand.
use Rattle.std.specs.Prelude.{◌≤◌, ◌+◌, ◌-◌, ℕ, List, Option, drop, length}
use Rattle.std.specs.Io.KnownBytes.{prepend_known}
use Rattle.engine.specs.Stream.{most_streamed}

-- the octets of the piece behind so many, and then those that the source has, where it tells them
abbrev pub unread : ℕ → List ℕ → Option (List ℕ) → Option (List ℕ)
unread at piece left = prepend_known (drop at piece) left

-- so many octets of the piece were read, and so many of the source; with those at hand they are no more than a stream has
pub record IsWithin (at : ℕ) (piece : List ℕ) (read : ℕ) : Type 0 where
  pub size : length piece ≤ 131_072
  pub there : at ≤ length piece
  pub few : read + (length piece - at) ≤ most_streamed
