use Rattle.std.specs.Prelude.{ℕ, ◌≢◌, ◌+◌, ◌<◌, ◌≤◌, List, length, slice_index}
use Rattle.published_tokens.specs.declared.gap.Piece.{Piece}
use Rattle.published_tokens.specs.declared.gap.Piece.TheVariants.{Of, Unclosed, Nothing}

-- a piece of a gap has an octet, and none that is not there
abbrev pub IsWithin : List ℕ → Piece → Type 0
IsWithin octets (Of n) = (1 ≤ n) × (n ≤ length octets)
IsWithin octets Unclosed = Unit {0}
IsWithin octets Nothing = Unit {0}

-- none of the first n octets but the last of them ends a line
abbrev pub IsOneLine : List ℕ → ℕ → Type 0
IsOneLine octets n = (i : ℕ) → i + 1 < n → slice_index octets i ≢ 10

-- none of the first n octets ends a line
abbrev pub IsWithinLine : List ℕ → ℕ → Type 0
IsWithinLine octets n = (i : ℕ) → i < n → slice_index octets i ≢ 10
