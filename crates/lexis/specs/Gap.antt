-- What stands between tokens: white space and comments (X.680, clause 12, "Comment"). "The first n octets
-- of x" is how each part of a text is named here.
use Rattle.std.specs.Prelude.{◌≡◌, ℕ, ◌+◌, ◌<◌, ◌≤◌, List, length, drop, codes, true, false, slice_index, ◌⊎◌}
use Rattle.lexis.specs.Octets.{is_white, is_line_end, begins}

-- a comment ends behind the n octets: x ends there, or a line does
abbrev pub IsLineEndAt : List ℕ → ℕ → Type 0
IsLineEndAt x n = (n ≡ length x) ⊎ (is_line_end (slice_index x n) ≡ true)

-- what follows the two hyphens of a comment, n octets: some with no line end, and up to the first two
-- hyphens with these, or to the end of the line
pub record IsLineRest (x : List ℕ) (n : ℕ) : Type 0 where
  pub inside : ℕ
  pub within : inside ≤ length x
  pub line_goes_on : (i : ℕ) → i < inside → is_line_end (slice_index x i) ≡ false
  pub no_hyphens : (i : ℕ) → i < inside → begins (codes "--") (drop i x) ≡ false
  pub ends : ((begins (codes "--") (drop inside x) ≡ true) × (n ≡ inside + 2)) ⊎ (IsLineEndAt x inside × (n ≡ inside))

-- what follows the `/*` of a comment, n octets: up to the `*/` that closes it, with the comments nested
-- in it
pub data IsBlockRest : List ℕ → ℕ → Type 0 where
  closed : {x : List ℕ} {n : ℕ} → begins (codes "*/") x ≡ true → n ≡ 2 → IsBlockRest x n
  nested : {x : List ℕ} {n inner rest : ℕ} → begins (codes "/*") x ≡ true
      → IsBlockRest (drop 2 x) inner → IsBlockRest (drop (2 + inner) x) rest → n ≡ 2 + inner + rest → IsBlockRest x n
  further : {x : List ℕ} {n rest : ℕ} → begins (codes "*/") x ≡ false → begins (codes "/*") x ≡ false
      → 1 ≤ length x → IsBlockRest (drop 1 x) rest → n ≡ 1 + rest → IsBlockRest x n

-- the first n octets of x are an octet of white space, or a comment of either kind
pub data IsPiece (x : List ℕ) : ℕ → Type 0 where
  white : {n : ℕ} → is_white (slice_index x 0) ≡ true → n ≡ 1 → IsPiece x n
  line : {n rest : ℕ} → begins (codes "--") x ≡ true → IsLineRest (drop 2 x) rest → n ≡ 2 + rest → IsPiece x n
  block : {n rest : ℕ} → begins (codes "/*") x ≡ true → IsBlockRest (drop 2 x) rest → n ≡ 2 + rest → IsPiece x n

-- the first n octets of x are white space and comments
pub data IsGap : List ℕ → ℕ → Type 0 where
  none : {x : List ℕ} {n : ℕ} → n ≡ 0 → IsGap x n
  some : {x : List ℕ} {n first rest : ℕ} → IsPiece x first → IsGap (drop first x) rest → n ≡ first + rest → IsGap x n
