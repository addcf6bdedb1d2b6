-- What is left of encodings that are open.
use Rattle.std.specs.Prelude.{◌≡◌, ℕ, zero, suc, ◌≤◌, List, [], ◌∷◌, ◌++◌, length, drop}
use Rattle.std.specs.List.{AllByRecursion, concat}
use Rattle.cutting.specs.Encoding.{IsAnyEncoding}

-- of one of the indefinite form: encodings one after another, the end-of-contents octets 00 00 (X.690 8.1.5), and what
-- is left of those around it
pub record IsRestInside (IsAround : List ℕ → Type 0) (octets : List ℕ) : Type 0 where
  pub parts : List (List ℕ)
  pub each : AllByRecursion IsAnyEncoding parts
  pub around : List ℕ
  pub outside : IsAround around
  pub joined : octets ≡ concat parts ++ (0 ∷ 0 ∷ around)

-- of so many of the indefinite form, one in another
unfoldable pub IsRestOf : ℕ → List ℕ → Type 0
IsRestOf zero octets = octets ≡ []
IsRestOf (suc around) octets = IsRestInside (IsRestOf around) octets

-- so many contents octets, and what is left of the encodings around them
abbrev pub IsRestBehind : ℕ → ℕ → List ℕ → Type 0
IsRestBehind contents around octets = (contents ≤ length octets) × IsRestOf around (drop contents octets)

-- where an encoding may begin: one, or what is left of those around it
abbrev pub IsFromHead : ℕ → List ℕ → Type 0
IsFromHead zero octets = IsAnyEncoding octets
IsFromHead (suc around) octets = IsRestOf (suc around) octets

-- contents octets that are due and what is left behind them; where none are due, what goes on behind octets of a head
abbrev pub IsCompletion : ℕ → ℕ → List ℕ → List ℕ → Type 0
IsCompletion zero around head octets = IsFromHead around (head ++ octets)
IsCompletion (suc contents) around head octets = IsRestBehind (suc contents) around octets
