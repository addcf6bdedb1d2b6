-- The octets that digits behind DEFAULT stand for.
use Rattle.std.specs.Prelude.{◌≡◌, ◌+◌, ◌*◌, ◌<◌, ℕ, List, [], ◌∷◌, map, All}
use Rattle.builtin_types.specs.Defaults.{hex_digit}

-- hexadecimal digits, and the value of each
pub record AreHexDigits (digits values : List ℕ) : Type 0 where
  pub each : All (λ value. value < 16) values
  pub spelt : digits ≡ map hex_digit values

-- two values in each octet, the more significant first, and a 0 behind an odd number of them
abbrev pub packed : List ℕ → List ℕ
packed [] = []
packed (high ∷ []) = (high * 16) ∷ []
packed (high ∷ low ∷ values) = (high * 16 + low) ∷ packed values
