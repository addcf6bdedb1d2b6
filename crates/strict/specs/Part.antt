-- What stands at the front of some octets.
use Rattle.std.specs.Prelude.{◌≡◌, ◌≤◌, ℕ, List, ◌++◌, length}
use Rattle.types.specs.Shape.{Val}

-- the octets begin with an encoding of a value, of at most so many octets
pub record BeginsWith (Encodes : Val → List ℕ → Type 0) (room : ℕ) (octets : List ℕ) : Type 0 where
  pub value : Val
  pub part : List ℕ
  pub rest : List ℕ
  pub encoding : Encodes value part
  pub fits : length part ≤ room
  pub parts : octets ≡ part ++ rest
