-- What stands at the front of some octets, by its identifier octets and length octets (X.690 8.1).
use Rattle.std.specs.Prelude.{◌≡◌, ◌≤◌, ℕ, Bool, true, false, List, [], ◌∷◌, ◌++◌, length, take}
use Rattle.octets.specs.declared.tag.Tag.{Tag}
use Rattle.octets.specs.Identifier.{IsReadIdentifier}
use Rattle.octets.specs.Rule.{ber}
use Rattle.types.specs.Form.{IsPrimitive, IsConstructed}
use Rattle.berslice.specs.declared.heads.Identifier.{Identifier}
use Rattle.berslice.specs.declared.heads.Inside.{Inside}

-- identifier octets (8.1.2)
abbrev pub IsIdentifierOf : Identifier → List ℕ → Type 0
IsIdentifierOf identifier octets = IsReadIdentifier octets identifier.tag identifier.constructed identifier.octets

-- a primitive encoding of these contents octets
pub record IsPrimitiveAt (tag : Tag) (octets contents : List ℕ) (used : ℕ) : Type 0 where
  pub there : used ≤ length octets
  pub whole : IsPrimitive ber tag contents (take used octets)

-- what makes a constructed encoding with the octets before them: all of these, or any up to an end
abbrev pub Completes : Bool → Tag → List ℕ → List ℕ → Type 0
Completes true tag head inside = IsConstructed ber tag inside (head ++ inside)
Completes false tag head inside = (contents : List ℕ) → IsConstructed ber tag contents (head ++ (contents ++ (0 ∷ 0 ∷ [])))

-- the identifier octets and length octets of a constructed encoding, and what stands behind them
pub record IsOpened (tag : Tag) (octets : List ℕ) (inside : Inside) : Type 0 where
  pub head : List ℕ
  pub rest : List ℕ
  pub joined : octets ≡ head ++ (inside.octets.now ++ rest)
  pub count : length head ≡ inside.start
  pub form : Completes inside.definite tag head inside.octets.now

-- end-of-contents octets (8.1.5)
abbrev pub StartsWithEnd : List ℕ → Type 0
StartsWithEnd octets = (rest : List ℕ) × (octets ≡ 0 ∷ 0 ∷ rest)
