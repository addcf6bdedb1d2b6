-- An encoding whose length octets are put in place once its contents octets stand.
use Rattle.std.specs.Prelude.{◌≡◌, ◌-◌, ℕ, suc, Bool, List, [], ◌∷◌, ◌++◌, length, take, drop}
use Rattle.octets.specs.declared.tag.Tag.{Tag}
use Rattle.octets.specs.Identifier.{IsIdentifier}
use Rattle.octets.specs.Length.{IsShortestLength}

-- identifier octets and the octet 80 were appended, the latter at that place
pub record IsOpening (tag : Tag) (constructed : Bool) (old new : List ℕ) (place : ℕ) : Type 0 where
  pub identifier : List ℕ
  pub tagged : IsIdentifier tag constructed identifier
  pub is : new ≡ (old ++ identifier) ++ 128 ∷ []
  pub at : place ≡ length (old ++ identifier)

-- what stood behind so many octets at that place stands before them
abbrev pub IsBroughtForward : ℕ → ℕ → List ℕ → List ℕ → Type 0
IsBroughtForward place count old new = (front inside moved : List ℕ) → length front ≡ place → length inside ≡ count → old ≡ front ++ (inside ++ moved) → new ≡ front ++ (moved ++ inside)

-- the shortest length of the octets behind that place stands where the octet there stood (X.690 10.1)
pub record IsLengthPut (place : ℕ) (old new : List ℕ) : Type 0 where
  pub size : List ℕ
  pub sized : IsShortestLength (length old - suc place) size
  pub is : new ≡ take place old ++ (size ++ drop (suc place) old)
