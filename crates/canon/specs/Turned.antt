-- Heads of explicit tags that stand behind their contents octets, turned round.
use Rattle.std.specs.Prelude.{◌≡◌, ◌+◌, ℕ, true, List, ◌++◌, length, reverse}
use Rattle.octets.specs.declared.tag.Tag.{Tag}
use Rattle.octets.specs.Identifier.{IsIdentifier}
use Rattle.octets.specs.Length.{IsShortestLength}

-- the last octet first, they are the identifier octets of a constructed encoding and the shortest length of so many
-- contents octets
pub record IsTurnedHead (tag : Tag) (contents : ℕ) (octets : List ℕ) : Type 0 where
  pub identifier : List ℕ
  pub size : List ℕ
  pub tagged : IsIdentifier tag true identifier
  pub sized : IsShortestLength contents size
  pub is : reverse octets ≡ identifier ++ size

-- contents octets were appended, and from there on what makes them such octets once it is turned round and stands
-- before them
pub record IsTurned (IsThis : List ℕ → Type 0) (old new : List ℕ) (from : ℕ) : Type 0 where
  pub contents : List ℕ
  pub turned : List ℕ
  pub whole : IsThis (reverse turned ++ contents)
  pub is : new ≡ old ++ (contents ++ turned)
  pub at : from ≡ length old + length contents

-- what stood from there on stands before what stood from the start on, and turned round
abbrev pub IsTurnedForward : ℕ → ℕ → List ℕ → List ℕ → Type 0
IsTurnedForward start from old new = (before contents turned : List ℕ) → length before ≡ start → start + length contents ≡ from → old ≡ before ++ (contents ++ turned) → new ≡ before ++ (reverse turned ++ contents)
