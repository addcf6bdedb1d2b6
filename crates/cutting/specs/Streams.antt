-- Streams: encodings one after another, from within one of them on.
use Rattle.std.specs.Prelude.{◌≡◌, ◌⊎◌, ◌↔◌, ◌≤◌, ◌+◌, ℕ, List, [], ◌++◌, Option, length, map, take}
use Rattle.std.specs.List.{AllByRecursion, concat}
use Rattle.std.specs.Io.KnownBytes.{Appends}
use Rattle.cutting.specs.declared.ends.Ends.{Ends}
use Rattle.cutting.specs.Encoding.{IsAnyEncoding}
use Rattle.cutting.specs.Inside.{IsBegun, Completes}

-- the octets complete the encoding that is begun, or are one where none is, and others stand behind it
pub record IsRestOfStream (ends : Ends) (octets : List ℕ) : Type 0 where
  pub first : List ℕ
  pub completes : Completes ends first
  pub others : List (List ℕ)
  pub each : AllByRecursion IsAnyEncoding others
  pub joined : octets ≡ first ++ concat others

-- behind these octets a stream ends between encodings; where none is begun, it does so behind none
abbrev pub EndsBetween : Ends → List ℕ → Type 0
EndsBetween ends octets = ((¬ IsBegun ends) × (octets ≡ [])) ⊎ IsRestOfStream ends octets

-- what ends it so begins with these octets, and goes on with what ends it so then
abbrev pub Passes : Ends → Ends → List ℕ → Type 0
Passes old new octets = (rest : List ℕ) → EndsBetween new rest ↔ EndsBetween old (octets ++ rest)

-- nothing that begins so ends it between encodings
abbrev pub NeverBetween : Ends → List ℕ → Type 0
NeverBetween ends octets = (more : List ℕ) → ¬ EndsBetween ends (octets ++ more)

-- each file that was ended meanwhile ends between encodings, behind so many octets and a front of these
pub record AreEndedBetween (ends : Ends) (octets : List ℕ) (before : ℕ) (old new : Option (List ℕ)) : Type 0 where
  pub places : List ℕ
  pub each : AllByRecursion (λ n. (n ≤ length octets) × EndsBetween ends (take n octets)) places
  pub added : Appends old new (map (λ n. before + n) places)
