-- Encodings that are begun, and what completes them.
use Rattle.std.specs.Prelude.{ℕ, ◌⊎◌, ◌+◌, ◌<◌, ◌↔◌, List, ◌++◌, take}
use Rattle.octets.specs.Front.{HasFront}
use Rattle.cutting.specs.declared.ends.Ends.{Ends}
use Rattle.cutting.specs.declared.cutter.Cutter.{Cutter}
use Rattle.cutting.specs.Encoding.{IsAnyEncoding}
use Rattle.cutting.specs.Rest.{IsCompletion}

-- one is open, or contents octets of it are to come, or a part of its head has come
abbrev pub IsBegun : Ends → Type 0
IsBegun ends = (0 < ends.open) ⊎ ((0 < ends.left) ⊎ (0 < ends.count))

-- how many octets have come: those passed, and those of a head that is cut
abbrev pub came : Ends → ℕ
came ends = ends.passed + ends.count

-- what is cut so far ends within one
abbrev pub IsInside : {K : Type 0} → Cutter K → Type 0
IsInside cutter = IsBegun cutter.ends

-- the octets complete the encoding that is begun; where none is, they are one
abbrev pub Completes : Ends → List ℕ → Type 0
Completes ends octets = IsCompletion ends.left ends.open (take ends.count ends.head) octets

-- where none is begun, what completes it is an encoding
abbrev pub AnEncodingCompletesNone : Type 0
AnEncodingCompletesNone = (ends : Ends) → ¬ IsBegun ends → (octets : List ℕ) → Completes ends octets ↔ IsAnyEncoding octets

-- what completes it begins with these octets, and goes on with what completes it then
abbrev pub GoesOn : Ends → Ends → List ℕ → Type 0
GoesOn old new octets = (rest : List ℕ) → Completes new rest ↔ Completes old (octets ++ rest)

-- no octets that begin so have a front that completes it
abbrev pub EndsNever : Ends → List ℕ → Type 0
EndsNever ends octets = (more : List ℕ) → ¬ HasFront (Completes ends) (octets ++ more)
