-- Heads: identifier and length octets, or end-of-contents octets.
use Rattle.std.specs.Prelude.{◌≡◌, ◌≢◌, ℕ, ◌≤◌, Bool, true, List, [], ◌∷◌, ◌++◌, Option, Some, None, length, take}
use Rattle.std.specs.declared.result.Result.{Result}
use Rattle.std.specs.declared.result.Result.TheVariants.{Ok, Err}
use Rattle.octets.specs.declared.tag.Class.TheVariants.{Universal}
use Rattle.octets.specs.declared.tag.Tag.{Tag}
use Rattle.octets.specs.Front.{HasFront}
use Rattle.octets.specs.Identifier.{IsIdentifier, IsReadIdentifier}
use Rattle.octets.specs.Length.{IsLength}
use Rattle.types.specs.declared.refusal.Refusal.{Refusal}
use Rattle.types.specs.declared.refusal.Refusal.TheVariants.{StreamTooLong}
use Rattle.types.specs.FirstTags.{IsUsable}
use Rattle.cutting.specs.declared.found.Opened.{Opened}
use Rattle.cutting.specs.declared.found.Opened.TheVariants.{Definite, Indefinite, End}
use Rattle.cutting.specs.declared.found.Found.{Found}
use Rattle.cutting.specs.Refused.{IsOfHead}

-- of the definite form, of so many contents octets
pub record IsDefiniteHead (contents : ℕ) (octets : List ℕ) : Type 0 where
  pub tag : Tag
  pub usable : IsUsable tag
  pub number : tag.number ≤ 268_435_455
  pub within : contents ≤ 1_048_576
  pub constructed : Bool
  pub identifier : List ℕ
  pub size : List ℕ
  pub tagged : IsIdentifier tag constructed identifier
  pub sized : IsLength contents size
  pub joined : octets ≡ identifier ++ size

-- of the indefinite form
pub record IsIndefiniteHead (octets : List ℕ) : Type 0 where
  pub tag : Tag
  pub usable : IsUsable tag
  pub number : tag.number ≤ 268_435_455
  pub identifier : List ℕ
  pub tagged : IsIdentifier tag true identifier
  pub joined : octets ≡ identifier ++ (128 ∷ [])

abbrev pub IsHead : Opened → List ℕ → Type 0
IsHead (Definite contents) octets = IsDefiniteHead contents octets
IsHead Indefinite octets = IsIndefiniteHead octets
IsHead End octets = octets ≡ 0 ∷ 0 ∷ []

abbrev pub IsSomeHead : List ℕ → Type 0
IsSomeHead octets = (opened : Opened) × IsHead opened octets

-- identifier octets that can begin an encoding were read
pub record IsReadUsable (octets : List ℕ) (constructed : Bool) (used : ℕ) : Type 0 where
  pub tag : Tag
  pub usable : IsUsable tag
  pub read : IsReadIdentifier octets tag constructed used

-- those of end-of-contents octets were
abbrev pub IsReadEnd : List ℕ → Bool → ℕ → Type 0
IsReadEnd octets constructed used = IsReadIdentifier octets record { class = Universal; number = 0 } constructed used

-- what stands at the front of the octets: a head, a beginning of some, or neither
abbrev pub AnswersHead : List ℕ → Result (Option Found) Refusal → Type 0
AnswersHead octets (Ok (Some found)) = (found.used ≤ length octets) × IsHead found.opened (take found.used octets)
AnswersHead octets (Ok None) = (¬ HasFront IsSomeHead octets) × (length octets ≤ 132)
AnswersHead octets (Err refusal) = IsOfHead refusal × (refusal ≢ StreamTooLong) × ((more : List ℕ) → ¬ HasFront IsSomeHead (octets ++ more))
