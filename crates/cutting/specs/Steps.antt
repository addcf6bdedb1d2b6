-- The steps from one head to the next.
use Rattle.std.specs.Prelude.{◌≡◌, ◌≢◌, ℕ, suc, ◌≤◌, ◌+◌, ◌^◌, ◌<◌, ◌↔◌, List, ◌++◌, Option, Some, None, length, take}
use Rattle.std.specs.declared.result.Result.{Result}
use Rattle.std.specs.declared.result.Result.TheVariants.{Ok, Err}
use Rattle.octets.specs.Front.{HasFront}
use Rattle.types.specs.declared.refusal.Refusal.{Refusal}
use Rattle.types.specs.declared.refusal.Refusal.TheVariants.{StreamTooLong}
use Rattle.cutting.specs.declared.found.Opened.{Opened}
use Rattle.cutting.specs.declared.found.Opened.TheVariants.{Definite, Indefinite, End}
use Rattle.cutting.specs.declared.found.Found.{Found}
use Rattle.cutting.specs.declared.ends.Ends.{Ends}
use Rattle.cutting.specs.Rest.{IsRestBehind}
use Rattle.cutting.specs.Refused.{IsOfHead}
use Rattle.cutting.specs.Inside.{came, Completes, GoesOn, EndsNever}

-- no front of the octets but all of them can complete it
abbrev pub EndsNotBefore : Ends → List ℕ → Type 0
EndsNotBefore ends octets = (n : ℕ) → n < length octets → ¬ Completes ends (take n octets)

-- behind these octets no head is cut, and what is left completes it
pub record HasMoved (old new : Ends) (octets : List ℕ) : Type 0 where
  pub none_cut : new.count ≡ 0
  pub none_before : EndsNotBefore old octets
  pub rest : (rest : List ℕ) → IsRestBehind new.left new.open rest ↔ Completes old (octets ++ rest)

-- the octets are held, of a head that they cut
pub record HasHeld (old new : Ends) (octets : List ℕ) : Type 0 where
  pub count : new.count ≡ old.count + length octets
  pub same : (new.passed ≡ old.passed) × (new.open ≡ old.open) × (new.left ≡ old.left)

-- how a head is taken from the front of the octets, where no contents octets are due
abbrev pub TakesHead : Ends → Ends → List ℕ → Result (Option ℕ) Refusal → Type 0
TakesHead old new octets (Ok (Some used)) = (0 < used + new.left) × (used ≤ length octets) × HasMoved old new (take used octets) × (came new ≡ came old + used)
TakesHead old new octets (Ok None) = (new.left ≡ 0) × GoesOn old new octets × (¬ HasFront (Completes old) octets) × HasHeld old new octets
TakesHead old new octets (Err refusal) = IsOfHead refusal × (refusal ≢ StreamTooLong → EndsNever old octets) × (refusal ≡ StreamTooLong → 2 ^ 64 ≤ came old + length octets)

-- what a head opens or ends
abbrev pub Opens : Opened → Ends → Ends → Type 0
Opens (Definite contents) old new = (new.left ≡ contents) × (new.open ≡ old.open)
Opens Indefinite old new = (new.left ≡ old.left) × (new.open ≡ suc old.open)
Opens End old new = (new.left ≡ old.left) × (suc new.open ≡ old.open)

-- how it is counted: end-of-contents octets are refused where nothing is open
abbrev pub HasOpened : Found → Ends → Ends → Result (Unit {0}) Refusal → Type 0
HasOpened found old new (Ok _) = Opens found.opened old new × (new.count ≡ old.count) × (new.passed ≡ old.passed + found.used)
HasOpened found old new (Err refusal) = IsOfHead refusal × (refusal ≢ StreamTooLong → (found.opened ≡ End) × (old.open ≡ 0)) × (refusal ≡ StreamTooLong → 2 ^ 64 ≤ old.passed + found.used)

-- contents octets that are due are passed, as many as are there
pub record HasPassed (old new : Ends) (there passed : ℕ) : Type 0 where
  pub within : passed ≤ there
  pub due : new.left + passed ≡ old.left
  pub all : 0 < new.left → passed ≡ there
  pub counted : new.passed ≡ old.passed + passed
  pub same : (new.open ≡ old.open) × (new.count ≡ old.count)
