-- Readers that are given octets piece by piece. `StandsAt` is what is said of a reader and the octets that it took
-- since it was fresh.
use Rattle.std.specs.Prelude.{◌≡◌, ◌≢◌, ◌≤◌, ◌⊎◌, ⊤, ℕ, List, [], ◌++◌, length, take, Option, Some, None, Result, Ok, Err}
use Rattle.octets.specs.Front.{HasFront}
use Rattle.octets.specs.Rule.{Rule, ber, IsCanonical}
use Rattle.types.specs.declared.refusal.Refusal.{Refusal}
use Rattle.types.specs.declared.refusal.Refusal.TheVariants.{Truncated, NotCanonical, NoMemory}
use Rattle.types.specs.declared.value.Value.{Value}
use Rattle.types.specs.Encoding.{IsAccepted, IsSomeAccepted}
use Rattle.types.specs.Refusal.{IsFinal}
use Rattle.types.specs.Shape.{Shape, Val}
use Rattle.types.specs.View.{value_view}
use Rattle.berreader.specs.declared.pieces.Pieces.{Pieces}
use Rattle.berreader.specs.Feeding.{HasBeenFed, shape_of}

-- a BER reader of the type has refused nothing, and took these octets since no value was begun
pub record StandsOpen (shape : Shape) (reader : Pieces) (octets : List ℕ) : Type 0 where
  pub type : shape_of reader ≡ shape
  pub fed : HasBeenFed reader octets

-- 2 to 12 and 17; 12 of the canonical rules alone, and of octets that begin with what BER reads
pub record IsOfFeeding (rule : Rule) (shape : Shape) (octets : List ℕ) (refusal : Refusal) : Type 0 where
  pub number : IsFinal refusal ⊎ (refusal ≡ NoMemory)
  pub strict : refusal ≡ NotCanonical → IsCanonical rule
  pub by_ber : refusal ≡ NotCanonical → HasFront (IsSomeAccepted ber shape) octets

-- so many octets of a piece complete a value, behind the octets that were taken before it
pub record IsDone (rule : Rule) (shape : Shape) (v : Val) (used : ℕ) (old piece : List ℕ) : Type 0 where
  pub some : 1 ≤ used
  pub there : used ≤ length piece
  pub accepted : IsAccepted rule shape v (old ++ take used piece)

-- what feeding a piece led to, behind the octets that were taken before it, by the value in the slot, if one is
abbrev pub IsFed : (List ℕ → Type 0) → Rule → Shape → Result ℕ Refusal → Option Value → List ℕ → List ℕ → Type 0
IsFed StandsAt rule shape (Ok used) None old piece = StandsAt (old ++ piece) × ¬ HasFront (IsSomeAccepted rule shape) (old ++ piece)
IsFed StandsAt rule shape (Ok used) (Some value) old piece = IsDone rule shape (value_view value) used old piece × StandsAt []
IsFed StandsAt rule shape (Err refusal) slot old piece = IsOfFeeding rule shape (old ++ piece) refusal × (IsFinal refusal → (more : List ℕ) → ¬ HasFront (IsSomeAccepted rule shape) ((old ++ piece) ++ more))

-- Ok exactly where no value is begun
abbrev pub IsFinished : Result ⊤ Refusal → List ℕ → Type 0
IsFinished (Ok _) old = old ≡ []
IsFinished (Err refusal) old = (refusal ≡ Truncated) × (old ≢ [])

-- a reader stands at the octets, and no value is complete in them
pub record IsUnfinished (StandsAt : List ℕ → Type 0) (rule : Rule) (shape : Shape) (octets : List ℕ) : Type 0 where
  pub stands : StandsAt octets
  pub none : ¬ HasFront (IsSomeAccepted rule shape) octets
