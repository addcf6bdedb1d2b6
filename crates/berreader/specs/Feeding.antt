-- What a reader over pieces has been fed, and what it returns of the next piece.
use Rattle.std.specs.Prelude.{◌≡◌, ◌-◌, ◌≤◌, ⊤, ℕ, List, [], ◌++◌, length, take, Option, Some, None}
use Rattle.octets.specs.declared.TheConstants.{MAX_ENCODING}
use Rattle.octets.specs.Front.{HasFront}
use Rattle.octets.specs.Rule.{ber}
use Rattle.types.specs.declared.refusal.Refusal.{Refusal}
use Rattle.types.specs.declared.refusal.Refusal.TheVariants.{Truncated}
use Rattle.types.specs.declared.value.Value.{Value}
use Rattle.types.specs.Encoding.{IsAccepted, IsSomeAccepted, most_nested}
use Rattle.types.specs.Refusal.{IsOfReading}
use Rattle.types.specs.Shape.{Shape, Val}
use Rattle.types.specs.View.{ty_view, value_view}
use Rattle.types.specs.WellFormed.{IsWellFormed}
use Rattle.berreader.specs.declared.cursor.Cursor.{Cursor}
use Rattle.berreader.specs.declared.pieces.Pieces.{Pieces}
use Rattle.berreader.specs.declared.reader.Step as step
use Rattle.berreader.specs.Cursor.{depth_of, CanFinish, HasTaken, IsSoundCursor}
use Rattle.berreader.specs.Cut.{IsCut}
use Rattle.berreader.specs.Stack.{layers_of}

-- 2 to 11 and 17: what a reader over pieces refuses a piece with
abbrev pub IsOfFeeding : Refusal → Type 0
IsOfFeeding Truncated = ⊥
IsOfFeeding refusal = IsOfReading refusal

abbrev pub shape_of : Pieces → Shape
shape_of pieces = ty_view pieces.cursor.nest.ty.now

-- an encoding of the type is at the front of the octets
abbrev pub HasValue : Shape → List ℕ → Type 0
HasValue shape octets = HasFront (IsSomeAccepted ber shape) octets

-- these octets stand before the rest, and where all of them begin with an encoding, the rest completes the value
pub record GoesOn (cursor : Cursor) (before rest : List ℕ) : Type 0 where
  pub taken : HasTaken cursor before
  pub forth : (more : List ℕ) → HasValue (ty_view cursor.nest.ty.now) (before ++ (rest ++ more)) → CanFinish cursor (rest ++ more)

-- these octets have been fed since no value was begun: first those of whole steps, and then those that are kept, which
-- end inside what may come next
pub record HasBeenFed (pieces : Pieces) (octets : List ℕ) : Type 0 where
  pub accepts : pieces.refused ≡ None
  pub before : List ℕ
  pub joined : octets ≡ before ++ pieces.pending.items
  pub goes_on : GoesOn pieces.cursor before pieces.pending.items
  pub cut : IsCut pieces.cursor pieces.pending.items
  pub none : ¬ HasValue (shape_of pieces) octets

-- no value is begun
pub record IsFresh (pieces : Pieces) : Type 0 where
  pub accepts : pieces.refused ≡ None
  pub layers : layers_of pieces.cursor.nest.layers ≡ []
  pub taken : pieces.cursor.nest.taken ≡ 0
  pub string : pieces.cursor.string ≡ None
  pub kept : pieces.pending.items ≡ []

-- so many octets of the piece complete the value
pub record IsDone (shape : Shape) (octets piece : List ℕ) (value : Val) (used : ℕ) : Type 0 where
  pub some : 1 ≤ used
  pub there : used ≤ length piece
  pub accepted : IsAccepted ber shape value (octets ++ take used piece)

-- the whole piece was taken, and no value is whole
pub record IsMore (shape : Shape) (new : Pieces) (octets : List ℕ) : Type 0 where
  pub none : ¬ HasValue shape octets
  pub has_been_fed : HasBeenFed new octets
  pub size : length octets ≤ MAX_ENCODING

-- what a piece comes to after these octets, by the value that is whole, if one is
abbrev pub IsFed : Pieces → Pieces → List ℕ → List ℕ → Option Value → ℕ → Type 0
IsFed old new octets piece None used = IsMore (shape_of old) new (octets ++ piece)
IsFed old new octets piece (Some value) used = IsDone (shape_of old) octets piece (value_view value) used × IsFresh new

-- what holds of a reader that has refused nothing
pub record IsSoundPieces (pieces : Pieces) : Type 0 where
  pub cursor : IsSoundCursor pieces.cursor
  pub well_formed : IsWellFormed (shape_of pieces)

-- what holds of a reader at all times
pub record IsSoundReader (pieces : Pieces) : Type 0 where
  pub sound : pieces.refused ≡ None → IsSoundPieces pieces
  pub numbers : (refusal : Refusal) → pieces.refused ≡ Some refusal → IsOfFeeding refusal
  pub depth : depth_of pieces.cursor ≤ most_nested

-- the same type is read, and no refusal has come
pub record IsGoingOn (old new : Pieces) : Type 0 where
  pub shape : shape_of new ≡ shape_of old
  pub accepts : new.refused ≡ None
  pub sound : IsSoundPieces new

-- the octets behind some others were taken as far as they are whole steps
pub record IsDoneBehind (shape : Shape) (new : Pieces) (before octets : List ℕ) (value : Val) (used : ℕ) : Type 0 where
  pub there : used ≤ length octets
  pub accepted : IsAccepted ber shape value (before ++ take used octets)
  pub fresh : IsFresh new

abbrev pub IsTakenWhole : Pieces → Pieces → List ℕ → List ℕ → Option Value → ℕ → Type 0
IsTakenWhole old new before octets None used = HasBeenFed new (before ++ octets)
IsTakenWhole old new before octets (Some value) used = IsDoneBehind (shape_of old) new before octets (value_view value) used

-- a value that ends so many octets before the end of these
pub record IsDoneBefore (shape : Shape) (new : Pieces) (octets : List ℕ) (value : Val) (left : ℕ) : Type 0 where
  pub there : left ≤ length octets
  pub accepted : IsAccepted ber shape value (take (length octets - left) octets)
  pub fresh : IsFresh new

abbrev pub IsTakenCut : Pieces → Pieces → List ℕ → Option Value → ℕ → Type 0
IsTakenCut old new octets None left = HasBeenFed new octets
IsTakenCut old new octets (Some value) left = IsDoneBefore (shape_of old) new octets (value_view value) left

-- nothing was refused, and no octet has come since the last value
pub record IsFinished (pieces : Pieces) : Type 0 where
  pub accepts : pieces.refused ≡ None
  pub taken : pieces.cursor.nest.taken ≡ 0
  pub string : pieces.cursor.string ≡ None
  pub kept : pieces.pending.items ≡ []

-- what comes of a piece, told as a step
abbrev pub IsFedStep : Pieces → Pieces → List ℕ → List ℕ → step.Step → Type 0
IsFedStep old new octets piece (step.TheVariants.Done value used) = IsDone (shape_of old) octets piece (value_view value) used × IsFresh new
IsFedStep old new octets piece step.TheVariants.More = IsMore (shape_of old) new (octets ++ piece)

abbrev pub EndsStepWithin : ℕ → step.Step → Type 0
EndsStepWithin count (step.TheVariants.Done value used) = used ≤ count
EndsStepWithin count step.TheVariants.More = ⊤
