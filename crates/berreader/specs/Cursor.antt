-- Where a reader stands in a value: the open encodings, and the string that has begun in the innermost, if one has.
use Rattle.std.specs.Prelude.{◌≡◌, ◌+◌, ◌<◌, ◌≤◌, ⊤, ℕ, List, [], ◌++◌, Option, Some, None, Result, Err, IfOk, IfErr, OnOk, length, take, drop}
use Rattle.octets.specs.Rule.{ber}
use Rattle.types.specs.Encoding.{IsAccepted}
use Rattle.types.specs.declared.refusal.Refusal.{Refusal}
use Rattle.types.specs.declared.refusal.Refusal.TheVariants.{Truncated}
use Rattle.types.specs.declared.value.Value.{Value}
use Rattle.types.specs.Shape.{Val}
use Rattle.types.specs.View.{ty_view, value_view}
use Rattle.encoding_parts.specs.Refuses.{Refuses}
use Rattle.berreader.specs.declared.cursor.Cursor.{Cursor}
use Rattle.berreader.specs.declared.nest.Nest.{Nest}
use Rattle.berreader.specs.declared.nest.OpenString.{OpenString}
use Rattle.berreader.specs.Cut.{IsCut}
use Rattle.berreader.specs.Nest as nests
use Rattle.berreader.specs.Stack.{layers_of}
use Rattle.berreader.specs.Strings.{IsSoundString, IsString}

-- with a string that has begun
abbrev pub with_string : Nest → OpenString → Cursor
with_string nest string = record { nest = nest; string = Some string }

-- these octets of the string that has begun have been passed; none where none has begun
abbrev pub HasPassed : Nest → Option OpenString → List ℕ → Type 0
HasPassed nest None passed = passed ≡ []
HasPassed nest (Some string) passed = IsString nest string passed

-- the octets begin with some that complete the value, behind what has been passed of the string
pub record CanFinish (cursor : Cursor) (octets : List ℕ) : Type 0 where
  pub passed : List ℕ
  pub string : HasPassed cursor.nest cursor.string passed
  pub rest : nests.CanFinish cursor.nest (passed ++ octets)

-- these octets have been taken
pub record HasTaken (cursor : Cursor) (octets : List ℕ) : Type 0 where
  pub before : List ℕ
  pub passed : List ℕ
  pub joined : octets ≡ before ++ passed
  pub taken : nests.HasTaken cursor.nest before
  pub string : HasPassed cursor.nest cursor.string passed

-- how many octets of the value have been taken
abbrev pub taken_by : Nest → Option OpenString → ℕ
taken_by nest None = nest.taken
taken_by nest (Some string) = string.segments.taken

abbrev pub taken_of : Cursor → ℕ
taken_of cursor = taken_by cursor.nest cursor.string

-- how many encodings of the string are open
abbrev pub open_in : Option OpenString → ℕ
open_in None = 0
open_in (Some string) = length string.segments.frames.items

-- how many constructed encodings are open
abbrev pub depth_of : Cursor → ℕ
depth_of cursor = length (layers_of cursor.nest.layers) + open_in cursor.string

-- how many octets of the string are held
abbrev pub octets_in : Option OpenString → ℕ
octets_in None = 0
octets_in (Some string) = length string.segments.joined.octets.items

-- how many steps may be taken at most without an octet
abbrev pub ends_in : Option OpenString → ℕ
ends_in None = 0
ends_in (Some string) = 1 + length string.segments.frames.items

abbrev pub ends_of : Cursor → ℕ
ends_of cursor = length (layers_of cursor.nest.layers) + ends_in cursor.string

-- what is known of the string whatever has come of it
abbrev pub IsSoundIn : Nest → Option OpenString → Type 0
IsSoundIn nest None = ⊤
IsSoundIn nest (Some string) = IsSoundString nest string

-- what is known whatever has been taken
pub record IsSoundCursor (cursor : Cursor) : Type 0 where
  pub nest : nests.IsSoundNest cursor.nest
  pub string : IsSoundIn cursor.nest cursor.string

-- so many of the octets were taken, and the value is not whole
pub record IsTaken (old new : Cursor) (octets : List ℕ) (used : ℕ) : Type 0 where
  pub there : used ≤ length octets
  pub type : ty_view new.nest.ty.now ≡ ty_view old.nest.ty.now
  pub forth : (more : List ℕ) → CanFinish old (octets ++ more) → CanFinish new (drop used octets ++ more)
  pub back : (before : List ℕ) → HasTaken old before → HasTaken new (before ++ take used octets)
  pub smaller : ends_of new < ends_of old + (used + used)

-- so many were taken, or none
pub record AreTaken (old new : Cursor) (octets : List ℕ) (used : ℕ) : Type 0 where
  pub there : used ≤ length octets
  pub type : ty_view new.nest.ty.now ≡ ty_view old.nest.ty.now
  pub forth : (more : List ℕ) → CanFinish old (octets ++ more) → CanFinish new (drop used octets ++ more)
  pub back : (before : List ℕ) → HasTaken old before → HasTaken new (before ++ take used octets)
  pub ends : ends_of new ≤ ends_of old + (used + used)

-- the value is whole with so many of the octets, and nothing is open
pub record IsWhole (old new : Cursor) (octets : List ℕ) (value : Val) (used : ℕ) : Type 0 where
  pub there : used ≤ length octets
  pub type : ty_view new.nest.ty.now ≡ ty_view old.nest.ty.now
  pub accepted : (before : List ℕ) → HasTaken old before → IsAccepted ber (ty_view old.nest.ty.now) value (before ++ take used octets)
  pub layers : layers_of new.nest.layers ≡ []
  pub taken : new.nest.taken ≡ 0
  pub string : new.string ≡ None

-- by the value that is whole, if one is
abbrev pub IsStep : Cursor → Cursor → List ℕ → Option Value → ℕ → Type 0
IsStep old new octets None used = IsTaken old new octets used
IsStep old new octets (Some value) used = IsWhole old new octets (value_view value) used

-- what a step leads to: octets are taken, or are refused; where more may come, nothing has changed
pub record Steps (old new : Cursor) (octets : List ℕ) (whole : Option Value) (result : Result ℕ Refusal) : Type 0 where
  pub taken : IfOk result (λ used. IsStep old new octets whole used)
  pub sound : OnOk result (IsSoundCursor new)
  pub refused : IfErr result (Refuses (CanFinish old) (IsCut old) octets)
  pub unchanged : result ≡ Err Truncated → new ≡ old
