-- Octets that end inside a part of an encoding: `taken` octets stand before them, and what holds the part ends at `end`.
use Rattle.std.specs.Prelude.{◌≡◌, ◌⊎◌, ℕ, ◌+◌, ◌-◌, ◌<◌, ◌≤◌, Bool, true, false, List, [], ◌∷◌, ◌++◌, length, Result, Err, IfOk, IfErr, OnOk}
use Rattle.octets.specs.declared.tag.Tag.{Tag}
use Rattle.octets.specs.Front.{HasFront, Begins}
use Rattle.octets.specs.Identifier.{IsIdentifier, IsSomeIdentifier}
use Rattle.octets.specs.Length.{IsLength, IsSomeLength}
use Rattle.types.specs.Leaf.{IsLeaf}
use Rattle.types.specs.Shape.{Shape}
use Rattle.types.specs.declared.refusal.Refusal.{Refusal}
use Rattle.types.specs.declared.refusal.Refusal.TheVariants.{Truncated}
use Rattle.encoding_parts.specs.declared.frame.Frame.{Frame}
use Rattle.encoding_parts.specs.declared.joined.SegmentKind.{SegmentKind}
use Rattle.encoding_parts.specs.declared.segments.Segments.{Segments}
use Rattle.encoding_parts.specs.Joined.{IsString, IsWholePiece, segment_of, string_of, string_shape}
use Rattle.encoding_parts.specs.Lengths.{CanHaveLength}
use Rattle.encoding_parts.specs.Refuses.{Refuses}
use Rattle.encoding_parts.specs.Segments.{CanComplete, IsTop, Passes}

-- they begin identifier octets of a tag within the limit, and are none yet
pub record IsIdentifierCut (end taken : ℕ) (octets : List ℕ) : Type 0 where
  pub begins : Begins IsSomeIdentifier octets
  pub none : ¬ HasFront IsSomeIdentifier octets
  pub fits : taken + length octets < end

-- they begin length octets within the limit, and are none yet
pub record IsLengthCut (end taken : ℕ) (octets : List ℕ) : Type 0 where
  pub begins : Begins IsSomeLength octets
  pub none : ¬ HasFront IsSomeLength octets
  pub fits : taken + length octets < end

-- they are length octets, and fewer contents octets than these say, of which there is room for all
pub record AreContentsCut (contents end taken : ℕ) (octets : List ℕ) : Type 0 where
  pub size : List ℕ
  pub some : List ℕ
  pub sized : IsLength contents size
  pub joined : octets ≡ size ++ some
  pub fewer : length some < contents
  pub fits : taken + length size + contents ≤ end

-- fewer contents octets than a primitive encoding of the type can have
pub record IsPrimitiveCut (node : Shape) (end taken : ℕ) (octets : List ℕ) : Type 0 where
  pub contents : ℕ
  pub can : CanHaveLength node contents
  pub cut : AreContentsCut contents end taken octets

-- an encoding of the type can be primitive, or constructed where so many may nest: of types without parts, only a
-- string can be constructed
abbrev pub CanHaveForm : ℕ → Shape → Bool → Type 0
CanHaveForm levels node false = IsLeaf node
CanHaveForm levels node true = (1 ≤ levels) × (IsLeaf node → IsString node)

-- they stand behind identifier octets: a head that is not complete, or the complete head of a primitive encoding
abbrev pub IsCutBehind : Shape → Bool → ℕ → ℕ → List ℕ → Type 0
IsCutBehind node false end taken octets = IsLengthCut end taken octets ⊎ IsPrimitiveCut node end taken octets
IsCutBehind node true end taken octets = IsLengthCut end taken octets

-- they begin an encoding of the type, and have its identifier octets
pub record IsPartCut (tag : Tag) (node : Shape) (levels end taken : ℕ) (octets : List ℕ) : Type 0 where
  pub constructed : Bool
  pub form : CanHaveForm levels node constructed
  pub identifier : List ℕ
  pub rest : List ℕ
  pub tagged : IsIdentifier tag constructed identifier
  pub joined : octets ≡ identifier ++ rest
  pub behind : IsCutBehind node constructed end (taken + length identifier) rest

-- none or one of the end-of-contents octets of the open encoding, for both of which there is room
pub record IsEndCut (frame : Frame) (taken : ℕ) (octets : List ℕ) : Type 0 where
  pub indefinite : frame.definite ≡ false
  pub cut : (octets ≡ []) ⊎ (octets ≡ 0 ∷ [])
  pub fits : taken ≤ frame.end

-- they begin a segment that may come next in the open encoding, and have its identifier octets
pub record IsSegmentCut (kind : SegmentKind) (segments : Segments) (frame : Frame) (octets : List ℕ) : Type 0 where
  pub whole : IsWholePiece kind (string_of kind segments.joined)
  pub cut : IsPartCut (segment_of kind) (string_shape (segment_of kind) kind) (segments.levels - length segments.frames.items) frame.end segments.taken octets

abbrev pub IsCutInside : SegmentKind → Segments → Frame → List ℕ → Type 0
IsCutInside kind segments frame octets = IsIdentifierCut frame.end segments.taken octets ⊎ (IsSegmentCut kind segments frame octets ⊎ IsEndCut frame segments.taken octets)

-- they end inside what may come next in the innermost open encoding of a string
pub record IsStringCut (kind : SegmentKind) (segments : Segments) (octets : List ℕ) : Type 0 where
  pub frame : Frame
  pub top : IsTop frame segments.frames.items
  pub cut : IsCutInside kind segments frame octets

-- what taking a segment leads to: octets are passed, or are refused; where more may come, nothing has changed
pub record Advances (kind : SegmentKind) (old new : Segments) (frame : Frame) (octets : List ℕ) (result : Result ℕ Refusal) : Type 0 where
  pub passed : IfOk result (Passes kind old new octets)
  pub refused : IfErr result (Refuses (CanComplete kind old) (IsCutInside kind old frame) octets)
  pub unchanged : result ≡ Err Truncated → new ≡ old
  pub frames : OnOk result (new.frames.items ≡ old.frames.items)
