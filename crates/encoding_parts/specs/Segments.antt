-- What is known of a constructed string whose parts are being read.
use Rattle.std.specs.Prelude.{◌≡◌, ℕ, ◌+◌, ◌<◌, ◌≤◌, Bool, false, List, [], ◌∷◌, ◌++◌, length, take, drop, reverse, All, slice_range}
use Rattle.octets.specs.declared.TheConstants.{MAX_ENCODING}
use Rattle.types.specs.Shape.{Shape}
use Rattle.encoding_parts.specs.declared.frame.Frame.{Frame}
use Rattle.encoding_parts.specs.declared.joined.SegmentKind.{SegmentKind}
use Rattle.encoding_parts.specs.declared.segments.Segments.{Segments}
use Rattle.encoding_parts.specs.Completing.{Completes, IsEndOf, Opens}
use Rattle.encoding_parts.specs.Head.{IsPrimitiveAt, IsReadTag}
use Rattle.encoding_parts.specs.Joined.{Element, segment_of, HoldsPiece, IsWholePiece, string_of, IsHeld, IsStringOf}
use Rattle.encoding_parts.specs.Passed.{StandsIn}

-- the open encodings, the innermost first
abbrev pub stack : List Frame → List Frame
stack frames = reverse frames

-- what completes a string of the kind, by the open encodings
abbrev pub CompletesBy : (kind : SegmentKind) → ℕ → List Frame → ℕ → List (Element kind) → List ℕ → List (Element kind) → List ℕ → Type 0
CompletesBy kind levels frames taken string octets total rest = Completes (segment_of kind) (HoldsPiece kind) (IsWholePiece kind) levels frames taken string octets total rest

-- the octets complete the string, and leave a rest
abbrev pub Completion : (kind : SegmentKind) → Segments → List ℕ → List (Element kind) → List ℕ → Type 0
Completion kind segments octets total rest =
    CompletesBy kind segments.levels (stack segments.frames.items) segments.taken (string_of kind segments.joined) octets total rest

-- the octets begin with some that complete a string
abbrev pub CanComplete : SegmentKind → Segments → List ℕ → Type 0
CanComplete kind segments octets = (total : List (Element kind)) × (rest : List ℕ) × Completion kind segments octets total rest

-- what completes the old one by the first octets is what completes the new one by the second
pub record IsAlike (kind : SegmentKind) (old new : Segments) (first second : List ℕ) : Type 0 where
  pub forth : (total : List (Element kind)) (rest : List ℕ) → Completion kind old first total rest → Completion kind new second total rest
  pub back : (total : List (Element kind)) (rest : List ℕ) → Completion kind new second total rest → Completion kind old first total rest

-- the string stands behind these octets, of which the first stands at this place in the outermost encoding
abbrev pub StandsBehind : (kind : SegmentKind) → ℕ → Frame → ℕ → Segments → List ℕ → Type 0
StandsBehind kind levels first place segments octets =
    StandsIn kind levels first place (stack segments.frames.items) (string_of kind segments.joined) octets

-- so many of the octets were taken, and the string stands behind them
pub record IsTaken (kind : SegmentKind) (old new : Segments) (octets : List ℕ) (used : ℕ) : Type 0 where
  pub there : used ≤ length octets
  pub place : new.taken ≡ old.taken + used
  pub deepest : new.levels ≡ old.levels
  pub light : length new.joined.octets.items ≤ length old.joined.octets.items + used
  pub alike : (more : List ℕ) → IsAlike kind old new (take used octets ++ more) more
  pub stands : (levels : ℕ) (first : Frame) (place : ℕ) (passed : List ℕ) → old.levels ≡ levels → old.taken ≡ place + length passed → StandsBehind kind levels first place old passed → StandsBehind kind levels first place new (passed ++ take used octets)

-- an encoding does not end past the limit
pub record IsWithin (frame : Frame) : Type 0 where
  pub end : frame.end ≤ MAX_ENCODING
  pub room : frame.definite ≡ false → frame.end + 2 ≤ MAX_ENCODING

-- no encoding ends past the limit, not too many are open, and the octets hold a string
pub record IsSound (kind : SegmentKind) (segments : Segments) : Type 0 where
  pub within : All IsWithin (stack segments.frames.items)
  pub few : length segments.frames.items ≤ segments.levels
  pub place : segments.taken ≤ MAX_ENCODING
  pub held : IsHeld kind segments.joined

-- this is the innermost open encoding
abbrev pub IsTop : Frame → List Frame → Type 0
IsTop frame frames = (others : List Frame) × (stack frames ≡ frame ∷ others)

-- the open encoding ends at the front of the octets
pub record EndsAt (frame : Frame) (taken : ℕ) (octets : List ℕ) : Type 0 where
  pub mark : List ℕ
  pub others : List ℕ
  pub ends : IsEndOf frame taken mark
  pub parts : octets ≡ mark ++ others

-- no end-of-contents octets: they do not begin with 00
abbrev pub BeginsAboveZero : List ℕ → Type 0
BeginsAboveZero octets = (first : ℕ) × (others : List ℕ) × (0 < first) × (octets ≡ first ∷ others)

-- so many of the octets were taken, which leaves a sound string of which less is to come
pub record Passes (kind : SegmentKind) (old new : Segments) (octets : List ℕ) (used : ℕ) : Type 0 where
  pub taken : IsTaken kind old new octets used
  pub sound : IsSound kind new
  pub smaller : length new.frames.items < length old.frames.items + used

-- the identifier octets of a segment were read, where one may stand in the innermost open encoding
pub record IsSegmentDue (kind : SegmentKind) (segments : Segments) (frame : Frame) (octets : List ℕ) (constructed : Bool) (identifier : ℕ) : Type 0 where
  pub top : IsTop frame segments.frames.items
  pub sound : IsSound kind segments
  pub no_end : (more : List ℕ) → ¬ EndsAt frame segments.taken (octets ++ more)
  pub whole : segments.joined.unused ≡ 0
  pub tagged : IsReadTag (segment_of kind) frame.end segments.taken octets constructed identifier

-- a primitive segment stands there that two octets stand before, where one may in the innermost open encoding
pub record IsShortSegment (kind : SegmentKind) (segments : Segments) (frame : Frame) (octets : List ℕ) (used : ℕ) : Type 0 where
  pub some : 2 ≤ used
  pub whole : segments.joined.unused ≡ 0
  pub tagged : IsReadTag (segment_of kind) frame.end segments.taken octets false 1
  pub place : IsPrimitiveAt (segment_of kind) frame.end segments.taken octets (slice_range octets 2 used) used

-- so many of the octets, which are primitive segments, were taken
pub record IsRun (kind : SegmentKind) (old new : Segments) (octets : List ℕ) (used : ℕ) : Type 0 where
  pub taken : IsTaken kind old new octets used
  pub sound : IsSound kind new
  pub frames : new.frames.items ≡ old.frames.items

-- one encoding is open of at most so many, and nothing of the string has come
pub record IsOpened (levels : ℕ) (frame : Frame) (taken : ℕ) (segments : Segments) : Type 0 where
  pub deepest : segments.levels ≡ levels
  pub frames : stack segments.frames.items ≡ frame ∷ []
  pub place : segments.taken ≡ taken
  pub octets : segments.joined.octets.items ≡ []
  pub unused : segments.joined.unused ≡ 0

-- these octets are the front of a constructed string, up to the segments that have been joined: the outermost
-- encoding opens behind its identifier octets, and the string stands behind what follows its length octets; what
-- completes it from there completes what is open
pub record IsPassed (kind : SegmentKind) (levels end taken identifier : ℕ) (segments : Segments) (passed : List ℕ) : Type 0 where
  pub size : ℕ
  pub frame : Frame
  pub there : identifier + size ≤ length passed
  pub nested : 1 ≤ levels
  pub deepest : segments.levels ≡ levels
  pub opens : Opens end (taken + identifier) frame (take size (drop identifier passed))
  pub place : segments.taken ≡ taken + length passed
  pub light : length segments.joined.octets.items ≤ length passed
  pub forth : (more : List ℕ) (total : List (Element kind)) (rest : List ℕ) → CompletesBy kind levels (frame ∷ []) (taken + (identifier + size)) [] (drop (identifier + size) passed ++ more) total rest → Completion kind segments more total rest
  pub stands : StandsBehind kind levels frame (taken + (identifier + size)) segments (drop (identifier + size) passed)

-- a constructed string of the type begins with so many of the octets, and they were taken
pub record IsBegun (shape : Shape) (end taken identifier levels : ℕ) (octets : List ℕ) (kind : SegmentKind) (segments : Segments) (used : ℕ) : Type 0 where
  pub of : IsStringOf kind shape
  pub there : used ≤ length octets
  pub some : 2 ≤ used
  pub heads : identifier ≤ used
  pub deepest : segments.levels ≡ levels
  pub frames : length segments.frames.items ≡ 1
  pub sound : IsSound kind segments
  pub passed : IsPassed kind levels end taken identifier segments (take used octets)
