-- Where a constructed string stands of which only a front has been read: behind the length octets of the
-- outermost encoding stand whole segments, then the head of one that is open with whole segments in it, and
-- so on to the innermost.
use Rattle.std.specs.Prelude.{◌≡◌, ℕ, ◌+◌, ◌-◌, ◌<◌, ◌≤◌, List, [], ◌∷◌, ◌++◌, length}
use Rattle.std.specs.List.{AllByRecursion, concat}
use Rattle.types.specs.Depth.{IsNested}
use Rattle.types.specs.Strings.{AreSegments}
use Rattle.encoding_parts.specs.declared.frame.Frame.{Frame}
use Rattle.encoding_parts.specs.declared.joined.SegmentKind.{SegmentKind}
use Rattle.encoding_parts.specs.Completing.{IsEndOf, IsOpening}
use Rattle.encoding_parts.specs.Joined.{Element, segment_of, HoldsPiece, IsWholePiece}

-- whole segments of this piece of the string, in each of which at most n constructed encodings nest
pub record AreNestedSegments (kind : SegmentKind) (n : ℕ) (piece : List (Element kind)) (octets : List ℕ) : Type 0 where
  pub encodings : List (List ℕ)
  pub are : octets ≡ concat encodings
  pub each : AllByRecursion (IsNested n) encodings
  pub segments : AreSegments (segment_of kind) (HoldsPiece kind) (IsWholePiece kind) piece octets

-- the outermost encoding is open, and these segments have come in it
pub record IsOutermost (kind : SegmentKind) (levels : ℕ) (first : Frame) (place : ℕ) (frame : Frame) (string : List (Element kind)) (octets : List ℕ) : Type 0 where
  pub same : frame ≡ first
  pub fits : place + length octets ≤ frame.end
  pub segments : AreNestedSegments kind (levels - length (frame ∷ [])) string octets

-- behind what the outer encodings hold stands the head of a constructed segment, and whole segments in it
pub record IsInnermost (kind : SegmentKind) (levels place : ℕ) (frame outer : Frame) (others : List Frame) (Before : List (Element kind) → List ℕ → Type 0) (string : List (Element kind)) (octets : List ℕ) : Type 0 where
  pub before : List ℕ
  pub head : List ℕ
  pub contents : List ℕ
  pub earlier : List (Element kind)
  pub piece : List (Element kind)
  pub joined : octets ≡ before ++ (head ++ contents)
  pub is : string ≡ earlier ++ piece
  pub behind : Before earlier before
  pub whole : IsWholePiece kind earlier
  pub nested : length (outer ∷ others) < levels
  pub opening : IsOpening (segment_of kind) outer.end (place + length before) frame head
  pub fits : place + length octets ≤ frame.end
  pub segments : AreNestedSegments kind (levels - length (frame ∷ outer ∷ others)) piece contents

-- the outermost encoding has ended behind these segments
pub record IsEnded (kind : SegmentKind) (levels : ℕ) (first : Frame) (place : ℕ) (string : List (Element kind)) (octets : List ℕ) : Type 0 where
  pub contents : List ℕ
  pub mark : List ℕ
  pub joined : octets ≡ contents ++ mark
  pub ends : IsEndOf first (place + length contents) mark
  pub segments : AreNestedSegments kind (levels - length (first ∷ [])) string contents

-- the octets stand behind the length octets of the outermost encoding, at this place, up to the segments that have
-- come: these encodings, the innermost first, are open, and the segments hold the string
abbrev pub StandsIn : (kind : SegmentKind) → ℕ → Frame → ℕ → List Frame → List (Element kind) → List ℕ → Type 0
StandsIn kind levels first place [] string octets = IsEnded kind levels first place string octets
StandsIn kind levels first place (frame ∷ []) string octets = IsOutermost kind levels first place frame string octets
StandsIn kind levels first place (frame ∷ (outer ∷ others)) string octets =
    IsInnermost kind levels place frame outer others (StandsIn kind levels first place (outer ∷ others)) string octets
