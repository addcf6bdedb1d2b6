-- Segments of a string that CER cuts (X.690 9.2), up to the end-of-contents octets.
use Rattle.std.specs.Prelude.{◌≡◌, ◌≢◌, ◌↔◌, ◌⊎◌, ◌-◌, ◌<◌, ◌≤◌, ℕ, Bool, true, false, List, [], ◌∷◌, ◌++◌, length, take, drop}
use Rattle.octets.specs.Rule.{cer}
use Rattle.types.specs.Form.{IsPrimitive}
use Rattle.types.specs.Strings.{segment_octets, AreCerSegments}
use Rattle.encoding_parts.specs.declared.joined.SegmentKind.{SegmentKind}
use Rattle.encoding_parts.specs.declared.joined.Joined.{Joined}
use Rattle.encoding_parts.specs.Joined.{Element, segment_of, string_of, IsHeld, IsWholePiece}
use Rattle.strict.specs.Head.{EndsHere}
use Rattle.strict.specs.Leaf.{HoldsSegment}

-- segments of the string
abbrev pub AreSegmentsOf : (kind : SegmentKind) → List (Element kind) → List ℕ → Type 0
AreSegmentsOf kind string octets = AreCerSegments (segment_of kind) (HoldsSegment kind) (IsWholePiece kind) string octets

-- none, or segments where some may follow
abbrev pub CanFollow : (kind : SegmentKind) → Bool → List (Element kind) → List ℕ → Type 0
CanFollow kind full string octets = ((string ≡ []) × (octets ≡ [])) ⊎ ((full ≡ true) × AreSegmentsOf kind string octets)

-- the octets begin with such segments of the string and the end behind them
pub record HasSegments (kind : SegmentKind) (full : Bool) (room : ℕ) (string : List (Element kind)) (octets : List ℕ) : Type 0 where
  pub segments : List ℕ
  pub rest : List ℕ
  pub follow : CanFollow kind full string segments
  pub fits : length segments ≤ room
  pub parts : octets ≡ segments ++ (0 ∷ 0 ∷ rest)

-- of some string
abbrev pub HasSomeSegments : SegmentKind → Bool → ℕ → List ℕ → Type 0
HasSomeSegments kind full room octets = (string : List (Element kind)) × HasSegments kind full room string octets

-- segments that go on from these go on behind so many of the octets, where the string goes on behind this one
abbrev pub GoOn : (kind : SegmentKind) → Bool → ℕ → List ℕ → List (Element kind) → Bool → ℕ → Type 0
GoOn kind full room octets string next used = (more : List ℕ) (total : List (Element kind)) → HasSegments kind full room total (octets ++ more)
    → (others : List (Element kind)) × (total ≡ string ++ others) × HasSegments kind next (room - used) others (drop used octets ++ more)

-- so many of the octets are segments of the string
pub record AreSegmentsRead (kind : SegmentKind) (room : ℕ) (octets : List ℕ) (string : List (Element kind)) (full : Bool) (used : ℕ) : Type 0 where
  pub there : used ≤ length octets
  pub within : used ≤ room
  pub back : (others : List (Element kind)) (later : List ℕ) → CanFollow kind full others later → CanFollow kind true (string ++ others) (take used octets ++ later)
  pub forth : GoOn kind true room octets string full used

-- and behind them is the end
pub record AreSegmentsKnown (kind : SegmentKind) (room : ℕ) (octets : List ℕ) (string : List (Element kind)) (used : ℕ) : Type 0 where
  pub full : Bool
  pub read : AreSegmentsRead kind room octets string full used
  pub ends : EndsHere false (room - used) (drop used octets)

-- so many of them are one segment, behind which others may follow where it is full
pub record IsSegmentRead (kind : SegmentKind) (room : ℕ) (octets : List ℕ) (piece : List (Element kind)) (full : Bool) (used : ℕ) : Type 0 where
  pub contents : List ℕ
  pub there : used ≤ length octets
  pub within : used ≤ room
  pub holds : HoldsSegment kind piece contents
  pub some : piece ≢ []
  pub short : length contents ≤ segment_octets
  pub primitive : IsPrimitive cer (segment_of kind) contents (take used octets)
  pub exact : (full ≡ true) ↔ ((length contents ≡ segment_octets) × IsWholePiece kind piece)
  pub forth : GoOn kind true room octets piece full used

-- it was joined, and bits are unused behind it only where no other segment may follow
pub record IsJoinedSegment (kind : SegmentKind) (room : ℕ) (octets : List ℕ) (old new : Joined) (full : Bool) (used : ℕ) : Type 0 where
  pub piece : List (Element kind)
  pub joined : string_of kind new ≡ string_of kind old ++ piece
  pub read : IsSegmentRead kind room octets piece full used
  pub held : IsHeld kind new
  pub whole : full ≡ true → new.unused ≡ 0

-- the segments that were read make this string, behind which bits are unused only where no other segment may follow
pub record AreJoined (kind : SegmentKind) (room : ℕ) (octets : List ℕ) (joined : Joined) (full : Bool) (used : ℕ) : Type 0 where
  pub read : AreSegmentsRead kind room octets (string_of kind joined) full used
  pub held : IsHeld kind joined
  pub whole : full ≡ true → joined.unused ≡ 0

-- the string has more contents octets than one segment may have
abbrev pub IsLong : SegmentKind → Joined → Type 0
IsLong kind joined = (contents : List ℕ) → HoldsSegment kind (string_of kind joined) contents → segment_octets < length contents
