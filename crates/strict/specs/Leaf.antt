-- Encodings of types without parts under the canonical rules: primitive ones, and strings that CER cuts (X.690 9.2).
use Rattle.std.specs.Prelude.{◌≡◌, ◌≤◌, ⊤, ℕ, Bool, false, List, ◌++◌, length, take, drop, slice_range}
use Rattle.octets.specs.declared.canonical.Canonical.{Canonical}
use Rattle.octets.specs.declared.canonical.Canonical.TheVariants.{Cer}
use Rattle.octets.specs.declared.tag.Tag.{Tag}
use Rattle.octets.specs.Rule.{cer, der}
use Rattle.primitives.specs.Bits.{IsBits}
use Rattle.primitives.specs.Boolean.{IsBoolean}
use Rattle.types.specs.declared.refusal.Refusal.{Refusal}
use Rattle.types.specs.declared.refusal.Refusal.TheVariants.{Contents, Alphabet, NotCanonical, NoMemory}
use Rattle.types.specs.Conforms.{Conforms}
use Rattle.types.specs.Form.{IsDefinite}
use Rattle.types.specs.Leaf.{tag_of}
use Rattle.types.specs.Shape.{StringType, SimpleValue, StringValue, Shape, Val}
use Rattle.types.specs.Strings.{segment_octets, AreOctets, IsCut}
use Rattle.encoding_parts.specs.declared.joined.SegmentKind.{SegmentKind}
use Rattle.encoding_parts.specs.declared.joined.SegmentKind.TheVariants.{Bits, Octets}
use Rattle.encoding_parts.specs.Contents.{HoldsContents}
use Rattle.encoding_parts.specs.Joined.{Element, segment_of, IsWholePiece, typed}
use Rattle.strict.specs.Head.{HasDefinite}
use Rattle.strict.specs.Part.{BeginsWith}

-- so many contents octets are not to be cut: of a string CER takes 1000 at most
abbrev pub IsWhole : Canonical → Shape → ℕ → Type 0
IsWhole Cer (Shape.string tag type) size = size ≤ segment_octets
IsWhole rule type size = ⊤

-- a primitive encoding; CER and DER have the same contents octets
pub record IsPrimitiveLeaf (rule : Canonical) (type : Shape) (v : Val) (octets : List ℕ) : Type 0 where
  pub contents : List ℕ
  pub conforms : Conforms type v
  pub holds : HoldsContents der type v contents
  pub whole : IsWhole rule type (length contents)
  pub primitive : IsDefinite der (tag_of type) false contents octets

-- the octets begin with one
abbrev pub HasPrimitive : Canonical → Shape → ℕ → List ℕ → Type 0
HasPrimitive rule type = BeginsWith (IsPrimitiveLeaf rule type)

-- the contents octets of a segment hold this piece of the string
abbrev pub HoldsSegment : (kind : SegmentKind) → List (Element kind) → List ℕ → Type 0
HoldsSegment Bits piece contents = IsBits cer piece contents
HoldsSegment Octets piece contents = AreOctets piece contents

-- the value of the type that is the string: of bits all of them
abbrev pub value_is : Shape → (kind : SegmentKind) → List (Element kind) → Val
value_is type Bits string = Val.string (StringValue.bits string)
value_is type Octets string = typed type Octets string

-- an encoding that is cut
pub record IsCutLeaf (kind : SegmentKind) (type : Shape) (v : Val) (octets : List ℕ) : Type 0 where
  pub string : List (Element kind)
  pub is : v ≡ value_is type kind string
  pub conforms : Conforms type v
  pub cut : IsCut (tag_of type) (segment_of kind) (HoldsSegment kind) (IsWholePiece kind) string octets

-- the octets begin with one
abbrev pub HasCut : SegmentKind → Shape → ℕ → List ℕ → Type 0
HasCut kind type = BeginsWith (IsCutLeaf kind type)

-- between these places stand the contents octets of a primitive encoding, of which the octets begin with no other
pub record IsPlace (tag : Tag) (room : ℕ) (octets : List ℕ) (start stop : ℕ) : Type 0 where
  pub ordered : start ≤ stop
  pub there : stop ≤ length octets
  pub fits : stop ≤ room
  pub primitive : IsDefinite der tag false (slice_range octets start stop) (take stop octets)
  pub only : (more : List ℕ) (h : HasDefinite tag false room (octets ++ more)) → (h.contents ≡ slice_range octets start stop) × (drop stop octets ++ more ≡ h.rest)

-- the type is a BIT STRING, with named bits or without
abbrev pub IsBitString : Shape → Type 0
IsBitString (Shape.string tag StringType.bit_string) = ⊤
IsBitString (Shape.string tag (StringType.named_bits names)) = ⊤
IsBitString _ = ⊥

-- these are the contents octets of a BOOLEAN of this value
pub record IsBooleanOf (v : Val) (contents : List ℕ) : Type 0 where
  pub truth : Bool
  pub is : v ≡ Val.simple (SimpleValue.boolean truth)
  pub spelt : IsBoolean der truth contents

-- the value of these bits
abbrev pub bits_view : List Bool → Val
bits_view bits = Val.string (StringValue.bits bits)

-- these are those of a BIT STRING of this value
pub record IsBitsOf (v : Val) (contents : List ℕ) : Type 0 where
  pub bits : List Bool
  pub is : v ≡ bits_view bits
  pub spelt : IsBits der bits contents

-- 6, 7, 12 and 17: what contents octets are refused with
abbrev pub IsOfSpelling : Refusal → Type 0
IsOfSpelling Contents = ⊤
IsOfSpelling Alphabet = ⊤
IsOfSpelling NotCanonical = ⊤
IsOfSpelling NoMemory = ⊤
IsOfSpelling _ = ⊥
