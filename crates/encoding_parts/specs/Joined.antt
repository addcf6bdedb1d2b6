-- The strings that may be cut into segments (X.690 8.6.4 and 8.7.3): their elements, and what the reader
-- holds of them.
use Rattle.std.specs.Prelude.{◌≡◌, ℕ, ◌<◌, Bool, true, false, List, [], ◌∷◌, ◌++◌, All, ⊤}
use Rattle.octets.specs.declared.tag.Tag.{Tag}
use Rattle.octets.specs.Rule.{ber}
use Rattle.primitives.specs.Bits.{IsBits, bits_before, CanBeUnused}
use Rattle.types.specs.Shape.{StringType, StringValue, Shape, Val}
use Rattle.types.specs.Strings.{bit_segment, octet_segment, IsWholeOctets, AreOctets, AlwaysWhole}
use Rattle.encoding_parts.specs.declared.joined.SegmentKind.{SegmentKind}
use Rattle.encoding_parts.specs.declared.joined.SegmentKind.TheVariants.{Bits, Octets}
use Rattle.encoding_parts.specs.declared.joined.Joined.{Joined}

-- a string is a list of bits or of octets
abbrev pub Element : SegmentKind → Type 0
Element Bits = Bool
Element Octets = ℕ

-- the tag of the segments
abbrev pub segment_of : SegmentKind → Tag
segment_of Bits = bit_segment
segment_of Octets = octet_segment

-- the contents octets of a segment hold this part of the string
abbrev pub HoldsPiece : (kind : SegmentKind) → List (Element kind) → List ℕ → Type 0
HoldsPiece Bits piece contents = IsBits ber piece contents
HoldsPiece Octets piece contents = AreOctets piece contents

-- after which another segment may come
abbrev pub IsWholePiece : (kind : SegmentKind) → List (Element kind) → Type 0
IsWholePiece Bits piece = IsWholeOctets piece
IsWholePiece Octets piece = AlwaysWhole piece

-- the string that the octets hold, of which so many bits are unused
abbrev pub string_held : (kind : SegmentKind) → List ℕ → ℕ → List (Element kind)
string_held Bits octets unused = bits_before octets unused
string_held Octets octets unused = octets

-- the string so far
abbrev pub string_of : (kind : SegmentKind) → Joined → List (Element kind)
string_of kind joined = string_held kind joined.octets.items joined.unused

-- the octets hold bits, or octets
pub record AreBitsHeld (octets : List ℕ) (unused : ℕ) : Type 0 where
  pub unused_bits : CanBeUnused unused octets
  pub below_256 : All (λ octet. octet < 256) octets

pub record AreOctetsHeld (octets : List ℕ) (unused : ℕ) : Type 0 where
  pub no_bits : unused ≡ 0
  pub below_256 : All (λ octet. octet < 256) octets

-- the octets hold a string of the kind
abbrev pub AreHeld : SegmentKind → List ℕ → ℕ → Type 0
AreHeld Bits octets unused = AreBitsHeld octets unused
AreHeld Octets octets unused = AreOctetsHeld octets unused

-- what was joined is a string of the kind
abbrev pub IsHeld : SegmentKind → Joined → Type 0
IsHeld kind joined = AreHeld kind joined.octets.items joined.unused

-- nothing of the string has changed
pub record HoldsSame (old new : Joined) : Type 0 where
  pub octets : new.octets.items ≡ old.octets.items
  pub unused : new.unused ≡ old.unused

-- a piece has come
pub record IsJoined (kind : SegmentKind) (old new : Joined) (contents : List ℕ) : Type 0 where
  pub piece : List (Element kind)
  pub holds : HoldsPiece kind piece contents
  pub joined : string_of kind new ≡ string_of kind old ++ piece
  pub held : IsHeld kind new

-- BIT STRING or OCTET STRING under the tag, and its values
abbrev pub string_shape : Tag → SegmentKind → Shape
string_shape tag Bits = Shape.string tag StringType.bit_string
string_shape tag Octets = Shape.string tag StringType.octet_string

abbrev pub string_value : (kind : SegmentKind) → List (Element kind) → Val
string_value Bits string = Val.string (StringValue.bits string)
string_value Octets string = Val.string (StringValue.octets string)

-- the type is a string, which may be cut into segments
abbrev pub IsString : Shape → Type 0
IsString (Shape.string tag type) = ⊤
IsString _ = ⊥

-- or it has no constructed encoding
abbrev pub IsNoString : Shape → Type 0
IsNoString shape = IsString shape → ⊥

-- the strings that the segments of the type are
abbrev pub segments_kind : Shape → SegmentKind
segments_kind (Shape.string tag StringType.bit_string) = Bits
segments_kind (Shape.string tag (StringType.named_bits names)) = Bits
segments_kind _ = Octets

-- the type is a string of such segments
pub record IsStringOf (kind : SegmentKind) (shape : Shape) : Type 0 where
  pub kind_is : kind ≡ segments_kind shape
  pub string : IsString shape

-- a bit 0 stands where bits follow it
abbrev pub behind_zero : List Bool → List Bool
behind_zero [] = []
behind_zero (bit ∷ bits) = false ∷ bit ∷ bits

-- the bits without the bits 0 at their end
abbrev pub trimmed_bits : List Bool → List Bool
trimmed_bits [] = []
trimmed_bits (true ∷ bits) = true ∷ trimmed_bits bits
trimmed_bits (false ∷ bits) = behind_zero (trimmed_bits bits)

-- the value of the type that a string makes: a text or a time has the octets of an OCTET STRING (8.23), and named bits
-- have no bit 0 at their end (11.2.2)
abbrev pub typed : Shape → (kind : SegmentKind) → List (Element kind) → Val
typed (Shape.string tag (StringType.named_bits names)) Bits string = Val.string (StringValue.bits (trimmed_bits string))
typed (Shape.string tag (StringType.text text)) Octets string = Val.string (StringValue.text string)
typed (Shape.string tag (StringType.time time)) Octets string = Val.string (StringValue.text string)
typed _ kind string = string_value kind string

-- the value of the type that was joined
abbrev pub value_of : Shape → Joined → Val
value_of shape joined = typed shape (segments_kind shape) (string_of (segments_kind shape) joined)

-- what was joined is a string of the type's kind
abbrev pub IsHeldFor : Shape → Joined → Type 0
IsHeldFor shape joined = IsString shape × IsHeld (segments_kind shape) joined
