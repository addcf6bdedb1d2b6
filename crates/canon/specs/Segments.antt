-- Strings under CER by the octets that they are made of (X.690 9.2): those of an OCTET STRING, and those
-- of a BIT STRING after a count of unused bits, which each segment has and none but the last uses.
use Rattle.std.specs.Prelude.{◌≡◌, ◌⊎◌, ℕ, ◌≤◌, ◌<◌, List, ◌++◌, length}
use Rattle.octets.specs.declared.tag.Tag.{Tag}
use Rattle.octets.specs.Rule.{Rule, ber, cer, der}
use Rattle.types.specs.Form.{IsPrimitive, IsIndefinite}
use Rattle.types.specs.Strings.{segment_octets}

-- primitive segments: all but the last begin with `whole` and are full, and the last begins with `lead`
pub data AreSegmentsOf (segment : Tag) (whole lead : List ℕ) : List ℕ → List ℕ → Type 0 where
  last : (string octets : List ℕ) → 1 ≤ length string → length (lead ++ string) ≤ segment_octets → IsPrimitive cer segment (lead ++ string) octets
      → AreSegmentsOf segment whole lead string octets
  more : {others rest : List ℕ} (string octets : List ℕ) → length (whole ++ string) ≡ segment_octets → IsPrimitive cer segment (whole ++ string) octets
      → AreSegmentsOf segment whole lead others rest → AreSegmentsOf segment whole lead (string ++ others) (octets ++ rest)

-- what the contents octets of segments begin with: none or one octet
pub record AreLeads (whole lead : List ℕ) : Type 0 where
  pub alike : length whole ≡ length lead
  pub few : length lead ≤ 1

-- a constructed encoding of them
pub record IsCutOf (tag segment : Tag) (whole lead string octets : List ℕ) : Type 0 where
  pub segments_octets : List ℕ
  pub segments : AreSegmentsOf segment whole lead string segments_octets
  pub constructed : IsIndefinite tag segments_octets octets

-- each cut of a string of so many octets, behind a lead of so many, has this size
abbrev pub SizesCut : Tag → ℕ → ℕ → ℕ → Type 0
SizesCut tag lead count size =
    (segment : Tag) (whole front string octets : List ℕ) → segment.number ≤ 30 → length whole ≡ lead → length front ≡ lead → length string ≡ count → IsCutOf tag segment whole front string octets → length octets ≡ size

-- the string as one primitive encoding where it needs no more octets than a segment, and else cut
pub record IsWholeString (tag : Tag) (lead string octets : List ℕ) : Type 0 where
  pub short : length (lead ++ string) ≤ segment_octets
  pub primitive : IsPrimitive cer tag (lead ++ string) octets

pub record IsCutString (tag segment : Tag) (whole lead string octets : List ℕ) : Type 0 where
  pub long : segment_octets < length (lead ++ string)
  pub cut : IsCutOf tag segment whole lead string octets

-- an encoding of the string; under DER it is primitive, however long (10.2)
abbrev pub IsStringOf : Rule → Tag → Tag → List ℕ → List ℕ → List ℕ → List ℕ → Type 0
IsStringOf ber tag segment whole lead string octets = ⊥
IsStringOf cer tag segment whole lead string octets = IsWholeString tag lead string octets ⊎ IsCutString tag segment whole lead string octets
IsStringOf der tag segment whole lead string octets = IsPrimitive der tag (lead ++ string) octets
