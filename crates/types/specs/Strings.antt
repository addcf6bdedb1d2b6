-- Encodings of string types: one primitive encoding, or a constructed one of segments (X.690 8.6, 8.7,
-- 8.23, 9.2 and 10.2). The elements of a string are bits or octets; Holds says which contents octets a
-- piece of a string has, Whole that another segment may follow it.
use Rattle.std.specs.Prelude.{◌≡◌, ◌≢◌, ◌⊎◌, ℕ, ◌*◌, ◌≤◌, ◌<◌, ⊤, Bool, List, [], ◌++◌, length}
use Rattle.octets.specs.declared.tag.Class.TheVariants.{Universal}
use Rattle.octets.specs.declared.tag.Tag.{Tag}
use Rattle.octets.specs.Rule.{Rule, ber, cer, der}
use Rattle.types.specs.Form.{IsPrimitive, IsConstructed, IsIndefinite}

-- the most contents octets of a primitive encoding of a string under CER (9.2)
abbrev pub segment_octets : ℕ
segment_octets = 1000

-- one primitive encoding of the string
pub record IsOneEncoding {A : Type 0} (rule : Rule) (tag : Tag) (Holds : List A → List ℕ → Type 0) (string : List A) (octets : List ℕ) : Type 0 where
  pub contents : List ℕ
  pub holds : Holds string contents
  pub primitive : IsPrimitive rule tag contents octets

-- 8.6.4 and 8.7.3: zero or more encodings under the segments' tag, one after another, each primitive or
-- constructed of segments again, and the pieces that they hold; each but the last at its level is Whole
pub data AreSegments {A : Type 0} (inner : Tag) (Holds : List A → List ℕ → Type 0) (Whole : List A → Type 0) : List A → List ℕ → Type 0 where
  none : AreSegments inner Holds Whole [] []
  primitive : {others : List A} {rest : List ℕ} (piece : List A) (contents segment : List ℕ) → Holds piece contents → IsPrimitive ber inner contents segment
      → AreSegments inner Holds Whole others rest → (rest ≢ [] → Whole piece) → AreSegments inner Holds Whole (piece ++ others) (segment ++ rest)
  constructed : {others : List A} {rest : List ℕ} (piece : List A) (contents segment : List ℕ) → AreSegments inner Holds Whole piece contents → IsConstructed ber inner contents segment
      → AreSegments inner Holds Whole others rest → (rest ≢ [] → Whole piece) → AreSegments inner Holds Whole (piece ++ others) (segment ++ rest)

-- a constructed encoding of segments
pub record IsInSegments {A : Type 0} (tag inner : Tag) (Holds : List A → List ℕ → Type 0) (Whole : List A → Type 0) (string : List A) (octets : List ℕ) : Type 0 where
  pub contents : List ℕ
  pub segments : AreSegments inner Holds Whole string contents
  pub constructed : IsConstructed ber tag contents octets

-- 9.2: primitive segments under the segments' tag, each but the last of 1000 contents octets. That the
-- last carries at least one bit or octet is this project's own rule
pub data AreCerSegments {A : Type 0} (inner : Tag) (Holds : List A → List ℕ → Type 0) (Whole : List A → Type 0) : List A → List ℕ → Type 0 where
  last : (piece : List A) (contents segment : List ℕ) → Holds piece contents → piece ≢ [] → length contents ≤ segment_octets → IsPrimitive cer inner contents segment
      → AreCerSegments inner Holds Whole piece segment
  more : {others : List A} {rest : List ℕ} (piece : List A) (contents segment : List ℕ) → Holds piece contents → Whole piece → length contents ≡ segment_octets → IsPrimitive cer inner contents segment
      → AreCerSegments inner Holds Whole others rest → AreCerSegments inner Holds Whole (piece ++ others) (segment ++ rest)

-- a constructed encoding of such segments, where one primitive encoding would need more octets
pub record IsCut {A : Type 0} (tag inner : Tag) (Holds : List A → List ℕ → Type 0) (Whole : List A → Type 0) (string : List A) (octets : List ℕ) : Type 0 where
  pub long : (contents : List ℕ) → Holds string contents → segment_octets < length contents
  pub segments_octets : List ℕ
  pub segments : AreCerSegments inner Holds Whole string segments_octets
  pub constructed : IsIndefinite tag segments_octets octets

-- one primitive encoding, where it needs no more octets than a segment
pub record IsShort {A : Type 0} (tag : Tag) (Holds : List A → List ℕ → Type 0) (string : List A) (octets : List ℕ) : Type 0 where
  pub contents : List ℕ
  pub holds : Holds string contents
  pub short : length contents ≤ segment_octets
  pub primitive : IsPrimitive cer tag contents octets

-- the encodings of a string under a rule
abbrev pub IsStringEncoding : {A : Type 0} → Rule → Tag → Tag → (List A → List ℕ → Type 0) → (List A → Type 0) → List A → List ℕ → Type 0
IsStringEncoding ber tag inner Holds Whole string octets = IsOneEncoding ber tag Holds string octets ⊎ IsInSegments tag inner Holds Whole string octets
IsStringEncoding cer tag inner Holds Whole string octets = IsShort tag Holds string octets ⊎ IsCut tag inner Holds Whole string octets
IsStringEncoding der tag inner Holds Whole string octets = IsOneEncoding der tag Holds string octets

-- 8.6.4 and 8.7.3: the tags of the segments, whatever the tag of the string
abbrev pub bit_segment : Tag
bit_segment = record { class = Universal; number = 3 }

abbrev pub octet_segment : Tag
octet_segment = record { class = Universal; number = 4 }

-- 8.6.4: a segment that another one follows has a multiple of eight bits
abbrev pub IsWholeOctets : List Bool → Type 0
IsWholeOctets bits = (count : ℕ) × (length bits ≡ 8 * count)

-- 8.7.2: octets are their own contents octets
abbrev pub AreOctets : List ℕ → List ℕ → Type 0
AreOctets string contents = contents ≡ string

abbrev pub AlwaysWhole : List ℕ → Type 0
AlwaysWhole string = ⊤
