-- Identifier octets and length octets (X.690 8.1.2 and 8.1.3) at the front, within what holds the encoding:
-- `taken` octets stand before, and its contents octets end at `end`.
use Rattle.std.specs.Prelude.{◌≡◌, ◌⊎◌, ℕ, ◌+◌, ◌<◌, ◌≤◌, Bool, true, false, List, [], ◌∷◌, ◌++◌, length, take, get_or}
use Rattle.octets.specs.declared.tag.Tag.{Tag}
use Rattle.octets.specs.Identifier.{IsIdentifier}
use Rattle.octets.specs.Length.{IsLength}
use Rattle.octets.specs.Rule.{ber}
use Rattle.types.specs.Form.{IsPrimitive}
use Rattle.encoding_parts.specs.declared.head.Extent.{Extent}
use Rattle.encoding_parts.specs.declared.head.Extent.TheVariants.{Definite, Indefinite}

-- the octets begin with identifier octets of the tag
pub record IsTagWithin (tag : Tag) (end taken : ℕ) (octets : List ℕ) : Type 0 where
  pub constructed : Bool
  pub identifier : List ℕ
  pub rest : List ℕ
  pub tagged : IsIdentifier tag constructed identifier
  pub fits : taken + length identifier ≤ end
  pub parts : octets ≡ identifier ++ rest

-- identifier octets were read
pub record IsReadTag (tag : Tag) (end taken : ℕ) (octets : List ℕ) (constructed : Bool) (used : ℕ) : Type 0 where
  pub there : used ≤ length octets
  pub fits : taken + used ≤ end
  pub tagged : IsIdentifier tag constructed (take used octets)

-- the octets begin with length octets, and the contents octets fit as well
pub record IsLengthWithin (end taken : ℕ) (octets : List ℕ) : Type 0 where
  pub contents : ℕ
  pub size : List ℕ
  pub rest : List ℕ
  pub sized : IsLength contents size
  pub fits : taken + length size + contents ≤ end
  pub parts : octets ≡ size ++ rest

-- the octets begin with that of the indefinite form, of a constructed encoding, and end-of-contents
-- octets fit as well
pub record IsMarkWithin (constructed : Bool) (end taken : ℕ) (octets : List ℕ) : Type 0 where
  pub form : constructed ≡ true
  pub rest : List ℕ
  pub fits : taken + 1 + 2 ≤ end
  pub parts : octets ≡ 128 ∷ rest

-- one of the two
abbrev pub IsExtentWithin : Bool → ℕ → ℕ → List ℕ → Type 0
IsExtentWithin constructed end taken octets = IsLengthWithin end taken octets ⊎ IsMarkWithin constructed end taken octets

-- length octets were read
pub record IsReadDefinite (end taken : ℕ) (octets : List ℕ) (contents used : ℕ) : Type 0 where
  pub there : used ≤ length octets
  pub fits : taken + used + contents ≤ end
  pub sized : IsLength contents (take used octets)

-- the octet of the indefinite form was read
pub record IsReadIndefinite (constructed : Bool) (end taken : ℕ) (octets : List ℕ) (used : ℕ) : Type 0 where
  pub there : used ≤ length octets
  pub fits : taken + used + 2 ≤ end
  pub form : constructed ≡ true
  pub mark : take used octets ≡ 128 ∷ []

-- what was answered was read
abbrev pub IsReadExtent : Bool → ℕ → ℕ → List ℕ → Extent → Type 0
IsReadExtent constructed end taken octets (Definite contents used) = IsReadDefinite end taken octets contents used
IsReadExtent constructed end taken octets (Indefinite used) = IsReadIndefinite constructed end taken octets used

-- the octets begin with a primitive encoding under the tag
pub record IsPrimitiveWithin (tag : Tag) (end taken : ℕ) (octets : List ℕ) : Type 0 where
  pub contents : List ℕ
  pub part : List ℕ
  pub rest : List ℕ
  pub primitive : IsPrimitive ber tag contents part
  pub fits : taken + length part ≤ end
  pub parts : octets ≡ part ++ rest

-- the octets begin with one of so many octets, at most the room: one identifier octet, one length octet below 128, and
-- the contents octets
pub record IsShortPrimitive (tag : Tag) (room : ℕ) (octets : List ℕ) (count : ℕ) : Type 0 where
  pub contents : ℕ
  pub low : contents < 128
  pub counted : count ≡ 2 + contents
  pub there : count ≤ length octets
  pub fits : count ≤ room
  pub tagged : IsIdentifier tag false (get_or octets 0 0 ∷ [])
  pub sized : contents ≡ get_or octets 1 0

-- a primitive encoding of these contents octets ends behind so many of the octets, within what holds it
pub record IsPrimitiveAt (tag : Tag) (end taken : ℕ) (octets contents : List ℕ) (stop : ℕ) : Type 0 where
  pub there : stop ≤ length octets
  pub fits : taken + stop ≤ end
  pub primitive : IsPrimitive ber tag contents (take stop octets)
