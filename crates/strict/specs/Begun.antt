-- Octets that end inside the encoding at their front, of which so much stands there as the rule and the type allow. Its
-- head is the identifier octets and the length octets (X.690 8.1.2 and 8.1.3): of a CHOICE those of an alternative
-- (8.13), and under an explicit tag those of the tag (8.14). The encoding has at most `room` octets, `taken` of which
-- stand before these.
use Rattle.std.specs.Prelude.{◌≡◌, ◌⊎◌, ⊤, ℕ, ◌+◌, ◌<◌, Bool, true, false, List, ◌∷◌, ◌++◌, length}
use Rattle.octets.specs.declared.canonical.Canonical.{Canonical}
use Rattle.octets.specs.declared.canonical.Canonical.TheVariants.{Cer, Der}
use Rattle.octets.specs.declared.tag.Tag.{Tag}
use Rattle.octets.specs.Identifier.{IsIdentifier}
use Rattle.octets.specs.Length.{IsShortestLength}
use Rattle.types.specs.Leaf.{IsLeaf}
use Rattle.types.specs.Shape.{Shape}
use Rattle.encoding_parts.specs.Cut.{IsIdentifierCut, IsLengthCut, AreContentsCut}
use Rattle.encoding_parts.specs.Lengths.{CanHaveLength}
use Rattle.encoding_parts.specs.Parts.{IsNodeFor}
use Rattle.strict.specs.Leaf.{IsWhole}

-- an encoding of the node can be constructed: of those without parts only a string's, under CER (9.2 and 10.2)
abbrev pub CanBeConstructed : Canonical → Shape → Type 0
CanBeConstructed rule (Shape.simple tag type) = ⊥
CanBeConstructed rule (Shape.string tag type) = rule ≡ Cer
CanBeConstructed rule node = ⊤

-- 10.1: the shortest length octets of so many contents octets, and fewer than these
pub record AreContentsBegun (contents room taken : ℕ) (octets : List ℕ) : Type 0 where
  pub cut : AreContentsCut contents room taken octets
  pub shortest : IsShortestLength contents cut.size

-- of a primitive encoding of the node: as many as the type can have, and under CER a string at most 1000 (9.2)
pub record ArePrimitiveContentsBegun (rule : Canonical) (node : Shape) (room taken : ℕ) (octets : List ℕ) : Type 0 where
  pub contents : ℕ
  pub can : CanHaveLength node contents
  pub whole : IsWhole rule node contents
  pub begun : AreContentsBegun contents room taken octets

-- of a constructed encoding: CER has the indefinite form (9.1), and DER the definite form (10.1)
abbrev pub AreOpenContentsBegun : Canonical → ℕ → ℕ → List ℕ → Type 0
AreOpenContentsBegun Cer room taken octets = (others : List ℕ) × (octets ≡ 128 ∷ others) × (taken + length octets < room)
AreOpenContentsBegun Der room taken octets = (contents : ℕ) × AreContentsBegun contents room taken octets

-- length octets that are not complete, or complete ones and fewer octets than they call for
abbrev pub IsPrimitiveBegun : Canonical → Shape → ℕ → ℕ → List ℕ → Type 0
IsPrimitiveBegun rule node room taken octets = IsLengthCut room taken octets ⊎ ArePrimitiveContentsBegun rule node room taken octets

abbrev pub IsConstructedBegun : Canonical → ℕ → ℕ → List ℕ → Type 0
IsConstructedBegun rule room taken octets = IsLengthCut room taken octets ⊎ AreOpenContentsBegun rule room taken octets

-- behind identifier octets of a form that the node can have
abbrev pub IsFormBegun : Canonical → Shape → Bool → ℕ → ℕ → List ℕ → Type 0
IsFormBegun rule node false room taken octets = IsLeaf node × IsPrimitiveBegun rule node room taken octets
IsFormBegun rule node true room taken octets = CanBeConstructed rule node × IsConstructedBegun rule room taken octets

-- identifier octets of this tag and form, and what stands behind them
pub record IsBehindIdentifier (tag : Tag) (constructed : Bool) (Behind : ℕ → List ℕ → Type 0) (octets : List ℕ) : Type 0 where
  pub identifier : List ℕ
  pub others : List ℕ
  pub tagged : IsIdentifier tag constructed identifier
  pub joined : octets ≡ identifier ++ others
  pub behind : Behind (length identifier) others

-- identifier octets that an encoding of the type can begin with, and behind them less than it has
pub record IsTypeBegun (rule : Canonical) (type : Shape) (room : ℕ) (octets : List ℕ) : Type 0 where
  pub tag : Tag
  pub constructed : Bool
  pub node : Shape
  pub due : IsNodeFor tag type node
  pub begun : IsBehindIdentifier tag constructed (λ taken behind. IsFormBegun rule node constructed room taken behind) octets

-- the octets end inside the encoding at their front: inside identifier octets, or behind those of the type
abbrev pub IsBegun : Canonical → Shape → ℕ → List ℕ → Type 0
IsBegun rule type room octets = IsIdentifierCut room 0 octets ⊎ IsTypeBegun rule type room octets

-- they end inside identifier octets, or behind those of a constructed encoding under the tag
abbrev pub IsConstructedCut : Canonical → Tag → ℕ → List ℕ → Type 0
IsConstructedCut rule tag room octets = IsIdentifierCut room 0 octets ⊎ IsBehindIdentifier tag true (λ taken behind. IsConstructedBegun rule room taken behind) octets
