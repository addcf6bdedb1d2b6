-- Components of a SEQUENCE that have been read at the front of some octets, and what can still stand there
-- (X.690 8.9 and 11.5).
use Rattle.std.specs.Prelude.{◌≡◌, ◌-◌, ◌≤◌, ◌⊎◌, ℕ, Bool, List, [], ◌∷◌, ◌++◌, Option, Some, None, length, take, drop, map, option_map, MatchOption}
use Rattle.std.specs.List.{AllByRecursion, concat}
use Rattle.octets.specs.declared.tag.Tag.{Tag}
use Rattle.octets.specs.Rule.{Rule}
use Rattle.types.specs.declared.value.Value.{Value}
use Rattle.types.specs.Shape.{Val, Slots}
use Rattle.types.specs.View.{ComponentView, components_of, slots_of, value_view}
use Rattle.types.specs.Conforms.{DiffersFromDefault}
use Rattle.types.specs.FirstTags.{RunsAreDistinct}
use Rattle.types.specs.Encoding.{IsEncoding, AreSlotEncodings, standing}
use Rattle.encoding_parts.specs.Head.{IsTagWithin}
use Rattle.encoding_parts.specs.Parts.{IsGoodComponent}
use Rattle.encoding_parts.specs.Segments.{BeginsAboveZero}
use Rattle.strict.specs.Head.{Fills, mark, EndsHere}
use Rattle.strict.specs.Reading.{IsRead}

-- the tag that stands at the front, or none where the contents octets end
abbrev pub IsFront : Option Tag → Bool → ℕ → List ℕ → Type 0
IsFront None definite room octets = EndsHere definite room octets
IsFront (Some tag) definite room octets = IsTagWithin tag room 0 octets × ((more : List ℕ) → EndsHere definite room (octets ++ more) → ⊥)

-- there is one of the two
abbrev pub EndsOrBegins : Bool → ℕ → List ℕ → Type 0
EndsOrBegins definite room octets = EndsHere definite room octets ⊎ ((tag : Tag) × (tag.number ≤ 268_435_455) × IsTagWithin tag room 0 octets × BeginsAboveZero octets)

-- the octets begin with an encoding of the component that is not its default
pub record HasPresent (rule : Rule) (c : ComponentView) (room : ℕ) (octets : List ℕ) : Type 0 where
  pub value : Val
  pub part : List ℕ
  pub rest : List ℕ
  pub encoding : IsEncoding rule c.type value part
  pub differs : DiffersFromDefault c.requirement value
  pub fits : length part ≤ room
  pub parts : octets ≡ part ++ rest

-- so many octets are that of the value in the slot
abbrev pub IsPresentRead : Rule → ComponentView → ℕ → List ℕ → Option Value → ℕ → Type 0
IsPresentRead rule c room octets slot used = MatchOption slot ⊥ (λ value. IsRead rule c.type room octets value used × DiffersFromDefault c.requirement (value_view value))

-- the octets begin with the encodings of components up to an end
pub record HasComponents (rule : Rule) (components : List ComponentView) (definite : Bool) (room : ℕ) (octets : List ℕ) : Type 0 where
  pub slots : Slots
  pub encodings : List (Option (List ℕ))
  pub rest : List ℕ
  pub each : AreSlotEncodings rule (components_of components) slots encodings
  pub fills : Fills definite room (concat (standing encodings))
  pub parts : octets ≡ concat (standing encodings) ++ (mark definite ++ rest)

-- so many of the octets stand for these slots of the first components, and what goes on with all components goes on
-- with the others behind those
pub record AreComponentsRead (rule : Rule) (first others : List ComponentView) (definite : Bool) (room : ℕ) (octets : List ℕ) (slots : List (Option Value)) (used : ℕ) : Type 0 where
  pub there : used ≤ length octets
  pub within : used ≤ room
  pub encodings : List (Option (List ℕ))
  pub each : AreSlotEncodings rule (components_of first) (slots_of (map (option_map value_view) slots)) encodings
  pub joined : take used octets ≡ concat (standing encodings)
  pub forth : (more : List ℕ) → HasComponents rule (first ++ others) definite room (octets ++ more) → HasComponents rule others definite (room - used) (drop used octets ++ more)

-- the reading of one component, whatever components are behind it
abbrev pub IsComponentRead : Rule → ComponentView → Bool → ℕ → List ℕ → Option Value → ℕ → Type 0
IsComponentRead rule c definite room octets slot used = (others : List ComponentView) → RunsAreDistinct (components_of (c ∷ others)) → AllByRecursion IsGoodComponent others
    → AreComponentsRead rule (c ∷ []) others definite room octets (slot ∷ []) used

-- the octets begin with the encodings of it and of some others up to an end
abbrev pub HasComponentFirst : Rule → ComponentView → Bool → ℕ → List ℕ → Type 0
HasComponentFirst rule c definite room octets = (others : List ComponentView) × RunsAreDistinct (components_of (c ∷ others)) × AllByRecursion IsGoodComponent others × HasComponents rule (c ∷ others) definite room octets
