-- Components of a SET that have been read at the front of some octets, and what can still stand there
-- (X.690 8.11, 9.3, 10.3 and 11.5).
use Rattle.std.specs.Prelude.{◌≡◌, ◌-◌, ◌≤◌, ◌⊎◌, ⊤, ℕ, Bool, List, [], ◌∷◌, ◌++◌, Option, Some, None, length, take, drop, map, IsPermutation}
use Rattle.std.specs.List.{AllByRecursion, concat}
use Rattle.octets.specs.declared.tag.Tag.{Tag}
use Rattle.octets.specs.Rule.{Rule, ber, cer, der}
use Rattle.octets.specs.Tag.{ComesBefore}
use Rattle.types.specs.declared.value.Value.{Value}
use Rattle.types.specs.Shape.{Val, Shape}
use Rattle.types.specs.View.{ComponentView, components_of, value_view}
use Rattle.types.specs.Conforms.{MayBeAbsent, DiffersFromDefault}
use Rattle.types.specs.FirstTags.{first_tags}
use Rattle.types.specs.Order.{IsLeast, IsOrderTagIn, AscendsByTag}
use Rattle.types.specs.Encoding.{IsEncoding, standing}
use Rattle.strict.specs.Head.{Fills, mark}

-- the tag by which an encoding of the type is ordered that begins with this one (9.3 and 10.3)
abbrev pub IsOrderTagOf : Rule → Shape → Tag → Tag → Type 0
IsOrderTagOf ber type tag order = ⊤
IsOrderTagOf cer type tag order = IsLeast (first_tags type) order
IsOrderTagOf der type tag order = order ≡ tag

-- what stands for each component that is left: nothing, where it has come or may be absent, or an encoding
abbrev pub AreMembersLeft : Rule → List ComponentView → List (Option Value) → List (Option (List ℕ)) → Type 0
AreMembersLeft rule [] [] [] = ⊤
AreMembersLeft rule (c ∷ others) (Some value ∷ slots) (None ∷ encodings) = AreMembersLeft rule others slots encodings
AreMembersLeft rule (c ∷ others) (None ∷ slots) (None ∷ encodings) = MayBeAbsent c.requirement × AreMembersLeft rule others slots encodings
AreMembersLeft rule (c ∷ others) (None ∷ slots) (Some octets ∷ encodings) =
    ((v : Val) × IsEncoding rule c.type v octets × DiffersFromDefault c.requirement v) × AreMembersLeft rule others slots encodings
AreMembersLeft _ _ _ _ = ⊥

-- what has come for each slot that is not empty
abbrev pub AreMembersCome : Rule → List ComponentView → List (Option Value) → List (Option (List ℕ)) → Type 0
AreMembersCome rule [] [] [] = ⊤
AreMembersCome rule (c ∷ others) (None ∷ slots) (None ∷ encodings) = AreMembersCome rule others slots encodings
AreMembersCome rule (c ∷ others) (Some value ∷ slots) (Some octets ∷ encodings) =
    (IsEncoding rule c.type (value_view value) octets × DiffersFromDefault c.requirement (value_view value)) × AreMembersCome rule others slots encodings
AreMembersCome _ _ _ _ = ⊥

-- the tag of an encoding comes behind that of the last one, if there is one
abbrev pub ComesBehind : Rule → List ComponentView → Option Tag → List ℕ → Type 0
ComesBehind rule components None octets = ⊤
ComesBehind rule components (Some last) octets = (tag : Tag) → IsOrderTagIn rule (components_of components) octets tag → ComesBefore last tag

-- it is that of the last one, or comes before it
abbrev pub ComesUpTo : Rule → List ComponentView → Option Tag → List ℕ → Type 0
ComesUpTo rule components None octets = ⊥
ComesUpTo rule components (Some last) octets = (tag : Tag) → IsOrderTagIn rule (components_of components) octets tag → (tag ≡ last) ⊎ ComesBefore tag last

-- the octets begin with the encodings of the components that are left, behind the last tag, up to an end
pub record HasMembers (rule : Rule) (components : List ComponentView) (slots : List (Option Value)) (last : Option Tag) (definite : Bool) (room : ℕ) (octets : List ℕ) : Type 0 where
  pub encodings : List (Option (List ℕ))
  pub each : AreMembersLeft rule components slots encodings
  pub order : List (List ℕ)
  pub permutes : IsPermutation (standing encodings) order
  pub ascends : AscendsByTag rule (components_of components) order
  pub behind : AllByRecursion (ComesBehind rule components last) order
  pub rest : List ℕ
  pub fills : Fills definite room (concat order)
  pub parts : octets ≡ concat order ++ (mark definite ++ rest)

-- so many of the octets are the encodings that have come, up to the last tag, and what goes on with all components goes
-- on with those that are left behind it
pub record AreMembersRead (rule : Rule) (components : List ComponentView) (slots : List (Option Value)) (last : Option Tag) (definite : Bool) (room : ℕ) (octets : List ℕ) (used : ℕ) : Type 0 where
  pub there : used ≤ length octets
  pub within : used ≤ room
  pub encodings : List (Option (List ℕ))
  pub each : AreMembersCome rule components slots encodings
  pub order : List (List ℕ)
  pub permutes : IsPermutation (standing encodings) order
  pub ascends : AscendsByTag rule (components_of components) order
  pub up_to : AllByRecursion (ComesUpTo rule components last) order
  pub joined : take used octets ≡ concat order
  pub forth : (more : List ℕ) → HasMembers rule components (map (λ c. None) components) None definite room (octets ++ more) → HasMembers rule components slots last definite (room - used) (drop used octets ++ more)
