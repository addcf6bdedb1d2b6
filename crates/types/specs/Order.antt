-- How CER and DER order the encodings within a SET and a SET OF.
use Rattle.std.specs.Prelude.{◌≡◌, ◌⊎◌, ◌<◌, ⊤, ℕ, Bool, Contains, List, [], ◌∷◌, ◌++◌}
use Rattle.std.specs.List.{AllPairs}
use Rattle.octets.specs.declared.tag.Tag.{Tag}
use Rattle.octets.specs.Rule.{Rule, ber, cer, der}
use Rattle.octets.specs.Tag.{ComesBefore}
use Rattle.octets.specs.Identifier.{IsIdentifier}
use Rattle.types.specs.Shape.{Shape, Components, no_component, component}
use Rattle.types.specs.FirstTags.{first_tags}

-- 11.6: at most the other as octet strings, the shorter padded at its end with zero octets
abbrev pub IsPaddedAtMost : List ℕ → List ℕ → Type 0
IsPaddedAtMost [] ys = ⊤
IsPaddedAtMost (x ∷ xs) [] = (x ≡ 0) × IsPaddedAtMost xs []
IsPaddedAtMost (x ∷ xs) (y ∷ ys) = (x < y) ⊎ ((x ≡ y) × IsPaddedAtMost xs ys)

-- the order of a SET OF: each encoding is at most every later one
abbrev pub Ascends : List (List ℕ) → Type 0
Ascends encodings = AllPairs IsPaddedAtMost encodings

-- the octets begin with identifier octets of the tag
pub record BeginsWith (tag : Tag) (octets : List ℕ) : Type 0 where
  pub constructed : Bool
  pub identifier : List ℕ
  pub rest : List ℕ
  pub tagged : IsIdentifier tag constructed identifier
  pub joined : octets ≡ identifier ++ rest

-- the octets begin with one of the tags
abbrev pub BeginsWithOneOf : List Tag → List ℕ → Type 0
BeginsWithOneOf tags octets = (tag : Tag) × Contains tags tag × BeginsWith tag octets

-- one of the tags, and none of them comes before it
abbrev pub IsLeast : List Tag → Tag → Type 0
IsLeast tags tag = Contains tags tag × ((other : Tag) → Contains tags other → ¬ ComesBefore other tag)

-- the tag by which a component of a SET is ordered: the least that its type's encodings can begin with under CER
-- (9.3), the one that stands in the encoding under DER (10.3)
abbrev pub IsOrderTag : Rule → Shape → List ℕ → Tag → Type 0
IsOrderTag ber type octets tag = ⊤
IsOrderTag cer type octets tag = IsLeast (first_tags type) tag
IsOrderTag der type octets tag = BeginsWith tag octets

-- that of the component whose encoding the octets are, told by the tag that they begin with
abbrev pub IsOrderTagIn : Rule → Components → List ℕ → Tag → Type 0
IsOrderTagIn rule no_component octets tag = ⊥
IsOrderTagIn rule (component name type requirement others) octets tag = (BeginsWithOneOf (first_tags type) octets × IsOrderTag rule type octets tag) ⊎ IsOrderTagIn rule others octets tag

-- the order of a SET: the tag of each encoding comes before that of every later one
abbrev pub AscendsByTag : Rule → Components → List (List ℕ) → Type 0
AscendsByTag rule components encodings =
    AllPairs (λ a b. (t u : Tag) → IsOrderTagIn rule components a t → IsOrderTagIn rule components b u → ComesBefore t u) encodings
