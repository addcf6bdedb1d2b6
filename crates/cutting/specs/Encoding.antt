-- Encodings of any type, as their heads alone tell them (X.690 8.1.1): a head says how many contents octets follow,
-- or that their end is marked.
use Rattle.std.specs.Prelude.{ℕ, zero, suc, ◌≤◌, ◌⊎◌, Bool, List, length}
use Rattle.std.specs.List.{AllByRecursion, concat}
use Rattle.octets.specs.declared.tag.Tag.{Tag}
use Rattle.octets.specs.Rule.{ber}
use Rattle.types.specs.FirstTags.{IsUsable}
use Rattle.types.specs.Form.{IsDefinite, IsIndefinite}

-- 8.1.3.3: the definite form, around as many contents octets as it says, whatever they are; the limits on tag numbers
-- and sizes are this project's own
pub record IsSomeDefinite (octets : List ℕ) : Type 0 where
  pub tag : Tag
  pub usable : IsUsable tag
  pub number : tag.number ≤ 268_435_455
  pub constructed : Bool
  pub contents : List ℕ
  pub size : length contents ≤ 1_048_576
  pub whole : IsDefinite ber tag constructed contents octets

-- 8.1.3.6: the indefinite form, around encodings one after another
pub record IsIndefiniteOf (IsPart : List ℕ → Type 0) (octets : List ℕ) : Type 0 where
  pub tag : Tag
  pub usable : IsUsable tag
  pub number : tag.number ≤ 268_435_455
  pub parts : List (List ℕ)
  pub each : AllByRecursion IsPart parts
  pub whole : IsIndefinite tag (concat parts) octets

-- one encoding in which at most n of the indefinite form nest
unfoldable pub IsAnyWithin : ℕ → List ℕ → Type 0
IsAnyWithin zero octets = IsSomeDefinite octets
IsAnyWithin (suc n) octets = IsSomeDefinite octets ⊎ IsIndefiniteOf (IsAnyWithin n) octets

-- one encoding
abbrev pub IsAnyEncoding : List ℕ → Type 0
IsAnyEncoding octets = (n : ℕ) × IsAnyWithin n octets
