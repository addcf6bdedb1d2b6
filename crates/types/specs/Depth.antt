-- How deep constructed encodings nest, whatever their types.
use Rattle.std.specs.Prelude.{ℕ, zero, suc, ◌⊎◌, List}
use Rattle.std.specs.List.{AllByRecursion, concat}
use Rattle.octets.specs.declared.tag.Tag.{Tag}
use Rattle.octets.specs.Rule.{ber}
use Rattle.types.specs.Form.{IsPrimitive, IsConstructed}
use Rattle.types.specs.FirstTags.{IsUsable}

-- a primitive encoding of some contents
pub record IsSomePrimitive (octets : List ℕ) : Type 0 where
  pub tag : Tag
  pub usable : IsUsable tag
  pub contents : List ℕ
  pub whole : IsPrimitive ber tag contents octets

-- a constructed encoding around zero or more others
pub record IsConstructedOf (IsPart : List ℕ → Type 0) (octets : List ℕ) : Type 0 where
  pub tag : Tag
  pub usable : IsUsable tag
  pub parts : List (List ℕ)
  pub each : AllByRecursion IsPart parts
  pub whole : IsConstructed ber tag (concat parts) octets

-- one encoding in which at most n constructed ones nest
unfoldable pub IsNested : ℕ → List ℕ → Type 0
IsNested zero octets = IsSomePrimitive octets
IsNested (suc n) octets = IsSomePrimitive octets ⊎ IsConstructedOf (IsNested n) octets
