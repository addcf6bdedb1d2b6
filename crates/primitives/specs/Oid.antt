-- Contents octets of an OBJECT IDENTIFIER and of a RELATIVE-OID (X.690 8.19 and 8.20), the same under
-- every rule.
use Rattle.std.specs.Prelude.{◌≡◌, ℕ, ◌+◌, ◌*◌, ◌^◌, ◌<◌, ◌≤◌, List, ◌∷◌, length, take, All}
use Rattle.std.specs.List.{AllZip, concat}
use Rattle.octets.specs.Base128.{IsBase128}

-- 8.19.2 and 8.20.2: the octets of the subidentifiers, one after another
pub record AreSubidentifiers (numbers contents : List ℕ) : Type 0 where
  pub spellings : List (List ℕ)
  pub each : AllZip IsBase128 numbers spellings
  pub joined : contents ≡ concat spellings

-- 8.19.3 and 8.19.4: the subidentifiers of these arcs. The first two arcs share one
pub record AreOfArcs (arcs numbers : List ℕ) : Type 0 where
  pub first : ℕ
  pub second : ℕ
  pub others : List ℕ
  pub arcs_are : arcs ≡ first ∷ second ∷ others
  pub at_most_2 : first ≤ 2
  pub at_most_39 : first ≤ 1 → second ≤ 39
  pub numbers_are : numbers ≡ (40 * first + second) ∷ others

-- the first arc of the two that share a subidentifier
pub record IsFirstArc (shared first : ℕ) : Type 0 where
  pub at_most_2 : first ≤ 2
  pub not_more : 40 * first ≤ shared
  pub at_most_39 : first ≤ 1 → shared ≤ 40 * first + 39

-- 8.19: these are the contents octets of an OBJECT IDENTIFIER of these arcs
pub record IsOid (arcs contents : List ℕ) : Type 0 where
  pub numbers : List ℕ
  pub of_arcs : AreOfArcs arcs numbers
  pub spelt : AreSubidentifiers numbers contents

-- 8.20: these are the contents octets of a RELATIVE-OID of these arcs
pub record IsRelativeOid (arcs contents : List ℕ) : Type 0 where
  pub at_least_one : 1 ≤ length arcs
  pub spelt : AreSubidentifiers arcs contents

-- this project's own limits on the subidentifiers of one value
pub record AreWithinLimits (numbers : List ℕ) : Type 0 where
  pub few : length numbers ≤ 128
  pub below : All (λ number. number < 2 ^ 128) numbers

-- these are subidentifiers within the limit on each, and their octets
pub record AreSmallSubidentifiers (numbers contents : List ℕ) : Type 0 where
  pub spelt : AreSubidentifiers numbers contents
  pub below : All (λ number. number < 2 ^ 128) numbers

-- these are the arcs of an OBJECT IDENTIFIER within the limits
pub record IsOidValue (arcs : List ℕ) : Type 0 where
  pub numbers : List ℕ
  pub of_arcs : AreOfArcs arcs numbers
  pub within : AreWithinLimits numbers

-- these are the arcs of a RELATIVE-OID within the limits
pub record IsRelativeOidValue (arcs : List ℕ) : Type 0 where
  pub at_least_one : 1 ≤ length arcs
  pub within : AreWithinLimits arcs

-- a subidentifier was read at the front of the octets
pub record IsReadSubidentifier (octets : List ℕ) (number used : ℕ) : Type 0 where
  pub there : used ≤ length octets
  pub within : number < 2 ^ 128
  pub spelt : IsBase128 number (take used octets)
