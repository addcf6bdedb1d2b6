-- Primitive and constructed encodings (X.690 8.1.1): identifier octets, length octets, contents
-- octets and, in the indefinite form, end-of-contents octets.
use Rattle.std.specs.Prelude.{◌≡◌, ℕ, ◌⊎◌, Bool, true, false, List, [], ◌∷◌, ◌++◌, length}
use Rattle.octets.specs.declared.tag.Tag.{Tag}
use Rattle.octets.specs.Identifier.{IsIdentifier}
use Rattle.octets.specs.Length.{IsLengthUnder}
use Rattle.octets.specs.Rule.{Rule, ber, cer, der}

-- 8.1.1.3: the definite form, around contents octets as many as the length says
pub record IsDefinite (rule : Rule) (tag : Tag) (constructed : Bool) (contents octets : List ℕ) : Type 0 where
  pub identifier : List ℕ
  pub size : List ℕ
  pub tagged : IsIdentifier tag constructed identifier
  pub sized : IsLengthUnder rule (length contents) size
  pub joined : octets ≡ identifier ++ (size ++ contents)

-- 8.1.3.6: the indefinite form, the octet 80 and the contents octets up to 00 00
pub record IsIndefinite (tag : Tag) (contents octets : List ℕ) : Type 0 where
  pub identifier : List ℕ
  pub tagged : IsIdentifier tag true identifier
  pub joined : octets ≡ identifier ++ (128 ∷ (contents ++ (0 ∷ 0 ∷ [])))

-- 8.1.3.2 a): a primitive encoding has the definite form
abbrev pub IsPrimitive : Rule → Tag → List ℕ → List ℕ → Type 0
IsPrimitive rule tag contents octets = IsDefinite rule tag false contents octets

-- a constructed encoding has either form under BER (8.1.3.2 b and c), the indefinite form under CER (9.1) and
-- the definite form under DER (10.1)
abbrev pub IsConstructed : Rule → Tag → List ℕ → List ℕ → Type 0
IsConstructed ber tag contents octets = IsDefinite ber tag true contents octets ⊎ IsIndefinite tag contents octets
IsConstructed cer tag contents octets = IsIndefinite tag contents octets
IsConstructed der tag contents octets = IsDefinite der tag true contents octets
