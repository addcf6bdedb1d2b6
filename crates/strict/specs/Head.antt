-- Encodings at the front by their identifier octets and length octets, and where their contents octets end.
use Rattle.std.specs.Prelude.{◌≡◌, ◌+◌, ◌<◌, ◌≤◌, ⊤, ℕ, Bool, true, false, List, [], ◌∷◌, ◌++◌, length, take, drop}
use Rattle.octets.specs.declared.canonical.Canonical.{Canonical}
use Rattle.octets.specs.declared.canonical.Canonical.TheVariants.{Cer, Der}
use Rattle.octets.specs.declared.tag.Tag.{Tag}
use Rattle.octets.specs.Rule.{Rule, ber, cer, der}
use Rattle.types.specs.Form.{IsDefinite, IsConstructed}
use Rattle.octets.specs.declared.TheConstants.{MAX_ENCODING}
use Rattle.strict.specs.declared.head.Inside.{Inside}

-- the octets begin with an encoding of the definite form
pub record HasDefinite (tag : Tag) (constructed : Bool) (room : ℕ) (octets : List ℕ) : Type 0 where
  pub contents : List ℕ
  pub part : List ℕ
  pub rest : List ℕ
  pub whole : IsDefinite der tag constructed contents part
  pub fits : length part ≤ room
  pub parts : octets ≡ part ++ rest

-- what was read before its contents octets
pub record IsDefiniteAt (tag : Tag) (constructed : Bool) (room : ℕ) (octets : List ℕ) (start size : ℕ) : Type 0 where
  pub there : start ≤ length octets
  pub fits : start + size ≤ room
  pub makes : (contents : List ℕ) → length contents ≡ size → IsDefinite der tag constructed contents (take start octets ++ contents)
  pub only : (more : List ℕ) (h : HasDefinite tag constructed room (octets ++ more)) → (length h.contents ≡ size) × (drop start octets ++ more ≡ h.contents ++ h.rest)

-- what stands behind the contents octets (8.1.5)
abbrev pub mark : Bool → List ℕ
mark true = []
mark false = 0 ∷ 0 ∷ []

-- so many contents octets there may be
pub record Fills (definite : Bool) (room : ℕ) (contents : List ℕ) : Type 0 where
  pub within : length contents ≤ room
  pub exact : definite ≡ true → length contents ≡ room

-- fewer octets than so many contents octets and the end behind them
abbrev pub AreFewer : Bool → ℕ → List ℕ → Type 0
AreFewer definite room octets = length octets < room + length (mark definite)

-- the octets begin with a constructed encoding
pub record HasConstructed (rule : Rule) (tag : Tag) (room : ℕ) (octets : List ℕ) : Type 0 where
  pub contents : List ℕ
  pub part : List ℕ
  pub rest : List ℕ
  pub whole : IsConstructed rule tag contents part
  pub fits : length part ≤ room
  pub parts : octets ≡ part ++ rest

-- 9.1 and 10.1: the form that the rule has of constructed encodings is this
abbrev pub IsFormOf : Rule → Bool → Type 0
IsFormOf ber definite = ⊤
IsFormOf cer definite = definite ≡ false
IsFormOf der definite = definite ≡ true

-- what was read before its contents octets
pub record IsOpened (rule : Rule) (tag : Tag) (room : ℕ) (octets : List ℕ) (inside : Inside) : Type 0 where
  pub form : IsFormOf rule inside.definite
  pub there : inside.start ≤ length octets
  pub fits : inside.start + inside.room + length (mark inside.definite) ≤ room
  pub makes : (contents : List ℕ) → Fills inside.definite inside.room contents → IsConstructed rule tag contents (take inside.start octets ++ (contents ++ mark inside.definite))
  pub only : (more : List ℕ) (h : HasConstructed rule tag room (octets ++ more)) → Fills inside.definite inside.room h.contents × (drop inside.start octets ++ more ≡ h.contents ++ (mark inside.definite ++ h.rest))

-- the contents octets end here, with room for so many more
abbrev pub EndsHere : Bool → ℕ → List ℕ → Type 0
EndsHere true room octets = room ≡ 0
EndsHere false room octets = (rest : List ℕ) × (octets ≡ 0 ∷ 0 ∷ rest)

-- whether they do, whatever follows
abbrev pub IsEndKnown : Bool → Bool → ℕ → List ℕ → Type 0
IsEndKnown true definite room octets = EndsHere definite room octets
IsEndKnown false definite room octets = (more : List ℕ) → EndsHere definite room (octets ++ more) → ⊥

-- what is around a part of at most so many octets has the definite form
abbrev pub IsInsideDefinite : Canonical → ℕ → Type 0
IsInsideDefinite Cer room = ⊥
IsInsideDefinite Der room = room < MAX_ENCODING
