-- Items that have been read at the front of some octets, and what can still stand there (X.690 8.10, 8.12 and 11.6).
use Rattle.std.specs.Prelude.{◌≡◌, ◌-◌, ◌≤◌, ◌⊎◌, ℕ, Bool, true, List, [], ◌∷◌, ◌++◌, length, take, drop, map}
use Rattle.std.specs.List.{AllByRecursion, AllZip, concat}
use Rattle.octets.specs.Rule.{Rule}
use Rattle.types.specs.declared.value.Value.{Value}
use Rattle.types.specs.Shape.{Val, Shape}
use Rattle.types.specs.View.{value_view}
use Rattle.types.specs.Order.{Ascends, IsPaddedAtMost}
use Rattle.types.specs.Encoding.{IsEncoding}
use Rattle.strict.specs.Head.{Fills, mark}
use Rattle.strict.specs.Reading.{IsRead}

-- an encoding of some value
abbrev pub IsSomeEncoding : Rule → Shape → List ℕ → Type 0
IsSomeEncoding rule type octets = (v : Val) × IsEncoding rule type v octets

-- the octets begin with encodings of items up to an end, where they are ordered behind this one or none
pub record HasItems (rule : Rule) (type : Shape) (ordered definite : Bool) (room : ℕ) (last octets : List ℕ) : Type 0 where
  pub values : List Val
  pub order : List (List ℕ)
  pub rest : List ℕ
  pub each : AllZip (IsEncoding rule type) values order
  pub ascends : ordered ≡ true → Ascends (last ∷ order)
  pub fills : Fills definite room (concat order)
  pub parts : octets ≡ concat order ++ (mark definite ++ rest)

-- so many octets are an encoding of one item more, which stands behind the others
abbrev pub IsItemRead : Rule → Shape → ℕ → List ℕ → List Value → List Value → ℕ → Type 0
IsItemRead rule type room octets old new used = (item : Value) × (new ≡ old ++ (item ∷ [])) × IsRead rule type room octets item used

-- the octets between two places
abbrev pub between : List ℕ → ℕ → ℕ → List ℕ
between octets before at = take (at - before) (drop before octets)

-- so many of the octets are encodings of these items, the last from the place `before` on, and what goes on with them goes
-- on behind those
pub record AreItemsRead (rule : Rule) (type : Shape) (ordered definite : Bool) (room : ℕ) (octets : List ℕ) (items : List Value) (before used : ℕ) : Type 0 where
  pub there : used ≤ length octets
  pub within : used ≤ room
  pub behind : before ≤ used
  pub encodings : List (List ℕ)
  pub each : AllZip (IsEncoding rule type) (map value_view items) encodings
  pub joined : take used octets ≡ concat encodings
  pub ascends : ordered ≡ true → Ascends encodings
  pub most : ordered ≡ true → AllByRecursion (λ e. IsPaddedAtMost e (between octets before used)) encodings
  pub one : (between octets before used ≡ []) ⊎ IsSomeEncoding rule type (between octets before used)
  pub forth : (more : List ℕ) → HasItems rule type ordered definite room [] (octets ++ more) → HasItems rule type ordered definite (room - used) (between octets before used) (drop used octets ++ more)
