-- A value that has been read at the front of some octets, what can stand there, and why it cannot.
use Rattle.std.specs.Prelude.{◌≡◌, ◌≤◌, ℕ, Bool, List, ◌++◌, length, take}
use Rattle.octets.specs.declared.canonical.Canonical.{Canonical}
use Rattle.octets.specs.Rule.{Rule, rule_of}
use Rattle.types.specs.declared.refusal.Refusal.{Refusal}
use Rattle.types.specs.declared.value.Value.{Value}
use Rattle.types.specs.Shape.{Val, Shape}
use Rattle.types.specs.View.{AlternativeView, alternatives_of, value_view}
use Rattle.types.specs.Encoding.{IsEncoding, IsAlternativeEncoding}
use Rattle.strict.specs.Bars.{RefusesStrictly}
use Rattle.strict.specs.Begun.{IsBegun}
use Rattle.strict.specs.Head.{Fills, mark}
use Rattle.strict.specs.Part.{BeginsWith}

-- so many octets are an encoding of the value
abbrev pub IsRead : Rule → Shape → ℕ → List ℕ → Value → ℕ → Type 0
IsRead rule type room octets value used = (used ≤ length octets) × (used ≤ room) × IsEncoding rule type (value_view value) (take used octets)

-- the octets begin with an encoding of the type
abbrev pub HasPart : Rule → Shape → ℕ → List ℕ → Type 0
HasPart rule type = BeginsWith (IsEncoding rule type)

-- they are refused where they are to begin so
abbrev pub RefusesPart : Canonical → Shape → ℕ → List ℕ → Refusal → Type 0
RefusesPart rule type room octets = RefusesStrictly (HasPart (rule_of rule) type room) (IsBegun rule type room) octets

-- they begin with an encoding of one of the alternatives
pub record HasChoice (rule : Rule) (left : List AlternativeView) (room : ℕ) (octets : List ℕ) : Type 0 where
  pub which : ℕ
  pub value : Val
  pub part : List ℕ
  pub rest : List ℕ
  pub chosen : IsAlternativeEncoding rule (alternatives_of left) which value part
  pub fits : length part ≤ room
  pub parts : octets ≡ part ++ rest

-- they begin with one encoding of the type up to an end
pub record HasAlone (rule : Rule) (type : Shape) (definite : Bool) (room : ℕ) (octets : List ℕ) : Type 0 where
  pub value : Val
  pub part : List ℕ
  pub rest : List ℕ
  pub encoding : IsEncoding rule type value part
  pub fills : Fills definite room part
  pub parts : octets ≡ part ++ (mark definite ++ rest)
