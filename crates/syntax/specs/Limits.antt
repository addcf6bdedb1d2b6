-- The limits of a module, and what the grammar says of its numbers.
use Rattle.std.specs.Prelude.{ℕ, zero, suc, ◌≤◌, ◌<◌, ◌^◌, length, Option, Some, None, Bool, true, false, All, ⊤}
use Rattle.syntax.specs.declared.tree.SignedNumber.{SignedNumber}
use Rattle.syntax.specs.Tree.{integer, Ending, default, Form, tagged, list, of, choice, enumerated, named_bits, simple, reference, Components, no_component, next_component, Alternatives, no_alternative, next_alternative, Tree}

-- `-` does not stand before 0
abbrev pub IsSigned : Bool → ℕ → Type 0
IsSigned false n = ⊤
IsSigned true n = 1 ≤ n

-- a number of -2^127 to 2^127 - 1
abbrev pub IsItemNumber : Bool → ℕ → Type 0
IsItemNumber false n = n < 2 ^ 127
IsItemNumber true n = (1 ≤ n) × (n ≤ 2 ^ 127)

abbrev pub FitsEntry : Option SignedNumber → Type 0
FitsEntry None = ⊤
FitsEntry (Some n) = IsItemNumber n.negative n.magnitude

abbrev pub FitsEnding : Ending → Type 0
FitsEnding (default (integer n)) = IsSigned n.negative n.magnitude
FitsEnding _ = ⊤

abbrev pub component_count : Components → ℕ
component_count no_component = 0
component_count (next_component n f e cs) = suc (component_count cs)

abbrev pub alternative_count : Alternatives → ℕ
alternative_count no_alternative = 0
alternative_count (next_alternative n f others) = suc (alternative_count others)

abbrev mutual
  -- Types nest at most d deep below the form, tag numbers are at most 268,435,455, numbers of bits at most 65,535,
  -- and a list has at most 256 parts.
  pub Fits : ℕ → Form → Type 0
  Fits zero (tagged p f) = ⊥
  Fits (suc d) (tagged p f) = (p.number ≤ 268435455) × Fits d f
  Fits zero (of g f) = ⊥
  Fits (suc d) (of g f) = Fits d f
  Fits d (list g cs) = (component_count cs ≤ 256) × FitComponents d cs
  Fits d (choice parts) = (1 ≤ alternative_count parts) × (alternative_count parts ≤ 256) × FitAlternatives d parts
  Fits d (enumerated es) = (1 ≤ length es) × (length es ≤ 256) × All (λ e. FitsEntry e.1) es
  Fits d (named_bits bits) = (1 ≤ length bits) × (length bits ≤ 256) × All (λ b. b.1 ≤ 65535) bits
  Fits d (simple s) = ⊤
  Fits d (reference n) = ⊤

  pub FitComponents : ℕ → Components → Type 0
  FitComponents d no_component = ⊤
  FitComponents zero (next_component n f e cs) = ⊥
  FitComponents (suc d) (next_component n f e cs) = Fits d f × FitsEnding e × FitComponents (suc d) cs

  pub FitAlternatives : ℕ → Alternatives → Type 0
  FitAlternatives d no_alternative = ⊤
  FitAlternatives zero (next_alternative n f others) = ⊥
  FitAlternatives (suc d) (next_alternative n f others) = Fits d f × FitAlternatives (suc d) others

-- each assigned type nests at most 64 types
abbrev pub FitsTree : Tree → Type 0
FitsTree m = All (λ a. Fits 64 a.1) m.assignments
