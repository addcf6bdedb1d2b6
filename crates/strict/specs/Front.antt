-- What a read of the one encoding at the front of some octets returns.
use Rattle.std.specs.Prelude.{◌≡◌, ◌≤◌, ◌++◌, ℕ, List, Result, Err, IfOk, IfErr, length, take}
use Rattle.octets.specs.declared.canonical.Canonical.{Canonical}
use Rattle.octets.specs.declared.TheConstants.{MAX_ENCODING}
use Rattle.octets.specs.Front.{HasFront}
use Rattle.octets.specs.Rule.{rule_of}
use Rattle.types.specs.declared.refusal.Refusal.{Refusal}
use Rattle.types.specs.declared.refusal.Refusal.TheVariants.{Truncated}
use Rattle.types.specs.declared.value.Value.{Value}
use Rattle.types.specs.Encoding.{IsAccepted, IsSomeAccepted}
use Rattle.types.specs.Refusal.{IsFinal}
use Rattle.types.specs.Same.{IsSame}
use Rattle.types.specs.Shape.{Val, Shape}
use Rattle.types.specs.View.{value_view}
use Rattle.strict.specs.Begun.{IsBegun}
use Rattle.strict.specs.Refusal.{IsOfStrictReading}

-- the value and how many octets its encoding has, which no other encoding at the front has, or a refusal
pub record ReadsFront (rule : Canonical) (type : Shape) (octets : List ℕ) (result : Result (Value × ℕ) Refusal) : Type 0 where
  pub value : IfOk result (λ p. (p.1 ≤ length octets) × IsAccepted (rule_of rule) type (value_view p.0) (take p.1 octets))
  pub only : IfOk result (λ p. (v : Val) (n : ℕ) → n ≤ length octets → IsAccepted (rule_of rule) type v (take n octets) → (n ≡ p.1) × IsSame type (value_view p.0) v)
  pub truncated : result ≡ Err Truncated → ¬ HasFront (IsSomeAccepted (rule_of rule) type) octets
  pub begun : result ≡ Err Truncated → IsBegun rule type MAX_ENCODING octets
  pub never : IfErr result (λ refusal. IsFinal refusal → (more : List ℕ) → ¬ HasFront (IsSomeAccepted (rule_of rule) type) (octets ++ more))
  pub numbers : IfErr result IsOfStrictReading
