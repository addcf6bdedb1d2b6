-- What a refusal says of the octets at hand, behind which more may come.
use Rattle.std.specs.Prelude.{◌≡◌, ℕ, List, [], ◌++◌}
use Rattle.types.specs.declared.refusal.Refusal.{Refusal}
use Rattle.types.specs.declared.refusal.Refusal.TheVariants.{Truncated}
use Rattle.types.specs.Refusal.{IsFinal}
use Rattle.strict.specs.Refusal.{IsOfStrictReading}

-- what may follow octets that are refused so: nothing where they are cut, anything where the refusal is final
abbrev pub MayFollow : Refusal → List ℕ → Type 0
MayFollow Truncated more = more ≡ []
MayFollow refusal more = IsFinal refusal

-- no octets are of the kind that are these and what may follow
abbrev pub Bars : Refusal → (List ℕ → Type 0) → List ℕ → Type 0
Bars refusal Q octets = (more : List ℕ) → MayFollow refusal more → Q (octets ++ more) → ⊥

-- one of a strict reader: none of these octets and what may follow `Can` be read, and where they are cut they end as `Cut` says
pub record RefusesStrictly (Can Cut : List ℕ → Type 0) (octets : List ℕ) (refusal : Refusal) : Type 0 where
  pub bars : Bars refusal Can octets
  pub cut : refusal ≡ Truncated → Cut octets
  pub numbers : IsOfStrictReading refusal

-- octets that are refused with the one may be refused with this one: it says no more of them
pub record StandsFor (name refusal : Refusal) : Type 0 where
  pub follows : (more : List ℕ) → MayFollow name more → MayFollow refusal more
  pub cut : name ≡ Truncated → refusal ≡ Truncated
  pub numbers : IsOfStrictReading refusal → IsOfStrictReading name
