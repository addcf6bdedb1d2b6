-- What a refusal says of the octets at hand, behind which more may come.
use Rattle.std.specs.Prelude.{◌≡◌, ℕ, List, ◌++◌}
use Rattle.types.specs.declared.refusal.Refusal.{Refusal}
use Rattle.types.specs.declared.refusal.Refusal.TheVariants.{Truncated}
use Rattle.types.specs.Refusal.{IsFinal, IsOfReading}

-- octets that are cut short are none that `Can` be read, and end where `Cut` says; what begins with octets that are
-- refused for good never can
pub record Refuses (Can Cut : List ℕ → Type 0) (octets : List ℕ) (refusal : Refusal) : Type 0 where
  pub truncated : refusal ≡ Truncated → ¬ Can octets
  pub cut : refusal ≡ Truncated → Cut octets
  pub never : IsFinal refusal → (more : List ℕ) → ¬ Can (octets ++ more)
  pub numbers : IsOfReading refusal
