-- Lemmas on what a refusal says of the octets.
use Rattle.std.proofs.Common.{◌≡◌, List, ℕ, ◌++◌, IfErr, IsErrAnd, sym, subst}
use Rattle.std.specs.declared.result.Result.{Result}
use Rattle.types.specs.declared.refusal.Refusal.{Refusal}
use Rattle.types.specs.declared.refusal.Refusal.TheVariants.{NoMemory}
use Rattle.types.specs.Refusal.{IsFinal, IsOfOctets, IsOfReading}
use Rattle.octets.proofs.ResultLemmas.{IfErr-from}
use Rattle.encoding_parts.specs.Refuses.{Refuses}

-- a refusal that goes through a `?`
pub passed_on : {T : Type 0} (r : Result T Refusal) (refusal : Refusal) (Can Cut : List ℕ → Type 0) (octets : List ℕ) → IsErrAnd r (λ e. e ≡ refusal) → Refuses Can Cut octets refusal → IfErr r (Refuses Can Cut octets)
passed_on r refusal Can Cut octets same h = IfErr-from r (λ e. e ≡ refusal) (Refuses Can Cut octets) same (λ e is. subst (Refuses Can Cut octets) (sym is) h)

-- a refusal for good
pub refused_for_good : (refusal : Refusal) (Can Cut : List ℕ → Type 0) (octets : List ℕ) → IsFinal refusal → IsOfReading refusal → ((more : List ℕ) → Can (octets ++ more) → ⊥) → Refuses Can Cut octets refusal
refused_for_good refusal Can Cut octets final number never = record {
  truncated = λ is. absurd (subst IsFinal is final);
  cut = λ is. absurd (subst IsFinal is final);
  never = λ _. never;
  numbers = number;
}

-- memory that ran out says nothing of octets
pub refused_for_memory : (Can Cut : List ℕ → Type 0) (octets : List ℕ) → Refuses Can Cut octets NoMemory
refused_for_memory Can Cut octets = record {
  truncated = λ is. absurd (subst IsOfOctets (sym is) tt);
  cut = λ is. absurd (subst IsOfOctets (sym is) tt);
  never = λ final. absurd final;
  numbers = tt;
}
