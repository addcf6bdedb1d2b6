-- Lemmas on what a refusal says of the octets.
use Rattle.std.proofs.Common.{◌≡◌, List, ℕ, ◌++◌, Ok, Err, IfErr, IsErrAnd, ap, subst}
use Rattle.std.specs.declared.result.Result.{Result}
use Rattle.octets.proofs.ResultLemmas.{IfErr-from}
use Rattle.types.specs.declared.refusal.Refusal.{Refusal}
use Rattle.types.specs.declared.refusal.Refusal.TheVariants.{EndOfContents, Identifier, Missing, Repeated, Truncated}
use Rattle.types.specs.Refusal.{IsFinal, IsOfReading}
use Rattle.encoding_parts.specs.HeldParts.{IsOfDue}
use Rattle.encoding_parts.specs.Refuses.{Refuses}
use Rattle.encoding_parts.proofs.RefusesLemmas.{passed_on}

-- it is said by another refusal, which is no graver
pub renamed : (refusal why : Refusal) (Can Cut : List ℕ → Type 0) (octets : List ℕ) → (refusal ≡ Truncated → why ≡ Truncated) → (IsFinal refusal → IsFinal why) → (IsOfReading why → IsOfReading refusal) → Refuses Can Cut octets why → Refuses Can Cut octets refusal
renamed refusal why Can Cut octets truncated final numbers h = record {
  truncated = λ is. h.truncated (truncated is);
  cut = λ is. h.cut (truncated is);
  never = λ f. h.never (final f);
  numbers = numbers h.numbers;
}

-- a refusal that goes through a `?`
pub final_passed : {T : Type 0} (r : Result T Refusal) (refusal : Refusal) (None : Type 0) → IsErrAnd r (λ e. e ≡ refusal) → (IsFinal refusal → None) → IfErr r (λ e. IsFinal e → None)
final_passed r refusal None same never = IfErr-from r (λ e. e ≡ refusal) (λ e. IsFinal e → None) same (λ e is final. never (subst IsFinal is final))

-- what a call says of each refusal
pub gathered : {T : Type 0} (r : Result T Refusal) (Can Cut : List ℕ → Type 0) (octets : List ℕ) → (r ≡ Err Truncated → Can octets → ⊥) → (r ≡ Err Truncated → Cut octets) → IfErr r (λ refusal. IsFinal refusal → (more : List ℕ) → Can (octets ++ more) → ⊥) → IfErr r IsOfReading → IfErr r (Refuses Can Cut octets)
gathered (Ok x) Can Cut octets truncated cut never numbers = tt
gathered (Err e) Can Cut octets truncated cut never numbers = record { truncated = λ is. truncated (ap Err is); cut = λ is. cut (ap Err is); never = never; numbers = numbers }

-- no octets are missing
pub none_missing : (r : Result ℕ Refusal) (Can Cut : List ℕ → Type 0) (octets : List ℕ) → IfErr r (λ refusal. IsOfReading refusal × (refusal ≡ Truncated → ⊥)) → IfErr r (λ refusal. IsFinal refusal → (more : List ℕ) → Can (octets ++ more) → ⊥) → IfErr r (Refuses Can Cut octets)
none_missing (Ok x) Can Cut octets numbers never = tt
none_missing (Err e) Can Cut octets numbers never = record { truncated = λ is. absurd (numbers.1 is); cut = λ is. absurd (numbers.1 is); never = never; numbers = numbers.0 }

-- octets that begin so never can
pub never_can : (refusal : Refusal) (Can Cut : List ℕ → Type 0) (octets : List ℕ) → IsFinal refusal → IsOfReading refusal → ((more : List ℕ) → Can (octets ++ more) → ⊥) → Refuses Can Cut octets refusal
never_can refusal Can Cut octets final numbers never = record {
  truncated = λ is. absurd (subst IsFinal is final);
  cut = λ is. absurd (subst IsFinal is final);
  never = λ f. never;
  numbers = numbers;
}

-- no part may come next that begins with the tag
of_due : (refusal : Refusal) → IsOfDue refusal → IsOfReading refusal
of_due Identifier h = tt
of_due EndOfContents h = tt
of_due Missing h = tt
of_due Repeated h = tt
of_due refusal h = absurd h

final_of_due : (refusal : Refusal) → IsOfDue refusal → IsFinal refusal
final_of_due Identifier h = tt
final_of_due EndOfContents h = tt
final_of_due Missing h = tt
final_of_due Repeated h = tt
final_of_due refusal h = absurd h

pub none_due : {T : Type 0} (r : Result T Refusal) (refusal : Refusal) (Can Cut : List ℕ → Type 0) (octets : List ℕ) → IsErrAnd r (λ e. e ≡ refusal) → IsOfDue refusal → ((more : List ℕ) → Can (octets ++ more) → ⊥) → IfErr r (Refuses Can Cut octets)
none_due r refusal Can Cut octets same due never = passed_on r refusal Can Cut octets same (never_can refusal Can Cut octets (final_of_due refusal due) (of_due refusal due) never)
