-- Lemmas on what a refusal says of octets.
use Rattle.std.proofs.Common.{◌≡◌, ◌⊎◌, inl, inr, ℕ, List, [], ◌++◌, ◌-◌, IfErr, IsErrAnd, length, take, drop, refl, sym, ap, ◌∙◌, subst, append-nil}
use Rattle.std.proofs.lemmas.List.{take_rest}
use Rattle.std.specs.declared.result.Result.{Result}
use Rattle.octets.proofs.ResultLemmas.{IfErr-from}
use Rattle.types.specs.declared.refusal.Refusal.{Refusal}
use Rattle.types.specs.declared.refusal.Refusal.TheVariants.{Truncated, Identifier, EndOfContents, Missing, Repeated, Contents, Alphabet, NotCanonical, NoMemory}
use Rattle.types.specs.Refusal.{IsFinal, IsOfReading}
use Rattle.encoding_parts.specs.HeldParts.{IsOfDue}
use Rattle.strict.specs.Bars.{MayFollow, Bars, RefusesStrictly, StandsFor}
use Rattle.strict.specs.Leaf.{IsOfSpelling}
use Rattle.strict.specs.Refusal.{IsOfStrictReading}

-- from one clause for octets that are cut and one for those that are refused for good
bars_of : (r : Refusal) (Q : List ℕ → Type 0) (octets : List ℕ) → (r ≡ Truncated → Q octets → ⊥) → (IsFinal r → (more : List ℕ) → Q (octets ++ more) → ⊥) → Bars r Q octets
bars_of Truncated Q octets cut never = λ more none q. cut refl (subst Q (ap (λ m. octets ++ m) none ∙ append-nil octets) q)
bars_of r Q octets cut never = λ more final q. never final more q

-- and back
pub bars_cut : (r : Refusal) (Q : List ℕ → Type 0) (octets : List ℕ) → Bars r Q octets → r ≡ Truncated → Q octets → ⊥
bars_cut r Q octets bars same q = subst (λ x. MayFollow x [] → ⊥) same (λ may. bars [] may (subst Q (sym (append-nil octets)) q)) refl

pub bars_never : (r : Refusal) (Q : List ℕ → Type 0) (octets : List ℕ) → Bars r Q octets → IsFinal r → (more : List ℕ) → Q (octets ++ more) → ⊥
bars_never Truncated Q octets bars final more q = absurd final
bars_never r Q octets bars final more q = bars more final q

-- the numbers of all readers are among those of strict ones
strictly : (r : Refusal) → IsOfReading r → IsOfStrictReading r
strictly NotCanonical h = tt
strictly NoMemory h = tt
strictly r h = h

-- by the four clauses of a reader that is none of the strict ones
pub refused_of : {r : Refusal} (Q C : List ℕ → Type 0) (octets : List ℕ) → (r ≡ Truncated → Q octets → ⊥) → (r ≡ Truncated → C octets) → (IsFinal r → (more : List ℕ) → Q (octets ++ more) → ⊥) → IsOfReading r → RefusesStrictly Q C octets r
refused_of {r} Q C octets truncated cut never numbers = record { bars = bars_of r Q octets truncated never; cut = cut; numbers = strictly r numbers }

-- what is refused for good is not cut
pub refused_for_good : {r : Refusal} {Q C : List ℕ → Type 0} {octets : List ℕ} → IsFinal r × IsOfStrictReading r → ((more : List ℕ) → Q (octets ++ more) → ⊥) → RefusesStrictly Q C octets r
refused_for_good {r} {Q} {C} {octets} final never = record { bars = λ more may q. never more q; cut = λ same. absurd (subst IsFinal same final.0); numbers = final.1 }

-- so is a tag that is not due
pub due_strictly : (r : Refusal) → IsOfDue r → IsFinal r × IsOfStrictReading r
due_strictly Identifier h = (tt, tt)
due_strictly EndOfContents h = (tt, tt)
due_strictly Missing h = (tt, tt)
due_strictly Repeated h = (tt, tt)
due_strictly r h = absurd h

-- nor are contents octets that are refused
spelling_strictly : (r : Refusal) → IsOfSpelling r → IsOfStrictReading r
spelling_strictly Contents h = tt
spelling_strictly Alphabet h = tt
spelling_strictly NotCanonical h = tt
spelling_strictly NoMemory h = tt
spelling_strictly r h = absurd h

pub refused_contents : {r : Refusal} {Q C : List ℕ → Type 0} {octets : List ℕ} → IsOfSpelling r → (IsFinal r → (more : List ℕ) → Q (octets ++ more) → ⊥) → RefusesStrictly Q C octets r
refused_contents {r} {Q} {C} {octets} spelling never = record {
  bars = bars_of r Q octets (λ same q. absurd (subst IsOfSpelling same spelling)) never;
  cut = λ same. absurd (subst IsOfSpelling same spelling);
  numbers = spelling_strictly r spelling;
}

pub refused_joining : {r : Refusal} {Q C : List ℕ → Type 0} {octets : List ℕ} → (r ≡ Contents) ⊎ (r ≡ NoMemory) → (r ≡ Contents → (more : List ℕ) → Q (octets ++ more) → ⊥) → RefusesStrictly Q C octets r
refused_joining {r} {Q} {C} {octets} (inl contents) never = refused_for_good (subst IsFinal (sym contents) tt, subst IsOfStrictReading (sym contents) tt) (never contents)
refused_joining {r} {Q} {C} {octets} (inr memory) never = subst (RefusesStrictly Q C octets) (sym memory) record { bars = λ more may q. may; cut = λ same. absurd cc; numbers = tt }

-- what refuses the one refuses what goes on with it
pub refused_by : {r : Refusal} {Q P C D : List ℕ → Type 0} {octets inner : List ℕ} → RefusesStrictly P D inner r → ((more : List ℕ) → Q (octets ++ more) → P (inner ++ more)) → (D inner → C octets) → RefusesStrictly Q C octets r
refused_by {r} {Q} {P} {C} {D} {octets} {inner} h step cut = record { bars = λ more may q. h.bars more may (step more q); cut = λ same. cut (h.cut same); numbers = h.numbers }

-- where the one stands behind so many octets
pub refused_behind : {r : Refusal} {Q P C D : List ℕ → Type 0} {octets : List ℕ} (at : ℕ) → RefusesStrictly P D (take (length octets - at) (drop at octets)) r → ((more : List ℕ) → Q (octets ++ more) → P (drop at octets ++ more)) → (D (take (length octets - at) (drop at octets)) → C octets)
    → RefusesStrictly Q C octets r
refused_behind {r} {Q} {P} {C} {D} {octets} at h step cut = refused_by h (λ more q. subst (λ o. P (o ++ more)) (sym (take_rest octets at)) (step more q)) cut

-- by another name
pub refused_named : {r n : Refusal} {Q C : List ℕ → Type 0} {octets : List ℕ} → StandsFor n r → RefusesStrictly Q C octets r → RefusesStrictly Q C octets n
refused_named name h = record { bars = λ more may q. h.bars more (name.follows more may) q; cut = λ same. h.cut (name.cut same); numbers = name.numbers h.numbers }

-- through a `?`
pub refused_through : {T : Type 0} (result : Result T Refusal) {r : Refusal} {Q C : List ℕ → Type 0} {octets : List ℕ} → IsErrAnd result (λ e. e ≡ r) → RefusesStrictly Q C octets r → IfErr result (RefusesStrictly Q C octets)
refused_through result {r} {Q} {C} {octets} same h = IfErr-from result (λ e. e ≡ r) (RefusesStrictly Q C octets) same (λ e is. subst (RefusesStrictly Q C octets) (sym is) h)
