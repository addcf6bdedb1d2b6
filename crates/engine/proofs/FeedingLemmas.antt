-- What a reader over pieces led to, and what is gathered by it.
use Rattle.std.proofs.Common.{◌≡◌, ◌≢◌, ℕ, ◌<◌, inl, inr, List, [], ◌∷◌, ◌++◌, length, take, drop, zero, suc, refl, sym, ap, ◌∙◌, append_assoc, arith, length-append, append-nil, subst, take-append-drop, Option, None, Some, Result, Ok, Err, true, false, ◌≤◌}
use Rattle.std.specs.Prelude.{⊤, is_ok, is_some, IsTrue, MatchOption}
use Rattle.octets.specs.Front.{HasFront}
use Rattle.octets.specs.Rule.{Rule}
use Rattle.types.specs.declared.refusal.Refusal.{Refusal}
use Rattle.types.specs.declared.value.Value.{Value}
use Rattle.types.specs.Conforms.{Conforms}
use Rattle.types.specs.Encoding.{Meaning, IsEncoding, IsAccepted, IsSomeAccepted}
use Rattle.types.specs.Refusal.{IsFinal}
use Rattle.types.specs.Shape.{Shape}
use Rattle.types.specs.View.{value_view}
use Rattle.types.proofs.ApartInstances.{of_no_octets}
use Rattle.types.proofs.EncodedLemmas.{encoded_conforms}
use Rattle.engine.specs.Feeding.{IsFed, IsFinished, IsOfFeeding, IsUnfinished}
use Rattle.engine.specs.Passing.{Awaits, Gathers, HasGathered, IsNotAdded, StopsGathering, StopsAnyway}
use Rattle.engine.proofs.TranscodingLemmas.{cases_of_writing}
use Rattle.engine.proofs.PassingLemmas.{memory_refused, nothing_to_write, refused_further}

take_none : (n : ℕ) → take {A = ℕ} n [] ≡ []
take_none zero = refl
take_none (suc n) = refl

-- no value is complete where no octet is
pub none_begun : (rule : Rule) (shape : Shape) → ¬ HasFront (IsSomeAccepted rule shape) []
none_begun rule shape h = of_no_octets rule shape h.2.0 (subst (IsEncoding rule shape h.2.0) (take_none h.0) h.2.1.encoding)

-- the octets taken before a piece and in it, cut behind so many of the piece
pub cut_piece : (old piece behind : List ℕ) (used : ℕ) → behind ≡ drop used piece → old ++ piece ≡ (old ++ take used piece) ++ behind
cut_piece old piece behind used rest =
    ap (λ x. old ++ x) (sym (take-append-drop used piece)) ∙ sym (append_assoc old (take used piece) (drop used piece)) ∙ ap (λ x. (old ++ take used piece) ++ x) (sym rest)

not_nothing : (old piece : List ℕ) → 0 < length piece → old ++ piece ≢ []
not_nothing old piece some none = absurd (omega (arith, ap length none, length-append old piece))

pub empty_is : (octets : List ℕ) → length octets ≡ 0 → octets ≡ []
empty_is [] size = refl
empty_is (octet ∷ octets) size = absurd (omega (arith, size))

-- a reader that is finished was given nothing since the last value
pub finished_none : (result : Result ⊤ Refusal) (old : List ℕ) → IsFinished result old → IsTrue (is_ok result) → old ≡ []
finished_none (Ok _) old finished ok = finished
finished_none (Err refusal) old finished ok = absurd (cc ok)

-- a piece of which nothing is left
pub gathered_all : (StandsAt : List ℕ → Type 0) (rule : Rule) (shape : Shape) (Stands : Meaning) (octets batch lengths now left : List ℕ) → length left ≡ 0
    → IsUnfinished StandsAt rule shape now → Gathers rule shape Stands octets (now ++ left) batch lengths → HasGathered (IsUnfinished StandsAt rule shape) rule shape Stands octets batch lengths
gathered_all StandsAt rule shape Stands octets batch lengths now left none unfinished g =
    record { rest = now; gathers = subst (λ rest. Gathers rule shape Stands octets rest batch lengths) (ap (λ x. now ++ x) (empty_is left none) ∙ append-nil now) g; stands = unfinished }

-- a piece of which the rest was refused
pub feed_refused : (rule : Rule) (shape : Shape) (Stands : Meaning) (refusal : Refusal) (octets batch lengths now left : List ℕ) → 0 < length left
    → IsOfFeeding rule shape (now ++ left) refusal → (IsFinal refusal → (more : List ℕ) → ¬ HasFront (IsSomeAccepted rule shape) ((now ++ left) ++ more)) → Gathers rule shape Stands octets (now ++ left) batch lengths
    → StopsGathering rule shape Stands refusal octets batch lengths
feed_refused rule shape Stands refusal octets batch lengths now left some numbers never g = record {
  rest = now ++ left;
  gathers = g;
  stops = elim numbers.number [
    | inl final ↦ refused_further rule shape Stands refusal (now ++ left) final numbers.strict numbers.by_ber (not_nothing now left some) (never final)
    | inr memory ↦ subst (λ r. StopsAnyway rule shape Stands r (now ++ left) []) (sym memory) (memory_refused rule shape Stands (now ++ left))
  ];
}

-- a value for which nothing can be added ends the gathering before it
pub add_refused : (rule : Rule) (shape : Shape) (Stands : Meaning) (CanBeTooLong : Type 0) (refusal : Refusal) (slot : Option Value) (octets rest batch lengths : List ℕ)
    → MatchOption slot ⊥ (λ value. IsNotAdded (Stands (value_view value)) CanBeTooLong refusal) → Awaits rule shape Stands octets slot rest batch lengths → StopsGathering rule shape Stands refusal octets batch lengths
add_refused rule shape Stands CanBeTooLong refusal None octets rest batch lengths refused awaits = absurd refused
add_refused rule shape Stands CanBeTooLong refusal (Some value) octets rest batch lengths refused awaits =
    let left = awaits.encoding ++ rest in
    record {
      rest = left;
      gathers = awaits.gathers;
      stops = elim (cases_of_writing refusal refused.numbers) [
        | inl too_long ↦ subst (λ r. StopsAnyway rule shape Stands r left []) (sym too_long) (nothing_to_write rule shape Stands (value_view value) awaits.encoding rest left refl awaits.read (refused.too_long too_long))
        | inr memory ↦ subst (λ r. StopsAnyway rule shape Stands r left []) (sym memory) (memory_refused rule shape Stands left)
      ];
    }

-- so many octets of a piece completed the value in the slot, behind those that were taken before it
pub record HasCompleted (StandsAt : List ℕ → Type 0) (rule : Rule) (shape : Shape) (slot : Option Value) (used : ℕ) (old piece : List ℕ) : Type 0 where
  pub some : 1 ≤ used
  pub there : used ≤ length piece
  pub accepted : MatchOption slot ⊥ (λ value. IsAccepted rule shape (value_view value) (old ++ take used piece))
  pub fresh : StandsAt []

-- what was fed, if a value is in the slot
pub fed_some : (StandsAt : List ℕ → Type 0) (now rule : Rule) (shape : Shape) (slot : Option Value) (used : ℕ) (old piece : List ℕ) → now ≡ rule → is_some slot ≡ true
    → IsFed StandsAt now shape (Ok used) slot old piece → HasCompleted StandsAt rule shape slot used old piece
fed_some StandsAt now rule shape None used old piece same some fed = absurd (cc some)
fed_some StandsAt now rule shape (Some value) used old piece same some fed =
    record { some = fed.0.some; there = fed.0.there; accepted = subst (λ r. IsAccepted r shape (value_view value) (old ++ take used piece)) same fed.0.accepted; fresh = fed.1 }

-- and if none is
pub fed_none : (StandsAt : List ℕ → Type 0) (now rule : Rule) (shape : Shape) (slot : Option Value) (used : ℕ) (old piece : List ℕ) → now ≡ rule → is_some slot ≡ false
    → IsFed StandsAt now shape (Ok used) slot old piece → IsUnfinished StandsAt rule shape (old ++ piece)
fed_none StandsAt now rule shape None used old piece same none fed = subst (λ r. IsUnfinished StandsAt r shape (old ++ piece)) same (record { stands = fed.0; none = fed.1 })
fed_none StandsAt now rule shape (Some value) used old piece same none fed = absurd (cc none)

-- a value that was read conforms to the type
pub accepted_conforms : (rule : Rule) (shape : Shape) (slot : Option Value) (octets : List ℕ) → MatchOption slot ⊥ (λ value. IsAccepted rule shape (value_view value) octets) → MatchOption slot ⊥ (λ value. Conforms shape (value_view value))
accepted_conforms rule shape None octets accepted = accepted
accepted_conforms rule shape (Some value) octets accepted = encoded_conforms rule shape (value_view value) octets accepted.encoding
