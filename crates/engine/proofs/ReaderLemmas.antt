-- What a BER reader over pieces has been fed, and what it led to.
use Rattle.std.proofs.Common.{◌≡◌, ℕ, inl, inr, ◌⊎◌, List, [], ◌++◌, take, Option, None, Some, Result, Ok, Err, OnOk, IsOk, IfOk, IfErr, refl, sym, ◌∙◌, subst}
use Rattle.std.specs.Prelude.{◌↔◌}
use Rattle.octets.specs.Rule.{ber}
use Rattle.types.specs.declared.refusal.Refusal.{Refusal}
use Rattle.types.specs.declared.refusal.Refusal.TheVariants.{Truncated, Identifier, Form, Length, EndOfContents, Contents, Alphabet, Missing, Repeated, TooDeep, TooLong, NotCanonical, StreamTooLong, OutputTooLong, SourceFault, SinkFault, NoMemory}
use Rattle.types.specs.declared.value.Value.{Value}
use Rattle.types.specs.Encoding.{IsAccepted}
use Rattle.types.specs.Refusal.{IsFinal}
use Rattle.types.specs.Shape.{Shape}
use Rattle.types.specs.View.{value_view}
use Rattle.berreader.specs.declared.pieces.Pieces.{Pieces}
use Rattle.berreader.specs.Feeding as reader
use Rattle.berreader.proofs.FreshLemmas.{fed_none_finished, finished_has_been_fed, fresh_has_been_fed}
use Rattle.engine.specs.Feeding.{IsFed, IsFinished, StandsOpen}

-- a fresh reader took no octets
pub stands_fresh : (shape : Shape) (pieces : Pieces) → reader.shape_of pieces ≡ shape → reader.IsFresh pieces → StandsOpen shape pieces []
stands_fresh shape pieces type fresh = record { type = type; fed = fresh_has_been_fed pieces fresh }

-- 2 to 11 and 17
cases_of_feeding : (refusal : Refusal) → reader.IsOfFeeding refusal → IsFinal refusal ⊎ (refusal ≡ NoMemory)
cases_of_feeding Truncated h = absurd h
cases_of_feeding Identifier h = inl tt
cases_of_feeding Form h = inl tt
cases_of_feeding Length h = inl tt
cases_of_feeding EndOfContents h = inl tt
cases_of_feeding Contents h = inl tt
cases_of_feeding Alphabet h = inl tt
cases_of_feeding Missing h = inl tt
cases_of_feeding Repeated h = inl tt
cases_of_feeding TooDeep h = inl tt
cases_of_feeding TooLong h = inl tt
cases_of_feeding NotCanonical h = absurd h
cases_of_feeding StreamTooLong h = absurd h
cases_of_feeding OutputTooLong h = absurd h
cases_of_feeding SourceFault h = absurd h
cases_of_feeding SinkFault h = absurd h
cases_of_feeding NoMemory h = inr refl

-- what a piece led to
pub open_fed : (shape : Shape) (old new : Pieces) (before piece : List ℕ) (r : Result ℕ Refusal) (slot : Option Value) → StandsOpen shape old before → OnOk r (reader.shape_of new ≡ reader.shape_of old)
    → IfOk r (λ used. (octets : List ℕ) → reader.HasBeenFed old octets → reader.IsFed old new octets piece slot used)
    → (old.refused ≡ None → IfErr r (λ refusal. IsFinal refusal → (octets more : List ℕ) → reader.HasBeenFed old octets → ¬ reader.HasValue (reader.shape_of old) ((octets ++ piece) ++ more)))
    → IfErr r reader.IsOfFeeding → IsFed (StandsOpen shape new) ber shape r slot before piece
open_fed shape old new before piece (Ok used) None s type value never numbers =
    let m = value before s.fed in
    (record { type = type ∙ s.type; fed = m.has_been_fed }, subst (λ t. ¬ reader.HasValue t (before ++ piece)) s.type m.none)
open_fed shape old new before piece (Ok used) (Some v) s type value never numbers =
    let d = value before s.fed in (
      record { some = d.0.some; there = d.0.there; accepted = subst (λ t. IsAccepted ber t (value_view v) (before ++ take used piece)) s.type d.0.accepted },
      stands_fresh shape new (type ∙ s.type) d.1,
    )
open_fed shape old new before piece (Err refusal) slot s type value never numbers =
    let number = cases_of_feeding refusal numbers in (
      record { number = number; strict = λ is. absurd (subst reader.IsOfFeeding is numbers); by_ber = λ is. absurd (subst reader.IsOfFeeding is numbers) },
      λ final more. subst (λ t. ¬ reader.HasValue t ((before ++ piece) ++ more)) s.type (never s.fed.accepts final before more s.fed),
    )

-- whether a value is begun
pub open_finished : (shape : Shape) (pieces : Pieces) (octets : List ℕ) (r : Result (Unit {0}) Refusal) → StandsOpen shape pieces octets → (IsOk r ↔ reader.IsFinished pieces)
    → IfErr r (λ refusal. (pieces.refused ≡ Some refusal) ⊎ ((pieces.refused ≡ None) × (refusal ≡ Truncated))) → IsFinished r octets
open_finished shape pieces octets (Ok u) s exact refused = finished_has_been_fed pieces octets (exact.0 refl) s.fed
open_finished shape pieces octets (Err refusal) s exact refused = (
  elim refused [
    | inl is ↦ let both : None ≡ Some refusal = sym s.fed.accepts ∙ is in absurd (cc both)
    | inr h ↦ h.1
  ],
  λ none. absurd (cc (exact.1 (fed_none_finished pieces (subst (reader.HasBeenFed pieces) none s.fed)))),
)
