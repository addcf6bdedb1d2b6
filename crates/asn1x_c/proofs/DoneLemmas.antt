-- Lemmas on what C gets of a call that goes to the end of the octets.
use Rattle.std.proofs.Common.{◌≡◌, ◌≢◌, ◌∙◌, ℕ, List, [], Option, Some, Ok, Err, IfErr, refl, sym, ap, subst, arith}
use Rattle.std.specs.declared.result.Result.{Result}
use Rattle.types.specs.declared.refusal.Refusal.{Refusal}
use Rattle.types.specs.declared.refusal.Refusal.TheVariants.{SourceFault}
use Rattle.engine.specs.Stream.{CountsBy, OfStream, source_failures}
use Rattle.engine.specs.declared.stopped.Stopped.{Stopped}
use Rattle.asn1x_c.specs.Done.{StreamStoppedBy, done_of}
use Rattle.asn1x_c.specs.declared.done.Done.{Done}

-- it went over octets in memory and wrote to a vector that was empty
pub in_memory : (left old new : Option (List ℕ)) (octets taken : List ℕ) (P : List ℕ → List ℕ → Type 0) → left ≡ Some octets → old ≡ Some [] → new ≡ Some taken → OfStream left old new P → P octets taken
in_memory left old new octets taken P left_is old_is new_is h =
    let told = subst (λ left. OfStream left (Some []) (Some taken) P) left_is (subst (λ old. OfStream left old (Some taken) P) old_is (subst (λ new. OfStream left old new P) new_is h)) in
    subst (P octets) (sym told.1) told.2

-- it stopped, and not for the source
pub stopped_by : (IsOfCall : Refusal → Type 0) (P : ℕ → Refusal → Type 0) (outcome : Result ℕ Stopped) (size : ℕ) (done : Done) → done ≡ done_of outcome size
    → IfErr outcome (λ stopped. P stopped.done stopped.refusal) → IfErr outcome (λ stopped. IsOfCall stopped.refusal) → CountsBy source_failures outcome 0
    → done.refusal ≢ 0 → StreamStoppedBy done.refusal IsOfCall (P done.values)
stopped_by IsOfCall P (Ok values) size done is why numbers source not_zero = absurd (not_zero (ap (λ (d : Done). d.refusal) is))
stopped_by IsOfCall P (Err stopped) size done is why numbers source not_zero =
    subst (λ (d : Done). StreamStoppedBy d.refusal IsOfCall (P d.values)) (sym is) (record {
      stopped = record { refusal = stopped.refusal; numbered = refl; why = why };
      numbers = numbers;
      source = λ is_source. absurd (omega (arith, source ∙ ap source_failures is_source));
    })
