-- Lemmas on what is written for a first value, and on why nothing is.
use Rattle.std.proofs.Common.{◌≡◌, ℕ, List, [], IfOk, IfErr, Ok, Err, refl, sym, ◌∙◌, subst, arith}
use Rattle.std.specs.declared.result.Result.{Result}
use Rattle.octets.specs.Rule.{Rule}
use Rattle.types.specs.declared.refusal.Refusal.{Refusal}
use Rattle.types.specs.declared.refusal.Refusal.TheVariants.{Truncated, Identifier, Form, Length, EndOfContents, Contents, Alphabet, Missing, Repeated, TooDeep, TooLong, NotCanonical, StreamTooLong, OutputTooLong, SourceFault, SinkFault, NoMemory}
use Rattle.types.specs.Encoding.{Meaning}
use Rattle.types.specs.Refusal.{IsFinal, IsOfWriting, refusal_number}
use Rattle.types.specs.Shape.{Shape}
use Rattle.engine.specs.Refusal.{IsOfReadingBy, IsOfTranscoding}
use Rattle.asn1x_c.specs.Done.{HasNoFirst}
use Rattle.asn1x_c.specs.One.{HasMuteFirst, HasWrittenFirst, IsFirstWritten, IsPutOne, IsRefusedOne, RefusesFirst}
use Rattle.asn1x_c.specs.declared.done.One.{One}

-- what reading and what writing refuse with, a conversion does
pub of_reading : (rule : Rule) (refusal : Refusal) → IsOfReadingBy rule refusal → IsOfTranscoding rule refusal
of_reading rule NotCanonical h = h
of_reading rule OutputTooLong h = tt
of_reading rule NoMemory h = tt
of_reading rule refusal h = h

pub of_writing : (rule : Rule) (refusal : Refusal) → IsOfWriting refusal → IsOfTranscoding rule refusal
of_writing rule OutputTooLong h = tt
of_writing rule NoMemory h = tt
of_writing rule refusal h = absurd h

-- and a writer never says that octets are wrong
pub not_final : (refusal : Refusal) → IsOfWriting refusal → IsFinal refusal → ⊥
not_final OutputTooLong h final = final
not_final NoMemory h final = final
not_final refusal h final = h

-- the first value was not read
pub not_read : (Stands : Meaning) (rule : Rule) (shape : Shape) (octets : List ℕ) (refusal : Refusal) → HasNoFirst rule shape octets refusal → IsOfReadingBy rule refusal → RefusesFirst Stands rule shape octets refusal
not_read Stands rule shape octets refusal none numbers =
    record {
      none = none;
      too_long = λ is. absurd (subst (IsOfReadingBy rule) is numbers);
      numbers = of_reading rule refusal numbers;
    }

-- it was read, and not written
pub not_written : (Stands : Meaning) (rule : Rule) (shape : Shape) (octets : List ℕ) (refusal : Refusal) → IsOfWriting refusal → (refusal ≡ OutputTooLong → HasMuteFirst Stands rule shape octets) → RefusesFirst Stands rule shape octets refusal
not_written Stands rule shape octets refusal numbers too_long =
    record {
      none = record {
        truncated = λ is. absurd (subst IsOfWriting is numbers);
        begun = λ is. absurd (subst IsOfWriting is numbers);
        never = λ final. absurd (not_final refusal numbers final);
      };
      too_long = too_long;
      numbers = of_writing rule refusal numbers;
    }

-- a refusal has a number
pub some_number : (refusal : Refusal) → refusal_number refusal ≡ 0 → ⊥
some_number Truncated h = absurd (omega (arith, h))
some_number Identifier h = absurd (omega (arith, h))
some_number Form h = absurd (omega (arith, h))
some_number Length h = absurd (omega (arith, h))
some_number EndOfContents h = absurd (omega (arith, h))
some_number Contents h = absurd (omega (arith, h))
some_number Alphabet h = absurd (omega (arith, h))
some_number Missing h = absurd (omega (arith, h))
some_number Repeated h = absurd (omega (arith, h))
some_number TooDeep h = absurd (omega (arith, h))
some_number TooLong h = absurd (omega (arith, h))
some_number NotCanonical h = absurd (omega (arith, h))
some_number StreamTooLong h = absurd (omega (arith, h))
some_number OutputTooLong h = absurd (omega (arith, h))
some_number SourceFault h = absurd (omega (arith, h))
some_number SinkFault h = absurd (omega (arith, h))
some_number NoMemory h = absurd (omega (arith, h))

-- what C gets of an outcome
pub of_outcome : {A : Type 0} (items : A → List ℕ) (used : A → ℕ) (Stands : Meaning) (rule : Rule) (shape : Shape) (octets old new : List ℕ) (one : One) (outcome : Result A Refusal)
    → IfOk outcome (λ p. IsFirstWritten Stands rule shape octets (used p) (items p)) → IfErr outcome (RefusesFirst Stands rule shape octets)
    → IfOk outcome (λ p. IsPutOne (used p) (items p) old new one) → IfErr outcome (λ refusal. IsRefusedOne refusal old new one)
    → HasWrittenFirst Stands rule shape octets old new one
of_outcome items used Stands rule shape octets old new one (Ok p) written refuses put refused =
    record {
      written = items p;
      put = put.2;
      done = λ zero. subst (λ count. IsFirstWritten Stands rule shape octets count (items p)) (sym put.1) written;
      refused = λ not_zero. absurd (not_zero put.0);
    }
of_outcome items used Stands rule shape octets old new one (Err refusal) written refuses put refused =
    record {
      written = [];
      put = refused.2;
      done = λ zero. absurd (some_number refusal (sym refused.0 ∙ zero));
      refused = λ not_zero. (refused.1, refl, record { refusal = refusal; numbered = refused.0; why = refuses });
    }
