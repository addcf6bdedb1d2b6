-- Lemmas on the conversion of one value.
use Rattle.std.proofs.Common.{◌≡◌, ℕ, ◌≤◌, ◌<◌, ◌⊎◌, List, [], ◌++◌, inl, inr, length, take, drop, refl, sym, ◌∙◌, ap, arith, append-nil, length-append}
use Rattle.std.proofs.lemmas.List.{length-take-le}
use Rattle.octets.specs.Rule as encoding
use Rattle.types.specs.declared.refusal.Refusal.{Refusal}
use Rattle.types.specs.declared.refusal.Refusal.TheVariants.{Truncated, NotCanonical, OutputTooLong, NoMemory}
use Rattle.types.specs.Encoding.{IsAccepted, IsSomeAccepted}
use Rattle.types.specs.Refusal.{IsFinal, IsOfWriting}
use Rattle.types.specs.Shape.{Shape, Val}
use Rattle.types.specs.WellFormed.{IsWellFormed}
use Rattle.types.specs.Same.{IsSame}
use Rattle.types.proofs.EncodingLemmas.{encoding_unique}
use Rattle.types.proofs.SameLemmas.{same_encodings}
use Rattle.engine.specs.declared.rule.Rule.{Rule}
use Rattle.engine.specs.declared.rule.Rule.TheVariants as reading
use Rattle.engine.specs.Refusal.{IsOfReadingBy}
use Rattle.engine.specs.Rule.{rule_of}
use Rattle.octets.proofs.FrontLemmas.{front_of_more}
use Rattle.octets.proofs.RuleLemmas.{cer_is_canonical, der_is_canonical}
use Rattle.strict.proofs.StrictLemmas.{as_ber as accepted_as_ber}

-- what any of the rules accepts, BER accepts
pub as_ber : (rule : Rule) (shape : Shape) (v : Val) (octets : List ℕ) → IsWellFormed shape → IsAccepted (rule_of rule) shape v octets → IsAccepted encoding.ber shape v octets
as_ber reading.Ber shape v octets well h = h
as_ber reading.Cer shape v octets well h = accepted_as_ber encoding.cer shape v octets well cer_is_canonical h
as_ber reading.Der shape v octets well h = accepted_as_ber encoding.der shape v octets well der_is_canonical h

-- what a reader refuses with says that octets are missing, that they are wrong, or that memory was refused
pub cases_of_reading : (rule : encoding.Rule) (refusal : Refusal) → IsOfReadingBy rule refusal → (refusal ≡ Truncated) ⊎ (IsFinal refusal ⊎ (refusal ≡ NoMemory))
cases_of_reading rule Truncated h = inl refl
cases_of_reading rule NoMemory h = inr (inr refl)
cases_of_reading rule NotCanonical h = inr (inl tt)
cases_of_reading rule refusal h = inr (inl h)

pub cases_of_writing : (refusal : Refusal) → IsOfWriting refusal → (refusal ≡ OutputTooLong) ⊎ (refusal ≡ NoMemory)
cases_of_writing OutputTooLong h = inl refl
cases_of_writing NoMemory h = inr refl
cases_of_writing refusal h = absurd h

-- the encoding at the front is the one that fills what begins so
pub front_is_whole : (rule : Rule) (shape : Shape) (v : Val) (n : ℕ) (octets more : List ℕ) → IsWellFormed shape → n ≤ length octets → IsAccepted (rule_of rule) shape v (take n octets) → (h : IsSomeAccepted (rule_of rule) shape (octets ++ more))
    → (n ≡ length (octets ++ more)) × IsSame shape v h.0
front_is_whole rule shape v n octets more well there read h =
    let whole = octets ++ more in
    let same = encoding_unique shape v h.0 (take n octets) whole (drop n octets ++ more) [] well (as_ber rule shape v (take n octets) well read).encoding (as_ber rule shape h.0 whole well h.1).encoding (sym (front_of_more n octets more) ∙ sym (append-nil whole)) in
    (sym (length-take-le n octets there) ∙ ap length same.octets, same.values)

-- what is left over belongs to no encoding
pub none_left_over : (rule : Rule) (shape : Shape) (v : Val) (n : ℕ) (octets more : List ℕ) → IsWellFormed shape → n < length octets → IsAccepted (rule_of rule) shape v (take n octets) → IsSomeAccepted (rule_of rule) shape (octets ++ more) → ⊥
none_left_over rule shape v n octets more well left read h =
    let same = front_is_whole rule shape v n octets more well (omega arith) read h in
    absurd (omega (arith, same.0, length-append octets more))

-- the same values have the same accepted encodings
pub accepted_as : (rule : encoding.Rule) (shape : Shape) (v w : Val) (octets : List ℕ) → IsWellFormed shape → IsSame shape v w → IsAccepted rule shape w octets → IsAccepted rule shape v octets
accepted_as rule shape v w octets well same h = record { encoding = (same_encodings rule shape v w octets well same).1 h.encoding; depth = h.depth; size = h.size }

pub accepted_of : (rule : encoding.Rule) (shape : Shape) (v w : Val) (octets : List ℕ) → IsWellFormed shape → IsSame shape v w → IsAccepted rule shape v octets → IsAccepted rule shape w octets
accepted_of rule shape v w octets well same h = record { encoding = (same_encodings rule shape v w octets well same).0 h.encoding; depth = h.depth; size = h.size }
