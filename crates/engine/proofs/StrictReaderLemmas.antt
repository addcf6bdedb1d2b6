-- What a reader of a canonical rule takes: the encoding that the rule gives a value, which BER takes too.
use Rattle.std.proofs.Common.{◌≡◌, ◌≢◌, ℕ, zero, suc, ◌≤◌, ◌⊎◌, inl, inr, List, [], ◌++◌, length, take, drop, Option, Some, None, MatchOption, Ok, Err, refl, sym, ap, ◌∙◌, subst, arith, append_assoc, append-nil}
use Rattle.std.proofs.lemmas.List.{take-append-drop}
use Rattle.octets.specs.Front.{HasFront}
use Rattle.octets.specs.Rule.{Rule, ber, IsCanonical}
use Rattle.octets.proofs.FrontLemmas.{whole_front, HasFront-whole, HasFront-from_parts}
use Rattle.types.specs.declared.refusal.Refusal.{Refusal}
use Rattle.types.specs.declared.refusal.Refusal.TheVariants.{Truncated, NotCanonical, NoMemory}
use Rattle.types.specs.declared.value.Value.{Value}
use Rattle.types.specs.Encoding.{IsAccepted, IsSomeAccepted}
use Rattle.types.specs.Refusal.{IsFinal}
use Rattle.types.specs.Shape.{Shape, Val}
use Rattle.types.specs.View.{ty_view, value_view}
use Rattle.types.specs.WellFormed.{IsWellFormed}
use Rattle.types.proofs.ApartInstances.{of_no_octets}
use Rattle.types.proofs.EncodingLemmas.{encoding_unique}
use Rattle.strict.specs.Refusal.{IsOfStrictReading}
use Rattle.strict.proofs.StrictLemmas.{as_ber}
use Rattle.berreader.specs.declared.pieces.Pieces.{Pieces}
use Rattle.engine.specs.declared.strict_reader.StrictReader.{StrictReader}
use Rattle.engine.specs.Feeding.{IsFed, IsOfFeeding, StandsOpen}
use Rattle.engine.specs.Putting.{IsWritten}
use Rattle.engine.specs.StrictReader.{IsOfJudging, StandsStrictly}
use Rattle.engine.proofs.FeedingLemmas.{cut_piece}
use Rattle.engine.proofs.PassingLemmas.{other}

-- a front that a canonical rule takes, BER takes
front_by_ber : (rule : Rule) (shape : Shape) (octets : List ℕ) → IsWellFormed shape → IsCanonical rule → HasFront (IsSomeAccepted rule shape) octets → HasFront (IsSomeAccepted ber shape) octets
front_by_ber rule shape octets well canonical f = (f.0, f.1, (f.2.0, as_ber rule shape f.2.0 (take f.0 octets) well canonical f.2.1))

-- octets that BER takes as a value, and that begin with what a canonical rule takes, are what the rule gives it
only_front : (rule : Rule) (shape : Shape) (v : Val) (octets more : List ℕ) → IsWellFormed shape → IsCanonical rule → IsAccepted ber shape v octets → HasFront (IsSomeAccepted rule shape) (octets ++ more) → IsSomeAccepted rule shape octets
only_front rule shape v octets more well canonical read f =
    let n = f.0 in
    let front = take n (octets ++ more) in
    let other = as_ber rule shape f.2.0 front well canonical f.2.1 in
    let unique = encoding_unique shape v f.2.0 octets front more (drop n (octets ++ more)) well read.encoding other.encoding (whole_front n (octets ++ more)) in
    (f.2.0, subst (IsAccepted rule shape f.2.0) (sym unique.octets) f.2.1)

-- what the rule takes at the front of octets that BER takes is all of them
pub whole_read : (rule : Rule) (shape : Shape) (v : Val) (n : ℕ) (octets : List ℕ) → IsWellFormed shape → IsCanonical rule → IsSomeAccepted ber shape octets → IsAccepted rule shape v (take n octets) → IsAccepted rule shape v octets
whole_read rule shape v n octets well canonical by_ber read =
    let front = as_ber rule shape v (take n octets) well canonical read in
    let unique = encoding_unique shape v by_ber.0 (take n octets) octets (drop n octets) [] well front.encoding by_ber.1.encoding (take-append-drop n octets ∙ sym (append-nil octets)) in
    subst (IsAccepted rule shape v) unique.octets read

-- in a slot
pub whole_in_slot : (rule : Rule) (shape : Shape) (slot : Option Value) (n : ℕ) (octets : List ℕ) → IsWellFormed shape → IsCanonical rule → IsSomeAccepted ber shape octets
    → MatchOption slot ⊥ (λ value. IsAccepted rule shape (value_view value) (take n octets)) → MatchOption slot ⊥ (λ value. IsAccepted rule shape (value_view value) octets)
whole_in_slot rule shape None n octets well canonical by_ber read = read
whole_in_slot rule shape (Some value) n octets well canonical by_ber read = whole_read rule shape (value_view value) n octets well canonical by_ber read

-- what a strict reader refuses with says that octets are missing, that they are wrong, or that memory was refused
cases_of_strict : (refusal : Refusal) → IsOfStrictReading refusal → (refusal ≡ Truncated) ⊎ (IsFinal refusal ⊎ (refusal ≡ NoMemory))
cases_of_strict Truncated h = inl refl
cases_of_strict NoMemory h = inr (inr refl)
cases_of_strict refusal h = inr (inl h)

-- refused for another reason than memory, they are none of the rule
pub none_read : (rule : Rule) (shape : Shape) (octets : List ℕ) (refusal : Refusal) → IsOfStrictReading refusal → (refusal ≡ Truncated → ¬ HasFront (IsSomeAccepted rule shape) octets) → (IsFinal refusal → (more : List ℕ) → ¬ HasFront (IsSomeAccepted rule shape) (octets ++ more))
    → refusal ≢ NoMemory → ¬ IsSomeAccepted rule shape octets
none_read rule shape octets refusal numbers truncated never memory h =
    let front = HasFront-whole (IsSomeAccepted rule shape) octets h in
    elim (cases_of_strict refusal numbers) [
      | inl is ↦ truncated is front
      | inr rest ↦ elim rest [
        | inl final ↦ never final [] (subst (HasFront (IsSomeAccepted rule shape)) (sym (append-nil octets)) front)
        | inr is ↦ absurd (memory is)
      ]
    ]

-- no value has an encoding of no octets
pub some_taken : (rule : Rule) (shape : Shape) (v : Val) (n : ℕ) (octets : List ℕ) → IsAccepted rule shape v (take n octets) → 1 ≤ n
some_taken rule shape v zero octets read = absurd (of_no_octets rule shape v read.encoding)
some_taken rule shape v (suc n) octets read = omega arith

-- a value that is whole in the piece was read there, and the reader stands as it was
pub strict_at_once : (rule : Rule) (shape : Shape) (strict : StrictReader) (before piece : List ℕ) (slot : Option Value) (used : ℕ) → StandsStrictly shape strict before → strict.begun.items ≡ []
    → used ≤ length piece → MatchOption slot ⊥ (λ value. IsAccepted rule (ty_view strict.ty.now) (value_view value) (take used piece)) → IsFed (StandsStrictly shape strict) rule shape (Ok used) slot before piece
strict_at_once rule shape strict before piece None used s none there read = absurd read
strict_at_once rule shape strict before piece (Some value) used s none there read =
    let nothing : before ≡ [] = sym s.kept_are ∙ none in
    let here = subst (λ t. IsAccepted rule t (value_view value) (take used piece)) s.type_is read in (
      record { some = some_taken rule shape (value_view value) used piece here; there = there; accepted = subst (λ x. IsAccepted rule shape (value_view value) (x ++ take used piece)) (sym nothing) here },
      subst (StandsStrictly shape strict) nothing s,
    )

-- the piece was taken whole
pub strict_more : (rule : Rule) (shape : Shape) (old new : StrictReader) (before piece : List ℕ) (used : ℕ) → IsCanonical rule → StandsStrictly shape old before → ty_view new.ty.now ≡ ty_view old.ty.now
    → IsFed (StandsOpen shape new.reader) ber shape (Ok used) None before piece → new.begun.items ≡ old.begun.items ++ piece → IsFed (StandsStrictly shape new) rule shape (Ok used) None before piece
strict_more rule shape old new before piece used canonical s type fed kept = (
  record { type_is = type ∙ s.type_is; well_formed = s.well_formed; reader_stands = fed.0; kept_are = kept ∙ ap (λ x. x ++ piece) s.kept_are },
  λ f. fed.1 (front_by_ber rule shape (before ++ piece) s.well_formed canonical f),
)

-- the octets kept and the last ones
all_kept : (shape : Shape) (old : StrictReader) (before piece last : List ℕ) (used : ℕ) → StandsStrictly shape old before → last ≡ take used piece → old.begun.items ++ last ≡ before ++ take used piece
all_kept shape old before piece last used s last_is = ap (λ x. x ++ last) s.kept_are ∙ ap (λ x. before ++ x) last_is

-- BER takes them
pub kept_by_ber : (shape : Shape) (old : StrictReader) (new_reader : Pieces) (before piece last : List ℕ) (read : Value) (used : ℕ) → StandsStrictly shape old before
    → IsFed (StandsOpen shape new_reader) ber shape (Ok used) (Some read) before piece → last ≡ take used piece → IsSomeAccepted ber (ty_view old.ty.now) (old.begun.items ++ last)
kept_by_ber shape old new_reader before piece last read used s fed last_is = (
  value_view read,
  subst (λ t. IsAccepted ber t (value_view read) (old.begun.items ++ last)) (sym s.type_is) (subst (IsAccepted ber shape (value_view read)) (sym (all_kept shape old before piece last used s last_is)) fed.0.accepted),
)

-- a value is complete, and its octets are what the rule gives it
strict_done : (rule : Rule) (shape : Shape) (old new : StrictReader) (before piece last : List ℕ) (read value : Value) (used : ℕ) → StandsStrictly shape old before → ty_view new.ty.now ≡ ty_view old.ty.now
    → IsFed (StandsOpen shape new.reader) ber shape (Ok used) (Some read) before piece → last ≡ take used piece → IsAccepted rule (ty_view old.ty.now) (value_view value) (old.begun.items ++ last) → new.begun.items ≡ []
    → IsFed (StandsStrictly shape new) rule shape (Ok used) (Some value) before piece
strict_done rule shape old new before piece last read value used s type fed last_is accepted none =
    let typed = subst (λ t. IsAccepted rule t (value_view value) (old.begun.items ++ last)) s.type_is accepted in
    let here = subst (IsAccepted rule shape (value_view value)) (all_kept shape old before piece last used s last_is) typed in (
      record { some = fed.0.some; there = fed.0.there; accepted = here },
      record { type_is = type ∙ s.type_is; well_formed = s.well_formed; reader_stands = fed.1; kept_are = none },
    )

-- in a slot
pub done_in_slot : (rule : Rule) (shape : Shape) (old new : StrictReader) (before piece last : List ℕ) (read : Value) (slot : Option Value) (used : ℕ) → StandsStrictly shape old before → ty_view new.ty.now ≡ ty_view old.ty.now
    → IsFed (StandsOpen shape new.reader) ber shape (Ok used) (Some read) before piece → last ≡ take used piece → MatchOption slot ⊥ (λ value. IsAccepted rule (ty_view old.ty.now) (value_view value) (old.begun.items ++ last)) → new.begun.items ≡ []
    → IsFed (StandsStrictly shape new) rule shape (Ok used) slot before piece
done_in_slot rule shape old new before piece last read None used s type fed last_is accepted none = absurd accepted
done_in_slot rule shape old new before piece last read (Some value) used s type fed last_is accepted none = strict_done rule shape old new before piece last read value used s type fed last_is accepted none

-- no memory says nothing of the octets
pub memory_ran_out : (rule : Rule) (shape : Shape) (octets : List ℕ) (refusal : Refusal) → refusal ≡ NoMemory
    → IsOfFeeding rule shape octets refusal × (IsFinal refusal → (more : List ℕ) → ¬ HasFront (IsSomeAccepted rule shape) (octets ++ more))
memory_ran_out rule shape octets refusal memory =
    let differs : refusal ≢ NotCanonical = λ is. other NotCanonical NoMemory (λ n. omega (arith, n)) (sym is ∙ memory) in (
      record { number = inr memory; strict = λ is. absurd (differs is); by_ber = λ is. absurd (differs is) },
      λ final. absurd (subst IsFinal memory final),
    )

-- a value is complete, and its octets are not what the rule gives it, or memory ran out
pub strict_refused : (rule : Rule) (shape : Shape) (old : StrictReader) (new_reader : Pieces) (before piece last : List ℕ) (read : Value) (used : ℕ) (refusal : Refusal) → IsCanonical rule → StandsStrictly shape old before
    → IsFed (StandsOpen shape new_reader) ber shape (Ok used) (Some read) before piece → last ≡ take used piece → IsOfJudging refusal → (refusal ≡ NotCanonical → ¬ IsSomeAccepted rule (ty_view old.ty.now) (old.begun.items ++ last))
    → IsOfFeeding rule shape (before ++ piece) refusal × (IsFinal refusal → (more : List ℕ) → ¬ HasFront (IsSomeAccepted rule shape) ((before ++ piece) ++ more))
strict_refused rule shape old new_reader before piece last read used refusal canonical s fed last_is numbers never =
    let octets = before ++ take used piece in
    let parts = cut_piece before piece (drop used piece) used refl in
    elim numbers [
      | inl is ↦ (
        record {
          number = inl (subst IsFinal (sym is) tt);
          strict = λ _. canonical;
          by_ber = λ _. HasFront-from_parts (IsSomeAccepted ber shape) octets (drop used piece) (before ++ piece) parts (value_view read, fed.0.accepted);
        },
        λ _ more f.
            let all_is : (before ++ piece) ++ more ≡ octets ++ (drop used piece ++ more) = ap (λ x. x ++ more) parts ∙ append_assoc octets (drop used piece) more in
            let here = only_front rule shape (value_view read) octets (drop used piece ++ more) s.well_formed canonical fed.0.accepted (subst (HasFront (IsSomeAccepted rule shape)) all_is f) in
            never is (subst (λ t. IsSomeAccepted rule t (old.begun.items ++ last)) (sym s.type_is) (subst (IsSomeAccepted rule shape) (sym (all_kept shape old before piece last used s last_is)) here)),
      )
      | inr memory ↦ memory_ran_out rule shape (before ++ piece) refusal memory
    ]

-- the piece was refused under BER
pub strict_error : (rule : Rule) (shape : Shape) (old : StrictReader) (new_reader : Pieces) (before piece : List ℕ) (refusal : Refusal) (slot : Option Value) → IsCanonical rule → StandsStrictly shape old before
    → IsFed (StandsOpen shape new_reader) ber shape (Err refusal) slot before piece → IsOfFeeding rule shape (before ++ piece) refusal × (IsFinal refusal → (more : List ℕ) → ¬ HasFront (IsSomeAccepted rule shape) ((before ++ piece) ++ more))
strict_error rule shape old new_reader before piece refusal slot canonical s fed = (
  record { number = fed.0.number; strict = λ _. canonical; by_ber = fed.0.by_ber },
  λ final more f. fed.1 final more (front_by_ber rule shape ((before ++ piece) ++ more) s.well_formed canonical f),
)

-- what a canonical rule takes at the front is what it writes for its value, and BER takes it
pub strict_is_written : (rule : Rule) (shape : Shape) (slot : Option Value) (octets : List ℕ) (used : ℕ) → IsWellFormed shape → IsCanonical rule → used ≤ length octets
    → MatchOption slot ⊥ (λ value. IsAccepted rule shape (value_view value) (take used octets)) → IsWritten (IsAccepted rule shape) shape slot octets used
strict_is_written rule shape None octets used well canonical there read = absurd read
strict_is_written rule shape (Some value) octets used well canonical there read =
    record { first = record { there = there; read = as_ber rule shape (value_view value) (take used octets) well canonical read }; stands = read }
