-- What is read of a source, from piece to piece.
use Rattle.std.proofs.Common.{◌≡◌, ◌≢◌, ℕ, ◌+◌, ◌<◌, ◌-◌, inl, inr, ◌⊎◌, List, [], ◌++◌, length, take, drop, Option, None, Some, refl, sym, ap, ◌∙◌, append_assoc, append-nil, arith, length-append, length-drop, subst, take-append-drop}
use Rattle.std.specs.Prelude.{IfSome}
use Rattle.std.specs.Io.KnownBytes.{Consumes, IsAtEnd}
use Rattle.std.proofs.lemmas.List.{drop-drop, length-take-le, take_all}
use Rattle.octets.specs.Front.{HasFront}
use Rattle.octets.specs.Rule.{Rule}
use Rattle.types.specs.declared.refusal.Refusal.{Refusal}
use Rattle.types.specs.declared.refusal.Refusal.TheVariants.{Truncated, NotCanonical, StreamTooLong, SourceFault}
use Rattle.types.specs.Encoding.{IsSomeAccepted}
use Rattle.types.specs.Refusal.{IsFinal}
use Rattle.types.specs.Shape.{Shape, Val}
use Rattle.devices.proofs.DeviceLemmas.{consumes_none, consumes_more}
use Rattle.engine.specs.declared.any_reader.AnyReader.{AnyReader}
use Rattle.engine.specs.AnyReader.{StandsBy}
use Rattle.engine.specs.Feeding.{IsDone, IsOfFeeding}
use Rattle.engine.specs.Passing.{StopsAnyway}
use Rattle.engine.specs.Stream.{most_streamed, Refuses}
use Rattle.engine.proofs.FeedingLemmas.{none_begun}
use Rattle.engine.proofs.PassingLemmas.{memory_refused, refused_further, refuses_plainly, other}
use Rattle.value_stream.specs.Next.{IsNext, IsStop, HasBegun}
use Rattle.value_stream.specs.Unread.{unread}

unread_on : (at n now : ℕ) (piece : List ℕ) (left : Option (List ℕ)) → now ≡ at + n → Consumes (unread at piece left) (unread now piece left) (take n (drop at piece))
unread_on at n now piece None now_is = tt
unread_on at n now piece (Some octets) now_is =
    ap (λ x. x ++ octets) (sym (take-append-drop n (drop at piece)) ∙ ap (λ x. take n (drop at piece) ++ x) (drop-drop n at piece ∙ ap (λ k. drop k piece) (sym now_is)))
    ∙ append_assoc (take n (drop at piece)) (drop now piece) octets

-- more octets of the piece were read
pub read_on : (at n now : ℕ) (piece piece_new rest : List ℕ) (left left_new : Option (List ℕ)) → rest ≡ drop at piece → now ≡ at + n → piece_new ≡ piece → left_new ≡ left → Consumes (unread at piece left) (unread now piece_new left_new) (take n rest)
read_on at n now piece piece_new rest left left_new rest_is now_is same_piece same_left =
    subst (λ x. Consumes (unread at piece left) (unread now piece_new left_new) (take n x)) (sym rest_is)
    (subst (λ x. Consumes (unread at piece left) (unread now x left_new) (take n (drop at piece))) (sym same_piece)
    (subst (λ x. Consumes (unread at piece left) (unread now piece x) (take n (drop at piece))) (sym same_left) (unread_on at n now piece left now_is)))

-- all of it was read
pub read_all : (at now : ℕ) (piece piece_new rest : List ℕ) (left left_new : Option (List ℕ)) → rest ≡ drop at piece → now ≡ at + length rest → piece_new ≡ piece → left_new ≡ left → Consumes (unread at piece left) (unread now piece_new left_new) rest
read_all at now piece piece_new rest left left_new rest_is now_is same_piece same_left =
    subst (Consumes (unread at piece left) (unread now piece_new left_new)) (take_all (length rest) rest (omega arith))
    (read_on at (length rest) now piece piece_new rest left left_new rest_is now_is same_piece same_left)

-- the source is behind the piece
pub behind_piece : (at : ℕ) (piece : List ℕ) (left : Option (List ℕ)) → (given : List ℕ) × Consumes (unread at piece left) left given
behind_piece at piece None = (drop at piece, tt)
behind_piece at piece (Some octets) = (drop at piece, refl)

-- no octet was read of what is left
pub begins : (StandsAt : List ℕ → Type 0) (rule : Rule) (shape : Shape) (read : ℕ) (left : Option (List ℕ)) → StandsAt [] → HasBegun StandsAt rule shape read read left left
begins StandsAt rule shape read left fresh =
    record { octets = []; taken = consumes_none left; unfinished = record { stands = fresh; none = none_begun rule shape }; counted = omega arith }

-- another piece is at hand
begins_still : (StandsAt : List ℕ → Type 0) (rule : Rule) (shape : Shape) (read now : ℕ) (left left_old left_new : Option (List ℕ)) → HasBegun StandsAt rule shape read now left left_old → Consumes left_old left_new [] → HasBegun StandsAt rule shape read now left left_new
begins_still StandsAt rule shape read now left left_old left_new h kept =
    record { octets = h.octets; taken = subst (Consumes left left_new) (append-nil h.octets) (consumes_more left left_old left_new h.octets [] h.taken kept); unfinished = h.unfinished; counted = h.counted }

pub begun_still : (shape : Shape) (rule : Rule) (old new : AnyReader) (read now now_new : ℕ) (left left_old left_new : Option (List ℕ)) → HasBegun (StandsBy shape old) rule shape read now left left_old → Consumes left_old left_new [] → new ≡ old → now_new ≡ now
    → HasBegun (StandsBy shape new) rule shape read now_new left left_new
begun_still shape rule old new read now now_new left left_old left_new h kept same_reader same_count =
    subst (λ n. HasBegun (StandsBy shape new) rule shape read n left left_new) (sym same_count)
    (subst (λ r. HasBegun (StandsBy shape r) rule shape read now left left_new) (sym same_reader) (begins_still (StandsBy shape old) rule shape read now left left_old left_new h kept))

-- the rest of the piece was read, and completes no value
pub begins_more : (StandsAt StandsNow : List ℕ → Type 0) (rule : Rule) (shape : Shape) (read old now : ℕ) (left left_old left_new : Option (List ℕ)) (more : List ℕ)
    → HasBegun StandsAt rule shape read old left left_old → Consumes left_old left_new more → now ≡ old + length more
    → ((octets : List ℕ) → StandsAt octets → StandsNow (octets ++ more) × ¬ HasFront (IsSomeAccepted rule shape) (octets ++ more)) → HasBegun StandsNow rule shape read now left left_new
begins_more StandsAt StandsNow rule shape read old now left left_old left_new more h taken now_is fed =
    let f = fed h.octets h.unfinished.stands in
    record {
      octets = h.octets ++ more;
      taken = consumes_more left left_old left_new h.octets more h.taken taken;
      unfinished = record { stands = f.0; none = f.1 };
      counted = omega (arith, now_is, h.counted, length-append h.octets more);
    }

-- octets of the piece complete a value
pub next_is : (StandsAt : List ℕ → Type 0) (rule : Rule) (shape : Shape) (v : Val) (read old now used : ℕ) (left left_old left_new : Option (List ℕ)) (piece : List ℕ)
    → HasBegun StandsAt rule shape read old left left_old → Consumes left_old left_new (take used piece) → now ≡ old + used
    → ((octets : List ℕ) → StandsAt octets → IsDone rule shape v used octets piece) → IsNext rule shape v read now left left_new
next_is StandsAt rule shape v read old now used left left_old left_new piece h taken now_is fed =
    let f = fed h.octets h.unfinished.stands in
    let size : length (h.octets ++ take used piece) ≡ length h.octets + used = length-append h.octets (take used piece) ∙ ap (λ k. length h.octets + k) (length-take-le used piece f.there) in
    record {
      octets = h.octets ++ take used piece;
      accepted = f.accepted;
      taken = consumes_more left left_old left_new h.octets (take used piece) h.taken taken;
      some = omega (arith, size, f.some);
      counted = omega (arith, now_is, h.counted, size);
    }

-- the refusal is right whatever stands before what was left
right_anyway : (rule : Rule) (shape : Shape) (refusal : Refusal) (read : ℕ) (left left_new : Option (List ℕ)) (begun : List ℕ) → Consumes left left_new begun
    → ((rest front : List ℕ) → left_new ≡ Some rest → length front ≡ read → Refuses rule shape refusal (front ++ (begun ++ rest)) (begun ++ rest)) → IfSome left (λ rest. (front : List ℕ) → length front ≡ read → Refuses rule shape refusal (front ++ rest) rest)
right_anyway rule shape refusal read None left_new begun taken refuses = tt
right_anyway rule shape refusal read (Some octets) None begun taken refuses = absurd taken
right_anyway rule shape refusal read (Some octets) (Some rest) begun taken refuses = λ front size. subst (λ x. Refuses rule shape refusal (front ++ x) x) (sym taken) (refuses rest front refl size)

-- the rest of the piece was refused
pub refused_piece : (StandsAt : List ℕ → Type 0) (rule : Rule) (shape : Shape) (refusal : Refusal) (read now : ℕ) (left left_old left_new : Option (List ℕ)) (piece : List ℕ) → 0 < length piece
    → HasBegun StandsAt rule shape read now left left_old → Consumes left_old left_new piece
    → ((octets : List ℕ) → StandsAt octets → IsOfFeeding rule shape (octets ++ piece) refusal × (IsFinal refusal → (more : List ℕ) → ¬ HasFront (IsSomeAccepted rule shape) ((octets ++ piece) ++ more))) → IsStop rule shape refusal read left left_old
refused_piece StandsAt rule shape refusal read now left left_old left_new piece some h taken fed =
    let f = fed h.octets h.unfinished.stands in
    let begun : h.octets ++ piece ≢ [] = λ none. absurd (omega (arith, ap length none, length-append h.octets piece, some)) in
    let all : StopsAnyway rule shape (λ _ octets. octets ≡ []) refusal (h.octets ++ piece) [] = elim f.0.number [
      | inl final ↦ refused_further rule shape (λ _ octets. octets ≡ []) refusal (h.octets ++ piece) final f.0.strict f.0.by_ber begun (f.1 final)
      | inr memory ↦ subst (λ r. StopsAnyway rule shape (λ _ octets. octets ≡ []) r (h.octets ++ piece) []) (sym memory) (memory_refused rule shape (λ _ octets. octets ≡ []) (h.octets ++ piece))
    ] in
    record {
      begun = h.octets;
      taken = h.taken;
      none = h.unfinished.none;
      refused = right_anyway rule shape refusal read left left_new (h.octets ++ piece) (consumes_more left left_old left_new h.octets piece h.taken taken) (λ rest front _ _. all.refused (front ++ ((h.octets ++ piece) ++ rest)) rest);
    }

some_is : (a b : List ℕ) → ◌≡◌ {A = Option (List ℕ)} (Some a) (Some b) → a ≡ b
some_is a b same = cc same

too_many : (at now read : ℕ) (piece more rest front begun : List ℕ) → ◌≡◌ {A = Option (List ℕ)} (Some (drop at piece ++ more)) (Some rest) → length front ≡ read → now ≡ read + length begun → most_streamed < now + (length piece - at)
    → most_streamed < length (front ++ (begun ++ rest))
too_many at now read piece more rest front begun told size counted past =
    omega (arith, past, size, counted, length-append front (begun ++ rest), length-append begun rest, ap length (some_is (drop at piece ++ more) rest told), length-append (drop at piece) more, length-drop at piece)

-- the source failed, or gave more than a stream has
pub not_filled : (StandsAt : List ℕ → Type 0) (rule : Rule) (shape : Shape) (refusal : Refusal) (read now at : ℕ) (left : Option (List ℕ)) (piece : List ℕ) (source : Option (List ℕ))
    → HasBegun StandsAt rule shape read now left (unread at piece source) → (refusal ≡ SourceFault) ⊎ (refusal ≡ StreamTooLong) → (refusal ≡ StreamTooLong → most_streamed < now + (length piece - at))
    → IsStop rule shape refusal read left (unread at piece source)
not_filled StandsAt rule shape refusal read now at left piece source b (inl failed) long = record {
  begun = b.octets;
  taken = b.taken;
  none = b.unfinished.none;
  refused = right_anyway rule shape refusal read left (unread at piece source) b.octets b.taken (λ rest front _ _.
      subst (λ r. Refuses rule shape r (front ++ (b.octets ++ rest)) (b.octets ++ rest)) (sym failed)
      (refuses_plainly rule shape SourceFault (front ++ (b.octets ++ rest)) (b.octets ++ rest) (λ x. x) (other SourceFault StreamTooLong (λ x. omega (arith, x)))));
}
not_filled StandsAt rule shape refusal read now at left piece None b (inr past) long = record {
  begun = b.octets;
  taken = b.taken;
  none = b.unfinished.none;
  refused = right_anyway rule shape refusal read left None b.octets b.taken (λ rest front told _. absurd (cc told));
}
not_filled StandsAt rule shape refusal read now at left piece (Some more) b (inr past) long = record {
  begun = b.octets;
  taken = b.taken;
  none = b.unfinished.none;
  refused = right_anyway rule shape refusal read left (Some (drop at piece ++ more)) b.octets b.taken (λ rest front told size.
      subst (λ r. Refuses rule shape r (front ++ (b.octets ++ rest)) (b.octets ++ rest)) (sym past) (record {
        begun = λ x. absurd x;
        none = λ x. absurd x;
        never = λ x. absurd x;
        strict = λ x. absurd (other StreamTooLong NotCanonical (λ n. omega (arith, n)) x);
        by_ber = λ x. absurd (other StreamTooLong NotCanonical (λ n. omega (arith, n)) x);
        stream_limit = λ _. too_many at now read piece more rest front b.octets told size b.counted (long past);
      }));
}

-- the source ended within a value
pub ends_within : (StandsAt : List ℕ → Type 0) (rule : Rule) (shape : Shape) (refusal : Refusal) (read now : ℕ) (left left_new : Option (List ℕ))
    → HasBegun StandsAt rule shape read now left left_new → IsAtEnd left_new → ((octets : List ℕ) → StandsAt octets → (refusal ≡ Truncated) × (octets ≢ [])) → IsStop rule shape refusal read left left_new
ends_within StandsAt rule shape refusal read now left left_new b end finished =
    let f = finished b.octets b.unfinished.stands in
    let all_is : (rest : List ℕ) → left_new ≡ Some rest → b.octets ++ rest ≡ b.octets = λ rest told. ap (λ x. b.octets ++ x) (subst IsAtEnd told end) ∙ append-nil b.octets in
    record {
      begun = b.octets;
      taken = b.taken;
      none = b.unfinished.none;
      refused = right_anyway rule shape refusal read left left_new b.octets b.taken (λ rest front told _.
          subst (λ r. Refuses rule shape r (front ++ (b.octets ++ rest)) (b.octets ++ rest)) (sym f.0) (record {
            begun = λ _ none. f.1 (sym (all_is rest told) ∙ none);
            none = λ _. subst (λ octets. ¬ HasFront (IsSomeAccepted rule shape) octets) (sym (all_is rest told)) b.unfinished.none;
            never = λ x. absurd x;
            strict = λ x. absurd (other Truncated NotCanonical (λ n. omega (arith, n)) x);
            by_ber = λ x. absurd (other Truncated NotCanonical (λ n. omega (arith, n)) x);
            stream_limit = λ x. absurd (other Truncated StreamTooLong (λ n. omega (arith, n)) x);
          }));
    }

-- the source ended, and nothing of it was begun
pub ended_before : (left left_new : Option (List ℕ)) (begun : List ℕ) → begun ≡ [] → Consumes left left_new begun → IsAtEnd left_new → IsAtEnd left
ended_before None left_new begun none taken end = tt
ended_before (Some rest) None begun none taken end = absurd taken
ended_before (Some rest) (Some more) begun none taken end = taken ∙ ap (λ x. x ++ more) none ∙ end
