-- A call over a stream, read by read, and what it then has done.
use Rattle.std.proofs.Common.{◌≡◌, ◌≢◌, ℕ, ◌+◌, ◌≤◌, ◌<◌, List, [], ◌++◌, length, Option, None, Some, refl, sym, ap, ◌∙◌, arith, length-append, append-nil, subst}
use Rattle.std.specs.Prelude.{IfSome, IfOk, IfErr, Result, Ok, Err}
use Rattle.engine.specs.Rule.{canonical_rule_of}
use Rattle.engine.specs.declared.stopped.Stopped.{Stopped}
use Rattle.std.specs.Io.KnownBytes.{Appends, Consumes, Keeps, IsAtEnd}
use Rattle.octets.specs.declared.canonical.Canonical.{Canonical}
use Rattle.octets.specs.Front.{HasFront}
use Rattle.octets.specs.Rule.{Rule, ber, IsCanonical}
use Rattle.types.specs.declared.refusal.Refusal.{Refusal}
use Rattle.types.specs.declared.refusal.Refusal.TheVariants.{Truncated, NotCanonical, StreamTooLong, OutputTooLong, SourceFault, SinkFault}
use Rattle.types.specs.Encoding.{Meaning, IsAccepted, IsSomeAccepted}
use Rattle.types.specs.Shape.{Shape}
use Rattle.types.specs.Stream.{IsStream}
use Rattle.types.specs.WellFormed.{IsWellFormed}
use Rattle.octets.proofs.RuleLemmas.{rule_is_canonical}
use Rattle.types.proofs.ZipLemmas.{zip_map}
use Rattle.strict.proofs.StrictLemmas.{as_ber}
use Rattle.devices.proofs.DeviceLemmas.{appends_none, consumes_none, appends_more, consumes_more, consumes_keeps}
use Rattle.engine.specs.Stream.{most_streamed, AreWritten, IsLine, IsConverted, IsChecked, IsListed, IsStopped, IsCheckStopped, Refuses, RefusesToWrite, OfStream}
use Rattle.engine.specs.Feeding.{IsUnfinished}
use Rattle.engine.specs.Given.{HasGiven}
use Rattle.engine.specs.Passing.{Writes, PassesOn, StopsPassing, StandsAfter}
use Rattle.engine.proofs.StreamLemmas.{written_is_stream}
use Rattle.engine.proofs.PassingLemmas.{writes_none, writes_on, writes_before, refuses_plainly, other}

-- before the first read
pub starts : (StandsAt : List ℕ → Type 0) (rule : Rule) (shape : Shape) (Stands : Meaning) (left taken : Option (List ℕ)) → StandsAt [] → StandsAfter StandsAt rule shape Stands 0 0 left left taken taken
starts StandsAt rule shape Stands left taken fresh =
    record { given = []; written = []; rest = []; gives = consumes_none left; takes = appends_none taken; writes = writes_none rule shape Stands []; stands = fresh; size = refl }

-- behind a piece that was passed on
pub goes_on : (StandsAt StandsNow : List ℕ → Type 0) (rule : Rule) (shape : Shape) (Stands : Meaning) (done now total sum : ℕ) (left left_old left_new taken taken_old taken_new : Option (List ℕ)) (piece : List ℕ)
    → StandsAfter StandsAt rule shape Stands done total left left_old taken taken_old → Consumes left_old left_new piece → sum ≡ total + length piece
    → ((old : List ℕ) → StandsAt old → PassesOn StandsNow rule shape Stands done now (old ++ piece) taken_old taken_new) → StandsAfter StandsNow rule shape Stands now sum left left_new taken taken_new
goes_on StandsAt StandsNow rule shape Stands done now total sum left left_old left_new taken taken_old taken_new piece s gives sum_is passes =
    let p = passes s.rest s.stands in
    record {
      given = s.given ++ piece;
      written = s.written ++ p.written;
      rest = p.rest;
      gives = consumes_more left left_old left_new s.given piece s.gives gives;
      takes = appends_more taken taken_old taken_new s.written p.written (s.written ++ p.written) s.takes p.takes refl;
      writes = subst (λ n. Writes rule shape Stands n (s.given ++ piece) p.rest (s.written ++ p.written) []) (sym p.counted)
          (writes_on rule shape Stands s.given s.written s.rest piece p.written [] p.rest done p.count s.writes p.writes);
      stands = p.stands;
      size = length-append s.given piece ∙ ap (λ n. n + length piece) s.size ∙ sym sum_is;
    }

-- the call stopped: what was given is a front of the stream, and the refusal is right of what is left
stopped : (rule : Rule) (shape : Shape) (Stands : Meaning) (done : ℕ) (refusal : Refusal) (left left_new taken taken_new : Option (List ℕ)) (given rest written part : List ℕ)
    → Consumes left left_new given → Appends taken taken_new written → Writes rule shape Stands done given rest written part
    → ((more : List ℕ) → left_new ≡ Some more → Refuses rule shape refusal (given ++ more) (rest ++ more)) → ((more : List ℕ) → left_new ≡ Some more → RefusesToWrite rule shape Stands refusal (rest ++ more) part)
    → OfStream left taken taken_new (IsStopped Stands rule shape done refusal)
stopped rule shape Stands done refusal None left_new taken taken_new given rest written part gives takes writes refused unwritten = tt
stopped rule shape Stands done refusal (Some stream) None taken taken_new given rest written part gives takes writes refused unwritten = absurd gives
stopped rule shape Stands done refusal (Some stream) (Some more) taken taken_new given rest written part gives takes writes refused unwritten =
    let w = writes_before rule shape Stands given written rest more part done writes in (
      written,
      takes,
      subst (λ octets. IsStopped Stands rule shape done refusal octets written) (sym gives) (record {
        values = w.values;
        counted = w.counted;
        rest = rest ++ more;
        part = part;
        read = w.read;
        put = w.put;
        refused = refused more refl;
        unwritten = unwritten more refl;
      }),
    )

-- a refusal that says nothing of what is written
pub writes_no_part : (rule : Rule) (shape : Shape) (Stands : Meaning) (refusal : Refusal) (rest : List ℕ) → refusal ≢ OutputTooLong → refusal ≢ SinkFault → RefusesToWrite rule shape Stands refusal rest []
writes_no_part rule shape Stands refusal rest not_too_long not_cut = record { too_long = λ h. absurd (not_too_long h); cut = λ h. absurd (not_cut h); whole = λ _. refl }

-- a piece was not passed on whole
pub stops : (StandsAt : List ℕ → Type 0) (rule : Rule) (shape : Shape) (Stands : Meaning) (before done total : ℕ) (refusal : Refusal) (left left_old left_new taken taken_old taken_new : Option (List ℕ)) (piece : List ℕ)
    → StandsAfter StandsAt rule shape Stands before total left left_old taken taken_old → Consumes left_old left_new piece
    → ((old : List ℕ) → StandsAt old → StopsPassing rule shape Stands before done refusal (old ++ piece) taken_old taken_new) → OfStream left taken taken_new (IsStopped Stands rule shape done refusal)
stops StandsAt rule shape Stands before done total refusal left left_old left_new taken taken_old taken_new piece s gives passes =
    let p = passes s.rest s.stands in
    stopped rule shape Stands done refusal left left_new taken taken_new (s.given ++ piece) p.rest (s.written ++ p.written) p.part
    (consumes_more left left_old left_new s.given piece s.gives gives)
    (appends_more taken taken_old taken_new s.written p.written (s.written ++ p.written) s.takes p.takes refl)
    (subst (λ n. Writes rule shape Stands n (s.given ++ piece) p.rest (s.written ++ p.written) p.part) (sym p.counted)
    (writes_on rule shape Stands s.given s.written s.rest piece p.written p.part p.rest before p.count s.writes p.writes))
    (λ more _. p.stops.refused ((s.given ++ piece) ++ more) more)
    (λ more _. p.stops.unwritten more)

-- the source failed
pub source_fails : (StandsAt : List ℕ → Type 0) (rule : Rule) (shape : Shape) (Stands : Meaning) (done total : ℕ) (left left_old left_new taken taken_old : Option (List ℕ))
    → StandsAfter StandsAt rule shape Stands done total left left_old taken taken_old → Keeps left_old left_new → OfStream left taken taken_old (IsStopped Stands rule shape done SourceFault)
source_fails StandsAt rule shape Stands done total left left_old left_new taken taken_old s keeps =
    stopped rule shape Stands done SourceFault left left_new taken taken_old s.given s.rest s.written [] (consumes_keeps left left_old left_new s.given s.gives keeps) s.takes s.writes
    (λ more _. refuses_plainly rule shape SourceFault (s.given ++ more) (s.rest ++ more) (λ h. h) (other SourceFault StreamTooLong (λ h. omega (arith, h))))
    (λ more _. writes_no_part rule shape Stands SourceFault (s.rest ++ more) (other SourceFault OutputTooLong (λ h. omega (arith, h))) (other SourceFault SinkFault (λ h. omega (arith, h))))

-- what it gave before
pub has_given : (StandsAt : List ℕ → Type 0) (rule : Rule) (shape : Shape) (Stands : Meaning) (done total : ℕ) (left left_old left_new taken taken_old : Option (List ℕ))
    → StandsAfter (IsUnfinished StandsAt rule shape) rule shape Stands done total left left_old taken taken_old → Keeps left_old left_new → HasGiven rule shape done left left_new
has_given StandsAt rule shape Stands done total left left_old left_new taken taken_old s keeps = record {
  given = s.given;
  values = s.writes.values;
  rest = s.rest;
  gives = consumes_keeps left left_old left_new s.given s.gives keeps;
  counted = s.writes.counted;
  read = s.writes.read;
  none = s.stands.none;
}

-- the source gave more than a stream has
pub too_long : (StandsAt : List ℕ → Type 0) (rule : Rule) (shape : Shape) (Stands : Meaning) (done total : ℕ) (left left_old left_new taken taken_old : Option (List ℕ)) (piece : List ℕ)
    → StandsAfter StandsAt rule shape Stands done total left left_old taken taken_old → Consumes left_old left_new piece → most_streamed < total + length piece → OfStream left taken taken_old (IsStopped Stands rule shape done StreamTooLong)
too_long StandsAt rule shape Stands done total left left_old left_new taken taken_old piece s gives past =
    stopped rule shape Stands done StreamTooLong left left_new taken taken_old (s.given ++ piece) (s.rest ++ piece) s.written [] (consumes_more left left_old left_new s.given piece s.gives gives) s.takes
    (writes_before rule shape Stands s.given s.written s.rest piece [] done s.writes)
    (λ more _. record {
      begun = λ h. absurd h;
      none = λ h. absurd h;
      never = λ h. absurd h;
      strict = λ h. absurd (other StreamTooLong NotCanonical (λ n. omega (arith, n)) h);
      by_ber = λ h. absurd (other StreamTooLong NotCanonical (λ n. omega (arith, n)) h);
      stream_limit = λ _. omega (arith, past, s.size, length-append (s.given ++ piece) more, length-append s.given piece);
    })
    (λ more _. writes_no_part rule shape Stands StreamTooLong ((s.rest ++ piece) ++ more) (other StreamTooLong OutputTooLong (λ h. omega (arith, h))) (other StreamTooLong SinkFault (λ h. omega (arith, h))))

-- the source ended within a value
pub ends_early : (StandsAt : List ℕ → Type 0) (rule : Rule) (shape : Shape) (Stands : Meaning) (done total : ℕ) (left left_old left_new taken taken_old : Option (List ℕ))
    → StandsAfter StandsAt rule shape Stands done total left left_old taken taken_old → Consumes left_old left_new [] → IsAtEnd left_new
    → ((old : List ℕ) → StandsAt old → (old ≢ []) × ¬ HasFront (IsSomeAccepted rule shape) old) → OfStream left taken taken_old (IsStopped Stands rule shape done Truncated)
ends_early StandsAt rule shape Stands done total left left_old left_new taken taken_old s gives end within =
    let o = within s.rest s.stands in
    let all_is : (more : List ℕ) → left_new ≡ Some more → s.rest ++ more ≡ s.rest = λ more told. ap (λ x. s.rest ++ x) (subst IsAtEnd told end) ∙ append-nil s.rest in
    stopped rule shape Stands done Truncated left left_new taken taken_old s.given s.rest s.written []
    (subst (Consumes left left_new) (append-nil s.given) (consumes_more left left_old left_new s.given [] s.gives gives)) s.takes s.writes
    (λ more told. record {
      begun = λ _ h. o.0 (sym (all_is more told) ∙ h);
      none = λ _. subst (λ octets. ¬ HasFront (IsSomeAccepted rule shape) octets) (sym (all_is more told)) o.1;
      never = λ h. absurd h;
      strict = λ h. absurd (other Truncated NotCanonical (λ n. omega (arith, n)) h);
      by_ber = λ h. absurd (other Truncated NotCanonical (λ n. omega (arith, n)) h);
      stream_limit = λ h. absurd (other Truncated StreamTooLong (λ n. omega (arith, n)) h);
    })
    (λ more _. writes_no_part rule shape Stands Truncated (s.rest ++ more) (other Truncated OutputTooLong (λ h. omega (arith, h))) (other Truncated SinkFault (λ h. omega (arith, h))))

-- what was given up to the end is the whole stream
pub whole_stream : (rule : Rule) (shape : Shape) (Stands : Meaning) (done : ℕ) (left left_new taken taken_new : Option (List ℕ)) (given written : List ℕ)
    → Consumes left left_new given → IsAtEnd left_new → Appends taken taken_new written → Writes rule shape Stands done given [] written [] → length given ≤ most_streamed
    → OfStream left taken taken_new (λ stream all. Writes rule shape Stands done stream [] all [] × (length stream ≤ most_streamed))
whole_stream rule shape Stands done None left_new taken taken_new given written gives end takes writes within = tt
whole_stream rule shape Stands done (Some stream) None taken taken_new given written gives end takes writes within = absurd gives
whole_stream rule shape Stands done (Some stream) (Some more) taken taken_new given written gives end takes writes within =
    let all_is : stream ≡ given = gives ∙ ap (λ x. given ++ x) end ∙ append-nil given in
    (written, takes, subst (λ octets. Writes rule shape Stands done octets [] written [] × (length octets ≤ most_streamed)) (sym all_is) (writes, within))

-- the source ended between two values, and all of the stream is done
pub ends : (StandsAt : List ℕ → Type 0) (rule : Rule) (shape : Shape) (Stands : Meaning) (done total : ℕ) (left left_old left_new taken taken_old : Option (List ℕ))
    → StandsAfter StandsAt rule shape Stands done total left left_old taken taken_old → Consumes left_old left_new [] → IsAtEnd left_new → ((old : List ℕ) → StandsAt old → old ≡ []) → total ≤ most_streamed
    → OfStream left taken taken_old (λ stream written. Writes rule shape Stands done stream [] written [] × (length stream ≤ most_streamed))
ends StandsAt rule shape Stands done total left left_old left_new taken taken_old s gives end none within =
    whole_stream rule shape Stands done left left_new taken taken_old s.given s.written
    (subst (Consumes left left_new) (append-nil s.given) (consumes_more left left_old left_new s.given [] s.gives gives)) end s.takes
    (subst (λ rest. Writes rule shape Stands done s.given rest s.written []) (none s.rest s.stands) s.writes)
    (omega (arith, s.size, within))

-- what follows of what a call did
pub of_stream : (P Q : List ℕ → List ℕ → Type 0) (left taken taken_new : Option (List ℕ)) → ((stream written : List ℕ) → P stream written → Q stream written) → OfStream left taken taken_new P → OfStream left taken taken_new Q
of_stream P Q None taken taken_new follows h = tt
of_stream P Q (Some stream) taken taken_new follows h = (h.0, h.1, follows stream h.0 h.2)

pub of_source : (P : List ℕ → List ℕ → Type 0) (Q : List ℕ → Type 0) (left taken taken_new : Option (List ℕ)) → ((stream written : List ℕ) → P stream written → Q stream) → OfStream left taken taken_new P → IfSome left Q
of_source P Q None taken taken_new follows h = tt
of_source P Q (Some stream) taken taken_new follows h = follows stream h.0 h.2

-- what was done of a whole stream
abbrev pub checked : (rule : Rule) (shape : Shape) (Stands : Meaning) (count : ℕ) (stream written : List ℕ) → Writes rule shape Stands count stream [] written [] → length stream ≤ most_streamed → IsChecked rule shape count stream
checked rule shape Stands count stream written w within =
    record { values = w.values; counted = w.counted; read = subst (IsStream rule shape w.values) (sym (w.read.whole ∙ append-nil w.read.front)) w.read.read; size = within }

pub listed : (IsText : Meaning) (rule : Rule) (shape : Shape) (count : ℕ) (stream written : List ℕ) → Writes rule shape (IsLine IsText) count stream [] written [] → length stream ≤ most_streamed → IsListed IsText rule shape count stream written
listed IsText rule shape count stream written w within = record {
  checked = checked rule shape (IsLine IsText) count stream written w within;
  put = subst (AreWritten (IsLine IsText) w.values) (sym (w.put.whole ∙ append-nil w.put.front)) w.put.put;
}

pub converted : (from to : Rule) (shape : Shape) (count : ℕ) (stream written : List ℕ) → IsWellFormed shape → IsCanonical to → Writes from shape (IsAccepted to shape) count stream [] written [] → length stream ≤ most_streamed
    → IsConverted from to shape count stream written
converted from to shape count stream written well canonical w within =
    let put : IsStream to shape w.values written = subst (IsStream to shape w.values) (sym (w.put.whole ∙ append-nil w.put.front)) (written_is_stream to shape w.values w.put.front w.put.put) in
    let all = checked from shape (IsAccepted to shape) count stream written w within in
    record {
      values = w.values;
      counted = w.counted;
      read = all.read;
      put = put;
      again = record { encodings = put.encodings; each = zip_map (IsAccepted to shape) (IsAccepted ber shape) (λ v octets. as_ber to shape v octets well canonical) w.values put.encodings put.each; whole = put.whole };
      size = within;
    }

-- a call that writes nothing stopped
pub check_stopped : (Stands : Meaning) (rule : Rule) (shape : Shape) (done : ℕ) (refusal : Refusal) (stream written : List ℕ) → IsStopped Stands rule shape done refusal stream written → IsCheckStopped rule shape done refusal stream
check_stopped Stands rule shape done refusal stream written h = record { values = h.values; counted = h.counted; rest = h.rest; read = h.read; refused = h.refused }

-- of what was returned
pub all_converted : (from : Rule) (to : Canonical) (shape : Shape) {E : Type 0} (r : Result ℕ E) (left taken taken_new : Option (List ℕ)) → IsWellFormed shape
    → IfOk r (λ done. OfStream left taken taken_new (λ stream written. Writes from shape (IsAccepted (canonical_rule_of to) shape) done stream [] written [] × (length stream ≤ most_streamed)))
    → IfOk r (λ done. OfStream left taken taken_new (IsConverted from (canonical_rule_of to) shape done))
all_converted from to shape (Err e) left taken taken_new well h = tt
all_converted from to shape (Ok done) left taken taken_new well h =
    of_stream _ (IsConverted from (canonical_rule_of to) shape done) left taken taken_new (λ stream written w. converted from (canonical_rule_of to) shape done stream written well (rule_is_canonical to) w.0 w.1) h

pub all_listed : (IsText : Meaning) (from : Rule) (shape : Shape) {E : Type 0} (r : Result ℕ E) (left taken taken_new : Option (List ℕ))
    → IfOk r (λ done. OfStream left taken taken_new (λ stream written. Writes from shape (IsLine IsText) done stream [] written [] × (length stream ≤ most_streamed)))
    → IfOk r (λ done. OfStream left taken taken_new (IsListed IsText from shape done))
all_listed IsText from shape (Err e) left taken taken_new h = tt
all_listed IsText from shape (Ok done) left taken taken_new h =
    of_stream _ (IsListed IsText from shape done) left taken taken_new (λ stream written w. listed IsText from shape done stream written w.0 w.1) h

pub all_checked : (Stands : Meaning) (from : Rule) (shape : Shape) {E : Type 0} (r : Result ℕ E) (left taken taken_new : Option (List ℕ))
    → IfOk r (λ done. OfStream left taken taken_new (λ stream written. Writes from shape Stands done stream [] written [] × (length stream ≤ most_streamed)))
    → IfOk r (λ done. IfSome left (IsChecked from shape done))
all_checked Stands from shape (Err e) left taken taken_new h = tt
all_checked Stands from shape (Ok done) left taken taken_new h =
    of_source _ (IsChecked from shape done) left taken taken_new (λ stream written w. checked from shape Stands done stream written w.0 w.1) h

pub all_check_stopped : (Stands : Meaning) (from : Rule) (shape : Shape) (r : Result ℕ Stopped) (left taken taken_new : Option (List ℕ))
    → IfErr r (λ stopped. OfStream left taken taken_new (IsStopped Stands from shape stopped.done stopped.refusal))
    → IfErr r (λ stopped. IfSome left (IsCheckStopped from shape stopped.done stopped.refusal))
all_check_stopped Stands from shape (Ok done) left taken taken_new h = tt
all_check_stopped Stands from shape (Err stopped) left taken taken_new h =
    of_source _ (IsCheckStopped from shape stopped.done stopped.refusal) left taken taken_new (λ stream written w. check_stopped Stands from shape stopped.done stopped.refusal stream written w) h
