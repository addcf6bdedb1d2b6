-- What is gathered and passed on of a piece, batch by batch.
use Rattle.std.proofs.Common.{◌≡◌, ℕ, ◌+◌, ◌≤◌, List, [], ◌-◌, ◌++◌, length, take, drop, refl, sym, ap, ◌∙◌, append_assoc, arith, length-append, length-drop, append-nil, subst, take-append-drop, Option, None, Some, Result, Ok, Err}
use Rattle.std.specs.Prelude.{IfOk, IfErr, MatchOption}
use Rattle.std.specs.List.{concat}
use Rattle.std.proofs.lemmas.List.{append_cancel_right, length_push, take_all, drop-drop}
use Rattle.octets.specs.Rule.{Rule, ber}
use Rattle.types.specs.declared.refusal.Refusal.{Refusal}
use Rattle.types.specs.declared.value.Value.{Value}
use Rattle.types.specs.Conforms.{Conforms}
use Rattle.types.specs.Encoding.{Meaning, IsAccepted}
use Rattle.types.specs.Shape.{Shape}
use Rattle.types.specs.View.{value_view}
use Rattle.canon.proofs.PartLemmas.{take_two}
use Rattle.devices.proofs.DeviceLemmas.{appends_none, appends_more}
use Rattle.engine.specs.declared.any_reader.AnyReader.{AnyReader}
use Rattle.engine.specs.AnyReader.{read_rule}
use Rattle.engine.specs.Feeding.{IsUnfinished}
use Rattle.engine.specs.Passing.{AreAdded, AreLeavesAdded, Awaits, Gathers, HasGathered, HasNotPassed, HasPassed, IsAdded, StopsGathering, Writes}
use Rattle.engine.specs.Putting.{IsFirst}
use Rattle.engine.proofs.FeedingLemmas.{HasCompleted, accepted_conforms, cut_piece}
use Rattle.engine.proofs.PassingLemmas.{gathers_more, writes_none, writes_on}
use Rattle.engine.proofs.StrictReaderLemmas.{some_taken}

-- octets behind those that were gathered, not yet looked at
pub gathers_before : (rule : Rule) (shape : Shape) (Stands : Meaning) (octets rest more batch lengths : List ℕ) → Gathers rule shape Stands octets rest batch lengths → Gathers rule shape Stands (octets ++ more) (rest ++ more) batch lengths
gathers_before rule shape Stands octets rest more batch lengths g = record {
  values = g.values;
  encodings = g.encodings;
  parts = g.parts;
  read = g.read;
  put = g.put;
  octets_are = ap (λ x. x ++ more) g.octets_are ∙ append_assoc (concat g.encodings) rest more;
  batch_is = g.batch_is;
  lengths_are = g.lengths_are;
}

-- and without them
gathers_front : (rule : Rule) (shape : Shape) (Stands : Meaning) (octets rest more batch lengths : List ℕ) → Gathers rule shape Stands (octets ++ more) (rest ++ more) batch lengths → Gathers rule shape Stands octets rest batch lengths
gathers_front rule shape Stands octets rest more batch lengths g = record {
  values = g.values;
  encodings = g.encodings;
  parts = g.parts;
  read = g.read;
  put = g.put;
  octets_are = append_cancel_right octets (concat g.encodings ++ rest) more (g.octets_are ∙ sym (append_assoc (concat g.encodings) rest more));
  batch_is = g.batch_is;
  lengths_are = g.lengths_are;
}

-- the front of a piece, behind which this is left
pub gathered_front : (StandsAt : List ℕ → Type 0) (rule : Rule) (shape : Shape) (Stands : Meaning) (old piece batch lengths now left : List ℕ) (used : ℕ) → left ≡ drop used piece
    → IsUnfinished StandsAt rule shape now → Gathers rule shape Stands (old ++ piece) (now ++ left) batch lengths → HasGathered (IsUnfinished StandsAt rule shape) rule shape Stands (old ++ take used piece) batch lengths
gathered_front StandsAt rule shape Stands old piece batch lengths now left used behind unfinished g = record {
  rest = now;
  gathers = gathers_front rule shape Stands (old ++ take used piece) now left batch lengths (subst (λ octets. Gathers rule shape Stands octets (now ++ left) batch lengths) (cut_piece old piece left used behind) g);
  stands = unfinished;
}

-- a piece of which all was taken
pub gathered_whole : (StandsAt : List ℕ → Type 0) (rule : Rule) (shape : Shape) (Stands : Meaning) (old piece batch lengths : List ℕ) → HasGathered StandsAt rule shape Stands (old ++ piece) batch lengths → HasGathered StandsAt rule shape Stands (old ++ take (length piece) piece) batch lengths
gathered_whole StandsAt rule shape Stands old piece batch lengths g =
    subst (λ octets. HasGathered StandsAt rule shape Stands (old ++ octets) batch lengths) (sym (take_all (length piece) piece (omega arith))) g

-- all of a piece is left, and nothing before it
pub left_whole : (piece : List ℕ) → piece ≡ drop (length piece - length piece) piece
left_whole piece =
    let none : 0 ≡ length piece - length piece = omega arith in
    ap (λ n. drop n piece) none

pub front_none : (piece : List ℕ) → take (length piece - length piece) piece ≡ []
front_none piece =
    let none : length piece - length piece ≡ 0 = omega arith in
    ap (λ n. take n piece) none

-- what is left behind so many more octets
pub left_further : (piece left behind : List ℕ) (used : ℕ) → left ≡ drop (length piece - length left) piece → length left ≤ length piece → used ≤ length left → behind ≡ drop used left → behind ≡ drop (length piece - length behind) piece
left_further piece left behind used is within there back =
    let before = length piece - length left in
    back ∙ ap (drop used) is ∙ drop-drop used before piece ∙ ap (λ n. drop n piece) (omega (arith, within, there, ap length back, length-drop used left))

-- and the front before it
pub front_further : (piece left behind : List ℕ) (used : ℕ) → left ≡ drop (length piece - length left) piece → length left ≤ length piece → used ≤ length left → behind ≡ drop used left → take (length piece - length left) piece ++ take used left ≡ take (length piece - length behind) piece
front_further piece left behind used is within there back =
    let before = length piece - length left in
    ap (λ rest. take before piece ++ take used rest) is ∙ sym (take_two before used piece) ∙ ap (λ n. take n piece) (omega (arith, within, there, ap length back, length-drop used left))

-- both are the piece
pub front_and_left : (piece left : List ℕ) → left ≡ drop (length piece - length left) piece → take (length piece - length left) piece ++ left ≡ piece
front_and_left piece left is =
    let before = length piece - length left in
    ap (λ rest. take before piece ++ rest) is ∙ take-append-drop before piece

-- what was gathered of the front of a piece is of the whole piece
gathers_of_piece : (rule : Rule) (shape : Shape) (Stands : Meaning) (old piece batch lengths : List ℕ) (used : ℕ) → (rest : List ℕ) × Gathers rule shape Stands (old ++ take used piece) rest batch lengths → (rest : List ℕ) × Gathers rule shape Stands (old ++ piece) rest batch lengths
gathers_of_piece rule shape Stands old piece batch lengths used g =
    let more = drop used piece in (
      g.0 ++ more,
      subst (λ octets. Gathers rule shape Stands octets (g.0 ++ more) batch lengths) (sym (cut_piece old piece more used refl)) (gathers_before rule shape Stands (old ++ take used piece) g.0 more batch lengths g.1),
    )

-- so it is whether the piece was refused or not
pub gathers_anyway : (r : Result ℕ Refusal) (rule : Rule) (shape : Shape) (Stands : Meaning) (StandsOld StandsAt : List ℕ → Type 0) (old piece batch lengths : List ℕ)
    → IfOk r (λ used. (old : List ℕ) → StandsOld old → HasGathered StandsAt rule shape Stands (old ++ take used piece) batch lengths) → IfErr r (λ refusal. (old : List ℕ) → StandsOld old → StopsGathering rule shape Stands refusal (old ++ piece) batch lengths)
    → StandsOld old → (rest : List ℕ) × Gathers rule shape Stands (old ++ piece) rest batch lengths
gathers_anyway (Ok used) rule shape Stands StandsOld StandsAt old piece batch lengths ok err unfinished =
    let g = ok old unfinished in
    gathers_of_piece rule shape Stands old piece batch lengths used (g.rest, g.gathers)
gathers_anyway (Err refusal) rule shape Stands StandsOld StandsAt old piece batch lengths ok err unfinished =
    let g = err old unfinished in
    (g.rest, g.gathers)

-- nothing of a piece was passed on yet
pub passed_none : (shape : Shape) (Stands : Meaning) (reader : AnyReader) (done : ℕ) (front : List ℕ) (taken : Option (List ℕ)) → front ≡ [] → HasPassed shape Stands reader reader done done front taken taken
passed_none shape Stands reader done front taken none = record {
  same_rule = refl;
  passed = λ old unfinished. record {
    rest = old;
    written = [];
    count = 0;
    counted = omega arith;
    takes = appends_none taken;
    writes = subst (λ octets. Writes (read_rule reader) shape Stands 0 octets old [] []) (sym (ap (λ x. old ++ x) none ∙ append-nil old)) (writes_none (read_rule reader) shape Stands old);
    stands = unfinished;
  };
  few = omega arith;
}

-- all of it was
pub passed_whole : (shape : Shape) (Stands : Meaning) (old new : AnyReader) (before now : ℕ) (front piece : List ℕ) (taken_old taken_new : Option (List ℕ)) → front ≡ piece
    → HasPassed shape Stands old new before now front taken_old taken_new → HasPassed shape Stands old new before now piece taken_old taken_new
passed_whole shape Stands old new before now front piece taken_old taken_new same = subst (λ octets. HasPassed shape Stands old new before now octets taken_old taken_new) same

-- one batch more
pub passed_on : (shape : Shape) (Stands : Meaning) (old mid new : AnyReader) (before done now : ℕ) (front more piece : List ℕ) (taken_old taken taken_new : Option (List ℕ)) → front ++ more ≡ piece
    → HasPassed shape Stands old mid before done front taken_old taken → HasPassed shape Stands mid new done now more taken taken_new → HasPassed shape Stands old new before now piece taken_old taken_new
passed_on shape Stands old mid new before done now front more piece taken_old taken taken_new whole p q = record {
  same_rule = q.same_rule ∙ p.same_rule;
  passed = λ at unfinished.
      let f = p.passed at unfinished in
      let s = (rw p.same_rule at q.passed) f.rest f.stands in
      record {
        rest = s.rest;
        written = f.written ++ s.written;
        count = f.count + s.count;
        counted = omega (arith, f.counted, s.counted);
        takes = appends_more taken_old taken taken_new f.written s.written (f.written ++ s.written) f.takes s.takes refl;
        writes = subst (λ octets. Writes (read_rule old) shape Stands (f.count + s.count) octets s.rest (f.written ++ s.written) []) (append_assoc at front more ∙ ap (λ octets. at ++ octets) whole)
            (writes_on (read_rule old) shape Stands (at ++ front) f.written f.rest more s.written [] s.rest f.count s.count f.writes s.writes);
        stands = s.stands;
      };
  few = omega (arith, p.few, q.few, length-append front more, ap length whole);
}

-- the rest was not passed on whole
pub not_passed_on : (shape : Shape) (Stands : Meaning) (CanBeTooLong : Type 0) (old mid : AnyReader) (before now done : ℕ) (refusal : Refusal) (front more piece : List ℕ) (taken_old taken taken_new : Option (List ℕ)) → front ++ more ≡ piece
    → HasPassed shape Stands old mid before now front taken_old taken → HasNotPassed shape Stands CanBeTooLong mid now done refusal more taken taken_new
    → HasNotPassed shape Stands CanBeTooLong old before done refusal piece taken_old taken_new
not_passed_on shape Stands CanBeTooLong old mid before now done refusal front more piece taken_old taken taken_new whole p q = record {
  stopped = λ at unfinished.
      let f = p.passed at unfinished in
      let s = (rw p.same_rule at q.stopped) f.rest f.stands in
      record {
        rest = s.rest;
        written = f.written ++ s.written;
        part = s.part;
        count = f.count + s.count;
        counted = omega (arith, f.counted, s.counted);
        takes = appends_more taken_old taken taken_new f.written s.written (f.written ++ s.written) f.takes s.takes refl;
        writes = subst (λ octets. Writes (read_rule old) shape Stands (f.count + s.count) octets s.rest (f.written ++ s.written) s.part) (append_assoc at front more ∙ ap (λ octets. at ++ octets) whole)
            (writes_on (read_rule old) shape Stands (at ++ front) f.written f.rest more s.written s.part s.rest f.count s.count f.writes s.writes);
        stops = s.stops;
      };
  source = q.source;
  long = q.long;
  numbers = rw p.same_rule at q.numbers;
}

-- what is gathered goes on behind the value in the slot, which is added
pub added_more : (rule : Rule) (shape : Shape) (Stands : Meaning) (stream rest octets octets_new lengths lengths_new : List ℕ) (value : Value) → IsAdded (Stands (value_view value)) octets octets_new lengths lengths_new
    → Awaits rule shape Stands stream (Some value) rest octets lengths → Gathers rule shape Stands stream rest octets_new lengths_new
added_more rule shape Stands stream rest octets octets_new lengths lengths_new value added awaits =
    gathers_more rule shape Stands (value_view value) stream (awaits.encoding ++ rest) octets lengths awaits.encoding rest added.part octets_new lengths_new awaits.gathers
    refl awaits.read added.stands added.octets_are added.lengths_are

-- what was added before the last value, and that one
pub added_all : (rule : Rule) (shape : Shape) (Stands : Meaning) (slot : Option Value) (value : Value) (behind rest octets octets_mid octets_new lengths lengths_mid lengths_new : List ℕ)
    → rest ≡ drop (length behind - length rest) behind → length rest ≤ length behind → length lengths_mid + length rest ≤ length lengths + length behind
    → ((stream : List ℕ) → Awaits rule shape Stands stream slot behind octets lengths → Awaits rule shape Stands stream (Some value) rest octets_mid lengths_mid)
    → IsAdded (Stands (value_view value)) octets_mid octets_new lengths_mid lengths_new → AreAdded rule shape Stands slot behind octets octets_new lengths lengths_new (length behind - length rest)
added_all rule shape Stands slot value behind rest octets octets_mid octets_new lengths lengths_mid lengths_new joined within few before added = record {
  there = omega (arith, within);
  gathered = λ stream awaits. subst (λ left. Gathers rule shape Stands stream left octets_new lengths_new) joined
      (added_more rule shape Stands stream rest octets_mid octets_new lengths_mid lengths_new value added (before stream awaits));
  few = omega (arith, within, few, ap length added.lengths_are, length_push lengths_mid (length added.part));
}

-- the value that a piece completed is read
pub awaits_completed : (StandsAt : List ℕ → Type 0) (rule : Rule) (shape : Shape) (Stands : Meaning) (slot : Option Value) (stream now left behind octets lengths : List ℕ) (used : ℕ)
    → behind ≡ drop used left → HasCompleted StandsAt rule shape slot used now left → Gathers rule shape Stands stream (now ++ left) octets lengths → Awaits rule shape Stands stream slot behind octets lengths
awaits_completed StandsAt rule shape Stands slot stream now left behind octets lengths used behind_is completed g = record {
  encoding = now ++ take used left;
  read = completed.accepted;
  gathers = subst (λ front. Gathers rule shape Stands stream front octets lengths) (cut_piece now left behind used behind_is) g;
}

-- and what was gathered goes on behind it and those that are added
pub gathered_behind : (StandsAt : List ℕ → Type 0) (rule : Rule) (shape : Shape) (Stands : Meaning) (slot : Option Value) (stream now left behind rest octets octets_new lengths lengths_new : List ℕ) (used added : ℕ)
    → behind ≡ drop used left → rest ≡ drop added behind → HasCompleted StandsAt rule shape slot used now left → Gathers rule shape Stands stream (now ++ left) octets lengths
    → AreAdded rule shape Stands slot behind octets octets_new lengths lengths_new added → Gathers rule shape Stands stream rest octets_new lengths_new
gathered_behind StandsAt rule shape Stands slot stream now left behind rest octets octets_new lengths lengths_new used added behind_is rest_is completed g are_added =
    subst (λ octets. Gathers rule shape Stands stream octets octets_new lengths_new) (sym rest_is)
    (are_added.gathered stream (awaits_completed StandsAt rule shape Stands slot stream now left behind octets lengths used behind_is completed g))

-- the next value is read behind those that are added
pub awaits_next : (shape : Shape) (Stands : Meaning) (stream rest batch lengths : List ℕ) (slot : Option Value) (used : ℕ) → IsFirst shape slot rest used
    → Gathers ber shape Stands stream rest batch lengths → Awaits ber shape Stands stream slot (drop used rest) batch lengths
awaits_next shape Stands stream rest batch lengths slot used first g = record {
  encoding = take used rest;
  read = first.read;
  gathers = subst (λ octets. Gathers ber shape Stands stream octets batch lengths) (sym (take-append-drop used rest)) g;
}

-- it conforms to the type, and has at least one octet
pub first_conforms : (shape : Shape) (slot : Option Value) (octets : List ℕ) (used : ℕ) → IsFirst shape slot octets used → MatchOption slot ⊥ (λ value. Conforms shape (value_view value))
first_conforms shape slot octets used first = accepted_conforms ber shape slot (take used octets) first.read

pub first_some : (shape : Shape) (slot : Option Value) (octets : List ℕ) (used : ℕ) → IsFirst shape slot octets used → 1 ≤ used
first_some shape None octets used first = absurd first.read
first_some shape (Some value) octets used first = some_taken ber shape (value_view value) used octets first.read

-- a value that is read at the front of what is left, and added
pub added_next : (shape : Shape) (Stands : Meaning) (stream left behind octets octets_new lengths lengths_new : List ℕ) (value : Value) (used : ℕ) → used ≤ length left → behind ≡ drop used left
    → IsAccepted ber shape (value_view value) (take used left) → IsAdded (Stands (value_view value)) octets octets_new lengths lengths_new
    → Gathers ber shape Stands stream left octets lengths → Gathers ber shape Stands stream behind octets_new lengths_new
added_next shape Stands stream left behind octets octets_new lengths lengths_new value used there behind_is read added g =
    subst (λ rest. Gathers ber shape Stands stream rest octets_new lengths_new) (sym behind_is)
    (added_more ber shape Stands stream (drop used left) octets octets_new lengths lengths_new value added
    (awaits_next shape Stands stream left octets lengths (Some value) used (record { there = there; read = read }) g))

-- what was added of the front, behind which this is left
pub leaves_added : (shape : Shape) (Stands : Meaning) (front left octets octets_new lengths lengths_new : List ℕ) → left ≡ drop (length front - length left) front → length left ≤ length front → length lengths_new + length left ≤ length lengths + length front
    → ((stream : List ℕ) → Gathers ber shape Stands stream front octets lengths → Gathers ber shape Stands stream left octets_new lengths_new)
    → AreLeavesAdded shape Stands front octets octets_new lengths lengths_new (length front - length left)
leaves_added shape Stands front left octets octets_new lengths lengths_new joined within few added = record {
  there = omega (arith, within);
  gathered = λ stream g. subst (λ rest. Gathers ber shape Stands stream rest octets_new lengths_new) joined (added stream g);
  few = omega (arith, within, few);
}

-- they are added behind the value in the slot
pub added_with_leaves : (rule : Rule) (shape : Shape) (Stands : Meaning) (slot : Option Value) (value : Value) (behind octets octets_mid octets_one octets_new lengths lengths_mid lengths_one lengths_new : List ℕ) (used : ℕ) → rule ≡ ber → length lengths_mid ≤ length lengths
    → ((stream : List ℕ) → Awaits rule shape Stands stream slot behind octets lengths → Awaits rule shape Stands stream (Some value) behind octets_mid lengths_mid)
    → IsAdded (Stands (value_view value)) octets_mid octets_one lengths_mid lengths_one → AreLeavesAdded shape Stands behind octets_one octets_new lengths_one lengths_new used → AreAdded rule shape Stands slot behind octets octets_new lengths lengths_new used
added_with_leaves rule shape Stands slot value behind octets octets_mid octets_one octets_new lengths lengths_mid lengths_one lengths_new used by_ber few before added leaves = record {
  there = leaves.there;
  gathered = λ stream awaits.
      let one = added_more rule shape Stands stream behind octets_mid octets_one lengths_mid lengths_one value added (before stream awaits) in
      subst (λ r. Gathers r shape Stands stream (drop used behind) octets_new lengths_new) (sym by_ber) (leaves.gathered stream (subst (λ r. Gathers r shape Stands stream behind octets_one lengths_one) by_ber one));
  few = omega (arith, few, leaves.few, ap length added.lengths_are, length_push lengths_mid (length added.part));
}
