-- What is gathered of a piece, and what of it is written.
use Rattle.std.proofs.Common.{◌≡◌, ◌≢◌, ℕ, ◌+◌, ◌≤◌, ◌<◌, ◌-◌, List, [], ◌∷◌, ◌++◌, length, map, take, drop, zero, suc, refl, sym, ap, ◌∙◌, append_assoc, arith, length-append, append-nil, subst, take-append-drop, length-drop, add-one}
use Rattle.std.specs.Prelude.{sum}
use Rattle.std.specs.List.{AllZip, concat}
use Rattle.std.proofs.lemmas.List.{map-append}
use Rattle.std.proofs.lemmas.List.Folds.{concat-append}
use Rattle.octets.specs.Front.{HasFront}
use Rattle.octets.specs.Rule.{Rule, ber, IsCanonical}
use Rattle.octets.proofs.FrontLemmas.{HasFront-from_parts, front_of_more}
use Rattle.types.specs.declared.refusal.Refusal.{Refusal}
use Rattle.types.specs.declared.refusal.Refusal.TheVariants.{Truncated, NotCanonical, StreamTooLong, OutputTooLong, SourceFault, SinkFault, NoMemory}
use Rattle.types.specs.Encoding.{Meaning, IsAccepted, IsSomeAccepted}
use Rattle.types.specs.Refusal.{refusal_number, IsOfOctets, IsFinal}
use Rattle.types.specs.Shape.{Shape, Val}
use Rattle.devices.specs.Parts.{IsWholeCount}
use Rattle.engine.specs.Refusal.{IsOfConverting, IsOfGathering}
use Rattle.engine.specs.Stream.{IsCut, Refuses, source_failures}
use Rattle.engine.specs.Passing.{Gathers, Writes, StopsAnyway}
use Rattle.engine.proofs.StreamLemmas.{zip_append, zip_take, zip_length, length_of_map, length_of_take, stream_append, written_append, sum_cons, take_within, take_past}

-- nothing is gathered yet
pub gathers_none : (rule : Rule) (shape : Shape) (Stands : Meaning) (octets batch lengths : List ℕ) → batch ≡ [] → lengths ≡ [] → Gathers rule shape Stands octets octets batch lengths
gathers_none rule shape Stands octets batch lengths no_batch no_length =
    record { values = []; encodings = []; parts = []; read = tt; put = tt; octets_are = refl; batch_is = no_batch; lengths_are = no_length }

-- one value more is gathered
pub gathers_more : (rule : Rule) (shape : Shape) (Stands : Meaning) (v : Val) (octets old batch lengths front rest part batch_new lengths_new : List ℕ)
    → Gathers rule shape Stands octets old batch lengths → old ≡ front ++ rest → IsAccepted rule shape v front → Stands v part → batch_new ≡ batch ++ part → lengths_new ≡ lengths ++ length part ∷ []
    → Gathers rule shape Stands octets rest batch_new lengths_new
gathers_more rule shape Stands v octets old batch lengths front rest part batch_new lengths_new g old_is read put batch_is lengths_are = record {
  values = g.values ++ v ∷ [];
  encodings = g.encodings ++ front ∷ [];
  parts = g.parts ++ part ∷ [];
  read = zip_append (IsAccepted rule shape) g.values (v ∷ []) g.encodings (front ∷ []) g.read (read, tt);
  put = zip_append Stands g.values (v ∷ []) g.parts (part ∷ []) g.put (put, tt);
  octets_are = g.octets_are ∙ ap (λ x. concat g.encodings ++ x) old_is ∙ sym (append_assoc (concat g.encodings) front rest)
      ∙ ap (λ x. x ++ rest) (ap (λ x. concat g.encodings ++ x) (sym (append-nil front)) ∙ sym (concat-append g.encodings (front ∷ [])));
  batch_is = batch_is ∙ ap (λ x. x ++ part) g.batch_is ∙ ap (λ x. concat g.parts ++ x) (sym (append-nil part)) ∙ sym (concat-append g.parts (part ∷ []));
  lengths_are = lengths_are ∙ ap (λ x. x ++ length part ∷ []) g.lengths_are ∙ sym (map-append length g.parts (part ∷ []));
}

-- no value is done yet
pub writes_none : (rule : Rule) (shape : Shape) (Stands : Meaning) (rest : List ℕ) → Writes rule shape Stands 0 rest rest [] []
writes_none rule shape Stands rest = record {
  values = [];
  counted = refl;
  read = record { front = []; read = record { encodings = []; each = tt; whole = refl }; whole = refl };
  put = record { front = []; put = record { parts = []; each = tt; whole = refl }; whole = refl };
}

-- more values behind those done
pub writes_on : (rule : Rule) (shape : Shape) (Stands : Meaning) (octets written old more extra part rest : List ℕ) (n m : ℕ)
    → Writes rule shape Stands n octets old written [] → Writes rule shape Stands m (old ++ more) rest extra part → Writes rule shape Stands (n + m) (octets ++ more) rest (written ++ extra) part
writes_on rule shape Stands octets written old more extra part rest n m w u = record {
  values = w.values ++ u.values;
  counted = length-append w.values u.values ∙ ap (λ k. k + length u.values) w.counted ∙ ap (λ k. n + k) u.counted;
  read = record {
    front = w.read.front ++ u.read.front;
    read = stream_append rule shape w.values u.values w.read.front u.read.front w.read.read u.read.read;
    whole = ap (λ x. x ++ more) w.read.whole ∙ append_assoc w.read.front old more ∙ ap (λ x. w.read.front ++ x) u.read.whole ∙ sym (append_assoc w.read.front u.read.front rest);
  };
  put = record {
    front = w.put.front ++ u.put.front;
    put = written_append Stands w.values u.values w.put.front u.put.front w.put.put u.put.put;
    whole = ap (λ x. x ++ extra) (w.put.whole ∙ append-nil w.put.front) ∙ ap (λ x. w.put.front ++ x) u.put.whole ∙ sym (append_assoc w.put.front u.put.front part);
  };
}

-- octets behind those of the values done, not yet looked at
pub writes_before : (rule : Rule) (shape : Shape) (Stands : Meaning) (octets written rest more part : List ℕ) (n : ℕ) → Writes rule shape Stands n octets rest written part → Writes rule shape Stands n (octets ++ more) (rest ++ more) written part
writes_before rule shape Stands octets written rest more part n w = record {
  values = w.values;
  counted = w.counted;
  read = record { front = w.read.front; read = w.read.read; whole = ap (λ x. x ++ more) w.read.whole ∙ append_assoc w.read.front rest more };
  put = w.put;
}

-- all that was gathered is written
pub writes_all : (rule : Rule) (shape : Shape) (Stands : Meaning) (octets rest batch lengths : List ℕ) (n : ℕ) → Gathers rule shape Stands octets rest batch lengths → length lengths ≡ n → Writes rule shape Stands n octets rest batch []
writes_all rule shape Stands octets rest batch lengths n g count = record {
  values = g.values;
  counted = sym (zip_length Stands g.values g.parts g.put) ∙ sym (length_of_map g.parts) ∙ ap length (sym g.lengths_are) ∙ count;
  read = record { front = concat g.encodings; read = record { encodings = g.encodings; each = g.read; whole = refl }; whole = g.octets_are };
  put = record { front = concat g.parts; put = record { parts = g.parts; each = g.put; whole = refl }; whole = g.batch_is ∙ sym (append-nil (concat g.parts)) };
}

-- the parts cut behind `at` octets, the first k of them whole
record Cut (rule : Rule) (shape : Shape) (Stands : Meaning) (k at : ℕ) (encodings parts : List (List ℕ)) (rest : List ℕ) : Type 0 where
  pub part : List ℕ
  pub behind : List ℕ
  pub octets_are : concat encodings ++ rest ≡ concat (take k encodings) ++ behind
  pub written : take at (concat parts) ≡ concat (take k parts) ++ part
  pub value : Val
  pub front : List ℕ
  pub more : List ℕ
  pub behind_is : behind ≡ front ++ more
  pub read : IsAccepted rule shape value front
  pub cut : IsCut Stands value part

-- the rest of octets that were cut within is not empty
some_missing : (at : ℕ) (b : List ℕ) → at < length b → drop at b ≢ []
some_missing at b within none = absurd (omega (arith, ap length none, length-drop at b))

cut_at : (rule : Rule) (shape : Shape) (Stands : Meaning) (k at : ℕ) (vs : List Val) (es bs : List (List ℕ)) (rest : List ℕ) → AllZip (IsAccepted rule shape) vs es → AllZip Stands vs bs
    → sum (take k (map length bs)) ≤ at → (k < length bs → at < sum (take (suc k) (map length bs))) → at < length (concat bs) → Cut rule shape Stands k at es bs rest
cut_at rule shape Stands k at [] [] [] rest read put whole next within = absurd (omega arith)
cut_at rule shape Stands k at [] [] (b ∷ bs) rest read put whole next within = absurd put
cut_at rule shape Stands k at [] (e ∷ es) bs rest read put whole next within = absurd read
cut_at rule shape Stands k at (v ∷ vs) [] bs rest read put whole next within = absurd read
cut_at rule shape Stands k at (v ∷ vs) (e ∷ es) [] rest read put whole next within = absurd put
cut_at rule shape Stands zero at (v ∷ vs) (e ∷ es) (b ∷ bs) rest read put whole next within =
    let some : 0 < length (b ∷ bs) = omega arith in
    let first : at < 0 + length b = next some in
    let inside : at < length b = omega arith in
    record {
      part = take at b;
      behind = e ++ (concat es ++ rest);
      octets_are = append_assoc e (concat es) rest;
      written = take_within b (concat bs) at inside;
      value = v;
      front = e;
      more = concat es ++ rest;
      behind_is = refl;
      read = read.0;
      cut = (drop at b, some_missing at b inside, subst (Stands v) (sym (take-append-drop at b)) put.0);
    }
cut_at rule shape Stands (suc k) at (v ∷ vs) (e ∷ es) (b ∷ bs) rest read put whole next within =
    let whole_here : sum (length b ∷ take k (map length bs)) ≤ at = whole in
    let whole_sum : length b + sum (take k (map length bs)) ≤ at = omega (arith, whole_here, sum_cons (length b) (take k (map length bs))) in
    let past : length b ≤ at = omega arith in
    let within_here : at < length (b ++ concat bs) = within in
    let inner = cut_at rule shape Stands k (at - length b) vs es bs rest read.1 put.1 (omega arith)
    (λ h. let more_parts : suc k < length (b ∷ bs) = omega arith in
    let next_here : at < sum (length b ∷ take (suc k) (map length bs)) = next more_parts in
    omega (arith, next_here, sum_cons (length b) (take (suc k) (map length bs))))
    (omega (arith, length-append b (concat bs))) in
    record {
      part = inner.part;
      behind = inner.behind;
      octets_are = append_assoc e (concat es) rest ∙ ap (λ x. e ++ x) inner.octets_are ∙ sym (append_assoc e (concat (take k es)) inner.behind);
      written = take_past b (concat bs) at past ∙ ap (λ x. b ++ x) inner.written ∙ sym (append_assoc b (concat (take k bs)) inner.part);
      value = inner.value;
      front = inner.front;
      more = inner.more;
      behind_is = inner.behind_is;
      read = inner.read;
      cut = inner.cut;
    }

-- a part of what was gathered is written
pub record WritesCut (rule : Rule) (shape : Shape) (Stands : Meaning) (octets batch : List ℕ) (at k : ℕ) : Type 0 where
  pub rest : List ℕ
  pub part : List ℕ
  pub writes : Writes rule shape Stands k octets rest (take at batch) part
  pub stops : StopsAnyway rule shape Stands SinkFault rest part

final_of_octets : (refusal : Refusal) → IsFinal refusal → IsOfOctets refusal
final_of_octets Truncated h = absurd h
final_of_octets refusal h = h

-- refusals of two numbers are two
pub other : (r s : Refusal) → refusal_number r ≢ refusal_number s → r ≢ s
other r s numbers h = numbers (ap refusal_number h)

front_of_nothing : (octets more : List ℕ) → octets ++ more ≡ [] → octets ≡ []
front_of_nothing [] more h = refl
front_of_nothing (octet ∷ octets) more h = absurd (omega (arith, ap length h))

-- a refusal that says nothing of the octets
pub refuses_plainly : (rule : Rule) (shape : Shape) (refusal : Refusal) (stream rest : List ℕ) → ¬ IsOfOctets refusal → refusal ≢ StreamTooLong → Refuses rule shape refusal stream rest
refuses_plainly rule shape refusal stream rest of_octets too_long = record {
  begun = λ h. absurd (of_octets h);
  none = λ h. absurd (of_octets h);
  never = λ h. absurd (of_octets (final_of_octets refusal h));
  strict = λ h. absurd (of_octets (subst IsOfOctets (sym h) tt));
  by_ber = λ h. absurd (of_octets (subst IsOfOctets (sym h) tt));
  stream_limit = λ h. absurd (too_long h);
}

-- what has a front has it whatever follows
front_before : (P : List ℕ → Type 0) (octets more : List ℕ) → HasFront P octets → HasFront P (octets ++ more)
front_before P octets more h = HasFront-from_parts P (take h.0 octets) (drop h.0 octets ++ more) (octets ++ more) (front_of_more h.0 octets more) h.2

-- the sink failed within what stands for the value at the front
pub sink_failed : (rule : Rule) (shape : Shape) (Stands : Meaning) (v : Val) (front more rest part : List ℕ) → rest ≡ front ++ more → IsAccepted rule shape v front → IsCut Stands v part → StopsAnyway rule shape Stands SinkFault rest part
sink_failed rule shape Stands v front more rest part parts read cut = record {
  refused = λ stream behind. refuses_plainly rule shape SinkFault stream (rest ++ behind) (λ h. h) (other SinkFault StreamTooLong (λ h. omega (arith, h)));
  unwritten = λ behind. record {
    too_long = λ h. absurd (other SinkFault OutputTooLong (λ n. omega (arith, n)) h);
    cut = λ h. front_before (λ octets. (w : Val) × IsAccepted rule shape w octets × IsCut Stands w part) rest behind (HasFront-from_parts (λ octets. (w : Val) × IsAccepted rule shape w octets × IsCut Stands w part) front more rest parts (v, read, cut));
    whole = λ h. absurd (h refl);
  };
}

-- nothing stands for the value at the front
pub nothing_to_write : (rule : Rule) (shape : Shape) (Stands : Meaning) (v : Val) (front more rest : List ℕ) → rest ≡ front ++ more → IsAccepted rule shape v front → ((octets : List ℕ) → ¬ Stands v octets) → StopsAnyway rule shape Stands OutputTooLong rest []
nothing_to_write rule shape Stands v front more rest parts read none = record {
  refused = λ stream behind. refuses_plainly rule shape OutputTooLong stream (rest ++ behind) (λ h. h) (other OutputTooLong StreamTooLong (λ h. omega (arith, h)));
  unwritten = λ behind. record {
    too_long = λ h. front_before (λ octets. (w : Val) × IsAccepted rule shape w octets × ((written : List ℕ) → ¬ Stands w written)) rest behind (HasFront-from_parts (λ octets. (w : Val) × IsAccepted rule shape w octets × ((written : List ℕ) → ¬ Stands w written)) front more rest parts (v, read, none));
    cut = λ h. absurd (other OutputTooLong SinkFault (λ n. omega (arith, n)) h);
    whole = λ h. refl;
  };
}

-- a growth was refused
pub memory_refused : (rule : Rule) (shape : Shape) (Stands : Meaning) (rest : List ℕ) → StopsAnyway rule shape Stands NoMemory rest []
memory_refused rule shape Stands rest = record {
  refused = λ stream behind. refuses_plainly rule shape NoMemory stream (rest ++ behind) (λ h. h) (other NoMemory StreamTooLong (λ h. omega (arith, h)));
  unwritten = λ behind. record {
    too_long = λ h. absurd (other NoMemory OutputTooLong (λ n. omega (arith, n)) h);
    cut = λ h. absurd (other NoMemory SinkFault (λ n. omega (arith, n)) h);
    whole = λ h. refl;
  };
}

-- a refusal for good of octets is one of all that begin so
pub refused_further : (rule : Rule) (shape : Shape) (Stands : Meaning) (refusal : Refusal) (rest : List ℕ) → IsFinal refusal → (refusal ≡ NotCanonical → IsCanonical rule) → (refusal ≡ NotCanonical → HasFront (IsSomeAccepted ber shape) rest) → rest ≢ []
    → ((more : List ℕ) → ¬ HasFront (IsSomeAccepted rule shape) (rest ++ more)) → StopsAnyway rule shape Stands refusal rest []
refused_further rule shape Stands refusal rest final strict by_ber begun never = record {
  refused = λ stream behind. record {
    begun = λ _ h. begun (front_of_nothing rest behind h);
    none = λ _. never behind;
    never = λ _ more. subst (λ octets. ¬ HasFront (IsSomeAccepted rule shape) octets) (sym (append_assoc rest behind more)) (never (behind ++ more));
    strict = strict;
    by_ber = λ h. front_before (IsSomeAccepted ber shape) rest behind (by_ber h);
    stream_limit = λ h. absurd (subst IsFinal h final);
  };
  unwritten = λ behind. record { too_long = λ h. absurd (subst IsFinal h final); cut = λ h. absurd (subst IsFinal h final); whole = λ h. refl };
}

pub writes_cut : (rule : Rule) (shape : Shape) (Stands : Meaning) (octets rest batch lengths : List ℕ) (at k : ℕ) → Gathers rule shape Stands octets rest batch lengths → IsWholeCount lengths at k → at < length batch → WritesCut rule shape Stands octets batch at k
writes_cut rule shape Stands octets rest batch lengths at k g w within =
    let count : length lengths ≡ length g.parts = ap length g.lengths_are ∙ length_of_map g.parts in
    let c = cut_at rule shape Stands k at g.values g.encodings g.parts rest g.read g.put
    (subst (λ x. sum (take k x) ≤ at) g.lengths_are w.whole)
    (λ h. let more_parts : k < length lengths = omega arith in
    subst (λ x. at < sum (take (suc k) x)) g.lengths_are (subst (λ j. at < sum (take j lengths)) (add-one k) (w.next more_parts)))
    (subst (λ x. at < length x) g.batch_is within) in
    record {
      rest = c.behind;
      part = c.part;
      writes = record {
        values = take k g.values;
        counted = length_of_take k g.values (omega (arith, w.within, zip_length Stands g.values g.parts g.put));
        read = record { front = concat (take k g.encodings); read = record { encodings = take k g.encodings; each = zip_take (IsAccepted rule shape) k g.values g.encodings g.read; whole = refl }; whole = g.octets_are ∙ c.octets_are };
        put = record { front = concat (take k g.parts); put = record { parts = take k g.parts; each = zip_take Stands k g.values g.parts g.put; whole = refl }; whole = ap (take at) g.batch_is ∙ c.written };
      };
      stops = sink_failed rule shape Stands c.value c.front c.more c.behind c.part c.behind_is c.read c.cut;
    }

-- what gathering refuses with, a call that writes encodings does, and it is no fault of the source
pub gathering_converts : (rule : Rule) (refusal : Refusal) → IsOfGathering rule refusal → IsOfConverting rule refusal
gathering_converts rule NotCanonical h = h
gathering_converts rule refusal h = tt

pub gathering_leaves_source : (rule : Rule) (refusal : Refusal) → IsOfGathering rule refusal → source_failures refusal ≡ 0
gathering_leaves_source rule SourceFault h = absurd h
gathering_leaves_source rule refusal h = refl
