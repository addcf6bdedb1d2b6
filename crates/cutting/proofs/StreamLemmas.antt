-- Lemmas on streams: what completes an encoding begins nothing else that does, so a stream is cut in one way.
use Rattle.std.proofs.Common.{◌≡◌, ℕ, zero, suc, ◌+◌, ◌-◌, ◌<◌, ◌≤◌, List, [], ◌∷◌, ◌++◌, inl, inr, length, take, drop, Ok, Err, OnOk, Option, Some, None, IfSome, map, refl, sym, ap, ◌∙◌, subst, arith, append_assoc, append-nil, length-append}
use Rattle.std.specs.declared.result.Result.{Result}
use Rattle.std.specs.List.{AllByRecursion, concat}
use Rattle.std.specs.Io.KnownBytes.{Appends}
use Rattle.devices.proofs.DeviceLemmas.{appends_none, appends_more}
use Rattle.std.proofs.lemmas.List.{length-take-le, length-drop, take_all, take_rest}
use Rattle.std.proofs.Math.Seq.{take-add}
use Rattle.std.proofs.lemmas.Bool.{cases_lt}
use Rattle.octets.specs.Front.{HasFront}
use Rattle.octets.proofs.FrontLemmas.{front_of_more, whole_front, same_front, HasFront-from_parts}
use Rattle.cutting.specs.declared.ends.Ends.{Ends}
use Rattle.cutting.specs.declared.found.Opened.{Opened}
use Rattle.cutting.specs.declared.found.Opened.TheVariants.{Definite, Indefinite, End}
use Rattle.cutting.specs.Encoding.{IsAnyEncoding}
use Rattle.cutting.specs.Rest.{IsRestOf, IsFromHead, IsCompletion}
use Rattle.cutting.specs.Heads.{IsHead, IsSomeHead}
use Rattle.cutting.specs.Inside.{IsBegun, Completes, GoesOn, EndsNever}
use Rattle.cutting.specs.Streams.{IsRestOfStream, EndsBetween, Passes, NeverBetween, AreEndedBetween}
use Rattle.cutting.proofs.HeadLemmas.{head_unique}
use Rattle.cutting.proofs.RestLemmas.{Follows, headed}
use Rattle.cutting.proofs.StateLemmas.{some_used, completes_none}

-- of what is left of open encodings, up to a size, none begins with another
abbrev IsUniqueTo : ℕ → Type 0
IsUniqueTo size = (around : ℕ) (a b r s : List ℕ) → length a ≤ size → IsRestOf around a → IsRestOf around b → a ++ r ≡ b ++ s → a ≡ b

follows_unique : (size : ℕ) → IsUniqueTo size → (o : Opened) (around : ℕ) (a b r s : List ℕ) → length a ≤ size → Follows o around a → Follows o around b → a ++ r ≡ b ++ s → a ≡ b
follows_unique size smaller (Definite n) around a b r s small f g whole =
    let fronts = same_front (take n a) (take n b) (drop n a ++ r) (drop n b ++ s) (omega (arith, length-take-le n a f.0, length-take-le n b g.0)) (sym (front_of_more n a r) ∙ (whole ∙ front_of_more n b s)) in
    let rests = smaller around (drop n a) (drop n b) r s (omega (arith, length-drop n a)) f.1 g.1 fronts.1 in
    whole_front n a ∙ (ap (λ x. x ++ drop n a) fronts.0 ∙ (ap (λ x. take n b ++ x) rests ∙ sym (whole_front n b)))
follows_unique size smaller Indefinite around a b r s small f g whole = smaller (suc around) a b r s small f g whole
follows_unique size smaller End zero a b r s small f g whole = absurd f
follows_unique size smaller End (suc around) a b r s small f g whole = smaller around a b r s small f g whole

head_some : (o : Opened) (head : List ℕ) → IsHead o head → 0 < length head
head_some o head is = some_used o (length head) head (subst (IsHead o) (sym (take_all (length head) head (omega arith))) is)

headed_unique : (size : ℕ) → IsUniqueTo size → (around : ℕ) (a b r s : List ℕ) → length a ≤ suc size → IsFromHead around a → IsFromHead around b → a ++ r ≡ b ++ s → a ≡ b
headed_unique size smaller around a b r s small f g whole =
    let x = headed around a f in
    let y = headed around b g in
    let joined : x.head ++ (x.rest ++ r) ≡ y.head ++ (y.rest ++ s) =
    sym (ap (λ k. k ++ r) x.joined ∙ append_assoc x.head x.rest r) ∙ (whole ∙ (ap (λ k. k ++ s) y.joined ∙ append_assoc y.head y.rest s)) in
    let same = head_unique x.opened y.opened x.head y.head (x.rest ++ r) (y.rest ++ s) x.is y.is joined in
    let some = head_some x.opened x.head x.is in
    let follows = subst (λ o. Follows o around y.rest) (sym same.opened) y.follows in
    let rests = follows_unique size smaller x.opened around x.rest y.rest r s (omega (arith, ap length x.joined, length-append x.head x.rest)) x.follows follows same.rest in
    x.joined ∙ (ap (λ k. k ++ x.rest) same.octets ∙ (ap (λ k. y.head ++ k) rests ∙ sym y.joined))

rest_unique : (size around : ℕ) (a b r s : List ℕ) → length a ≤ size → IsRestOf around a → IsRestOf around b → a ++ r ≡ b ++ s → a ≡ b
unfolding IsRestOf
rest_unique size zero a b r s small f g whole = f ∙ sym g
rest_unique zero (suc around) a b r s small f g whole =
    let x = headed (suc around) a f in
    let some = head_some x.opened x.head x.is in
    absurd (omega (arith, ap length x.joined, length-append x.head x.rest))
rest_unique (suc size) (suc around) a b r s small f g whole = headed_unique size (rest_unique size) (suc around) a b r s small f g whole

completion_unique : (left around : ℕ) (head a b r s : List ℕ) → IsCompletion left around head a → IsCompletion left around head b → a ++ r ≡ b ++ s → a ≡ b
completion_unique zero around head a b r s f g whole =
    let size = length (head ++ a) in
    let joined : (head ++ a) ++ r ≡ (head ++ b) ++ s = append_assoc head a r ∙ (ap (λ x. head ++ x) whole ∙ sym (append_assoc head b s)) in
    let same = headed_unique size (rest_unique size) around (head ++ a) (head ++ b) r s (omega arith) f g joined in
    (same_front head head a b refl same).1
completion_unique (suc contents) around head a b r s f g whole =
    follows_unique (length a) (rest_unique (length a)) (Definite (suc contents)) around a b r s (omega arith) f g whole

-- what completes the encoding that is begun begins nothing else that does
pub completes_unique : (ends : Ends) (a b r s : List ℕ) → Completes ends a → Completes ends b → a ++ r ≡ b ++ s → (a ≡ b) × (r ≡ s)
completes_unique ends a b r s f g whole =
    let same = completion_unique ends.left ends.open (take ends.count ends.head) a b r s f g whole in
    same_front a b r s (ap length same) whole

completion_some : (left around : ℕ) (head : List ℕ) → (HasFront IsSomeHead head → ⊥) → IsCompletion left around head [] → ⊥
completion_some zero around head cut c =
    let g = headed around (head ++ []) c in
    cut (HasFront-from_parts IsSomeHead g.head g.rest head (sym (append-nil head) ∙ g.joined) (g.opened, g.is))
completion_some (suc left) around head cut c = omega (arith, c.0)

-- no octets complete none
pub completes_some : (ends : Ends) → Completes ends [] → ⊥
completes_some ends c = completion_some ends.left ends.open (take ends.count ends.head) ends.cut c

-- before any octets
pub passes_none : (ends : Ends) → Passes ends ends []
passes_none ends rest = (λ x. x, λ x. x)

-- octets behind others
pub passes_on : (a b c : Ends) (x y : List ℕ) → Passes a b x → Passes b c y → Passes a c (x ++ y)
passes_on a b c x y f g rest =
    let joined : x ++ (y ++ rest) ≡ (x ++ y) ++ rest = sym (append_assoc x y rest) in
    (λ h. subst (EndsBetween a) joined ((f (y ++ rest)).0 ((g rest).0 h)), λ h. (g rest).1 ((f (y ++ rest)).1 (subst (EndsBetween a) (sym joined) h)))

-- what is left where the octets complete nothing
goes_behind : (old new : Ends) (octets rest : List ℕ) → GoesOn old new octets → (HasFront (Completes old) octets → ⊥) → IsRestOfStream old (octets ++ rest) → IsRestOfStream new rest
goes_behind old new octets rest goes none r =
    elim (cases_lt (length octets) (length r.first)) [
      | inl longer ↦
          let n = length octets in
          let size : n ≡ length (take n r.first) = omega (arith, length-take-le n r.first (omega arith)) in
          let same = same_front octets (take n r.first) rest (drop n r.first ++ concat r.others) size (r.joined ∙ front_of_more n r.first (concat r.others)) in
          let split : r.first ≡ octets ++ drop n r.first = whole_front n r.first ∙ ap (λ x. x ++ drop n r.first) (sym same.0) in
          record { first = drop n r.first; completes = (goes (drop n r.first)).1 (subst (Completes old) split r.completes); others = r.others; each = r.each; joined = same.1 }
      | inr within ↦
          let n = length r.first in
          let size : n ≡ length (take n octets) = omega (arith, length-take-le n octets within) in
          let same = same_front r.first (take n octets) (concat r.others) (drop n octets ++ rest) size (sym r.joined ∙ front_of_more n octets rest) in
          absurd (none (n, within, subst (Completes old) same.0 r.completes))
    ]

-- octets with which the encoding goes on
pub begun_passes : (old new : Ends) (octets : List ℕ) → GoesOn old new octets → (HasFront (Completes old) octets → ⊥) → IsBegun new → 0 < length octets → Passes old new octets
begun_passes old new octets goes none begun some rest = (
  λ h. elim h [
    | inl outside ↦ absurd (outside.0 begun)
    | inr r ↦ inr record {
      first = octets ++ r.first;
      completes = (goes r.first).0 r.completes;
      others = r.others;
      each = r.each;
      joined = ap (λ x. octets ++ x) r.joined ∙ sym (append_assoc octets r.first (concat r.others));
    }
  ],
  λ h. elim h [
    | inl outside ↦ absurd (omega (arith, ap length outside.1, length-append octets rest))
    | inr r ↦ inr (goes_behind old new octets rest goes none r)
  ],
)

-- encodings where none is begun
between_others : (ends : Ends) → (IsBegun ends → ⊥) → (parts : List (List ℕ)) → AllByRecursion IsAnyEncoding parts → (octets : List ℕ) → octets ≡ concat parts → EndsBetween ends octets
between_others ends outside [] each octets is = inl (outside, is)
between_others ends outside (part ∷ parts) each octets is = inr record { first = part; completes = (completes_none ends outside part).1 each.0; others = parts; each = each.1; joined = is }

none_in_front : (front rest : List ℕ) → front ++ rest ≡ [] → front ≡ []
none_in_front [] rest is = refl
none_in_front (x ∷ xs) rest is = cc is

-- octets that complete it
pub ended_passes : (old new : Ends) (front : List ℕ) → Completes old front → (IsBegun new → ⊥) → Passes old new front
ended_passes old new front c outside rest = (
  λ h. elim h [
    | inl none ↦ inr record { first = front; completes = c; others = []; each = tt; joined = ap (λ x. front ++ x) none.1 }
    | inr r ↦ inr record {
      first = front;
      completes = c;
      others = r.first ∷ r.others;
      each = ((completes_none new outside r.first).0 r.completes, r.each);
      joined = ap (λ x. front ++ x) r.joined;
    }
  ],
  λ h. elim h [
    | inl none ↦ absurd (completes_some old (subst (Completes old) (none_in_front front rest none.1) c))
    | inr r ↦ (let same = completes_unique old front r.first rest (concat r.others) c r.completes r.joined in between_others new outside r.others r.each rest same.1)
  ],
)

-- where none is begun behind octets, they end between encodings
pub between : (old new : Ends) (octets : List ℕ) → Passes old new octets → (IsBegun new → ⊥) → EndsBetween old octets
between old new octets passes outside = subst (EndsBetween old) (append-nil octets) ((passes []).0 (inl (outside, refl)))

-- where nothing completes it behind others, nothing ends between encodings
pub never_between : (initial now : Ends) (piece : List ℕ) (at : ℕ) → Passes initial now (take at piece) → at < length piece → EndsNever now (drop at piece) → NeverBetween initial piece
never_between initial now piece at passes some never more h =
    elim ((passes (drop at piece ++ more)).1 (subst (EndsBetween initial) (front_of_more at piece more) h)) [
      | inl none ↦ omega (arith, ap length none.1, length-append (drop at piece) more, length-drop at piece)
      | inr r ↦ never more (HasFront-from_parts (Completes now) r.first (concat r.others) (drop at piece ++ more) r.joined r.completes)
    ]

-- an encoding behind others
pub step_passes : (initial now new : Ends) (piece : List ℕ) (at used : ℕ) → Passes initial now (take at piece) → Completes now (take used (take (length piece - at) (drop at piece))) → (IsBegun new → ⊥) → Passes initial new (take (at + used) piece)
step_passes initial now new piece at used before completes outside =
    let front = take used (drop at piece) in
    let whole = subst (λ x. Completes now (take used x)) (take_rest piece at) completes in
    subst (Passes initial new) (sym (take-add at used piece)) (passes_on initial now new (take at piece) front before (ended_passes now new front whole outside))

-- the beginning of one behind others
pub rest_passes : (initial now new : Ends) (piece : List ℕ) (at : ℕ) → at < length piece → Passes initial now (take at piece) → GoesOn now new (take (length piece - at) (drop at piece))
    → (HasFront (Completes now) (take (length piece - at) (drop at piece)) → ⊥) → (0 < length (take (length piece - at) (drop at piece)) → IsBegun new) → Passes initial new piece
rest_passes initial now new piece at some before goes none begun =
    let step = take (length piece - at) (drop at piece) in
    let there : 0 < length step = omega (arith, ap length (take_rest piece at), length-drop at piece) in
    let whole : take at piece ++ step ≡ piece = ap (λ x. take at piece ++ x) (take_rest piece at) ∙ sym (whole_front at piece) in
    subst (Passes initial new) whole (passes_on initial now new (take at piece) step before (begun_passes now new step goes none (begun there) there))

pub on_ok : {E : Type 0} (r : Result (Unit {0}) E) (P : Type 0) → P → OnOk r P
on_ok (Ok x) P h = h
on_ok (Err e) P h = tt

-- before any file is ended
none_ended : (ends : Ends) (octets : List ℕ) (before : ℕ) (told : Option (List ℕ)) → AreEndedBetween ends octets before told told
none_ended ends octets before told = record { places = []; each = tt; added = appends_none told }

pub none_ended_if : (ends : Ends) (octets : List ℕ) (taken told : Option (List ℕ)) → IfSome taken (λ all. AreEndedBetween ends octets (length all) told told)
none_ended_if ends octets None told = tt
none_ended_if ends octets (Some all) told = none_ended ends octets (length all) told

all_more : (P : ℕ → Type 0) (places : List ℕ) (n : ℕ) → AllByRecursion P places → P n → AllByRecursion P (places ++ (n ∷ []))
all_more P [] n each one = (one, tt)
all_more P (x ∷ xs) n each one = (each.0, all_more P xs n each.1 one)

map_more : (f : ℕ → ℕ) (places : List ℕ) (n : ℕ) → map f (places ++ (n ∷ [])) ≡ map f places ++ (f n ∷ [])
map_more f [] n = refl
map_more f (x ∷ xs) n = ap (λ k. f x ∷ k) (map_more f xs n)

-- one more is ended behind a front of the octets
pub one_ended : (ends : Ends) (octets : List ℕ) (n : ℕ) (taken now old mid new : Option (List ℕ)) → n ≤ length octets → EndsBetween ends (take n octets)
    → Appends taken now (take n octets) → IfSome taken (λ all. AreEndedBetween ends octets (length all) old mid)
    → IfSome now (λ all. Appends mid new (length all ∷ [])) → IfSome taken (λ all. AreEndedBetween ends octets (length all) old new)
one_ended ends octets n None now old mid new within ends_there written before ended = tt
one_ended ends octets n (Some all) None old mid new within ends_there written before ended = absurd written
one_ended ends octets n (Some all) (Some more) old mid new within ends_there written before ended =
    let size : length more ≡ length all + n = ap length written ∙ (length-append all (take n octets) ∙ ap (λ k. length all + k) (length-take-le n octets within)) in
    let one = subst (λ k. Appends mid new (k ∷ [])) size ended in
    record {
      places = before.places ++ (n ∷ []);
      each = all_more (λ k. (k ≤ length octets) × EndsBetween ends (take k octets)) before.places n before.each (within, ends_there);
      added = appends_more old mid new (map (λ k. length all + k) before.places) ((length all + n) ∷ []) (map (λ k. length all + k) (before.places ++ (n ∷ []))) before.added one (map_more (λ k. length all + k) before.places n);
    }
