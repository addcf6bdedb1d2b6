-- Where nothing is ready that is not done, each place that is not done refers to another one.
use Rattle.std.proofs.Common.{◌≡◌, ◌≢◌, ◌+◌, ◌-◌, ◌<◌, ◌≤◌, ◌↔◌, ◌⊎◌, inl, inr, ℕ, zero, suc, Bool, true, false, ◌||◌, List, [], ◌∷◌, ◌++◌, length, get_or, take, drop, set, append_assoc, add-one, refl, sym, ap, ◌∙◌, subst, arith, Contains, eqb, IsTrue}
use Rattle.std.specs.Prelude.{slice_index}
use Rattle.std.specs.List.{list_any, AllPairs}
use Rattle.std.proofs.Math.Seq.{drop-cons}
use Rattle.std.proofs.lemmas.Map.Made.{IsDistinct-from_AllPairs}
use Rattle.std.proofs.lemmas.Bool.Decides.{Decides-eqb}
use Rattle.std.proofs.lemmas.Bool.{false≢true, eqb-true, eqb-false, eq-eqb, cases_eq}
use Rattle.std.proofs.lemmas.List.{get_or-set_same, get_or-set_other, length-set}
use Rattle.std.proofs.lemmas.Map.Steps.{length-le_from_distinct_below}
use Rattle.types.proofs.ListLemmas.{contains_first, contains_later, contains_cases, all_differ-cons, AllPairs-nil}
use Rattle.notation.specs.Waiting.{is_among, left_of, times, AreOnce, AreReady, AreWaiting, Extends}

false_by : (b : Bool) → (b ≡ true → ⊥) → b ≡ false
false_by true ne = absurd (ne refl)
false_by false ne = refl

ne-eqb : (a b : ℕ) → (a ≡ b → ⊥) → eqb a b ≡ false
ne-eqb a b ne = false_by (eqb a b) (λ e. ne (eqb-true a b e))

eqb-flip : (a b : ℕ) → eqb a b ≡ eqb b a
eqb-flip a b = by_mark (eqb a b) refl
  where
    by_mark : (mark : Bool) → eqb a b ≡ mark → eqb a b ≡ eqb b a
    by_mark true e = e ∙ sym (eq-eqb b a (sym (eqb-true a b e)))
    by_mark false e = e ∙ sym (ne-eqb b a (λ same. eqb-false a b e (sym same)))

-- what is left is something
pub some_left : (done places : List ℕ) → 1 ≤ left_of done places → (place : ℕ) × Contains places place × (is_among done place ≡ false)
some_left done [] h = absurd (omega (arith, h))
some_left done (place ∷ places) h = by_mark (is_among done place) refl (some_left done places)
  where
    by_mark : (mark : Bool) → is_among done place ≡ mark → (1 ≤ left_of done places → (other : ℕ) × Contains places other × (is_among done other ≡ false)) → (other : ℕ) × Contains (place ∷ places) other × (is_among done other ≡ false)
    by_mark false e more = (place, contains_first place place places refl, e)
    by_mark true e more = let g = rw e at h in let r = more (omega (arith, g)) in (r.0, contains_later place r.0 places r.1, r.2)

-- where nothing is left, all are done
pub none_left : (done places : List ℕ) → left_of done places ≡ 0 → (place : ℕ) → Contains places place → is_among done place ≡ true
none_left done [] h place c = absurd (omega (arith, c.1))
none_left done (first ∷ places) h place c = by_mark (is_among done first) refl (contains_cases first place places c) (none_left done places)
  where
    by_mark : (mark : Bool) → is_among done first ≡ mark → (first ≡ place) ⊎ Contains places place → (left_of done places ≡ 0 → (other : ℕ) → Contains places other → is_among done other ≡ true) → is_among done place ≡ true
    by_mark false e at more = let g = rw e at h in absurd (omega (arith, g))
    by_mark true e (inl same) more = subst (λ (p : ℕ). is_among done p ≡ true) same e
    by_mark true e (inr later) more = let g = rw e at h in more (omega (arith, g)) place later

pub is_among-push : (done : List ℕ) (more place : ℕ) → is_among (done ++ more ∷ []) place ≡ (is_among done place || eqb more place)
is_among-push [] more place = by_mark (eqb more place)
  where
    by_mark : (mark : Bool) → (mark || false) ≡ mark
    by_mark true = refl
    by_mark false = refl
is_among-push (first ∷ done) more place = by_mark (eqb first place) (is_among-push done more place)
  where
    by_mark : (mark : Bool) → is_among (done ++ more ∷ []) place ≡ (is_among done place || eqb more place) → (mark || is_among (done ++ more ∷ []) place) ≡ ((mark || is_among done place) || eqb more place)
    by_mark true e = refl
    by_mark false e = e

pub among-cases : (done : List ℕ) (more place : ℕ) → is_among (done ++ more ∷ []) place ≡ true → (is_among done place ≡ true) ⊎ (more ≡ place)
among-cases done more place h = by_mark (is_among done place) refl
  where
    by_mark : (mark : Bool) → is_among done place ≡ mark → (is_among done place ≡ true) ⊎ (more ≡ place)
    by_mark true e = inl e
    by_mark false e = inr (eqb-true more place (sym (ap (λ (b : Bool). b || eqb more place) e) ∙ sym (is_among-push done more place) ∙ h))

pub among-old : (done : List ℕ) (more place : ℕ) → is_among done place ≡ true → is_among (done ++ more ∷ []) place ≡ true
among-old done more place h = is_among-push done more place ∙ ap (λ (b : Bool). b || eqb more place) h

pub among-new : (done : List ℕ) (more : ℕ) → is_among (done ++ more ∷ []) more ≡ true
among-new done more = by_mark (is_among done more) refl
  where
    by_mark : (mark : Bool) → is_among done more ≡ mark → is_among (done ++ more ∷ []) more ≡ true
    by_mark true e = among-old done more more e
    by_mark false e = is_among-push done more more ∙ ap (λ (b : Bool). b || eqb more more) e ∙ eq-eqb more more refl

-- one more that is done takes away just its own places
pub left-push : (done : List ℕ) (more : ℕ) (places : List ℕ) → is_among done more ≡ false → left_of done places ≡ left_of (done ++ more ∷ []) places + times more places
left-push done more [] none = refl
left-push done more (place ∷ places) none = by_marks (is_among done place) (eqb place more) refl refl (left-push done more places none)
  where
    by_marks : (old same : Bool) → is_among done place ≡ old → eqb place more ≡ same → left_of done places ≡ left_of (done ++ more ∷ []) places + times more places → left_of done (place ∷ places) ≡ left_of (done ++ more ∷ []) (place ∷ places) + times more (place ∷ places)
    by_marks true true e f h = absurd (false≢true (sym none ∙ ap (is_among done) (sym (eqb-true place more f)) ∙ e))
    by_marks true false e f h = rw (is_among-push, e, f) (omega (arith, h))
    by_marks false true e f h = let g : eqb more place ≡ true = eqb-flip more place ∙ f in rw (is_among-push, e, g, f) (omega (arith, h))
    by_marks false false e f h = let g : eqb more place ≡ false = eqb-flip more place ∙ f in rw (is_among-push, e, g, f) (omega (arith, h))

-- the users of a place that is done now will be released: each place stands among them as often as it refers to that one
pub waiting-done : (references : ℕ → List ℕ) (done : List ℕ) (more : ℕ) (users waiting ready : List ℕ) → is_among done more ≡ false → ((place : ℕ) → times more (references place) ≡ times place users) → AreWaiting (λ place. left_of done (references place)) [] waiting ready
    → AreWaiting (λ place. left_of (done ++ more ∷ []) (references place)) users waiting ready
waiting-done references done more users waiting ready new enough h = record {
  counts = λ place below.
      let old = h.counts place below in
      let step = left-push done more (references place) new in
      let few = enough place in
      omega (arith, old, step, few);
  are_ready = h.are_ready;
}

-- where all that is ready is done, what is not done refers to what is not done
pub one_left : (references : ℕ → List ℕ) (done waiting : List ℕ) → AreWaiting (λ place. left_of done (references place)) [] waiting done → (place : ℕ) → place < length waiting → is_among done place ≡ false
    → (other : ℕ) × Contains (references place) other × (is_among done other ≡ false)
one_left references done waiting h place below none = some_left done (references place) (by_count (slice_index waiting place) refl)
  where
    by_count : (count : ℕ) → slice_index waiting place ≡ count → 1 ≤ left_of done (references place)
    by_count zero e = absurd (false≢true (sym none ∙ h.are_ready.each place below e))
    by_count (suc count) e = let bound = h.counts place below in omega (arith, bound, e)

or_true : (a b : Bool) → b ≡ true → (a || b) ≡ true
or_true true b f = refl
or_true false b f = f

or_false : (a b : Bool) → (a || b) ≡ false → (a ≡ false) × (b ≡ false)
or_false true b f = absurd (false≢true (sym f))
or_false false b f = (refl, f)

-- one more place that is none of them
once-push : (xs : List ℕ) (x : ℕ) → AreOnce xs → is_among xs x ≡ false → AreOnce (xs ++ x ∷ [])
once-push [] x h none = (refl, tt)
once-push (first ∷ xs) x h none =
    let apart = or_false (eqb first x) (is_among xs x) none in
    (is_among-push xs x first ∙ ap (λ (b : Bool). b || eqb x first) h.0 ∙ eqb-flip x first ∙ apart.0, once-push xs x h.1 apart.1)

among-take : (xs : List ℕ) (i place : ℕ) → is_among xs place ≡ false → is_among (take i xs) place ≡ false
among-take xs zero place h = refl
among-take [] (suc i) place h = refl
among-take (x ∷ xs) (suc i) place h = let apart = or_false (eqb x place) (is_among xs place) h in ap (λ (b : Bool). b || is_among (take i xs) place) apart.0 ∙ among-take xs i place apart.1

-- the next place is none of those before it
pub next_is_new : (ready : List ℕ) (turn d : ℕ) → turn < length ready → AreOnce ready → is_among (take turn ready) (get_or ready turn d) ≡ false
next_is_new [] turn d within h = absurd (omega (arith, within))
next_is_new (first ∷ ready) zero d within h = refl
next_is_new (first ∷ ready) (suc turn) d within h = ap (λ (b : Bool). b || is_among (take turn ready) (get_or ready turn d)) (apart_at ready turn (omega (arith, within)) h.0) ∙ next_is_new ready turn d (omega (arith, within)) h.1
  where
    apart_at : (ys : List ℕ) (i : ℕ) → i < length ys → is_among ys first ≡ false → eqb first (get_or ys i d) ≡ false
    apart_at [] i less g = absurd (omega (arith, less))
    apart_at (y ∷ ys) zero less g = eqb-flip first y ∙ (or_false (eqb y first) (is_among ys first) g).0
    apart_at (y ∷ ys) (suc i) less g = apart_at ys i (omega (arith, less)) (or_false (eqb y first) (is_among ys first) g).1

-- a place of the list is among it
pub at_is_among : (ready : List ℕ) (turn d : ℕ) → turn < length ready → is_among ready (get_or ready turn d) ≡ true
at_is_among [] turn d within = absurd (omega (arith, within))
at_is_among (first ∷ ready) zero d within = ap (λ (b : Bool). b || is_among ready first) (eq-eqb first first refl)
at_is_among (first ∷ ready) (suc turn) d within = or_true (eqb first (get_or ready turn d)) (is_among ready (get_or ready turn d)) (at_is_among ready turn d (omega (arith, within)))

among-contains : (xs : List ℕ) (place : ℕ) → Contains xs place → is_among xs place ≡ true
among-contains [] place c = absurd (omega (arith, c.1))
among-contains (x ∷ xs) place c = by_place (contains_cases x place xs c) (among-contains xs place)
  where
    by_place : (x ≡ place) ⊎ Contains xs place → (Contains xs place → is_among xs place ≡ true) → is_among (x ∷ xs) place ≡ true
    by_place (inl same) more = ap (λ (b : Bool). b || is_among xs place) (eq-eqb x place same)
    by_place (inr later) more = or_true (eqb x place) (is_among xs place) (more later)

once-pairs : (xs : List ℕ) → AreOnce xs → AllPairs (λ x y. x ≢ y) xs
once-pairs [] h = AllPairs-nil (λ x y. x ≢ y)
once-pairs (x ∷ xs) h = all_differ-cons x xs (λ c. false≢true (sym h.0 ∙ among-contains xs x c)) (once-pairs xs h.1)

any-among : (xs : List ℕ) (q : ℕ) → list_any (eqb q) xs ≡ is_among xs q
any-among [] q = refl
any-among (x ∷ xs) q = ap (λ (b : Bool). b || list_any (eqb q) xs) (eqb-flip q x) ∙ ap (λ (b : Bool). eqb x q || b) (any-among xs q)

-- no more are ready than there are
pub ready_within : (waiting : List ℕ) (bound : ℕ) (ready : List ℕ) → AreReady waiting bound ready → length ready ≤ bound
ready_within waiting bound ready h = length-le_from_distinct_below ready bound (IsDistinct-from_AllPairs Decides-eqb ready (once-pairs ready h.once)) (λ q e. (h.only q (sym (any-among ready q) ∙ e)).0)

-- a user is released, and waits for others
module _ (left : ℕ → ℕ) (users waiting ready : List ℕ) (user : ℕ) where
  -- the counts, once the user is released
  released : AreWaiting left (user ∷ users) waiting ready → (place : ℕ) → place < length waiting → slice_index (set waiting user (slice_index waiting user - 1)) place ≡ left place + times place users
  released h place below = by_mark (eqb user place) refl
    where
      by_mark : (mark : Bool) → eqb user place ≡ mark → slice_index (set waiting user (slice_index waiting user - 1)) place ≡ left place + times place users
      by_mark true e =
          let same = eqb-true user place e in
          let bound = rw e at (h.counts place below) in
          let old : slice_index waiting user ≡ slice_index waiting place = ap (λ (i : ℕ). slice_index waiting i) same in
          let within : user < length waiting = subst (λ (i : ℕ). i < length waiting) (sym same) below in
          let new : slice_index (set waiting user (slice_index waiting user - 1)) place ≡ slice_index waiting user - 1 = subst (λ (i : ℕ). slice_index (set waiting user (slice_index waiting user - 1)) i ≡ slice_index waiting user - 1) same (get_or-set_same waiting user (slice_index waiting user - 1) 0 within) in
          omega (arith, bound, old, new)
      by_mark false e =
          let bound = rw e at (h.counts place below) in
          let new : slice_index (set waiting user (slice_index waiting user - 1)) place ≡ slice_index waiting place = get_or-set_other waiting user place (slice_index waiting user - 1) 0 (λ same. eqb-false user place e (sym same)) in
          omega (arith, bound, new)

  -- a place that is ready is another
  not_ready : AreWaiting left (user ∷ users) waiting ready → is_among ready user ≡ true → ⊥
  not_ready h e =
      let at = h.are_ready.only user e in
      let count = rw (eq-eqb user user refl) at (h.counts user at.0) in
      let none = at.1 in
      omega (arith, count, none)

  kept_at : (place : ℕ) → (user ≡ place → ⊥) → slice_index (set waiting user (slice_index waiting user - 1)) place ≡ slice_index waiting place
  kept_at place ne = get_or-set_other waiting user place (slice_index waiting user - 1) 0 (λ same. ne (sym same))

  still : AreWaiting left (user ∷ users) waiting ready → (after : List ℕ) → after ≡ set waiting user (slice_index waiting user - 1) → (place : ℕ) → is_among ready place ≡ true → (place < length after) × (slice_index after place ≡ 0)
  still h after is place e =
      let at = h.are_ready.only place e in
      let long : length after ≡ length waiting = ap length is ∙ length-set waiting user (slice_index waiting user - 1) in
      (omega (arith, long, at.0), ap (λ (ws : List ℕ). slice_index ws place) is ∙ kept_at place (λ same. not_ready h (subst (λ (p : ℕ). is_among ready p ≡ true) (sym same) e)) ∙ at.1)

  -- the user waits for nothing more
  pub release_last : AreWaiting left (user ∷ users) waiting ready → (after : List ℕ) → after ≡ set waiting user (slice_index waiting user - 1) → user < length waiting → slice_index after user ≡ 0 → AreWaiting left users after (ready ++ user ∷ [])
  release_last h after is within none = record {
    counts = λ place below. let long : length after ≡ length waiting = ap length is ∙ length-set waiting user (slice_index waiting user - 1) in ap (λ (ws : List ℕ). slice_index ws place) is ∙ released h place (omega (arith, long, below));
    are_ready = record {
      each = λ place below zero_at. by_place place below zero_at (cases_eq user place);
      only = λ place e. by_among place (among-cases ready user place e);
      once = once-push ready user h.are_ready.once (false_by (is_among ready user) (not_ready h));
    };
  }
    where
      long : length after ≡ length waiting
      long = ap length is ∙ length-set waiting user (slice_index waiting user - 1)

      by_place : (place : ℕ) → place < length after → slice_index after place ≡ 0 → (user ≡ place) ⊎ (user ≢ place) → is_among (ready ++ user ∷ []) place ≡ true
      by_place place below e (inl same) = subst (λ (p : ℕ). is_among (ready ++ user ∷ []) p ≡ true) same (among-new ready user)
      by_place place below e (inr ne) = among-old ready user place (h.are_ready.each place (omega (arith, long, below)) (sym (kept_at place ne) ∙ sym (ap (λ (ws : List ℕ). slice_index ws place) is) ∙ e))

      by_among : (place : ℕ) → (is_among ready place ≡ true) ⊎ (user ≡ place) → (place < length after) × (slice_index after place ≡ 0)
      by_among place (inl old) = still h after is place old
      by_among place (inr same) = subst (λ (p : ℕ). (p < length after) × (slice_index after p ≡ 0)) same (omega (arith, long, within), none)

  -- or still for something, or is no place
  pub release_one : AreWaiting left (user ∷ users) waiting ready → (after : List ℕ) → after ≡ set waiting user (slice_index waiting user - 1) → ((user < length waiting) × (slice_index after user ≡ 0) → ⊥) → AreWaiting left users after ready
  release_one h after is some = record {
    counts = λ place below. ap (λ (ws : List ℕ). slice_index ws place) is ∙ released h place (omega (arith, long, below));
    are_ready = record {
      each = λ place below zero_at. by_place place below zero_at (cases_eq user place);
      only = λ place e. still h after is place e;
      once = h.are_ready.once;
    };
  }
    where
      long : length after ≡ length waiting
      long = ap length is ∙ length-set waiting user (slice_index waiting user - 1)

      by_place : (place : ℕ) → place < length after → slice_index after place ≡ 0 → (user ≡ place) ⊎ (user ≢ place) → is_among ready place ≡ true
      by_place place below e (inl same) = absurd (some (subst (λ (p : ℕ). (p < length waiting) × (slice_index after p ≡ 0)) (sym same) (omega (arith, long, below), e)))
      by_place place below e (inr ne) = h.are_ready.each place (omega (arith, long, below)) (sym (kept_at place ne) ∙ sym (ap (λ (ws : List ℕ). slice_index ws place) is) ∙ e)

drop_next : (xs : List ℕ) (i : ℕ) → i < length xs → drop i xs ≡ get_or xs i 0 ∷ drop (i + 1) xs
drop_next xs i within = drop-cons xs i 0 within ∙ ap (λ (k : ℕ). get_or xs i 0 ∷ drop k xs) (sym (add-one i))

drop_all : (i : ℕ) (xs : List ℕ) → length xs ≤ i → drop i xs ≡ []
drop_all zero [] long = refl
drop_all zero (x ∷ xs) long = absurd (omega (arith, long))
drop_all (suc i) [] long = refl
drop_all (suc i) (x ∷ xs) long = drop_all i xs (omega (arith, long))

-- the same, where the code has the users in a list
pub release_told : (left : ℕ → ℕ) (users waiting ready : List ℕ) (i : ℕ) (after : List ℕ) (last : Bool) → i < length users → after ≡ set waiting (get_or users i 0) (slice_index waiting (get_or users i 0) - 1)
    → IsTrue last ↔ ((get_or users i 0 < length waiting) × (slice_index after (get_or users i 0) ≡ 0)) → last ≡ true → (more : List ℕ) → more ≡ ready ++ get_or users i 0 ∷ [] → AreWaiting left (drop i users) waiting ready → AreWaiting left (drop (i + 1) users) after more
release_told left users waiting ready i after last within is told true_is more pushed h =
    let user = get_or users i 0 in
    let g = subst (λ (us : List ℕ). AreWaiting left us waiting ready) (drop_next users i within) h in
    let at = told.0 true_is in
    subst (AreWaiting left (drop (i + 1) users) after) (sym pushed) (release_last left (drop (i + 1) users) waiting ready user g after is at.0 at.1)

pub release_more : (left : ℕ → ℕ) (users waiting ready : List ℕ) (i : ℕ) (after : List ℕ) (last : Bool) → i < length users → after ≡ set waiting (get_or users i 0) (slice_index waiting (get_or users i 0) - 1)
    → IsTrue last ↔ ((get_or users i 0 < length waiting) × (slice_index after (get_or users i 0) ≡ 0)) → last ≡ false → (more : List ℕ) → more ≡ ready → AreWaiting left (drop i users) waiting ready → AreWaiting left (drop (i + 1) users) after more
release_more left users waiting ready i after last within is told false_is more same h =
    let g = subst (λ (us : List ℕ). AreWaiting left us waiting ready) (drop_next users i within) h in
    subst (AreWaiting left (drop (i + 1) users) after) (sym same) (release_one left (drop (i + 1) users) waiting ready (get_or users i 0) g after is (λ at. false≢true (sym false_is ∙ told.1 at)))

pub released_all : (left : ℕ → ℕ) (users waiting ready : List ℕ) (i : ℕ) → length users ≤ i → AreWaiting left (drop i users) waiting ready → AreWaiting left [] waiting ready
released_all left users waiting ready i long h = subst (λ (us : List ℕ). AreWaiting left us waiting ready) (drop_all i users long) h

-- the places that wait for nothing, one by one
pub ready_none : (waiting ready : List ℕ) → ready ≡ [] → AreReady waiting 0 ready
ready_none waiting ready is = subst (AreReady waiting 0) (sym is) (record {
  each = λ place below e. absurd (omega (arith, below));
  only = λ place e. absurd (false≢true e);
  once = tt;
})

pub ready_more : (waiting ready : List ℕ) (i : ℕ) (after : List ℕ) → slice_index waiting i ≡ 0 → after ≡ ready ++ i ∷ [] → AreReady waiting i ready → AreReady waiting (i + 1) after
ready_more waiting ready i after none is h = subst (AreReady waiting (i + 1)) (sym is) (record {
  each = λ place below e. by_place place below e (cases_eq i place);
  only = λ place e. by_among place (among-cases ready i place e);
  once = once-push ready i h.once (false_by (is_among ready i) (λ e. let at = h.only i e in omega (arith, at.0)));
})
  where
    by_place : (place : ℕ) → place < i + 1 → slice_index waiting place ≡ 0 → (i ≡ place) ⊎ (i ≢ place) → is_among (ready ++ i ∷ []) place ≡ true
    by_place place below e (inl same) = subst (λ (p : ℕ). is_among (ready ++ i ∷ []) p ≡ true) same (among-new ready i)
    by_place place below e (inr ne) = among-old ready i place (h.each place (omega (arith, below, ne)) e)

    by_among : (place : ℕ) → (is_among ready place ≡ true) ⊎ (i ≡ place) → (place < i + 1) × (slice_index waiting place ≡ 0)
    by_among place (inl old) = let at = h.only place old in (omega (arith, at.0), at.1)
    by_among place (inr same) = subst (λ (p : ℕ). (p < i + 1) × (slice_index waiting p ≡ 0)) same (omega arith, none)

pub ready_other : (waiting ready : List ℕ) (i : ℕ) (after : List ℕ) → (slice_index waiting i ≡ 0 → ⊥) → after ≡ ready → AreReady waiting i ready → AreReady waiting (i + 1) after
ready_other waiting ready i after some is h = subst (AreReady waiting (i + 1)) (sym is) (record {
  each = λ place below e. by_place place below e (cases_eq i place);
  only = λ place e. let at = h.only place e in (omega (arith, at.0), at.1);
  once = h.once;
})
  where
    by_place : (place : ℕ) → place < i + 1 → slice_index waiting place ≡ 0 → (i ≡ place) ⊎ (i ≢ place) → is_among ready place ≡ true
    by_place place below e (inl same) = absurd (some (subst (λ (p : ℕ). slice_index waiting p ≡ 0) (sym same) e))
    by_place place below e (inr ne) = h.each place (omega (arith, below, ne)) e

pub extends_more : (first earlier later : List ℕ) (x : ℕ) → later ≡ earlier ++ x ∷ [] → Extends first earlier → Extends first later
extends_more first earlier later x is h = (h.0 ++ x ∷ [], is ∙ ap (λ (xs : List ℕ). xs ++ x ∷ []) h.1 ∙ append_assoc first h.0 (x ∷ []))
