-- Lemmas on what completes the encoding that is begun.
use Rattle.std.proofs.Common.{◌≡◌, ℕ, zero, suc, ◌+◌, ◌-◌, ◌<◌, ◌≤◌, List, [], ◌∷◌, ◌++◌, inl, inr, length, take, drop, set, get_or, Option, Some, Ok, Err, IsErrAnd, refl, sym, ap, ◌∙◌, subst, arith, append_assoc, append-nil, length-append}
use Rattle.std.specs.Prelude.{◌↔◌}
use Rattle.std.specs.declared.result.Result.{Result}
use Rattle.std.proofs.lemmas.List.{length-take-le, length-drop, take_all, take_rest, drop-drop, take-append-le, take_more, take_more_set}
use Rattle.std.proofs.lemmas.Bool.{cases_lt}
use Rattle.std.proofs.Math.Seq.{take-add, take-append-add, drop-append_seam}
use Rattle.octets.specs.Front.{HasFront}
use Rattle.octets.proofs.FrontLemmas.{front_of_more, whole_front, HasFront-from_parts}
use Rattle.types.specs.declared.refusal.Refusal.{Refusal}
use Rattle.cutting.specs.declared.ends.Ends.{Ends}
use Rattle.cutting.specs.declared.found.Opened.{Opened}
use Rattle.cutting.specs.declared.found.Opened.TheVariants.{Definite, Indefinite, End}
use Rattle.cutting.specs.Encoding.{IsAnyEncoding}
use Rattle.cutting.specs.Rest.{IsRestOf, IsRestBehind, IsFromHead, IsCompletion}
use Rattle.cutting.specs.Heads.{IsHead, IsSomeHead}
use Rattle.cutting.specs.Inside.{Completes, AnEncodingCompletesNone, GoesOn, EndsNever}
use Rattle.cutting.specs.Steps.{EndsNotBefore, HasMoved, TakesHead, Opens, HasPassed}
use Rattle.cutting.proofs.HeadLemmas.{head_unique}
use Rattle.cutting.proofs.ReadLemmas.{no_head-nil}
use Rattle.cutting.proofs.RestLemmas.{Follows, from_head, headed, behind_head}

same : {A : Type 0} → A ↔ A
same = (λ x. x, λ x. x)

chain : (A B C : Type 0) → A ↔ B → B ↔ C → A ↔ C
chain A B C f g = (λ x. g.0 (f.0 x), λ x. f.1 (g.1 x))

along : (P : List ℕ → Type 0) (a b : List ℕ) → a ≡ b → P a ↔ P b
along P a b e = (subst P e, subst P (sym e))

-- where no contents octets are due, what completes it goes on behind the octets of the head
none_due : (left around : ℕ) (head octets : List ℕ) → left ≡ 0 → IsCompletion left around head octets ↔ IsFromHead around (head ++ octets)
none_due zero around head octets none = (λ x. x, λ x. x)
none_due (suc left) around head octets none = absurd (omega arith)

-- inside an encoding of which no head is cut, it is what is left
inside : (left around : ℕ) (head octets : List ℕ) → 0 < left + around → head ≡ [] → IsRestBehind left around octets ↔ IsCompletion left around head octets
inside (suc left) around head octets some none = (λ x. x, λ x. x)
inside zero (suc around) head octets some none =
    let front : octets ≡ head ++ octets = ap (λ x. x ++ octets) (sym none) in
    (λ x. subst (IsRestOf (suc around)) front x.1, λ x. (omega arith, subst (IsRestOf (suc around)) (sym front) x))
inside zero zero head octets some none = absurd (omega arith)

none_held : (count : ℕ) (head : List ℕ) → count ≡ 0 → take count head ≡ []
none_held zero head none = refl
none_held (suc count) head none = absurd (omega arith)

fresh : (left around : ℕ) (head octets : List ℕ) → left ≡ 0 → around ≡ 0 → head ≡ [] → IsCompletion left around head octets ↔ IsAnyEncoding octets
fresh zero zero head octets a b none = along IsAnyEncoding (head ++ octets) octets (ap (λ x. x ++ octets) none)
fresh zero (suc around) head octets a b none = absurd (omega arith)
fresh (suc left) around head octets a b none = absurd (omega arith)

zero_unless : (n : ℕ) → (0 < n → ⊥) → n ≡ 0
zero_unless zero h = refl
zero_unless (suc n) h = absurd (h (omega arith))

pub completes_none : AnEncodingCompletesNone
completes_none ends outside octets =
    let around = zero_unless ends.open (λ h. outside (inl h)) in
    let left = zero_unless ends.left (λ h. outside (inr (inl h))) in
    let count = zero_unless ends.count (λ h. outside (inr (inr h))) in
    fresh ends.left ends.open (take ends.count ends.head) octets left around (none_held ends.count ends.head count)

-- what follows a head is what is left then
opened_rest : (o : Opened) (old new : Ends) (rest : List ℕ) → old.left ≡ 0 → Opens o old new → IsRestBehind new.left new.open rest ↔ Follows o old.open rest
opened_rest (Definite n) old new rest none h = (
  λ x. subst (λ m. IsRestBehind n m rest) h.1 (subst (λ m. IsRestBehind m new.open rest) h.0 x),
  λ x. subst (λ m. IsRestBehind m new.open rest) (sym h.0) (subst (λ m. IsRestBehind n m rest) (sym h.1) x),
)
opened_rest Indefinite old new rest none h =
    let left : new.left ≡ 0 = h.0 ∙ none in (
      λ x. (let y = subst (λ m. IsRestBehind m (suc old.open) rest) left (subst (λ m. IsRestBehind new.left m rest) h.1 x) in y.1),
      λ x. subst (λ m. IsRestBehind new.left m rest) (sym h.1) (subst (λ m. IsRestBehind m (suc old.open) rest) (sym left) (omega arith, x)),
    )
opened_rest End old new rest none h =
    let left : new.left ≡ 0 = h.0 ∙ none in (
      λ x. (let y = subst (λ m. IsRestBehind m new.open rest) left x in subst (λ m. Follows End m rest) h.1 y.1),
      λ x. subst (λ m. IsRestBehind m new.open rest) (sym left) (omega arith, subst (λ m. Follows End m rest) (sym h.1) x),
    )

-- which is no longer than the head
none_before_head : (o : Opened) (ends : Ends) (front : List ℕ) → ends.left ≡ 0 → IsHead o (take ends.count ends.head ++ front) → EndsNotBefore ends front
none_before_head o ends front none is n below c =
    let held = take ends.count ends.head in
    let g = headed ends.open (held ++ take n front) ((none_due ends.left ends.open held (take n front) none).0 c) in
    let split : held ++ front ≡ (held ++ take n front) ++ drop n front = ap (λ x. held ++ x) (whole_front n front) ∙ sym (append_assoc held (take n front) (drop n front)) in
    let whole : (held ++ front) ++ [] ≡ g.head ++ (g.rest ++ drop n front) =
    append-nil (held ++ front) ∙ (split ∙ (ap (λ x. x ++ drop n front) g.joined ∙ append_assoc g.head g.rest (drop n front))) in
    let unique = head_unique o g.opened (held ++ front) g.head [] (g.rest ++ drop n front) is g.is whole in
    let size : length (take n front) ≡ n = length-take-le n front (omega arith) in
    omega (arith, ap length unique.octets, length-append held front, ap length g.joined, length-append held (take n front), length-append g.head g.rest)

-- behind a head, some of whose octets were held
pub opened_moved : (o : Opened) (old new : Ends) (front : List ℕ) → old.left ≡ 0 → new.count ≡ 0 → IsHead o (take old.count old.head ++ front) → Opens o old new → HasMoved old new front
opened_moved o old new front none cut is opens =
    let held = take old.count old.head in
    record {
      none_cut = cut;
      none_before = none_before_head o old front none is;
      rest = λ rest.
          let follows = opened_rest o old new rest none opens in
          let before = none_due old.left old.open held (front ++ rest) none in
          let joined : (held ++ front) ++ rest ≡ held ++ (front ++ rest) = append_assoc held front rest in (
            λ x. before.1 (subst (IsFromHead old.open) joined (from_head o old.open (held ++ front) rest is (follows.0 x))),
            λ x. follows.1 (behind_head o old.open (held ++ front) rest is (subst (IsFromHead old.open) (sym joined) (before.0 x))),
          );
    }

-- more octets of a head are held
pub held_on : (old new : Ends) (octets : List ℕ) → old.left ≡ 0 → new.left ≡ 0 → new.open ≡ old.open → take new.count new.head ≡ take old.count old.head ++ octets → GoesOn old new octets
held_on old new octets none left around held rest =
    let joined : take new.count new.head ++ rest ≡ take old.count old.head ++ (octets ++ rest) = ap (λ x. x ++ rest) held ∙ append_assoc (take old.count old.head) octets rest in
    let before = none_due old.left old.open (take old.count old.head) (octets ++ rest) none in
    let behind = none_due new.left new.open (take new.count new.head) rest left in (
      λ x. before.1 (subst (λ n. IsFromHead n (take old.count old.head ++ (octets ++ rest))) around (subst (IsFromHead new.open) joined (behind.0 x))),
      λ x. behind.1 (subst (IsFromHead new.open) (sym joined) (subst (λ n. IsFromHead n (take old.count old.head ++ (octets ++ rest))) (sym around) (before.0 x))),
    )

-- which no front of them completes
pub held_none : (old new : Ends) (octets : List ℕ) → old.left ≡ 0 → take new.count new.head ≡ take old.count old.head ++ octets → HasFront (Completes old) octets → ⊥
held_none old new octets none is (n, there, c) =
    let held = take old.count old.head in
    let g = headed old.open (held ++ take n octets) ((none_due old.left old.open held (take n octets) none).0 c) in
    let split : take new.count new.head ≡ (held ++ take n octets) ++ drop n octets = is ∙ (ap (λ x. held ++ x) (whole_front n octets) ∙ sym (append_assoc held (take n octets) (drop n octets))) in
    let whole : take new.count new.head ≡ g.head ++ (g.rest ++ drop n octets) = split ∙ (ap (λ x. x ++ drop n octets) g.joined ∙ append_assoc g.head g.rest (drop n octets)) in
    new.cut (HasFront-from_parts IsSomeHead g.head (g.rest ++ drop n octets) (take new.count new.head) whole (g.opened, g.is))

-- the head that begins a front which completes it, and what follows
record IsFrontHeaded (ends : Ends) (all : List ℕ) : Type 0 where
  opened : Opened
  head : List ℕ
  rest : List ℕ
  behind : List ℕ
  is : IsHead opened head
  joined : take ends.count ends.head ++ all ≡ head ++ rest
  follows : Follows opened ends.open behind

front_headed : (ends : Ends) (all : List ℕ) (n : ℕ) → ends.left ≡ 0 → Completes ends (take n all) → IsFrontHeaded ends all
front_headed ends all n none c =
    let held = take ends.count ends.head in
    let g = headed ends.open (held ++ take n all) ((none_due ends.left ends.open held (take n all) none).0 c) in
    record {
      opened = g.opened;
      head = g.head;
      rest = g.rest ++ drop n all;
      behind = g.rest;
      is = g.is;
      joined = ap (λ x. held ++ x) (whole_front n all) ∙ (sym (append_assoc held (take n all) (drop n all)) ∙ (ap (λ x. x ++ drop n all) g.joined ∙ append_assoc g.head g.rest (drop n all)));
      follows = g.follows;
    }

held_split : (ends : Ends) (front octets rest more : List ℕ) → octets ≡ front ++ rest → take ends.count ends.head ++ (octets ++ more) ≡ (take ends.count ends.head ++ front) ++ (rest ++ more)
held_split ends front octets rest more split =
    let held = take ends.count ends.head in
    ap (λ x. held ++ (x ++ more)) split ∙ (ap (λ x. held ++ x) (append_assoc front rest more) ∙ sym (append_assoc held front (rest ++ more)))

-- where no head begins so, nothing completes it
pub headless_never : (ends : Ends) (front octets : List ℕ) → ends.left ≡ 0 → (rest : List ℕ) → octets ≡ front ++ rest
    → ((more : List ℕ) → HasFront IsSomeHead ((take ends.count ends.head ++ front) ++ more) → ⊥) → EndsNever ends octets
headless_never ends front octets none rest split h more (n, there, c) =
    let all = octets ++ more in
    let g = front_headed ends all n none c in
    h (rest ++ more) (HasFront-from_parts IsSomeHead g.head g.rest ((take ends.count ends.head ++ front) ++ (rest ++ more)) (sym (held_split ends front octets rest more split) ∙ g.joined) (g.opened, g.is))

no_end_outside : (around : ℕ) (rest : List ℕ) → around ≡ 0 → Follows End around rest → ⊥
no_end_outside zero rest none f = f
no_end_outside (suc around) rest none f = omega arith

-- nor where end-of-contents octets end nothing
pub end_never : (ends : Ends) (front octets : List ℕ) → ends.left ≡ 0 → ends.open ≡ 0 → (rest : List ℕ) → octets ≡ front ++ rest
    → IsHead End (take ends.count ends.head ++ front) → EndsNever ends octets
end_never ends front octets none outside rest split is more (n, there, c) =
    let all = octets ++ more in
    let g = front_headed ends all n none c in
    let same = head_unique End g.opened (take ends.count ends.head ++ front) g.head (rest ++ more) g.rest is g.is (sym (held_split ends front octets rest more split) ∙ g.joined) in
    no_end_outside ends.open g.behind outside (subst (λ o. Follows o ends.open g.behind) (sym same.opened) g.follows)

-- where contents octets are due, no head is taken
pub due_moved : (ends : Ends) → 0 < ends.left → ends.count ≡ 0 → HasMoved ends ends []
due_moved ends due none =
    record { none_cut = none; none_before = λ n below. absurd (omega arith); rest = λ rest. inside ends.left ends.open (take ends.count ends.head) rest (omega arith) (none_held ends.count ends.head none) }

-- before any octets
pub goes_nowhere : (ends : Ends) → GoesOn ends ends []
goes_nowhere ends rest = same

-- nothing completes it before the end of a step behind others
none_joined : (initial : Ends) (Q : List ℕ → Type 0) (front step : List ℕ) → EndsNotBefore initial front → ((rest : List ℕ) → Q rest ↔ Completes initial (front ++ rest))
    → ((n : ℕ) → n < length step → Q (take n step) → ⊥) → EndsNotBefore initial (front ++ step)
none_joined initial Q front step before goes behind n below c =
    elim (cases_lt n (length front)) [
      | inl early ↦ before n early (subst (Completes initial) (take-append-le n front step (omega arith)) c)
      | inr late ↦
          let size : n ≡ length front + (n - length front) = omega arith in
          let split : take n (front ++ step) ≡ front ++ take (n - length front) step = ap (λ k. take k (front ++ step)) size ∙ take-append-add front step (n - length front) in
          behind (n - length front) (omega (arith, below, length-append front step)) ((goes (take (n - length front) step)).1 (subst (Completes initial) split c))
    ]

pub none_behind : (initial now : Ends) (front step : List ℕ) → EndsNotBefore initial front → GoesOn initial now front → (HasFront (Completes now) step → ⊥) → HasFront (Completes initial) (front ++ step) → ⊥
none_behind initial now front step before goes behind (n, there, c) =
    elim (cases_lt n (length front)) [
      | inl early ↦ before n early (subst (Completes initial) (take-append-le n front step (omega arith)) c)
      | inr late ↦
          let size : n ≡ length front + (n - length front) = omega arith in
          let split : take n (front ++ step) ≡ front ++ take (n - length front) step = ap (λ k. take k (front ++ step)) size ∙ take-append-add front step (n - length front) in
          behind (n - length front, omega (arith, there, length-append front step), (goes (take (n - length front) step)).1 (subst (Completes initial) split c))
    ]

-- one step behind others
pub step_moved : (initial now new : Ends) (piece : List ℕ) (at used : ℕ) → EndsNotBefore initial (take at piece) → GoesOn initial now (take at piece) → HasMoved now new (take used (drop at piece)) → HasMoved initial new (take (at + used) piece)
step_moved initial now new piece at used before goes h =
    let front = take at piece in
    let step = take used (drop at piece) in
    record {
      none_cut = h.none_cut;
      none_before = subst (EndsNotBefore initial) (sym (take-add at used piece)) (none_joined initial (Completes now) front step before goes h.none_before);
      rest = λ rest.
          let joined : front ++ (step ++ rest) ≡ take (at + used) piece ++ rest = sym (append_assoc front step rest) ∙ ap (λ x. x ++ rest) (sym (take-add at used piece)) in
          let first = h.rest rest in
          let second = goes (step ++ rest) in
          let third = along (Completes initial) (front ++ (step ++ rest)) (take (at + used) piece ++ rest) joined in
          (λ x. third.0 (second.0 (first.0 x)), λ x. first.1 (second.1 (third.1 x)));
    }

drop_behind : (left more : ℕ) (front rest : List ℕ) → left ≡ length front + more → drop left (front ++ rest) ≡ drop more rest
drop_behind left more front rest is = ap (λ n. drop n (front ++ rest)) is ∙ (sym (drop-drop more (length front) (front ++ rest)) ∙ ap (drop more) (drop-append_seam front rest))

passed_rest : (left left' around around' : ℕ) (front rest : List ℕ) → left' + length front ≡ left → around' ≡ around → IsRestBehind left' around' rest ↔ IsRestBehind left around (front ++ rest)
passed_rest left left' around around' front rest due open_same =
    let behind : drop left (front ++ rest) ≡ drop left' rest = drop_behind left left' front rest (omega arith) in
    let size : length (front ++ rest) ≡ length front + length rest = length-append front rest in (
      λ x. (omega (arith, x.0), subst (λ n. IsRestOf n (drop left (front ++ rest))) open_same (subst (IsRestOf around') (sym behind) x.1)),
      λ x. (omega (arith, x.0), subst (IsRestOf around') behind (subst (λ n. IsRestOf n (drop left (front ++ rest))) (sym open_same) x.1)),
    )

-- contents octets behind others
pub pass_moved : (initial now new : Ends) (piece : List ℕ) (at passed : ℕ) → at ≤ length piece → HasMoved initial now (take at piece) → HasPassed now new (length piece - at) passed → HasMoved initial new (take (at + passed) piece)
pass_moved initial now new piece at passed there h p =
    let front = take at piece in
    let step = take passed (drop at piece) in
    let size : length step ≡ passed = length-take-le passed (drop at piece) (omega (arith, p.within, length-drop at piece)) in
    record {
      none_cut = p.same.1 ∙ h.none_cut;
      none_before =
          let due : (n : ℕ) → n < length step → IsRestBehind now.left now.open (take n step) → ⊥ = λ n below c. omega (arith, c.0, p.due, size, length-take-le n step (omega arith)) in
          subst (EndsNotBefore initial) (sym (take-add at passed piece)) (none_joined initial (IsRestBehind now.left now.open) front step h.none_before h.rest due);
      rest = λ rest.
          let joined : front ++ (step ++ rest) ≡ take (at + passed) piece ++ rest = sym (append_assoc front step rest) ∙ ap (λ x. x ++ rest) (sym (take-add at passed piece)) in
          let first = passed_rest now.left new.left now.open new.open step rest (omega (arith, p.due, size)) p.same.0 in
          let second = h.rest (step ++ rest) in
          let third = along (Completes initial) (front ++ (step ++ rest)) (take (at + passed) piece ++ rest) joined in
          (λ x. third.0 (second.0 (first.0 x)), λ x. first.1 (second.1 (third.1 x)));
    }

-- an encoding that is not complete goes on
pub moved_on : (initial now : Ends) (octets : List ℕ) → HasMoved initial now octets → 0 < now.left + now.open → GoesOn initial now octets
moved_on initial now octets h some rest =
    let first = inside now.left now.open (take now.count now.head) rest some (none_held now.count now.head h.none_cut) in
    let second = h.rest rest in
    (λ x. second.0 (first.1 x), λ x. first.0 (second.1 x))

nothing_left : (left around : ℕ) → left ≡ 0 → around ≡ 0 → IsRestBehind left around []
unfolding IsRestOf
nothing_left zero zero a b = (omega arith, refl)
nothing_left zero (suc around) a b = absurd (omega arith)
nothing_left (suc left) around a b = absurd (omega arith)

-- and one of which nothing is left is complete
pub moved_ends : (initial now : Ends) (octets : List ℕ) → HasMoved initial now octets → now.left ≡ 0 → now.open ≡ 0 → Completes initial octets
moved_ends initial now octets h left around = subst (Completes initial) (append-nil octets) ((h.rest []).0 (nothing_left now.left now.open left around))

pub goes_on : (initial now new : Ends) (piece : List ℕ) (at : ℕ) → GoesOn initial now (take at piece) → GoesOn now new (drop at piece) → GoesOn initial new piece
goes_on initial now new piece at f g rest =
    let joined : take at piece ++ (drop at piece ++ rest) ≡ piece ++ rest = sym (front_of_more at piece rest) in
    let first = g rest in
    let second = f (drop at piece ++ rest) in
    let third = along (Completes initial) (take at piece ++ (drop at piece ++ rest)) (piece ++ rest) joined in
    (λ x. third.0 (second.0 (first.0 x)), λ x. first.1 (second.1 (third.1 x)))

pub never_on : (initial now : Ends) (piece : List ℕ) (at : ℕ) → EndsNotBefore initial (take at piece) → GoesOn initial now (take at piece) → EndsNever now (drop at piece) → EndsNever initial piece
never_on initial now piece at before goes never more h =
    none_behind initial now (take at piece) (drop at piece ++ more) before goes (never more) (subst (HasFront (Completes initial)) (front_of_more at piece more) h)

-- a refusal that went through a `?`
pub refused : (old new : Ends) (octets : List ℕ) (r : Result (Option ℕ) Refusal) (refusal : Refusal) → IsErrAnd r (λ e. e ≡ refusal) → TakesHead old new octets (Err refusal) → TakesHead old new octets r
refused old new octets (Ok x) refusal same_one h = absurd same_one
refused old new octets (Err e) refusal same_one h = subst (λ x. TakesHead old new octets (Err x)) (sym same_one) h

front_held : (ends : Ends) (octets : List ℕ) → ends.count ≡ 0 → take ends.count ends.head ++ octets ≡ octets
front_held ends octets none = ap (λ x. x ++ octets) (none_held ends.count ends.head none)

-- where no octets of a head are held
pub head_never : (ends : Ends) (octets : List ℕ) → ends.left ≡ 0 → ends.count ≡ 0 → ((more : List ℕ) → HasFront IsSomeHead (octets ++ more) → ⊥) → EndsNever ends octets
head_never ends octets due none never =
    headless_never ends octets octets due [] (sym (append-nil octets)) (λ more f. never more (subst (λ x. HasFront IsSomeHead (x ++ more)) (front_held ends octets none) f))

-- an end that ends nothing, some of whose octets were held
pub outside_never : (o : Opened) (ends : Ends) (used : ℕ) (octets : List ℕ) → ends.left ≡ 0 → IsHead o (take ends.count ends.head ++ take used octets) → (o ≡ End) × (ends.open ≡ 0) → EndsNever ends octets
outside_never o ends used octets due is outside =
    end_never ends (take used octets) octets due outside.1 (drop used octets) (whole_front used octets) (subst (λ p. IsHead p (take ends.count ends.head ++ take used octets)) outside.0 is)

pub held_head : (o : Opened) (ends : Ends) (used : ℕ) (octets : List ℕ) → ends.count ≡ 0 → IsHead o (take used octets) → IsHead o (take ends.count ends.head ++ take used octets)
held_head o ends used octets none is = subst (IsHead o) (sym (front_held ends (take used octets) none)) is

-- a head has octets
pub some_used : (o : Opened) (used : ℕ) (octets : List ℕ) → IsHead o (take used octets) → 0 < used
some_used o zero octets is = absurd (no_head-nil (0, omega arith, (o, is)))
some_used o (suc used) octets is = omega arith

-- one octet more of a head that was cut
pub held_more : (head octets held : List ℕ) (n place : ℕ) → n < length head → place < length octets → take n head ≡ held ++ take place octets
    → take (n + 1) (set head n (get_or octets place 0)) ≡ held ++ take (place + 1) octets
held_more head octets held n place there here is =
    let octet = get_or octets place 0 in
    take_more_set head n octet there ∙ (ap (λ x. x ++ (octet ∷ [])) is ∙ (append_assoc held (take place octets) (octet ∷ []) ∙ ap (λ x. held ++ x) (sym (take_more octets place 0 here))))

-- the head that it makes whole has no fewer octets
pub whole_head : (o : Opened) (cut whole : List ℕ) (octet used : ℕ) → whole ≡ cut ++ (octet ∷ []) → (HasFront IsSomeHead cut → ⊥) → used ≤ length whole → IsHead o (take used whole) → IsHead o whole
whole_head o cut whole octet used is none there h =
    let size : length whole ≡ length cut + 1 = ap length is ∙ length-append cut (octet ∷ []) in
    elim (cases_lt (length cut) used) [
      | inl all ↦ subst (IsHead o) (take_all used whole (omega arith)) h
      | inr fewer ↦
          let front : take used whole ≡ take used cut = ap (take used) is ∙ take-append-le used cut (octet ∷ []) fewer in
          absurd (none (used, fewer, (o, subst (IsHead o) front h)))
    ]

-- the head that one octet more makes whole
pub cut_head : (o : Opened) (ends : Ends) (octets held : List ℕ) (place used : ℕ) → ends.count < length ends.head → place < length octets → take ends.count ends.head ≡ held ++ take place octets
    → used ≤ length (take (ends.count + 1) (set ends.head ends.count (get_or octets place 0))) → IsHead o (take used (take (ends.count + 1) (set ends.head ends.count (get_or octets place 0)))) → IsHead o (held ++ take (place + 1) octets)
cut_head o ends octets held place used there here is within h =
    let octet = get_or octets place 0 in
    let whole = take (ends.count + 1) (set ends.head ends.count octet) in
    subst (IsHead o) (held_more ends.head octets held ends.count place there here is) (whole_head o (take ends.count ends.head) whole octet used (take_more_set ends.head ends.count octet there) ends.cut within h)

-- none begins with the octets that are held
pub cut_never : (old ends : Ends) (octets : List ℕ) (place : ℕ) → old.left ≡ 0 → ends.count < length ends.head → place < length octets → take ends.count ends.head ≡ take old.count old.head ++ take place octets
    → ((more : List ℕ) → HasFront IsSomeHead (take (ends.count + 1) (set ends.head ends.count (get_or octets place 0)) ++ more) → ⊥) → EndsNever old octets
cut_never old ends octets place due there here is never =
    let held = held_more ends.head octets (take old.count old.head) ends.count place there here is in
    headless_never old (take (place + 1) octets) octets due (drop (place + 1) octets) (whole_front (place + 1) octets) (λ more f. never more (subst (λ x. HasFront IsSomeHead (x ++ more)) (sym held) f))

-- a head opens the same of what differs in nothing else
pub opens_same : (o : Opened) (old mid new : Ends) → mid.left ≡ old.left → mid.open ≡ old.open → Opens o mid new → Opens o old new
opens_same (Definite n) old mid new left around h = (h.0, h.1 ∙ around)
opens_same Indefinite old mid new left around h = (h.0 ∙ left, h.1 ∙ ap suc around)
opens_same End old mid new left around h = (h.0 ∙ left, h.1 ∙ around)

-- a turn: a head, and contents octets
abbrev pub turn_taken : (now mid : Ends) (piece : List ℕ) (at used : ℕ) → TakesHead now mid (take (length piece - at) (drop at piece)) (Ok (Some used)) → TakesHead now mid (drop at piece) (Ok (Some used))
turn_taken now mid piece at used h = subst (λ x. TakesHead now mid x (Ok (Some used))) (take_rest piece at) h

pub turn_within : (now mid new : Ends) (piece : List ℕ) (at used passed : ℕ) → at ≤ length piece → TakesHead now mid (take (length piece - at) (drop at piece)) (Ok (Some used)) → HasPassed mid new (length piece - (at + used)) passed → at + used + passed ≤ length piece
turn_within now mid new piece at used passed there h p =
    let taken = turn_taken now mid piece at used h in
    omega (arith, taken.1, length-drop at piece, p.within)

pub turn_moved : (initial now mid new : Ends) (piece : List ℕ) (at used passed : ℕ) → at ≤ length piece → EndsNotBefore initial (take at piece) → GoesOn initial now (take at piece) → TakesHead now mid (take (length piece - at) (drop at piece)) (Ok (Some used)) → HasPassed mid new (length piece - (at + used)) passed
    → HasMoved initial new (take (at + used + passed) piece)
turn_moved initial now mid new piece at used passed there before goes h p =
    let taken = turn_taken now mid piece at used h in
    pass_moved initial mid new piece (at + used) passed (omega (arith, taken.1, length-drop at piece)) (step_moved initial now mid piece at used before goes taken.2) p

-- a piece that ends among contents octets
pub piece_passed : (initial now mid new : Ends) (piece : List ℕ) (at used passed : ℕ) → at ≤ length piece → EndsNotBefore initial (take at piece) → GoesOn initial now (take at piece) → TakesHead now mid (take (length piece - at) (drop at piece)) (Ok (Some used)) → HasPassed mid new (length piece - (at + used)) passed
    → 0 < new.left → GoesOn initial new piece
piece_passed initial now mid new piece at used passed there before goes h p more =
    let taken = turn_taken now mid piece at used h in
    let all : passed ≡ length piece - (at + used) = p.all more in
    let whole : take (at + used + passed) piece ≡ piece = take_all (at + used + passed) piece (omega (arith, taken.1, length-drop at piece)) in
    subst (GoesOn initial new) whole (moved_on initial new (take (at + used + passed) piece) (turn_moved initial now mid new piece at used passed there before goes h p) (omega (arith, more)))

-- which completes nothing before
pub piece_none : (initial now mid new : Ends) (piece : List ℕ) (at used passed : ℕ) → at ≤ length piece → EndsNotBefore initial (take at piece) → GoesOn initial now (take at piece) → TakesHead now mid (take (length piece - at) (drop at piece)) (Ok (Some used)) → HasPassed mid new (length piece - (at + used)) passed
    → 0 < new.left → HasFront (Completes initial) piece → ⊥
piece_none initial now mid new piece at used passed there before goes h p more (n, within, c) =
    let taken = turn_taken now mid piece at used h in
    let all : passed ≡ length piece - (at + used) = p.all more in
    let whole : take (at + used + passed) piece ≡ piece = take_all (at + used + passed) piece (omega (arith, taken.1, length-drop at piece)) in
    let moved = subst (HasMoved initial new) whole (turn_moved initial now mid new piece at used passed there before goes h p) in
    elim (cases_lt n (length piece)) [
      | inl early ↦ moved.none_before n early c
      | inr end ↦
          let exact : take n piece ≡ piece ++ [] = take_all n piece end ∙ sym (append-nil piece) in
          let left = (moved.rest []).1 (subst (Completes initial) exact c) in
          omega (arith, left.0, more)
    ]

pub turn_none : (initial now new : Ends) (piece : List ℕ) (at : ℕ) → EndsNotBefore initial (take at piece) → GoesOn initial now (take at piece) → (HasFront (Completes now) (drop at piece) → ⊥) → HasFront (Completes initial) piece → ⊥
turn_none initial now new piece at before goes behind h =
    none_behind initial now (take at piece) (drop at piece) before goes behind (subst (HasFront (Completes initial)) (whole_front at piece) h)
