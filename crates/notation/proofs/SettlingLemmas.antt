-- What is known of names, each looked at after those that it refers to.
use Rattle.std.proofs.Common.{◌≡◌, ◌≢◌, ◌+◌, ◌<◌, ◌≤◌, ◌⊎◌, inl, inr, ℕ, Bool, true, false, List, [], ◌∷◌, ◌++◌, Option, Some, None, Vec, Global, IfSome, map, take, set, slice_get, get_or, length, refl, sym, ap, ◌∙◌, subst, arith, Contains}
use Rattle.std.specs.Prelude.{slice_index, unwrap_or, option_and_then, option_map}
use Rattle.std.specs.Option.{option_map_or}
use Rattle.std.proofs.lemmas.List.{take_more, take-append-le, take_all, length-set, length-map, get_or-set_same, get_or-set_other, length-append}
use Rattle.std.proofs.lemmas.Bool.{false≢true, cases_eq, cases_lt}
use Rattle.std.proofs.lemmas.Option.{slice_get-get_or, slice_get_past, slice_get_within, get_or_from_slice_get, slice_get-map, unwrap_or-slice_get}
use Rattle.types.proofs.ListLemmas.{contains_first}
use Rattle.syntax.specs.Tree.{Form, reference}
use Rattle.syntax.specs.View.{form, tree, assignment}
use Rattle.syntax.specs.declared.tree.Assignment.{Assignment}
use Rattle.syntax.specs.declared.tree.Module.{Module}
use Rattle.notation.specs.References.{names_in, IsClosed}
use Rattle.notation.specs.Known.{LeadsTo, IsScope, KnowsNothing, IsNewScope}
use Rattle.notation.specs.Settled.{place_in, places_in, places_at, known_at, known_of, MeansNothing, NamesTold, IsSettled}
use Rattle.notation.specs.Waiting.{is_among, left_of, times, AreReady, AreWaiting, Extends}
use Rattle.notation.specs.Ordering.{users_at, AreUsers, AllWait}
use Rattle.notation.specs.Settling.{IsSettling}
use Rattle.notation.specs.declared.scope.Seen.{Seen}
use Rattle.notation.specs.declared.scope.Scope.{Scope}
use Rattle.notation.proofs.UniqueLemmas.{one_assignment}
use Rattle.notation.proofs.ReferenceLemmas.{nothing_meant}
use Rattle.notation.proofs.WaitingLemmas.{none_left, one_left, waiting-done, next_is_new, at_is_among, ready_within, among-cases, among-new, among-old}
use Rattle.notation.proofs.PlaceLemmas.{place_named, unassigned_nothing, assigned_place, placed_nothing, places_at_is, from_filter, into_filter}

left_none : (xs : List ℕ) → left_of [] xs ≡ length xs
left_none [] = refl
left_none (x ∷ xs) = let more = left_none xs in omega (arith, more)

unknown_at : (seen : List (Option Seen)) (place : ℕ) → KnowsNothing seen → known_at seen place ≡ None
unknown_at seen place none = by_value (slice_get seen place) refl
  where
    by_value : (o : Option (Option Seen)) → slice_get seen place ≡ o → unwrap_or o None ≡ None
    by_value None e = refl
    by_value (Some None) e = refl
    by_value (Some (Some s)) e = absurd (none place s e)

-- before the first is looked at
pub settling_start : (m : Module) (scope : Scope) (waiting ready : List ℕ) (users : List (Vec ℕ Global)) → IsNewScope m scope → AllWait (tree m) (length (tree m).assignments) waiting users → AreReady waiting (length waiting) ready → IsSettling m scope.seen.items waiting users ready 0
settling_start m scope waiting ready users new h are = record {
  wait = record {
    counts = λ place below. let l = h.long in let e = h.counts place (omega (arith, l, below)) in let f = left_none (places_at (tree m) place) in omega (arith, e, f);
    are_ready = are;
  };
  long = h.long;
  all_users = h.all_users;
  are_users = h.are_users;
  within = omega arith;
  done = λ place a among at none. absurd (false≢true among);
  rest = λ place none. unknown_at scope.seen.items place new.new;
}

module _ (m : Module) (scope : Scope) (known : IsScope m scope) (waiting ready : List ℕ) (users : List (Vec ℕ Global)) (turn : ℕ) where
  done_place : (place : ℕ) → IsSettling m scope.seen.items waiting users ready turn → (q : ℕ) (name : List ℕ) → place_in (tree m) name ≡ Some q → is_among (take turn ready) q ≡ true → known_of (tree m) scope.seen.items name ≡ None → MeansNothing (tree m) (reference name)
  done_place place h q name at among none =
      let b = place_named (tree m) name q at in
      let unknown : known_at scope.seen.items q ≡ None = sym (ap (option_and_then (known_at scope.seen.items)) at) ∙ none in
      placed_nothing (tree m) known.differ name q b.0 b.1 b.2 (h.done q b.0 among b.1 unknown)

  -- the names in the next one are told
  pub next_told : (place d : ℕ) (a : List ℕ × Form) → turn < length ready → place ≡ get_or ready turn d → slice_get (tree m).assignments place ≡ Some a → IsSettling m scope.seen.items waiting users ready turn → NamesTold (tree m) scope.seen.items a.1
  next_told place d a within is at h = λ name c none. by_value name c none (place_in (tree m) name) refl
    where
      among_ready : is_among ready place ≡ true
      among_ready = subst (λ (p : ℕ). is_among ready p ≡ true) (sym is) (at_is_among ready turn d within)

      nothing_left : left_of (take turn ready) (places_at (tree m) place) ≡ 0
      nothing_left =
          let ready_at = h.wait.are_ready.only place among_ready in
          let zero_at = ready_at.1 in
          let count = h.wait.counts place ready_at.0 in
          omega (arith, zero_at, count)

      by_value : (name : List ℕ) → Contains (names_in a.1) name → known_of (tree m) scope.seen.items name ≡ None → (o : Option ℕ) → place_in (tree m) name ≡ o → MeansNothing (tree m) (reference name)
      by_value name c none None e = unassigned_nothing (tree m) name e
      by_value name c none (Some q) e =
          let stands : Contains (places_at (tree m) place) q = subst (λ (ps : List ℕ). Contains ps q) (sym (places_at_is (tree m) place a at)) (into_filter (place_in (tree m)) (names_in a.1) name q c e) in
          done_place place h q name e (none_left (take turn ready) (places_at (tree m) place) nothing_left q stands) none

  -- all that are ready are looked at
  pub settling_end : length ready ≤ turn → IsSettling m scope.seen.items waiting users ready turn → IsSettled m scope
  settling_end past h = record { known = known; others = λ name none. by_value name none (place_in (tree m) name) refl }
    where
      all_done : take turn ready ≡ ready
      all_done = take_all turn ready past

      waits : AreWaiting (λ place. left_of ready (places_at (tree m) place)) [] waiting ready
      waits = subst (λ (xs : List ℕ). AreWaiting (λ (place : ℕ). left_of xs (places_at (tree m) place)) [] waiting ready) all_done h.wait

      closed : IsClosed (tree m) (λ name. (q : ℕ) × (place_in (tree m) name ≡ Some q) × (is_among ready q ≡ false))
      closed name open_name f assigned =
          let b = place_named (tree m) name open_name.0 open_name.1 in
          let same : f ≡ b.0.1 = one_assignment (tree m) known.differ name f b.0.1 assigned (assigned_place (tree m) name open_name.0 b.0 b.1 b.2) in
          let below : open_name.0 < length waiting = (let l = h.long in let w = slice_get_within (tree m).assignments open_name.0 b.0 b.1 in omega (arith, l, w)) in
          let r = one_left (places_at (tree m)) ready waiting waits open_name.0 below open_name.2 in
          let stands : Contains (places_in (tree m) b.0.1) r.0 = subst (λ (ps : List ℕ). Contains ps r.0) (places_at_is (tree m) open_name.0 b.0 b.1) r.1 in
          let n = from_filter (place_in (tree m)) (names_in b.0.1) r.0 stands in
          (n.0, subst (λ (g : Form). Contains (names_in g) n.0) (sym same) n.1, (r.0, n.2, r.2))

      by_mark : (name : List ℕ) (q : ℕ) → place_in (tree m) name ≡ Some q → known_of (tree m) scope.seen.items name ≡ None → (mark : Bool) → is_among ready q ≡ mark → MeansNothing (tree m) (reference name)
      by_mark name q e none true f = done_place q h q name e (subst (λ (xs : List ℕ). is_among xs q ≡ true) (sym all_done) f) none
      by_mark name q e none false f = λ type d. nothing_meant (tree m) (λ (n : List ℕ). (p : ℕ) × (place_in (tree m) n ≡ Some p) × (is_among ready p ≡ false)) closed d name (contains_first name name [] refl) (q, e, f)

      by_value : (name : List ℕ) → known_of (tree m) scope.seen.items name ≡ None → (o : Option ℕ) → place_in (tree m) name ≡ o → MeansNothing (tree m) (reference name)
      by_value name none None e = unassigned_nothing (tree m) name e
      by_value name none (Some q) e = by_mark name q e none (is_among ready q) refl

pub known_other : (seen after : List (Option Seen)) (place p : ℕ) (x : Option Seen) → after ≡ set seen place x → (place ≡ p → ⊥) → known_at after p ≡ known_at seen p
known_other seen after place p x is ne =
    ap (λ (xs : List (Option Seen)). known_at xs p) is ∙ unwrap_or-slice_get (set seen place x) p None ∙ get_or-set_other seen place p x None (λ same. ne (sym same)) ∙ sym (unwrap_or-slice_get seen p None)

pub known_same : (seen after : List (Option Seen)) (place : ℕ) (x : Option Seen) → after ≡ set seen place x → place < length seen → known_at after place ≡ x
known_same seen after place x is within = ap (λ (xs : List (Option Seen)). known_at xs place) is ∙ unwrap_or-slice_get (set seen place x) place None ∙ get_or-set_same seen place x None within

-- one more is looked at
pub settling_more : (m : Module) (scope : Scope) → IsScope m scope → (waiting waiting' ready ready' : List ℕ) (users users' : List (Vec ℕ Global)) (turn place d : ℕ) (x : Option Seen) (after : List (Option Seen)) → turn < length ready → place ≡ get_or ready turn d → after ≡ set scope.seen.items place x
    → (x ≡ None → (a : List ℕ × Form) → slice_get (tree m).assignments place ≡ Some a → NamesTold (tree m) scope.seen.items a.1 → MeansNothing (tree m) a.1)
    → users' ≡ users → ((left : ℕ → ℕ) → AreWaiting left (users_at users place) waiting ready → AreWaiting left [] waiting' ready') → length waiting' ≡ length waiting → Extends ready ready'
    → IsSettling m scope.seen.items waiting users ready turn → IsSettling m after waiting' users' ready' (turn + 1)
settling_more m scope known waiting waiting' ready ready' users users' turn place d x after within is set_is none same_users released long extends h = record {
  wait = subst (λ (xs : List ℕ). AreWaiting (λ (p : ℕ). left_of xs (places_at (tree m) p)) [] waiting' ready') (sym done_is) (released (λ (p : ℕ). left_of (take turn ready ++ place ∷ []) (places_at (tree m) p)) later);
  long = long ∙ h.long;
  all_users = ap length same_users ∙ h.all_users;
  are_users = subst (AreUsers (tree m) (length (tree m).assignments)) (sym same_users) h.are_users;
  within = (let e = ap length extends.1 ∙ length-append ready extends.0 in omega (arith, e, within));
  done = λ p a among at unknown. by_done p a at unknown (among-cases (take turn ready) place p (subst (λ (xs : List ℕ). is_among xs p ≡ true) done_is among));
  rest = λ p off. by_rest p (subst (λ (xs : List ℕ). is_among xs p ≡ false) done_is off);
}
  where
    done_is : take (turn + 1) ready' ≡ take turn ready ++ place ∷ []
    done_is =
        ap (take (turn + 1)) extends.1 ∙ take-append-le (turn + 1) ready extends.0 (omega (arith, within)) ∙ take_more ready turn d within
        ∙ ap (λ (p : ℕ). take turn ready ++ p ∷ []) (sym is)

    new : is_among (take turn ready) place ≡ false
    new = subst (λ (p : ℕ). is_among (take turn ready) p ≡ false) (sym is) (next_is_new ready turn d within h.wait.are_ready.once)

    here : (place < length waiting) × (slice_index waiting place ≡ 0)
    here = h.wait.are_ready.only place (subst (λ (p : ℕ). is_among ready p ≡ true) (sym is) (at_is_among ready turn d within))

    enough : (p : ℕ) → times place (places_at (tree m) p) ≡ times p (users_at users place)
    enough p = by_bound (cases_lt p (length (tree m).assignments))
      where
        placed : place < length users
        placed = let a = here.0 in let l = h.long in let u = h.all_users in omega (arith, a, l, u)

        by_bound : (p < length (tree m).assignments) ⊎ (length (tree m).assignments ≤ p) → times place (places_at (tree m) p) ≡ times p (users_at users place)
        by_bound (inl below) = sym (h.are_users.below place p placed below)
        by_bound (inr past) = ap (λ (o : Option (List ℕ × Form)). times place (option_map_or (λ (b : List ℕ × Form). places_in (tree m) b.1) o [])) (slice_get_past (tree m).assignments p past) ∙ sym (h.are_users.above place p placed past)

    later : AreWaiting (λ p. left_of (take turn ready ++ place ∷ []) (places_at (tree m) p)) (users_at users place) waiting ready
    later = waiting-done (places_at (tree m)) (take turn ready) place (users_at users place) waiting ready new enough h.wait

    seen_within : place < length scope.seen.items
    seen_within = let a = here.0 in let l = h.long in let s = known.long in let t = length-map m.assignments.items assignment in omega (arith, a, l, s, t)

    by_done : (p : ℕ) (a : List ℕ × Form) → slice_get (tree m).assignments p ≡ Some a → known_at after p ≡ None → (is_among (take turn ready) p ≡ true) ⊎ (place ≡ p) → MeansNothing (tree m) a.1
    by_done p a at unknown (inl old) =
        let apart : place ≡ p → ⊥ = λ same. false≢true (sym new ∙ subst (λ (q : ℕ). is_among (take turn ready) q ≡ true) (sym same) old) in
        h.done p a old at (sym (known_other scope.seen.items after place p x set_is apart) ∙ unknown)
    by_done p a at unknown (inr same) =
        let own : slice_get (tree m).assignments place ≡ Some a = ap (slice_get (tree m).assignments) same ∙ at in
        let is_none : x ≡ None = sym (known_same scope.seen.items after place x set_is seen_within) ∙ ap (known_at after) same ∙ unknown in
        none is_none a own (next_told m scope known waiting ready users turn place d a within is own h)

    by_rest : (p : ℕ) → is_among (take turn ready ++ place ∷ []) p ≡ false → known_at after p ≡ None
    by_rest p off =
        let apart : place ≡ p → ⊥ = λ same. false≢true (sym off ∙ subst (λ (q : ℕ). is_among (take turn ready ++ place ∷ []) q ≡ true) same (among-new (take turn ready) place)) in
        known_other scope.seen.items after place p x set_is apart ∙ h.rest p (by_old p off (is_among (take turn ready) p) refl)
      where
        by_old : (q : ℕ) → is_among (take turn ready ++ place ∷ []) q ≡ false → (mark : Bool) → is_among (take turn ready) q ≡ mark → is_among (take turn ready) q ≡ false
        by_old q f false e = e
        by_old q f true e = absurd (false≢true (sym f ∙ among-old (take turn ready) place q e))

-- the scope still tells what it did, and what is known of the one
pub scope_kept : (m : Module) (scope after : Scope) (place : ℕ) (x : Option Seen) → after.module ≡ scope.module → after.names ≡ scope.names → after.seen.items ≡ set scope.seen.items place x
    → IfSome x (λ s. (a : List ℕ × Form) → slice_get (tree m).assignments place ≡ Some a → LeadsTo (tree m) None a.1 s.root) → IsScope m scope → IsScope m after
scope_kept m scope after place x same_module same_names is leads h = record {
  module_is = ap (λ r. r.now) same_module ∙ h.module_is;
  differ = h.differ;
  long = ap length is ∙ length-set scope.seen.items place x ∙ h.long;
  names = ap (λ s. map (λ k. k.now) s.keys) same_names ∙ h.names;
  seen = λ p a s at known. by_place p a s at (subst (λ (xs : List (Option Seen)). slice_get xs p ≡ Some (Some s)) is known) (cases_eq place p);
}
  where
    by_value : (o : Option Seen) (p : ℕ) (a : Assignment) (s : Seen) → o ≡ Some s → IfSome o (λ t. (b : List ℕ × Form) → slice_get (tree m).assignments p ≡ Some b → LeadsTo (tree m) None b.1 t.root) → slice_get m.assignments.items p ≡ Some a → LeadsTo (tree m) None (form a.body) s.root
    by_value None p a s e g at = absurd cc
    by_value (Some t) p a s e g at = let same : t ≡ s = cc in subst (λ (u : Seen). LeadsTo (tree m) None (form a.body) u.root) same (g (assignment a) (slice_get-map assignment m.assignments.items p ∙ ap (option_map assignment) at))

    by_place : (p : ℕ) (a : Assignment) (s : Seen) → slice_get m.assignments.items p ≡ Some a → slice_get (set scope.seen.items place x) p ≡ Some (Some s) → (place ≡ p) ⊎ (place ≢ p) → LeadsTo (tree m) None (form a.body) s.root
    by_place p a s at known (inr ne) =
        let within = slice_get_within (set scope.seen.items place x) p (Some s) known in
        let long = length-set scope.seen.items place x in
        let here : get_or scope.seen.items p None ≡ Some s = sym (get_or-set_other scope.seen.items place p x None (λ same. ne (sym same))) ∙ get_or_from_slice_get (set scope.seen.items place x) p (Some s) None known in
        h.seen p a s at (slice_get-get_or scope.seen.items p None (omega (arith, within, long)) ∙ ap Some here)
    by_place p a s at known (inl same) =
        let known_here : slice_get (set scope.seen.items place x) place ≡ Some (Some s) = ap (slice_get (set scope.seen.items place x)) same ∙ known in
        let within = slice_get_within (set scope.seen.items place x) place (Some s) known_here in
        let long = length-set scope.seen.items place x in
        let here : x ≡ Some s = sym (get_or-set_same scope.seen.items place x None (omega (arith, within, long))) ∙ get_or_from_slice_get (set scope.seen.items place x) place (Some s) None known_here in
        by_value x place a s here leads (ap (slice_get m.assignments.items) same ∙ at)

-- what a look tells, in the scope's module
pub look_leads : (m own : Module) (scope : Scope) (place : ℕ) (x : Option Seen) → own ≡ m → IsScope m scope → IfSome x (λ s. IsScope own scope → (a : List ℕ × Form) → slice_get (tree own).assignments place ≡ Some a → LeadsTo (tree own) None a.1 s.root)
    → IfSome x (λ s. (a : List ℕ × Form) → slice_get (tree m).assignments place ≡ Some a → LeadsTo (tree m) None a.1 s.root)
look_leads m own scope place None e known h = tt
look_leads m own scope place (Some s) e known h = subst (λ (n : Module). IsScope n scope → (a : List ℕ × Form) → slice_get (tree n).assignments place ≡ Some a → LeadsTo (tree n) None a.1 s.root) e h known

pub look_unknown : (m own : Module) (scope : Scope) (place : ℕ) (x : Option Seen) → own ≡ m → IsScope m scope → (x ≡ None → IsScope own scope → (a : List ℕ × Form) → slice_get (tree own).assignments place ≡ Some a → NamesTold (tree own) scope.seen.items a.1 → MeansNothing (tree own) a.1)
    → x ≡ None → (a : List ℕ × Form) → slice_get (tree m).assignments place ≡ Some a → NamesTold (tree m) scope.seen.items a.1 → MeansNothing (tree m) a.1
look_unknown m own scope place x e known h none =
    subst (λ (n : Module). IsScope n scope → (a : List ℕ × Form) → slice_get (tree n).assignments place ≡ Some a → NamesTold (tree n) scope.seen.items a.1 → MeansNothing (tree n) a.1) e (h none) known

-- after as many turns as there are assignments all that are ready are looked at
pub ready_past : (m : Module) (start : Scope) (seen : List (Option Seen)) (waiting ready : List ℕ) (users : List (Vec ℕ Global)) (turn : ℕ) → IsNewScope m start → length start.seen.items ≤ turn → IsSettling m seen waiting users ready turn → length ready ≤ turn
ready_past m start seen waiting ready users turn new long h =
    let few = ready_within waiting (length waiting) ready h.wait.are_ready in
    let l = h.long in
    let s = new.scope_of.long in
    let t = length-map m.assignments.items assignment in
    omega (arith, few, l, s, t, long)
