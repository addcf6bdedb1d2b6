-- The places of the assignments that expressions refer to, and their users.
use Rattle.std.proofs.Common.{◌≡◌, ◌≢◌, ◌+◌, ◌<◌, ◌≤◌, ◌⊎◌, inl, inr, ℕ, Bool, true, false, cond, nat_lt, List, [], ◌∷◌, ◌++◌, Option, Some, None, Vec, Global, map, take, slice_get, get_or, position, length, refl, sym, ap, ◌∙◌, subst, arith, Contains, eqb}
use Rattle.std.specs.Str.{bytes_eq}
use Rattle.std.specs.List.{filter_map, cons_option, position_or_len}
use Rattle.std.specs.Option.{option_map_or}
use Rattle.std.proofs.lemmas.Slice.Eq.{bytes_eq-Decides}
use Rattle.std.proofs.lemmas.List.{map_more, take_all, take_more, append-nil}
use Rattle.std.proofs.lemmas.List.Sums.{fails_before_first}
use Rattle.std.proofs.lemmas.List.Elements.{filter_map-append, Contains-get_or}
use Rattle.std.proofs.lemmas.List.Quantifiers.{position-Some}
use Rattle.std.proofs.lemmas.Option.{slice_get-get_or, slice_get_past, slice_get_within, get_or_from_slice_get}
use Rattle.std.proofs.lemmas.Bool.{false≢true, cases_eq, eqb-true, eq-eqb, cases_lt, ltb-false}
use Rattle.types.specs.Shape.{Shape}
use Rattle.types.proofs.ListLemmas.{not_in_nil, contains_first, contains_later, contains_cases}
use Rattle.syntax.specs.Tree.{Form, reference, Tree}
use Rattle.builtin_types.specs.Names.{NamesDiffer}
use Rattle.notation.specs.Meaning.{IsAssigned, IsMeaning, of_reference}
use Rattle.notation.specs.Settled.{place_in, places_in, places_at, MeansNothing}
use Rattle.notation.specs.Waiting.{times}
use Rattle.notation.specs.Ordering.{users_at}
use Rattle.notation.proofs.UniqueLemmas.{one_assignment}

-- one more name
module _ {K : Type 0} (f : List ℕ → Option ℕ) (text : K → List ℕ) (ks : List K) where
  step : (i : ℕ) (d : K) → i < length ks → filter_map f (map text (take (i + 1) ks)) ≡ filter_map f (map text (take i ks)) ++ filter_map f (text (get_or ks i d) ∷ [])
  step i d within = ap (filter_map f) (map_more text ks i d within) ∙ filter_map-append f (map text (take i ks)) (text (get_or ks i d) ∷ [])

  pub placed_more : (i : ℕ) (d : K) (place : ℕ) (before after : List ℕ) → i < length ks → f (text (get_or ks i d)) ≡ Some place → after ≡ before ++ place ∷ [] → before ≡ filter_map f (map text (take i ks)) → after ≡ filter_map f (map text (take (i + 1) ks))
  placed_more i d place before after within at e h =
      e ∙ ap (λ (xs : List ℕ). xs ++ place ∷ []) h ∙ sym (step i d within ∙ ap (λ (p : Option ℕ). filter_map f (map text (take i ks)) ++ cons_option p []) at)

  pub placed_none : (i : ℕ) (d : K) (before after : List ℕ) → i < length ks → f (text (get_or ks i d)) ≡ None → after ≡ before → before ≡ filter_map f (map text (take i ks)) → after ≡ filter_map f (map text (take (i + 1) ks))
  placed_none i d before after within at e h =
      e ∙ h ∙ sym (step i d within ∙ ap (λ (p : Option ℕ). filter_map f (map text (take i ks)) ++ cons_option p []) at ∙ append-nil (filter_map f (map text (take i ks))))

  pub placed_all : (i : ℕ) (names : List (List ℕ)) (places : List ℕ) → length ks ≤ i → map text ks ≡ names → places ≡ filter_map f (map text (take i ks)) → places ≡ filter_map f names
  placed_all i names places long is h = h ∙ ap (λ (xs : List K). filter_map f (map text xs)) (take_all i ks long) ∙ ap (filter_map f) is

-- an element of such a list
pub from_filter : {X : Type 0} (f : X → Option ℕ) (xs : List X) (y : ℕ) → Contains (filter_map f xs) y → (x : X) × Contains xs x × (f x ≡ Some y)
from_filter f [] y c = absurd (not_in_nil y c)
from_filter {X} f (x ∷ xs) y c = by_value (f x) refl c (from_filter f xs y)
  where
    by_value : (o : Option ℕ) → f x ≡ o → Contains (cons_option o (filter_map f xs)) y → (Contains (filter_map f xs) y → (z : X) × Contains xs z × (f z ≡ Some y)) → (z : X) × Contains (x ∷ xs) z × (f z ≡ Some y)
    by_value None e d more = let r = more d in (r.0, contains_later x r.0 xs r.1, r.2)
    by_value (Some v) e d more = elim (contains_cases v y (filter_map f xs) d) [ inl same ↦ (x, contains_first x x xs refl, e ∙ ap Some same) | inr later ↦ (let r = more later in (r.0, contains_later x r.0 xs r.1, r.2)) ]

pub into_filter : {X : Type 0} (f : X → Option ℕ) (xs : List X) (x : X) (y : ℕ) → Contains xs x → f x ≡ Some y → Contains (filter_map f xs) y
into_filter f [] x y c e = absurd (not_in_nil x c)
into_filter {X} f (first ∷ xs) x y c e = by_place (contains_cases first x xs c) (into_filter f xs x y)
  where
    by_value : (o : Option ℕ) → Contains (filter_map f xs) y → Contains (cons_option o (filter_map f xs)) y
    by_value None d = d
    by_value (Some v) d = contains_later v y (filter_map f xs) d

    by_place : (first ≡ x) ⊎ Contains xs x → (Contains xs x → f x ≡ Some y → Contains (filter_map f xs) y) → Contains (filter_map f (first ∷ xs)) y
    by_place (inl same) more = subst (λ (o : Option ℕ). Contains (cons_option o (filter_map f xs)) y) (sym (ap f same ∙ e)) (contains_first y y (filter_map f xs) refl)
    by_place (inr later) more = by_value (f first) (more later e)

-- the place of a name is that of an assignment of it
pub place_named : (m : Tree) (name : List ℕ) (place : ℕ) → place_in m name ≡ Some place → (a : List ℕ × Form) × (slice_get m.assignments place ≡ Some a) × (a.0 ≡ name)
place_named m name place e = by_list m.assignments e
  where
    by_list : (as' : List (List ℕ × Form)) → position (λ a. bytes_eq name a.0) as' ≡ Some place → (a : List ℕ × Form) × (slice_get as' place ≡ Some a) × (a.0 ≡ name)
    by_list [] f = absurd cc
    by_list (b ∷ as') f =
        let p = position-Some (λ (a : List ℕ × Form). bytes_eq name a.0) (b ∷ as') place b f in
        let a = get_or (b ∷ as') place b in
        (a, slice_get-get_or (b ∷ as') place b p.0, sym ((bytes_eq-Decides name a.0).0 p.1))

none_before : (as' : List (List ℕ × Form)) (name : List ℕ) → position (λ a. bytes_eq name a.0) as' ≡ None → length as' ≤ position_or_len (λ (a : List ℕ × Form). bytes_eq name a.0) as'
none_before as' name e = by_mark (nat_lt (position_or_len (λ (a : List ℕ × Form). bytes_eq name a.0) as') (length as')) refl
  where
    by_mark : (mark : Bool) → nat_lt (position_or_len (λ (a : List ℕ × Form). bytes_eq name a.0) as') (length as') ≡ mark → length as' ≤ position_or_len (λ (a : List ℕ × Form). bytes_eq name a.0) as'
    by_mark true f =
        let p = position_or_len (λ (a : List ℕ × Form). bytes_eq name a.0) as' in
        let same : None ≡ Some p = sym e ∙ ap (λ (b : Bool). cond b (Some p) None) f in
        absurd cc
    by_mark false f = ltb-false _ _ f

-- a name without a place is not assigned
pub unassigned : (m : Tree) (name : List ℕ) (form : Form) → place_in m name ≡ None → IsAssigned m name form → ⊥
unassigned m name form e c =
    let long = none_before m.assignments name e in
    let other : bytes_eq name (get_or m.assignments c.0 (name, form)).0 ≡ false = fails_before_first (λ (a : List ℕ × Form). bytes_eq name a.0) m.assignments c.0 (name, form) (let b = c.1 in omega (arith, long, b)) in
    false≢true (sym other ∙ (bytes_eq-Decides name (get_or m.assignments c.0 (name, form)).0).1 (sym (ap (λ (a : List ℕ × Form). a.0) c.2)))

reference_behind : (m : Tree) (name : List ℕ) (type : Shape) → IsMeaning m (reference name) type → (form : Form) × IsAssigned m name form × IsMeaning m form type
reference_behind m name type (of_reference {form} a d) = (form, a, d)

pub unassigned_nothing : (m : Tree) (name : List ℕ) → place_in m name ≡ None → MeansNothing m (reference name)
unassigned_nothing m name e = λ type d. let b = reference_behind m name type d in unassigned m name b.0 e b.1

pub assigned_place : (m : Tree) (name : List ℕ) (place : ℕ) (a : List ℕ × Form) → slice_get m.assignments place ≡ Some a → a.0 ≡ name → IsAssigned m name a.1
assigned_place m name place a at is =
    subst (λ (n : List ℕ). Contains m.assignments (n, a.1)) is (subst (Contains m.assignments) (get_or_from_slice_get m.assignments place a a at) (Contains-get_or m.assignments place a (slice_get_within m.assignments place a at)))

-- what is assigned at the place means nothing, and so the name
pub placed_nothing : (m : Tree) → NamesDiffer (map (λ (a : List ℕ × Form). a.0) m.assignments) → (name : List ℕ) (place : ℕ) (a : List ℕ × Form) → slice_get m.assignments place ≡ Some a → a.0 ≡ name → MeansNothing m a.1 → MeansNothing m (reference name)
placed_nothing m differ name place a at is none =
    λ type d. let b = reference_behind m name type d in none type (subst (λ (f : Form). IsMeaning m f type) (one_assignment m differ name b.0 a.1 b.1 (assigned_place m name place a at is)) b.2)

pub places_at_is : (m : Tree) (place : ℕ) (a : List ℕ × Form) → slice_get m.assignments place ≡ Some a → places_at m place ≡ places_in m a.1
places_at_is m place a at = ap (λ (o : Option (List ℕ × Form)). option_map_or (λ (b : List ℕ × Form). places_in m b.1) o []) at

-- the users of a place, and one more of them
pub users_told : (users : List (Vec ℕ Global)) (used : ℕ) (v : Vec ℕ Global) → used < length users → v ≡ get_or users used v → users_at users used ≡ v.items
users_told users used v within is =
    ap (λ (o : Option (Vec ℕ Global)). option_map_or (λ (u : Vec ℕ Global). u.items) o []) (slice_get-get_or users used v within) ∙ ap (λ (u : Vec ℕ Global). u.items) (sym is)

pub users_past : (users : List (Vec ℕ Global)) (used : ℕ) → length users ≤ used → users_at users used ≡ []
users_past users used past = ap (λ (o : Option (Vec ℕ Global)). option_map_or (λ (u : Vec ℕ Global). u.items) o []) (slice_get_past users used past)

times-append : (place : ℕ) (xs ys : List ℕ) → times place (xs ++ ys) ≡ times place xs + times place ys
times-append place [] ys = omega arith
times-append place (x ∷ xs) ys = let more = times-append place xs ys in omega (arith, more)

times-own : (place : ℕ) → times place (place ∷ []) ≡ 1
times-own place = rw (eq-eqb place place refl) refl

times-other : (place other : ℕ) → (other ≡ place → ⊥) → times place (other ∷ []) ≡ 0
times-other place other ne = by_mark (eqb other place) refl
  where
    by_mark : (mark : Bool) → eqb other place ≡ mark → times place (other ∷ []) ≡ 0
    by_mark true e = absurd (ne (eqb-true other place e))
    by_mark false e = rw e refl

pub noted_others : (user added : ℕ) (before after : List (Vec ℕ Global)) → ((place : ℕ) → (added ≡ place → ⊥) → users_at after place ≡ users_at before place) → (added < length before → users_at after added ≡ users_at before added ++ user ∷ []) → (length after ≡ length before)
    → (place other : ℕ) → (user ≡ other → ⊥) → times other (users_at after place) ≡ times other (users_at before place)
noted_others user added before after others own long place other ne = by_place (cases_eq added place) (cases_lt added (length before))
  where
    by_place : (added ≡ place) ⊎ (added ≢ place) → (added < length before) ⊎ (length before ≤ added) → times other (users_at after place) ≡ times other (users_at before place)
    by_place (inr apart) bound = ap (times other) (others place apart)
    by_place (inl same) (inl within) =
        let e = times-append other (users_at before added) (user ∷ []) in
        let z = times-other other user ne in
        let g : times other (users_at after added) ≡ times other (users_at before added) = ap (times other) (own within) ∙ omega (arith, e, z) in
        subst (λ (p : ℕ). times other (users_at after p) ≡ times other (users_at before p)) same g
    by_place (inl same) (inr past) =
        subst (λ (p : ℕ). times other (users_at after p) ≡ times other (users_at before p)) same (ap (times other) (users_past after added (omega (arith, long, past)) ∙ sym (users_past before added past)))

pub noted_own : (user : ℕ) (used : List ℕ) (i d : ℕ) (before after : List (Vec ℕ Global)) (start : ℕ → ℕ) → i < length used → ((place : ℕ) → (get_or used i d ≡ place → ⊥) → users_at after place ≡ users_at before place)
    → (get_or used i d < length before → users_at after (get_or used i d) ≡ users_at before (get_or used i d) ++ user ∷ []) → ((place : ℕ) → place < length before → times user (users_at before place) ≡ start place + times place (take i used))
    → (place : ℕ) → place < length before → times user (users_at after place) ≡ start place + times place (take (i + 1) used)
noted_own user used i d before after start within others own h place below = by_place (cases_eq (get_or used i d) place)
  where
    more : times place (take (i + 1) used) ≡ times place (take i used) + times place (get_or used i d ∷ [])
    more = ap (times place) (take_more used i d within) ∙ times-append place (take i used) (get_or used i d ∷ [])

    by_place : (get_or used i d ≡ place) ⊎ (get_or used i d ≢ place) → times user (users_at after place) ≡ start place + times place (take (i + 1) used)
    by_place (inr apart) =
        let same = ap (times user) (others place apart) in
        let z = times-other place (get_or used i d) apart in
        let old = h place below in
        omega (arith, same, z, old, more)
    by_place (inl same) =
        let there : users_at after place ≡ users_at before place ++ user ∷ [] = subst (λ (p : ℕ). users_at after p ≡ users_at before p ++ user ∷ []) same (own (subst (λ (p : ℕ). p < length before) (sym same) below)) in
        let e = ap (times user) there ∙ times-append user (users_at before place) (user ∷ []) in
        let one = times-own user in
        let here : times place (get_or used i d ∷ []) ≡ 1 = subst (λ (p : ℕ). times place (p ∷ []) ≡ 1) (sym same) (times-own place) in
        let old = h place below in
        omega (arith, e, one, here, old, more)
