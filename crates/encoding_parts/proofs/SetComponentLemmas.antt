-- Lemmas on the components of a SET.
use Rattle.std.proofs.Common.{◌≡◌, ◌↔◌, ◌+◌, ◌-◌, ◌<◌, ◌≤◌, ℕ, zero, suc, List, [], ◌∷◌, ◌++◌, Bool, true, false, not, Option, Some, None, MatchOption, length, get_or, set, take, drop, map, option_map, Contains, refl, sym, ap, ◌∙◌, subst, arith, add-zero}
use Rattle.std.proofs.lemmas.List.{length-take-le, length-set, take-append-drop, take_all, take_rest, take_more_set, drop-set-lt, get_or-drop}
use Rattle.std.proofs.lemmas.Grind.{drop_more_same}
use Rattle.std.specs.List.{AllByRecursion, AllZip}
use Rattle.std.specs.Option.{is_some}
use Rattle.octets.specs.declared.tag.Tag.{Tag}
use Rattle.types.specs.Conforms.{MayBeAbsent}
use Rattle.types.specs.FirstTags.{first_tags}
use Rattle.types.specs.Shape.{Shape, Requirement, Val}
use Rattle.types.specs.View.{ComponentView, ty_view, value_view, field_view, requirement_view, components_view, components_of}
use Rattle.types.specs.declared.value.Value.{Value}
use Rattle.types.specs.declared.ty.Field.{Field}
use Rattle.types.specs.declared.ty.Presence.{Presence}
use Rattle.types.specs.declared.ty.Presence.TheVariants as presence
use Rattle.types.proofs.ViewLemmas.{field_is}
use Rattle.types.proofs.LimitLemmas.{field_type}
use Rattle.encoding_parts.specs.HeldParts.{members_view}
use Rattle.encoding_parts.specs.Parts.{SetComponent, Parts, IsVacant, IsSlotOf, IsSettled, IsSetComponentTaken, ArePartsOf, AreNone}
use Rattle.encoding_parts.proofs.SlotLemmas.{none_of}

pub requirement_is : (f : Field) → (field_view f).requirement ≡ requirement_view f.presence
requirement_is f = ap (λ (c : ComponentView). c.requirement) (field_is f)

-- a component and its slot
abbrev pub member : Field → Option Value → SetComponent
member f s = record { component = field_view f; come = option_map value_view s }

pub empty_slot : (s : Option Value) → option_map value_view s ≡ None → s ≡ None
empty_slot None is = refl
empty_slot (Some value) is = cc is

-- what the test of a slot says
pub is_empty : (s : Option Value) (answer : Bool) → is_some s ≡ not answer → answer ≡ true → s ≡ None
is_empty None answer says is = refl
is_empty (Some value) answer says is = cc (says, ap not is)

pub is_not_empty : (s : Option Value) (answer : Bool) → is_some s ≡ not answer → answer ≡ false → s ≡ None → ⊥
is_not_empty None answer says is none = cc (says, ap not is)
is_not_empty (Some value) answer says is none = cc none

pub members_below : (fields : List Field) (slots : List (Option Value)) (i : ℕ) → i < length fields → i < length slots → i < length (members_view fields slots)
members_below [] slots i below below' = absurd (omega (arith, below))
members_below (f ∷ fields) [] i below below' = absurd (omega (arith, below'))
members_below (f ∷ fields) (s ∷ slots) zero below below' = omega arith
members_below (f ∷ fields) (s ∷ slots) (suc i) below below' = omega (arith, members_below fields slots i (omega (arith, below)) (omega (arith, below')))

pub members_within : (fields : List Field) (slots : List (Option Value)) (n : ℕ) → n ≤ length fields → n ≤ length slots → n ≤ length (members_view fields slots)
members_within fields slots zero within within' = omega arith
members_within fields slots (suc i) within within' = omega (arith, members_below fields slots i (omega (arith, within)) (omega (arith, within')))

pub members_in_fields : (fields : List Field) (slots : List (Option Value)) → length (members_view fields slots) ≤ length fields
members_in_fields [] slots = omega arith
members_in_fields (f ∷ fields) [] = omega arith
members_in_fields (f ∷ fields) (s ∷ slots) = omega (arith, members_in_fields fields slots)

pub members_in_slots : (fields : List Field) (slots : List (Option Value)) → length (members_view fields slots) ≤ length slots
members_in_slots [] slots = omega arith
members_in_slots (f ∷ fields) [] = omega arith
members_in_slots (f ∷ fields) (s ∷ slots) = omega (arith, members_in_slots fields slots)

pub member_at : (fields : List Field) (slots : List (Option Value)) (i : ℕ) (f : Field) (s : Option Value) → i < length fields → i < length slots → f ≡ get_or fields i f → s ≡ get_or slots i s → member f s ≡ get_or (members_view fields slots) i (member f s)
member_at [] slots i f s below below' f_is s_is = absurd (omega (arith, below))
member_at (g ∷ fields) [] i f s below below' f_is s_is = absurd (omega (arith, below'))
member_at (g ∷ fields) (t ∷ slots) zero f s below below' f_is s_is = ap (λ (x : Field). member x s) f_is ∙ ap (member g) s_is
member_at (g ∷ fields) (t ∷ slots) (suc i) f s below below' f_is s_is = member_at fields slots i f s (omega (arith, below)) (omega (arith, below')) f_is s_is

pub members_taken : (fields : List Field) (slots : List (Option Value)) (n : ℕ) → members_view (take n fields) (take n slots) ≡ take n (members_view fields slots)
members_taken [] slots zero = refl
members_taken [] slots (suc n) = refl
members_taken (f ∷ fields) [] zero = refl
members_taken (f ∷ fields) [] (suc n) = refl
members_taken (f ∷ fields) (s ∷ slots) zero = refl
members_taken (f ∷ fields) (s ∷ slots) (suc n) = ap (λ (l : List SetComponent). member f s ∷ l) (members_taken fields slots n)

members_of_none : (fields : List Field) → members_view fields [] ≡ []
members_of_none [] = refl
members_of_none (f ∷ fields) = refl

pub members_left : (fields : List Field) (slots : List (Option Value)) (n : ℕ) → members_view (drop n fields) (drop n slots) ≡ drop n (members_view fields slots)
members_left [] slots zero = refl
members_left [] slots (suc n) = refl
members_left (f ∷ fields) [] zero = refl
members_left (f ∷ fields) [] (suc n) = members_of_none (drop n fields)
members_left (f ∷ fields) (s ∷ slots) zero = refl
members_left (f ∷ fields) (s ∷ slots) (suc n) = members_left fields slots n

pub members_rest : (fields : List Field) (slots : List (Option Value)) (n : ℕ) → members_view (take (length fields - n) (drop n fields)) (take (length slots - n) (drop n slots)) ≡ members_view (drop n fields) (drop n slots)
members_rest fields slots n =
    ap (λ (l : List Field). members_view l (take (length slots - n) (drop n slots))) (take_rest fields n) ∙ ap (members_view (drop n fields)) (take_rest slots n)

-- slots behind the last component are none of a component
pub members_cut : (fields : List Field) (slots : List (Option Value)) → members_view fields (take (length fields) slots) ≡ members_view fields slots
members_cut [] slots = refl
members_cut (f ∷ fields) [] = refl
members_cut (f ∷ fields) (s ∷ slots) = ap (λ (l : List SetComponent). member f s ∷ l) (members_cut fields slots)

-- no component that has not come begins with the tag
abbrev pub NoneDue : Tag → List SetComponent → Type 0
NoneDue tag ss = (which : ℕ) (type : Shape) → IsVacant ss which type → Contains (first_tags type) tag → ⊥

-- this one has come, or does not begin with the tag
abbrev pub IsNotDue : Tag → SetComponent → Type 0
IsNotDue tag s = s.come ≡ None → Contains (first_tags s.component.type) tag → ⊥

none_due-cons : (tag : Tag) (s : SetComponent) (ss : List SetComponent) → IsNotDue tag s → NoneDue tag ss → NoneDue tag (s ∷ ss)
none_due-cons tag s ss first rest zero type v c = first v.0 (subst (λ (t : Shape). Contains (first_tags t) tag) (sym v.1) c)
none_due-cons tag s ss first rest (suc which) type v c = rest which type v c

pub none_due_first : (tag : Tag) (s : SetComponent) (ss : List SetComponent) → NoneDue tag (s ∷ ss) ↔ (IsNotDue tag s × NoneDue tag ss)
none_due_first tag s ss = (
  λ h. (λ vacant. h zero s.component.type (vacant, refl), λ which type v. h (suc which) type v),
  λ h. none_due-cons tag s ss h.0 h.1,
)

pub none_due_nil : (tag : Tag) → NoneDue tag []
none_due_nil tag which type v c = absurd v

-- what the code asks of a component is what is asked of its view
pub not_due_of : (tag : Tag) (f : Field) (s : Option Value) → ((s ≡ None) × Contains (first_tags (ty_view f.ty)) tag → ⊥) → IsNotDue tag (member f s)
not_due_of tag f s never vacant c = never (empty_slot s vacant, subst (λ (t : Shape). Contains (first_tags t) tag) (field_type f) c)

vacant_here : (ss : List SetComponent) (i : ℕ) (s : SetComponent) → i < length ss → s ≡ get_or ss i s → s.come ≡ None → IsVacant ss i s.component.type
vacant_here [] i s below is vacant = absurd (omega (arith, below))
vacant_here (t ∷ ss) zero s below is vacant =
    (ap (λ (x : SetComponent). x.come) (sym is) ∙ vacant, ap (λ (x : SetComponent). x.component.type) (sym is))
vacant_here (t ∷ ss) (suc i) s below is vacant = vacant_here ss i s (omega (arith, below)) is vacant

pub vacant_at : (fields : List Field) (slots : List (Option Value)) (i : ℕ) (f : Field) (s : Option Value) → i < length fields → i < length slots → f ≡ get_or fields i f → s ≡ get_or slots i s → s ≡ None → IsVacant (members_view fields slots) i (ty_view f.ty)
vacant_at fields slots i f s below below' f_is s_is vacant =
    subst (IsVacant (members_view fields slots) i) (field_type f)
    (vacant_here (members_view fields slots) i (member f s) (members_below fields slots i below below') (member_at fields slots i f s below below' f_is s_is) (ap (option_map value_view) vacant))

vacant_left : (ss rs : List SetComponent) (which : ℕ) (type : Shape) → IsVacant ss which type → IsVacant (ss ++ rs) which type
vacant_left [] rs which type v = absurd v
vacant_left (s ∷ ss) rs zero type v = v
vacant_left (s ∷ ss) rs (suc which) type v = vacant_left ss rs which type v

vacant_right : (ss rs : List SetComponent) (which : ℕ) (type : Shape) → IsVacant rs which type → IsVacant (ss ++ rs) (length ss + which) type
vacant_right [] rs which type v =
    let same : which ≡ 0 + which = omega arith in
    subst (λ n. IsVacant rs n type) same v
vacant_right (s ∷ ss) rs which type v =
    let same : suc (length ss + which) ≡ suc (length ss) + which = omega arith in
    subst (λ n. IsVacant (s ∷ (ss ++ rs)) n type) same (vacant_right ss rs which type v)

none_due-append : (tag : Tag) (ss rs : List SetComponent) → NoneDue tag ss → NoneDue tag rs → NoneDue tag (ss ++ rs)
none_due-append tag [] rs g h which type v c = h which type v c
none_due-append tag (s ∷ ss) rs g h zero type v c = g zero type v c
none_due-append tag (s ∷ ss) rs g h (suc which) type v c = none_due-append tag ss rs (λ w t x. g (suc w) t x) h which type v c

two_parts : (fields : List Field) (slots : List (Option Value)) (start : ℕ) → members_view (take start fields) (take start slots) ++ members_view (drop start fields) (drop start slots) ≡ members_view fields slots
two_parts fields slots start =
    let all = members_view fields slots in
    ap (λ (l : List SetComponent). l ++ members_view (drop start fields) (drop start slots)) (members_taken fields slots start) ∙ ap (λ (l : List SetComponent). take start all ++ l) (members_left fields slots start) ∙ take-append-drop start all

pub vacant_before : (fields : List Field) (slots : List (Option Value)) (start which : ℕ) (type : Shape) → IsVacant (members_view (take start fields) (take start slots)) which type → IsVacant (members_view fields slots) which type
vacant_before fields slots start which type v =
    subst (λ (l : List SetComponent). IsVacant l which type) (two_parts fields slots start) (vacant_left (members_view (take start fields) (take start slots)) (members_view (drop start fields) (drop start slots)) which type v)

pub vacant_behind : (fields : List Field) (slots : List (Option Value)) (start which : ℕ) (type : Shape) → start ≤ length fields → start ≤ length slots → IsVacant (members_view (drop start fields) (drop start slots)) which type → IsVacant (members_view fields slots) (start + which) type
vacant_behind fields slots start which type within within' v =
    let all = members_view fields slots in
    let front = members_view (take start fields) (take start slots) in
    let many : length front ≡ start = ap length (members_taken fields slots start) ∙ length-take-le start all (members_within fields slots start within within') in
    let there : IsVacant all (length front + which) type = subst (λ (l : List SetComponent). IsVacant l (length front + which) type) (two_parts fields slots start) (vacant_right front (members_view (drop start fields) (drop start slots)) which type v) in
    subst (λ n. IsVacant all (n + which) type) many there

pub none_in_both : (tag : Tag) (fields : List Field) (slots : List (Option Value)) (start : ℕ) → NoneDue tag (members_view (take start fields) (take start slots)) → NoneDue tag (members_view (drop start fields) (drop start slots)) → NoneDue tag (members_view fields slots)
none_in_both tag fields slots start g h =
    subst (NoneDue tag) (two_parts fields slots start) (none_due-append tag (members_view (take start fields) (take start slots)) (members_view (drop start fields) (drop start slots)) g h)

-- a place that is vacant is there
pub vacant_below : (ss : List SetComponent) (which : ℕ) (type : Shape) → IsVacant ss which type → which < length ss
vacant_below [] which type v = absurd v
vacant_below (s ∷ ss) zero type v = omega arith
vacant_below (s ∷ ss) (suc which) type v = omega (arith, vacant_below ss which type v)

pub set_component_taken : (fields : List Field) (slots : List (Option Value)) (which : ℕ) (type : Shape) (value : Value) → IsVacant (members_view fields slots) which type → IsSetComponentTaken (members_view fields slots) which (value_view value) (members_view fields (set slots which (Some value)))
set_component_taken [] slots which type value v = absurd v
set_component_taken (f ∷ fields) [] which type value v = absurd v
set_component_taken (f ∷ fields) (s ∷ slots) zero type value v = (record { component = refl; come = refl }, refl)
set_component_taken (f ∷ fields) (s ∷ slots) (suc which) type value v = (refl, set_component_taken fields slots which type value v)

-- each component has come that may not be absent
abbrev pub AreFilled : List SetComponent → Type 0
AreFilled ss = AllByRecursion (λ (s : SetComponent). s.come ≡ None → MayBeAbsent s.component.requirement) ss

abbrev pub IsFilled : SetComponent → Type 0
IsFilled s = s.come ≡ None → MayBeAbsent s.component.requirement

pub filled_first : (s : SetComponent) (ss : List SetComponent) → AreFilled (s ∷ ss) ↔ (IsFilled s × AreFilled ss)
filled_first s ss = (λ h. h, λ h. h)

pub filled_if_come : (f : Field) (s : Option Value) → (s ≡ None → ⊥) → IsFilled (member f s)
filled_if_come f s come vacant = absurd (come (empty_slot s vacant))

pub filled_if_absent : (f : Field) (s : Option Value) → MayBeAbsent (requirement_view f.presence) → IsFilled (member f s)
filled_if_absent f s may vacant = subst MayBeAbsent (sym (requirement_is f)) may

pub not_filled : (f : Field) (s : Option Value) → s ≡ None → (MayBeAbsent (requirement_view f.presence) → ⊥) → IsFilled (member f s) → ⊥
not_filled f s vacant stands filled = stands (subst MayBeAbsent (requirement_is f) (filled (ap (option_map value_view) vacant)))

-- the slot once the default is dropped
pub settled : (f : Field) (old new : Option Value) → MatchOption old (new ≡ None) (λ (value : Value). IsSlotOf (requirement_view f.presence) (value_view value) (option_map value_view new)) → IsSettled (member f old) (option_map value_view new)
settled f None new h = ap (option_map value_view) h
settled f (Some value) new h = subst (λ (r : Requirement). IsSlotOf r (value_view value) (option_map value_view new)) (sym (requirement_is f)) h

-- the new slots are the old ones of these components, without the defaults
abbrev pub AreSettled : List Field → List (Option Value) → List (Option Value) → Type 0
AreSettled fields old new = AllZip IsSettled (members_view fields old) (map (option_map value_view) new)

pub settled_none : (fields : List Field) → AreSettled fields [] []
settled_none [] = tt
settled_none (f ∷ fields) = tt

settled-next : (fields : List Field) (old new : List (Option Value)) (i : ℕ) (f : Field) (s y : Option Value) → i < length fields → i < length old → f ≡ get_or fields i f → s ≡ get_or old i s → IsSettled (member f s) (option_map value_view y) → AreSettled fields (take i old) new → AreSettled fields (take (suc i) old) (new ++ (y ∷ []))
settled-next [] old new i f s y below below' f_is s_is here before = absurd (omega (arith, below))
settled-next (g ∷ fields) [] new i f s y below below' f_is s_is here before = absurd (omega (arith, below'))
settled-next (g ∷ fields) (t ∷ old) [] zero f s y below below' f_is s_is here before =
    (subst (λ (x : SetComponent). IsSettled x (option_map value_view y)) (ap (λ (x : Field). member x s) f_is ∙ ap (member g) s_is) here, settled_none fields)
settled-next (g ∷ fields) (t ∷ old) (z ∷ new) zero f s y below below' f_is s_is here before = absurd before
settled-next (g ∷ fields) (t ∷ old) [] (suc i) f s y below below' f_is s_is here before = absurd before
settled-next (g ∷ fields) (t ∷ old) (z ∷ new) (suc i) f s y below below' f_is s_is here before =
    (before.0, settled-next fields old new i f s y (omega (arith, below)) (omega (arith, below')) f_is s_is here before.1)

pub settled_more : (fields : List Field) (old new : List (Option Value)) (i : ℕ) (f : Field) (s y : Option Value) → i < length fields → i < length old → f ≡ get_or fields i f → s ≡ get_or old i s → IsSettled (member f s) (option_map value_view y) → AreSettled fields (take i old) new → AreSettled fields (take (i + 1) old) (new ++ (y ∷ []))
settled_more fields old new i f s y below below' f_is s_is here before =
    let next : suc i ≡ i + 1 = omega arith in
    subst (λ n. AreSettled fields (take n old) (new ++ (y ∷ []))) next (settled-next fields old new i f s y below below' f_is s_is here before)

same_at : (xs ys : List (Option Value)) (i : ℕ) (d : Option Value) → drop i xs ≡ drop i ys → get_or xs i d ≡ get_or ys i d
same_at xs ys i d same =
    let here : get_or xs (i + 0) d ≡ get_or ys (i + 0) d = sym (get_or-drop i xs 0 d) ∙ ap (λ (l : List (Option Value)). get_or l 0 d) same ∙ get_or-drop i ys 0 d in
    subst (λ n. get_or xs n d ≡ get_or ys n d) (add-zero i) here

-- the slots before the i-th are settled, and the others are as they were
pub record IsSettledTo (fields : List Field) (old new : List (Option Value)) (i : ℕ) : Type 0 where
  pub before : AreSettled fields (take i old) (take i new)
  pub rest : drop i new ≡ drop i old
  pub many : length new ≡ length old

pub settles_none : (fields : List Field) (old : List (Option Value)) → IsSettledTo fields old old 0
settles_none fields old = record { before = settled_none fields; rest = refl; many = refl }

pub settles_more : (fields : List Field) (old new : List (Option Value)) (i : ℕ) (f : Field) (s y : Option Value) → i < length fields → i < length old → f ≡ get_or fields i f → s ≡ get_or new i s → MatchOption s (y ≡ None) (λ (value : Value). IsSlotOf (requirement_view f.presence) (value_view value) (option_map value_view y)) → IsSettledTo fields old new i → IsSettledTo fields old (set new i y) (i + 1)
settles_more fields old new i f s y below below' f_is s_is dropped so_far = record {
  before = subst (AreSettled fields (take (i + 1) old)) (sym (take_more_set new i y (omega (arith, below', so_far.many))))
      (settled_more fields old (take i new) i f s y below below' f_is (s_is ∙ same_at new old i s so_far.rest) (settled f s y dropped) so_far.before);
  rest = drop-set-lt (i + 1) new i y (omega arith) ∙ drop_more_same new old i so_far.rest;
  many = length-set new i y ∙ so_far.many;
}

-- a slot that is left as it is, of a component without a default
slot_here : (slots : List (Option Value)) (i : ℕ) → i < length slots → (s : Option Value) × ((s ≡ get_or slots i s) × (set slots i s ≡ slots))
slot_here [] i below = absurd (omega (arith, below))
slot_here (s ∷ slots) zero below = (s, (refl, refl))
slot_here (s ∷ slots) (suc i) below = let here = slot_here slots i (omega (arith, below)) in (here.0, (here.1.0, ap (λ (l : List (Option Value)). s ∷ l) here.1.1))

kept_slot : (f : Field) (s : Option Value) → ((value : Val) → IsSlotOf (requirement_view f.presence) value (Some value)) → MatchOption s (s ≡ None) (λ (value : Value). IsSlotOf (requirement_view f.presence) (value_view value) (option_map value_view s))
kept_slot f None kept = refl
kept_slot f (Some value) kept = kept (value_view value)

pub settles_kept : (fields : List Field) (old new : List (Option Value)) (i : ℕ) (f : Field) → i < length fields → i < length old → f ≡ get_or fields i f → ((value : Val) → IsSlotOf (requirement_view f.presence) value (Some value)) → IsSettledTo fields old new i → IsSettledTo fields old new (i + 1)
settles_kept fields old new i f below below' is kept so_far =
    let here = slot_here new i (omega (arith, below', so_far.many)) in
    subst (λ (l : List (Option Value)). IsSettledTo fields old l (i + 1)) here.1.1
    (settles_more fields old new i f here.0 here.0 below below' is here.1.0 (kept_slot f here.0 kept) so_far)

pub without_default : (p : Presence) → ((other : Value) → p ≡ presence.Default other → ⊥) → (value : Val) → IsSlotOf (requirement_view p) value (Some value)
without_default presence.Required none value = refl
without_default presence.Optional none value = refl
without_default (presence.Default other) none value = absurd (none other refl)

pub settles_all : (fields : List Field) (old new : List (Option Value)) (i : ℕ) → length old ≤ i → IsSettledTo fields old new i → AreSettled fields old new
settles_all fields old new i past so_far =
    subst (λ (l : List (Option Value)). AreSettled fields l new) (take_all i old past)
    (subst (AreSettled fields (take i old)) (take_all i new (omega (arith, past, so_far.many))) so_far.before)

pub settled_length : (fields : List Field) (old new : List (Option Value)) → length old ≤ length fields → AreSettled fields old new → length new ≡ length old
settled_length [] [] [] within h = refl
settled_length [] [] (z ∷ new) within h = absurd h
settled_length [] (t ∷ old) new within h = absurd (omega (arith, within))
settled_length (f ∷ fields) [] [] within h = refl
settled_length (f ∷ fields) [] (z ∷ new) within h = absurd h
settled_length (f ∷ fields) (t ∷ old) [] within h = absurd h
settled_length (f ∷ fields) (t ∷ old) (z ∷ new) within h = ap suc (settled_length fields old new (omega (arith, within)) h.1)

-- nothing has come where each slot is empty
all_members : (fields : List Field) → map (λ (s : SetComponent). s.component) (members_view fields (map (λ (c : ComponentView). none_of) (map field_view fields))) ≡ map field_view fields
all_members [] = refl
all_members (f ∷ fields) = ap (λ (l : List ComponentView). field_view f ∷ l) (all_members fields)

none_come : (fields : List Field) → AllByRecursion (λ (s : SetComponent). s.come ≡ None) (members_view fields (map (λ (c : ComponentView). none_of) (map field_view fields)))
none_come [] = tt
none_come (f ∷ fields) = (refl, none_come fields)

pub set_opens : (tag : Tag) (type : Shape) (fields : List Field) (slots : List (Option Value)) → type ≡ Shape.set tag (components_view fields) → slots ≡ map (λ (c : ComponentView). none_of) (map field_view fields) → ArePartsOf type (Parts.set (members_view fields slots)) × AreNone (Parts.set (members_view fields slots))
set_opens tag type fields slots type_is slots_are =
    let none = map (λ (c : ComponentView). none_of) (map field_view fields) in
    subst (λ (l : List (Option Value)). ArePartsOf type (Parts.set (members_view fields l)) × AreNone (Parts.set (members_view fields l))) (sym slots_are)
    (subst (λ (t : Shape). ArePartsOf t (Parts.set (members_view fields none))) (sym type_is) (ap components_of (sym (all_members fields))), none_come fields)
