-- Lemmas on parts after one more has come.
use Rattle.std.specs.List.{AllByRecursion, AllZip, concat}
use Rattle.std.proofs.Common.{◌≡◌, ℕ, zero, suc, List, [], ◌∷◌, ◌++◌, Option, Some, None, refl, sym, ap, ◌∙◌, ap₂, subst, drop, map, length, arith, IsPermutation, append-nil, append_assoc}
use Rattle.std.proofs.lemmas.List.{drop_at}
use Rattle.std.proofs.lemmas.List.Folds.{concat-append}
use Rattle.std.proofs.lemmas.List.Sorted.{IsPermutation-refl, IsPermutation-sym, IsPermutation-trans, IsPermutation-cons, IsPermutation-swap, IsPermutation-to_front}
use Rattle.types.specs.Shape.{Val, Requirement, required, optional, default, Shape}
use Rattle.types.specs.View.{ComponentView, components_of}
use Rattle.types.specs.Conforms.{MayBeAbsent}
use Rattle.types.specs.FirstTags.{RunsAreDistinct, AreDistinct, tags_of_components}
use Rattle.types.specs.Encoding.{standing}
use Rattle.types.proofs.ListLemmas.{all_append}
use Rattle.encoding_parts.specs.Parts.{Parts, SetComponent, IsPartOf, IsNextOf, IsVacant, IsDue, IsLeftOfSetComponent, AreItemsLeft, IsRunLeft, CanFill, taken_set_component, once_come, IsCome, AreCome, HasComeBy, Holds, ArePartsOf, IsSlotOf, IsPassed, IsPutInto, IsSetComponentTaken, IsPut, IsGoodComponent, AreGood}

pub standing_append : (xs ys : List (Option (List ℕ))) → standing (xs ++ ys) ≡ standing xs ++ standing ys
standing_append [] ys = refl
standing_append (None ∷ xs) ys = standing_append xs ys
standing_append (Some octets ∷ xs) ys = ap (λ z. octets ∷ z) (standing_append xs ys)

-- one more at the end
pub concat_more : (xs : List (List ℕ)) (x : List ℕ) → concat (xs ++ (x ∷ [])) ≡ concat xs ++ x
concat_more xs x = concat-append xs (x ∷ []) ∙ ap (λ z. concat xs ++ z) (append-nil x)

pub items_more : (levels : ℕ) (type : Shape) (values : List Val) (encodings : List (List ℕ)) (v : Val) (part : List ℕ) → AllZip (IsPartOf levels type) values encodings → IsPartOf levels type v part → AllZip (IsPartOf levels type) (values ++ (v ∷ [])) (encodings ++ (part ∷ []))
items_more levels type [] [] v part h is = (is, tt)
items_more levels type [] (encoding ∷ encodings) v part h is = elim h [ ]
items_more levels type (value ∷ values) [] v part h is = elim h [ ]
items_more levels type (value ∷ values) (encoding ∷ encodings) v part h is = (h.0, items_more levels type values encodings v part h.1 is)

-- an encoding of a value stands for its slot
pub slot_come : (levels : ℕ) (name : List ℕ) (type : Shape) (requirement : Requirement) (v : Val) (slot : Option Val) (part : List ℕ) → IsSlotOf requirement v slot → IsPartOf levels type v part → IsCome levels record { name = name; type = type; requirement = requirement } slot (Some part)
slot_come levels name type required v None part h is = cc
slot_come levels name type required v (Some kept) part h is = let same : v ≡ kept = cc h in (subst (λ x. IsPartOf levels type x part) same is, tt)
slot_come levels name type optional v None part h is = cc
slot_come levels name type optional v (Some kept) part h is = let same : v ≡ kept = cc h in (subst (λ x. IsPartOf levels type x part) same is, tt)
slot_come levels name type (default other) v None part h is = subst (λ x. IsPartOf levels type x part) h is
slot_come levels name type (default other) v (Some kept) part h is = (subst (λ x. IsPartOf levels type x part) (sym h.0) is, λ same. h.1 (sym h.0 ∙ same))

-- those before a component that may come next may be absent
record IsNextAt (before : List ComponentView) (component : ComponentView) (type : Shape) : Type 0 where
  absent : AllByRecursion (λ c. MayBeAbsent c.requirement) before
  same : component.type ≡ type

next_later : (c : ComponentView) (before : List ComponentView) (component : ComponentView) (type : Shape) → MayBeAbsent c.requirement → IsNextAt before component type → IsNextAt (c ∷ before) component type
next_later c before component type absent h = record { absent = (absent, h.absent); same = h.same }

next_at : (before : List ComponentView) (component : ComponentView) (others : List ComponentView) (type : Shape) → IsNextOf (before ++ (component ∷ others)) (length before) type → IsNextAt before component type
next_at [] component others type h = record { absent = tt; same = h }
next_at (c ∷ before) component others type h = next_later c before component type h.0 (next_at before component others type h.1)

abbrev none_for : List ComponentView → List (Option (List ℕ))
none_for before = map (λ c. None) before

passed_come : (levels : ℕ) (before : List ComponentView) (component : ComponentView) (slot : Option Val) (part : List ℕ) → AllByRecursion (λ c. MayBeAbsent c.requirement) before → IsCome levels component slot (Some part)
    → AreCome levels (before ++ (component ∷ [])) (map (λ c. None) before ++ (slot ∷ [])) (none_for before ++ (Some part ∷ []))
passed_come levels [] component slot part absent h = (h, tt)
passed_come levels (c ∷ before) component slot part absent h = (absent.0, passed_come levels before component slot part absent.1 h)

passed_standing : (before : List ComponentView) (part : List ℕ) → standing (none_for before ++ (Some part ∷ [])) ≡ part ∷ []
passed_standing [] part = refl
passed_standing (c ∷ before) part = passed_standing before part

pub come_append : (levels : ℕ) (cs ds : List ComponentView) (slots others : List (Option Val)) (xs ys : List (Option (List ℕ))) → AreCome levels cs slots xs → AreCome levels ds others ys → AreCome levels (cs ++ ds) (slots ++ others) (xs ++ ys)
come_append levels [] ds [] others [] ys h g = g
come_append levels [] ds [] others (x ∷ xs) ys h g = elim h [ ]
come_append levels [] ds (slot ∷ slots) others xs ys h g = elim h [ ]
come_append levels (c ∷ cs) ds [] others xs ys h g = elim h [ ]
come_append levels (c ∷ cs) ds (slot ∷ slots) others [] ys h g = elim h [ ]
come_append levels (c ∷ cs) ds (slot ∷ slots) others (x ∷ xs) ys h g = (h.0, come_append levels cs ds slots others xs ys h.1 g)

-- one more that stands at the end
standing_more : (xs : List (Option (List ℕ))) (before : List ComponentView) (part : List ℕ) → concat (standing (xs ++ (none_for before ++ (Some part ∷ [])))) ≡ concat (standing xs) ++ part
standing_more xs before part =
    ap concat (standing_append xs (none_for before ++ (Some part ∷ [])) ∙ ap (λ z. standing xs ++ z) (passed_standing before part)) ∙ concat_more (standing xs) part

run_holds : (levels : ℕ) (passed : List ComponentView) (slots : List (Option Val)) (left new_passed : List ComponentView) (new_slots : List (Option Val)) (new_left : List ComponentView) (which : ℕ) (type : Shape) (v : Val) (contents part : List ℕ)
    → Holds levels (Parts.sequence passed slots left) contents → IsNextOf left which type → IsPartOf levels type v part → IsPutInto passed slots left which v new_passed new_slots new_left → Holds levels (Parts.sequence new_passed new_slots new_left) (contents ++ part)
run_holds levels passed slots left new_passed new_slots new_left which type v contents part h due is put =
    let come = put.come in
    let before = come.before in
    let here : IsNextOf (before ++ (come.component ∷ new_left)) (length before) type = subst (λ n. IsNextOf (before ++ (come.component ∷ new_left)) n type) (sym come.count) (subst (λ l. IsNextOf l which type) come.left_is due) in
    let next = next_at before come.component new_left type here in
    let c = come.component in
    let one = slot_come levels c.name c.type c.requirement v come.slot part come.slot_is (subst (λ t. IsPartOf levels t v part) (sym next.same) is) in
    let more = passed_come levels before c come.slot part next.absent one in
    let all = come_append levels passed (before ++ (c ∷ [])) slots (map (λ x. None) before ++ (come.slot ∷ [])) h.encodings (none_for before ++ (Some part ∷ [])) h.each more in
    record {
      encodings = h.encodings ++ (none_for before ++ (Some part ∷ []));
      each = rw (put.passed_are, come.passed_is, put.slots_are, come.slots_are) all;
      joined = ap (λ z. z ++ part) h.joined ∙ sym (standing_more h.encodings before part);
    }

-- a component of a SET that has come
record IsSetComponentPut (levels : ℕ) (new : List SetComponent) (encodings : List (Option (List ℕ))) (part : List ℕ) : Type 0 where
  others : List (Option (List ℕ))
  each : AllZip (HasComeBy levels) new others
  order : IsPermutation (standing others) (part ∷ standing encodings)

set_component_vacant : (levels : ℕ) (component : ComponentView) (come : Option Val) (encoding : Option (List ℕ)) → come ≡ None → HasComeBy levels record { component = component; come = come } encoding → encoding ≡ None
set_component_vacant levels component None encoding e h = h
set_component_vacant levels component (Some value) encoding e h = cc

set_component_taken : (levels : ℕ) (component : ComponentView) (come : Option Val) (v : Val) (part : List ℕ) → come ≡ Some v → IsPartOf levels component.type v part → HasComeBy levels record { component = component; come = come } (Some part)
set_component_taken levels component None v part e is = cc
set_component_taken levels component (Some value) v part e is = let same : v ≡ value = cc e in subst (λ x. IsPartOf levels component.type x part) same is

set_component_later : (levels : ℕ) (s : SetComponent) (new : List SetComponent) (encodings : List (Option (List ℕ))) (encoding : Option (List ℕ)) (part : List ℕ) → HasComeBy levels s encoding → IsSetComponentPut levels new encodings part → IsSetComponentPut levels (s ∷ new) (encoding ∷ encodings) part
set_component_later levels s new encodings None part h put = record { others = None ∷ put.others; each = (h, put.each); order = put.order }
set_component_later levels s new encodings (Some octets) part h put = record {
  others = Some octets ∷ put.others;
  each = (h, put.each);
  order = IsPermutation-trans (octets ∷ standing put.others) (octets ∷ (part ∷ standing encodings)) (part ∷ (octets ∷ standing encodings)) (IsPermutation-cons octets (standing put.others) (part ∷ standing encodings) put.order)
      (IsPermutation-swap (octets ∷ (part ∷ standing encodings)) (part ∷ (octets ∷ standing encodings)) 0 1 (omega arith) (omega arith) refl);
}

set_component_put : (levels : ℕ) (set_components new : List SetComponent) (encodings : List (Option (List ℕ))) (which : ℕ) (type : Shape) (v : Val) (part : List ℕ) → AllZip (HasComeBy levels) set_components encodings → IsVacant set_components which type → IsPartOf levels type v part → IsSetComponentTaken set_components which v new → IsSetComponentPut levels new encodings part
set_component_put levels [] new encodings which type v part h due is put = elim due [ ]
set_component_put levels (s ∷ set_components) new [] which type v part h due is put = elim h [ ]
set_component_put levels (s ∷ set_components) [] (encoding ∷ encodings) zero type v part h due is put = elim put [ ]
set_component_put levels (s ∷ set_components) [] (encoding ∷ encodings) (suc which) type v part h due is put = elim put [ ]
set_component_put levels (s ∷ set_components) (t ∷ new) (encoding ∷ encodings) zero type v part h due is put =
    let none = set_component_vacant levels s.component s.come encoding due.0 h.0 in
    let one : IsPartOf levels s.component.type v part = subst (λ x. IsPartOf levels x v part) (sym due.1) is in
    let here = set_component_taken levels t.component t.come v part put.0.come (subst (λ x. IsPartOf levels x.type v part) (sym put.0.component) one) in
    record {
      others = Some part ∷ encodings;
      each = (here, subst (λ x. AllZip (HasComeBy levels) x encodings) (sym put.1) h.1);
      order = subst (λ x. IsPermutation (part ∷ standing encodings) (part ∷ standing (x ∷ encodings))) (sym none) (IsPermutation-refl (part ∷ standing encodings));
    }
set_component_put levels (s ∷ set_components) (t ∷ new) (encoding ∷ encodings) (suc which) type v part h due is put =
    set_component_later levels t new encodings encoding part (subst (λ x. HasComeBy levels x encoding) (sym put.0) h.0) (set_component_put levels set_components new encodings which type v part h.1 due is put.1)

set_holds : (levels : ℕ) (set_components new : List SetComponent) (which : ℕ) (type : Shape) (v : Val) (contents part : List ℕ)
    → Holds levels (Parts.set set_components) contents → IsVacant set_components which type → IsPartOf levels type v part → IsSetComponentTaken set_components which v new → Holds levels (Parts.set new) (contents ++ part)
set_holds levels set_components new which type v contents part h due is put =
    let taken = set_component_put levels set_components new h.encodings which type v part h.each due is put in
    let front = IsPermutation-trans (standing taken.others) (part ∷ standing h.encodings) (part ∷ h.order) taken.order (IsPermutation-cons part (standing h.encodings) h.order h.permutes) in
    record {
      encodings = taken.others;
      each = taken.each;
      order = h.order ++ (part ∷ []);
      permutes = IsPermutation-trans (standing taken.others) (part ∷ h.order) (h.order ++ (part ∷ [])) front (IsPermutation-sym (h.order ++ (part ∷ [])) (part ∷ h.order) (IsPermutation-to_front h.order part));
      joined = ap (λ z. z ++ part) h.joined ∙ sym (concat_more h.order part);
    }

-- what has come, and then one part more
pub put_holds : (levels : ℕ) (parts new : Parts) (which : ℕ) (type : Shape) (v : Val) (contents part : List ℕ)
    → Holds levels parts contents → IsDue parts which type → IsPartOf levels type v part → IsPut parts which v new → Holds levels new (contents ++ part)
put_holds levels (Parts.explicit inner None) (Parts.explicit other kept) which type v contents part h due is put =
    let here : IsPartOf levels other v (contents ++ part) = subst (λ x. IsPartOf levels other v (x ++ part)) (sym h) (subst (λ x. IsPartOf levels x v part) (sym due ∙ put.0) is) in
    subst (λ x. Holds levels (Parts.explicit other x) (contents ++ part)) (sym put.1) here
put_holds levels (Parts.explicit inner (Some value)) (Parts.explicit other kept) which type v contents part h due is put = elim due [ ]
put_holds levels (Parts.items inner values) (Parts.items other kept) which type v contents part h due is put =
    let all = items_more levels inner values h.encodings v part h.each (subst (λ x. IsPartOf levels x v part) (sym due) is) in
    rw (← put.0, put.1) record { encodings = h.encodings ++ (part ∷ []); each = all; joined = ap (λ z. z ++ part) h.joined ∙ sym (concat_more h.encodings part) }
put_holds levels (Parts.sequence passed slots left) (Parts.sequence new_passed new_slots new_left) which type v contents part h due is put =
    run_holds levels passed slots left new_passed new_slots new_left which type v contents part h due is put
put_holds levels (Parts.set set_components) (Parts.set others) which type v contents part h due is put = set_holds levels set_components others which type v contents part h due is put
put_holds levels parts new which type v contents part h due is put = elim put [ ]

-- what a component of a SET has left does not turn on the value that has come for it
taken_left : (levels : ℕ) (component : ComponentView) (come : Option Val) (v : Val) (encoding : Option (List ℕ)) → come ≡ Some v → encoding ≡ None → IsLeftOfSetComponent levels record { component = component; come = come } encoding
taken_left levels component None v encoding e h = cc
taken_left levels component (Some value) v encoding e h = h

taken_fills : (levels : ℕ) (set_components new : List SetComponent) (which : ℕ) (v : Val) (encodings : List (Option (List ℕ))) → IsSetComponentTaken set_components which v new → AllZip (IsLeftOfSetComponent levels) (taken_set_component set_components which) encodings → AllZip (IsLeftOfSetComponent levels) new encodings
taken_fills levels [] new which v encodings put h = elim put [ ]
taken_fills levels (s ∷ set_components) [] zero v encodings put h = elim put [ ]
taken_fills levels (s ∷ set_components) [] (suc which) v encodings put h = elim put [ ]
taken_fills levels (s ∷ set_components) (t ∷ new) zero v [] put h = elim h [ ]
taken_fills levels (s ∷ set_components) (t ∷ new) (suc which) v [] put h = elim h [ ]
taken_fills levels (s ∷ set_components) (t ∷ new) zero v (encoding ∷ encodings) put h =
    (taken_left levels t.component t.come v encoding put.0.come h.0, subst (λ x. AllZip (IsLeftOfSetComponent levels) x encodings) (sym put.1) h.1)
taken_fills levels (s ∷ set_components) (t ∷ new) (suc which) v (encoding ∷ encodings) put h =
    (subst (λ x. IsLeftOfSetComponent levels x encoding) (sym put.0) h.0, taken_fills levels set_components new which v encodings put.1 h.1)

-- those behind the component that has come
left_is : (left : List ComponentView) (which : ℕ) (v : Val) (passed : List ComponentView) (slots : List (Option Val)) (others : List ComponentView) → IsPassed left which v passed slots others → drop (suc which) left ≡ others
left_is left which v passed slots others h =
    let whole : left ≡ (h.before ++ (h.component ∷ [])) ++ others = h.left_is ∙ sym (append_assoc h.before (h.component ∷ []) others) in
    ap (drop (suc which)) whole ∙ drop_at (h.before ++ (h.component ∷ [])) others (suc which) (omega (arith, h.count, length_more h.before h.component))
  where
    length_more : (xs : List ComponentView) (x : ComponentView) → length (xs ++ (x ∷ [])) ≡ suc (length xs)
    length_more [] x = refl
    length_more (y ∷ xs) x = ap suc (length_more xs x)

-- what may follow one part completes the parts once it has come
pub put_fills : (levels : ℕ) (parts new : Parts) (which : ℕ) (v : Val) (octets : List ℕ) → IsPut parts which v new → CanFill levels (once_come parts which) octets → CanFill levels new octets
put_fills levels (Parts.explicit inner held) (Parts.explicit other kept) which v octets put h = subst (λ x. CanFill levels (Parts.explicit other x) octets) (sym put.1) h
put_fills levels (Parts.items inner values) (Parts.items other kept) which v octets put h = subst (λ x. AreItemsLeft levels x octets) put.0 h
put_fills levels (Parts.sequence passed slots left) (Parts.sequence new_passed new_slots new_left) which v octets put h =
    subst (λ x. IsRunLeft levels x octets) (left_is left which v put.more_passed put.more_slots new_left put.come) h
put_fills levels (Parts.set set_components) (Parts.set others) which v octets put h =
    record { encodings = h.encodings; each = taken_fills levels set_components others which v h.encodings put h.each; order = h.order; permutes = h.permutes; joined = h.joined }
put_fills levels parts new which v octets put h = elim put [ ]

runs_right : (xs ys : List ComponentView) → RunsAreDistinct (components_of (xs ++ ys)) → RunsAreDistinct (components_of ys)
runs_right [] ys h = h
runs_right (x ∷ xs) ys h = runs_right xs ys h.1

-- the components of a SET stay
same_components : (set_components new : List SetComponent) (which : ℕ) (v : Val) → IsSetComponentTaken set_components which v new → map (λ s. s.component) set_components ≡ map (λ s. s.component) new
same_components [] new which v put = elim put [ ]
same_components (s ∷ set_components) [] zero v put = elim put [ ]
same_components (s ∷ set_components) [] (suc which) v put = elim put [ ]
same_components (s ∷ set_components) (t ∷ new) zero v put = ap₂ (λ x xs. x ∷ xs) (sym put.0.component) (ap (map (λ z. z.component)) (sym put.1))
same_components (s ∷ set_components) (t ∷ new) (suc which) v put = ap₂ (λ x xs. x ∷ xs) (ap (λ z. z.component) (sym put.0)) (same_components set_components new which v put.1)

good_set_components : (set_components new : List SetComponent) (which : ℕ) (v : Val) → IsSetComponentTaken set_components which v new → AllByRecursion (λ s. IsGoodComponent s.component) set_components → AllByRecursion (λ s. IsGoodComponent s.component) new
good_set_components [] new which v put h = elim put [ ]
good_set_components (s ∷ set_components) [] zero v put h = elim put [ ]
good_set_components (s ∷ set_components) [] (suc which) v put h = elim put [ ]
good_set_components (s ∷ set_components) (t ∷ new) zero v put h = (subst IsGoodComponent (sym put.0.component) h.0, subst (AllByRecursion (λ x. IsGoodComponent x.component)) (sym put.1) h.1)
good_set_components (s ∷ set_components) (t ∷ new) (suc which) v put h = (subst (λ x. IsGoodComponent x.component) (sym put.0) h.0, good_set_components set_components new which v put.1 h.1)

pub put_good : (parts new : Parts) (which : ℕ) (v : Val) → AreGood parts → IsPut parts which v new → AreGood new
put_good (Parts.explicit inner held) (Parts.explicit other kept) which v good put = rw (← put.0) good
put_good (Parts.items inner values) (Parts.items other kept) which v good put = rw (← put.0) good
put_good (Parts.sequence passed slots left) (Parts.sequence new_passed new_slots new_left) which v good put =
    let come = put.come in
    let front = come.before ++ (come.component ∷ []) in
    let whole : left ≡ front ++ new_left = come.left_is ∙ sym (append_assoc come.before (come.component ∷ []) new_left) in
    ((all_append IsGoodComponent front new_left (subst (AllByRecursion IsGoodComponent) whole good.0)).1, runs_right front new_left (subst (λ x. RunsAreDistinct (components_of x)) whole good.1))
put_good (Parts.set set_components) (Parts.set others) which v good put =
    (good_set_components set_components others which v put good.0, subst (λ x. AreDistinct (tags_of_components (components_of x))) (same_components set_components others which v put) good.1)
put_good parts new which v good put = elim put [ ]

explicit_of : (node type other : Shape) (held kept : Option Val) → type ≡ other → ArePartsOf node (Parts.explicit type held) → ArePartsOf node (Parts.explicit other kept)
explicit_of (Shape.explicit tag inner) type other held kept e h = h ∙ e
explicit_of node type other held kept e h = elim h [ ]

items_of_node : (node type other : Shape) (values kept : List Val) → type ≡ other → ArePartsOf node (Parts.items type values) → ArePartsOf node (Parts.items other kept)
items_of_node (Shape.sequence_of tag inner) type other values kept e h = h ∙ e
items_of_node (Shape.set_of tag inner) type other values kept e h = h ∙ e
items_of_node node type other values kept e h = elim h [ ]

run_of : (node : Shape) (passed : List ComponentView) (slots : List (Option Val)) (left new_passed : List ComponentView) (new_slots : List (Option Val)) (new_left : List ComponentView) → passed ++ left ≡ new_passed ++ new_left
    → ArePartsOf node (Parts.sequence passed slots left) → ArePartsOf node (Parts.sequence new_passed new_slots new_left)
run_of (Shape.sequence tag components) passed slots left new_passed new_slots new_left e h = h ∙ ap components_of e
run_of node passed slots left new_passed new_slots new_left e h = elim h [ ]

set_components_of : (node : Shape) (set_components new : List SetComponent) → map (λ s. s.component) set_components ≡ map (λ s. s.component) new → ArePartsOf node (Parts.set set_components) → ArePartsOf node (Parts.set new)
set_components_of (Shape.set tag components) set_components new e h = h ∙ ap components_of e
set_components_of node set_components new e h = elim h [ ]

pub put_parts_of : (node : Shape) (parts new : Parts) (which : ℕ) (v : Val) → ArePartsOf node parts → IsPut parts which v new → ArePartsOf node new
put_parts_of node (Parts.explicit type held) (Parts.explicit other kept) which v h put = explicit_of node type other held kept put.0 h
put_parts_of node (Parts.items type values) (Parts.items other kept) which v h put = items_of_node node type other values kept put.0 h
put_parts_of node (Parts.sequence passed slots left) (Parts.sequence new_passed new_slots new_left) which v h put =
    let come = put.come in
    let front = come.before ++ (come.component ∷ []) in
    let whole : left ≡ front ++ new_left = come.left_is ∙ sym (append_assoc come.before (come.component ∷ []) new_left) in
    let now : new_passed ≡ passed ++ front = put.passed_are ∙ ap (λ z. passed ++ z) come.passed_is in
    run_of node passed slots left new_passed new_slots new_left (ap (λ z. passed ++ z) whole ∙ (sym (append_assoc passed front new_left) ∙ ap (λ z. z ++ new_left) (sym now))) h
put_parts_of node (Parts.set set_components) (Parts.set others) which v h put = set_components_of node set_components others (same_components set_components others which v put) h
put_parts_of node parts new which v h put = elim put [ ]
