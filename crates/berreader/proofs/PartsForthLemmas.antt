-- Lemmas on what may still come of an open encoding: the next part, or its end.
use Rattle.std.specs.List.{AllByRecursion, AllZip, concat}
use Rattle.std.proofs.Common.{◌≡◌, ◌≢◌, ◌⊎◌, inl, inr, ℕ, suc, List, [], ◌∷◌, ◌++◌, Option, Some, None, refl, sym, ◌∙◌, subst, drop, map, length, arith, IsPermutation, Contains, append-nil}
use Rattle.std.proofs.lemmas.List.Sorted.{IsPermutation-refl, IsPermutation-sym, IsPermutation-trans, IsPermutation-cons, IsPermutation-swap, Contains-permutation, length_permutation}
use Rattle.types.specs.Shape.{Val, Requirement, required, optional, default, Shape}
use Rattle.types.specs.View.{ComponentView, slots_of, items_of}
use Rattle.types.specs.Conforms.{MayBeAbsent}
use Rattle.types.specs.Encoding.{standing}
use Rattle.types.proofs.ListLemmas.{not_in_nil, contains_first, contains_cases}
use Rattle.types.proofs.NestingLemmas.{nested_above}
use Rattle.types.proofs.BeginningLemmas.{all_permutation}
use Rattle.encoding_parts.specs.Parts.{Parts, SetComponent, IsPart, IsNextOf, IsVacant, IsDue, IsLeft, IsLeftOfSetComponent, IsRunLeft, CanFill, taken_set_component, once_come, IsSlotOf, IsSettled, IsValueOf}
use Rattle.encoding_parts.proofs.OthersLemmas.{permutation_others}

-- the contents octets begin with a part that is due, and what follows it completes the rest
pub record IsStep (levels : ℕ) (parts : Parts) (octets : List ℕ) : Type 0 where
  pub which : ℕ
  pub type : Shape
  pub part : List ℕ
  pub others : List ℕ
  pub due : IsDue parts which type
  pub first : IsPart levels type part
  pub rest : CanFill levels (once_come parts which) others
  pub joined : octets ≡ part ++ others

-- the first of the components that are left for which an encoding stands
record IsRunStep (levels : ℕ) (left : List ComponentView) (octets : List ℕ) : Type 0 where
  which : ℕ
  type : Shape
  part : List ℕ
  others : List ℕ
  due : IsNextOf left which type
  first : IsPart levels type part
  rest : IsRunLeft levels (drop (suc which) left) others
  joined : octets ≡ part ++ others

run_step : (levels : ℕ) (left : List ComponentView) (encodings : List (Option (List ℕ))) → AllZip (IsLeft levels) left encodings → (concat (standing encodings) ≡ []) ⊎ IsRunStep levels left (concat (standing encodings))
run_step levels [] [] h = inl refl
run_step levels [] (encoding ∷ encodings) h = elim h [ ]
run_step levels (c ∷ left) [] h = elim h [ ]
run_step levels (c ∷ left) (None ∷ encodings) h = passed (run_step levels left encodings h.1)
  where
    passed : (concat (standing encodings) ≡ []) ⊎ IsRunStep levels left (concat (standing encodings)) → (concat (standing encodings) ≡ []) ⊎ IsRunStep levels (c ∷ left) (concat (standing encodings))
    passed (inl e) = inl e
    passed (inr s) = inr record { which = suc s.which; type = s.type; part = s.part; others = s.others; due = (h.0, s.due); first = s.first; rest = s.rest; joined = s.joined }
run_step levels (c ∷ left) (Some octets ∷ encodings) h =
    inr record { which = 0; type = c.type; part = octets; others = concat (standing encodings); due = refl; first = h.0; rest = record { encodings = encodings; each = h.1; joined = refl }; joined = refl }

-- the component of a SET whose encoding stands among the others, taken
record IsSetComponentStep (levels : ℕ) (set_components : List SetComponent) (encodings : List (Option (List ℕ))) (octets : List ℕ) : Type 0 where
  which : ℕ
  type : Shape
  due : IsVacant set_components which type
  first : IsPart levels type octets
  others : List (Option (List ℕ))
  each : AllZip (IsLeftOfSetComponent levels) (taken_set_component set_components which) others
  order : IsPermutation (standing encodings) (octets ∷ standing others)

-- an encoding stands for a component that has not come alone
record IsVacantSetComponent (levels : ℕ) (s : SetComponent) (octets : List ℕ) : Type 0 where
  vacant : s.come ≡ None
  part : IsPart levels s.component.type octets

vacant_set_component : (levels : ℕ) (component : ComponentView) (come : Option Val) (octets : List ℕ) → IsLeftOfSetComponent levels record { component = component; come = come } (Some octets) → IsVacantSetComponent levels record { component = component; come = come } octets
vacant_set_component levels component None octets h = record { vacant = refl; part = h }
vacant_set_component levels component (Some value) octets h = cc

set_component_passed : (levels : ℕ) (s : SetComponent) (set_components : List SetComponent) (encodings : List (Option (List ℕ))) (octets : List ℕ) → IsLeftOfSetComponent levels s None → IsSetComponentStep levels set_components encodings octets → IsSetComponentStep levels (s ∷ set_components) (None ∷ encodings) octets
set_component_passed levels s set_components encodings octets h step =
    record { which = suc step.which; type = step.type; due = step.due; first = step.first; others = None ∷ step.others; each = (h, step.each); order = step.order }

set_component_before : (levels : ℕ) (s : SetComponent) (set_components : List SetComponent) (before : List ℕ) (encodings : List (Option (List ℕ))) (octets : List ℕ) → IsLeftOfSetComponent levels s (Some before) → IsSetComponentStep levels set_components encodings octets → IsSetComponentStep levels (s ∷ set_components) (Some before ∷ encodings) octets
set_component_before levels s set_components before encodings octets h step = record {
  which = suc step.which;
  type = step.type;
  due = step.due;
  first = step.first;
  others = Some before ∷ step.others;
  each = (h, step.each);
  order = IsPermutation-trans (before ∷ standing encodings) (before ∷ (octets ∷ standing step.others)) (octets ∷ (before ∷ standing step.others)) (IsPermutation-cons before (standing encodings) (octets ∷ standing step.others) step.order)
      (IsPermutation-swap (before ∷ (octets ∷ standing step.others)) (octets ∷ (before ∷ standing step.others)) 0 1 (omega arith) (omega arith) refl);
}

set_component_step : (levels : ℕ) (set_components : List SetComponent) (encodings : List (Option (List ℕ))) (octets : List ℕ) → AllZip (IsLeftOfSetComponent levels) set_components encodings → Contains (standing encodings) octets → IsSetComponentStep levels set_components encodings octets
set_component_step levels [] [] octets h c = absurd (not_in_nil octets c)
set_component_step levels [] (encoding ∷ encodings) octets h c = elim h [ ]
set_component_step levels (s ∷ set_components) [] octets h c = elim h [ ]
set_component_step levels (s ∷ set_components) (None ∷ encodings) octets h c = set_component_passed levels s set_components encodings octets h.0 (set_component_step levels set_components encodings octets h.1 c)
set_component_step levels (s ∷ set_components) (Some here ∷ encodings) octets h c = set_component_of (contains_cases here octets (standing encodings) c) (λ later. set_component_step levels set_components encodings octets h.1 later)
  where
    set_component_of : (here ≡ octets) ⊎ Contains (standing encodings) octets → (Contains (standing encodings) octets → IsSetComponentStep levels set_components encodings octets) → IsSetComponentStep levels (s ∷ set_components) (Some here ∷ encodings) octets
    set_component_of (inl same) more =
        let vacant = vacant_set_component levels s.component s.come here h.0 in
        record {
          which = 0;
          type = s.component.type;
          due = (vacant.vacant, refl);
          first = subst (IsPart levels s.component.type) same vacant.part;
          others = None ∷ encodings;
          each = (refl, h.1);
          order = subst (λ x. IsPermutation (here ∷ standing encodings) (x ∷ standing encodings)) same (IsPermutation-refl (here ∷ standing encodings));
        }
    set_component_of (inr later) more = set_component_before levels s set_components here encodings octets h.0 (more later)

items_step : (levels : ℕ) (type : Shape) (values : List Val) (octets : List ℕ) (encodings : List (List ℕ)) → AllByRecursion (IsPart levels type) encodings → octets ≡ concat encodings → (octets ≡ []) ⊎ IsStep levels (Parts.items type values) octets
items_step levels type values octets [] h e = inl e
items_step levels type values octets (part ∷ encodings) h e =
    inr record { which = 0; type = type; part = part; others = concat encodings; due = refl; first = h.0; rest = record { encodings = encodings; each = h.1; joined = refl }; joined = e }

set_step : (levels : ℕ) (set_components : List SetComponent) (octets : List ℕ) (encodings : List (Option (List ℕ))) (order : List (List ℕ)) → AllZip (IsLeftOfSetComponent levels) set_components encodings → IsPermutation (standing encodings) order → octets ≡ concat order → (octets ≡ []) ⊎ IsStep levels (Parts.set set_components) octets
set_step levels set_components octets encodings [] h p e = inl e
set_step levels set_components octets encodings (part ∷ order) h p e =
    let step = set_component_step levels set_components encodings part h (Contains-permutation (part ∷ order) (standing encodings) part (IsPermutation-sym (standing encodings) (part ∷ order) p) (contains_first part part order refl)) in
    let both = IsPermutation-trans (part ∷ standing step.others) (standing encodings) (part ∷ order) (IsPermutation-sym (standing encodings) (part ∷ standing step.others) step.order) p in
    inr record {
      which = step.which;
      type = step.type;
      part = part;
      others = concat order;
      due = step.due;
      first = step.first;
      rest = record { encodings = step.others; each = step.each; order = order; permutes = permutation_others part (standing step.others) order both; joined = refl };
      joined = e;
    }

pub fill_step : (levels : ℕ) (parts : Parts) (octets : List ℕ) → CanFill levels parts octets → (octets ≡ []) ⊎ IsStep levels parts octets
fill_step levels (Parts.explicit inner None) octets h =
    inr record { which = 0; type = inner; part = octets; others = []; due = refl; first = h; rest = refl; joined = sym (append-nil octets) }
fill_step levels (Parts.explicit inner (Some value)) octets h = inl h
fill_step levels (Parts.items inner values) octets h = items_step levels inner values octets h.encodings h.each h.joined
fill_step levels (Parts.sequence passed slots left) octets h = step_of (run_step levels left h.encodings h.each)
  where
    step_of : (concat (standing h.encodings) ≡ []) ⊎ IsRunStep levels left (concat (standing h.encodings)) → (octets ≡ []) ⊎ IsStep levels (Parts.sequence passed slots left) octets
    step_of (inl e) = inl (h.joined ∙ e)
    step_of (inr s) = inr record { which = s.which; type = s.type; part = s.part; others = s.others; due = s.due; first = s.first; rest = s.rest; joined = h.joined ∙ s.joined }
fill_step levels (Parts.set set_components) octets h = set_step levels set_components octets h.encodings h.order h.each h.permutes h.joined

-- no encoding is empty
part_not_empty : (levels : ℕ) (type : Shape) → IsPart levels type [] → ⊥
part_not_empty levels type h =
    let above = nested_above levels [] h.depth in
    let is : [] ≡ above.first ∷ above.others = above.is in cc

run_end : (levels : ℕ) (left : List ComponentView) (encodings : List (Option (List ℕ))) → AllZip (IsLeft levels) left encodings → [] ≡ concat (standing encodings) → AllByRecursion (λ c. MayBeAbsent c.requirement) left
run_end levels [] encodings h e = tt
run_end levels (c ∷ left) [] h e = elim h [ ]
run_end levels (c ∷ left) (None ∷ encodings) h e = (h.0, run_end levels left encodings h.1 e)
run_end levels (c ∷ left) (Some [] ∷ encodings) h e = absurd (part_not_empty levels c.type h.0)
run_end levels (c ∷ left) (Some (octet ∷ octets) ∷ encodings) h e = cc

-- encodings that stand are not empty
set_components_not_empty : (levels : ℕ) (set_components : List SetComponent) (encodings : List (Option (List ℕ))) → AllZip (IsLeftOfSetComponent levels) set_components encodings → AllByRecursion (λ x. x ≢ []) (standing encodings)
set_components_not_empty levels [] [] h = tt
set_components_not_empty levels [] (encoding ∷ encodings) h = elim h [ ]
set_components_not_empty levels (s ∷ set_components) [] h = elim h [ ]
set_components_not_empty levels (s ∷ set_components) (None ∷ encodings) h = set_components_not_empty levels set_components encodings h.1
set_components_not_empty levels (s ∷ set_components) (Some octets ∷ encodings) h =
    let vacant = vacant_set_component levels s.component s.come octets h.0 in
    (λ e. part_not_empty levels s.component.type (subst (IsPart levels s.component.type) e vacant.part), set_components_not_empty levels set_components encodings h.1)

none_joined : (order : List (List ℕ)) → AllByRecursion (λ x. x ≢ []) order → [] ≡ concat order → length order ≡ 0
none_joined [] h e = refl
none_joined ([] ∷ order) h e = absurd (h.0 refl)
none_joined ((octet ∷ octets) ∷ order) h e = cc

absent_set_component : (levels : ℕ) (component : ComponentView) (come : Option Val) → IsLeftOfSetComponent levels record { component = component; come = come } None → come ≡ None → MayBeAbsent component.requirement
absent_set_component levels component None h e = h
absent_set_component levels component (Some value) h e = cc

set_end : (levels : ℕ) (set_components : List SetComponent) (encodings : List (Option (List ℕ))) → AllZip (IsLeftOfSetComponent levels) set_components encodings → length (standing encodings) ≡ 0 → AllByRecursion (λ s. s.come ≡ None → MayBeAbsent s.component.requirement) set_components
set_end levels [] encodings h e = tt
set_end levels (s ∷ set_components) [] h e = elim h [ ]
set_end levels (s ∷ set_components) (None ∷ encodings) h e = (absent_set_component levels s.component s.come h.0, set_end levels set_components encodings h.1 e)
set_end levels (s ∷ set_components) (Some octets ∷ encodings) h e = absurd (omega (arith, e))

-- no component has no slot: whether a value is the default is not asked
value_settled : (requirement : Requirement) (v : Val) → ((slot : Option Val) → IsSlotOf requirement v slot → ⊥) → ⊥
value_settled required v none = none (Some v) refl
value_settled optional v none = none (Some v) refl
value_settled (default other) v none = none (Some v) (refl, λ same. none None same)

component_settled : (component : ComponentView) (come : Option Val) → ((slot : Option Val) → IsSettled record { component = component; come = come } slot → ⊥) → ⊥
component_settled component None none = none None refl
component_settled component (Some v) none = value_settled component.requirement v none

components_settled : (set_components : List SetComponent) → ((slots : List (Option Val)) → AllZip IsSettled set_components slots → ⊥) → ⊥
components_settled [] none = none [] tt
components_settled (s ∷ set_components) none = component_settled s.component s.come (λ slot here. components_settled set_components (λ slots later. none (slot ∷ slots) (here, later)))

-- once nothing follows, the parts are those of some value
pub fill_end : (levels : ℕ) (parts : Parts) → CanFill levels parts [] → ((v : Val) → IsValueOf parts v → ⊥) → ⊥
fill_end levels (Parts.explicit inner None) h refuted = part_not_empty levels inner h
fill_end levels (Parts.explicit inner (Some value)) h refuted = refuted value refl
fill_end levels (Parts.items inner values) h refuted = refuted (Val.items (items_of values)) refl
fill_end levels (Parts.sequence passed slots left) h refuted = refuted (Val.fields (slots_of (slots ++ map (λ c. None) left))) (run_end levels left h.encodings h.each h.joined, refl)
fill_end levels (Parts.set set_components) h refuted =
    let some = all_permutation (λ x. x ≢ []) (standing h.encodings) h.order h.permutes (set_components_not_empty levels set_components h.encodings h.each) in
    let none = none_joined h.order some h.joined in
    let same = length_permutation (standing h.encodings) h.order h.permutes in
    let filled = set_end levels set_components h.encodings h.each (omega (arith, none, same)) in
    components_settled set_components (λ slots each. refuted (Val.fields (slots_of slots)) record { filled = filled; slots = slots; each = each; value_is = refl })
