-- Lemmas on slots that hold old values.
use Rattle.std.specs.List.{AllByRecursion}
use Rattle.std.proofs.Common.{◌≡◌, ◌+◌, ◌-◌, ◌<◌, ◌≤◌, ℕ, zero, suc, true, false, List, [], ◌∷◌, Option, None, Some, length, get_or, set, map, refl, sym, ap, ◌∙◌, subst, subst₂, arith}
use Rattle.octets.specs.declared.tag.Tag.{Tag}
use Rattle.types.specs.declared.value.Value.{Value}
use Rattle.types.specs.declared.ty.Field.{Field}
use Rattle.types.specs.View.{ComponentView, field_view, ty_view}
use Rattle.encoding_parts.specs.HeldParts.{members_view, come_view}
use Rattle.encoding_parts.specs.Parts.{IsGoodComponent, IsGoodType, IsVacant, Parts, SetComponent}
use Rattle.encoding_parts.proofs.SlotLemmas.{none_of}
use Rattle.encoding_parts.proofs.SetComponentLemmas.{members_in_fields, members_in_slots, vacant_below}
use Rattle.types.specs.Conforms.{MayBeAbsent}
use Rattle.types.specs.Shape.{Shape}
use Rattle.berslice.specs.declared.renewed_set.RenewedSet.{RenewedSet}
use Rattle.berslice.specs.RenewedSet.{without, slots_view, held_slots, renewed_view, HasLeft, IsEmptied, IsFilled, IsNext, IsNextAt, IsRoomy}
use Rattle.berslice.specs.Reading.{AreSetComponentsOf, IsRead, IsMemberRead}
use Rattle.berslice.proofs.ReadingLemmas.{due_field, field_type, good_component, member_come}

pub without_none : (first : ℕ) (slots : List (Option Value)) → without first 0 slots ≡ slots
without_none first [] = refl
without_none zero (s ∷ slots) = refl
without_none (suc first) (s ∷ slots) = ap (λ (l : List (Option Value)). s ∷ l) (without_none first slots)

pub without_length : (first count : ℕ) (slots : List (Option Value)) → length (without first count slots) ≡ length slots
without_length first count [] = refl
without_length zero zero (s ∷ slots) = refl
without_length zero (suc count) (s ∷ slots) = ap suc (without_length zero count slots)
without_length (suc first) count (s ∷ slots) = ap suc (without_length first count slots)

pub without_all : (fields : List Field) (slots : List (Option Value)) → length slots ≡ length fields → without 0 (length fields) slots ≡ map (λ (c : ComponentView). None) (map field_view fields)
without_all [] [] same = refl
without_all [] (s ∷ slots) same = absurd (omega (arith, same))
without_all (f ∷ fields) [] same = absurd (omega (arith, same))
without_all (f ∷ fields) (s ∷ slots) same = ap (λ (l : List (Option Value)). None ∷ l) (without_all fields slots (omega (arith, same)))

-- the slot of the first of them is set
without_first : (first count : ℕ) (slots : List (Option Value)) (slot : Option Value) → without (suc first) count (set slots first slot) ≡ set (without first (suc count) slots) first slot
without_first first count [] slot = refl
without_first zero count (s ∷ slots) slot = refl
without_first (suc first) count (s ∷ slots) slot = ap (λ (l : List (Option Value)). s ∷ l) (without_first first count slots slot)

pub put_first : (first stop next : ℕ) (slots : List (Option Value)) (slot : Option Value) → first < stop → next ≡ first + 1 → without next (stop - next) (set slots first slot) ≡ set (without first (stop - first) slots) first slot
put_first first stop next slots slot some is =
    let behind : suc first ≡ next = omega (arith, is) in
    let many : suc (stop - next) ≡ stop - first = omega (arith, is, some) in
    subst (λ n. without n (stop - next) (set slots first slot) ≡ set (without first (stop - first) slots) first slot) behind
    (subst (λ n. without (suc first) (stop - next) (set slots first slot) ≡ set (without first n slots) first slot) many (without_first first (stop - next) slots slot))

-- the slot of the last of them is set
without_last : (first count last : ℕ) (slots : List (Option Value)) (slot : Option Value) → last ≡ first + count → without first count (set slots last slot) ≡ set (without first (suc count) slots) last slot
without_last first count last [] slot is = refl
without_last zero zero zero (s ∷ slots) slot is = ap (λ (l : List (Option Value)). slot ∷ l) (sym (without_none 0 slots))
without_last zero zero (suc last) (s ∷ slots) slot is = absurd (omega (arith, is))
without_last zero (suc count) zero (s ∷ slots) slot is = absurd (omega (arith, is))
without_last zero (suc count) (suc last) (s ∷ slots) slot is = ap (λ (l : List (Option Value)). None ∷ l) (without_last zero count last slots slot (omega (arith, is)))
without_last (suc first) count zero (s ∷ slots) slot is = absurd (omega (arith, is))
without_last (suc first) count (suc last) (s ∷ slots) slot is = ap (λ (l : List (Option Value)). s ∷ l) (without_last first count last slots slot (omega (arith, is)))

pub put_last : (first stop last : ℕ) (slots : List (Option Value)) (slot : Option Value) → first < stop → stop ≡ last + 1 → without first (last - first) (set slots last slot) ≡ set (without first (stop - first) slots) last slot
put_last first stop last slots slot some is =
    let many : suc (last - first) ≡ stop - first = omega (arith, is, some) in
    let there : last ≡ first + (last - first) = omega (arith, is, some) in
    subst (λ n. without first (last - first) (set slots last slot) ≡ set (without first n slots) last slot) many (without_last first (last - first) last slots slot there)

-- the slot of the first of them is emptied
set_same : (count first : ℕ) (slots : List (Option Value)) → set (without first (suc count) slots) first none_of ≡ without first (suc count) slots
set_same count first [] = refl
set_same count zero (s ∷ slots) = refl
set_same count (suc first) (s ∷ slots) = ap (λ (l : List (Option Value)). s ∷ l) (set_same count first slots)

pub emptied_first : (first stop : ℕ) (slots : List (Option Value)) → first < stop → without (first + 1) (stop - (first + 1)) (set slots first none_of) ≡ without first (stop - first) slots
emptied_first first stop slots some =
    let many : suc (stop - (first + 1)) ≡ stop - first = omega (arith, some) in
    put_first first stop (first + 1) slots none_of some refl
    ∙ subst (λ n. set (without first n slots) first none_of ≡ without first n slots) many (set_same (stop - (first + 1)) first slots)

-- none of them has come
pub vacant_without : (fields : List Field) (slots : List (Option Value)) (first count which : ℕ) (f : Field) → which < length fields → which < length slots → first ≤ which → which < first + count → f ≡ get_or fields which f
    → IsVacant (members_view fields (without first count slots)) which (ty_view f.ty)
vacant_without [] slots first count which f below below' from to is = absurd (omega (arith, below))
vacant_without (g ∷ fields) [] first count which f below below' from to is = absurd (omega (arith, below'))
vacant_without (g ∷ fields) (s ∷ slots) zero zero which f below below' from to is = absurd (omega (arith, to))
vacant_without (g ∷ fields) (s ∷ slots) zero (suc count) zero f below below' from to is = (refl, field_type g ∙ ap (λ (x : Field). ty_view x.ty) (sym is))
vacant_without (g ∷ fields) (s ∷ slots) zero (suc count) (suc which) f below below' from to is = vacant_without fields slots zero count which f (omega (arith, below)) (omega (arith, below')) (omega arith) (omega (arith, to)) is
vacant_without (g ∷ fields) (s ∷ slots) (suc first) count zero f below below' from to is = absurd (omega (arith, from))
vacant_without (g ∷ fields) (s ∷ slots) (suc first) count (suc which) f below below' from to is = vacant_without fields slots first count which f (omega (arith, below)) (omega (arith, below')) (omega (arith, from)) (omega (arith, to)) is

-- nothing is left that has not come
pub view_none : (s : RenewedSet) (slots : List (Option Value)) → s.first ≡ s.stop → slots_view s slots ≡ slots
view_none s slots none =
    let count : 0 ≡ s.stop - s.first = omega (arith, none) in
    subst (λ n. without s.first n slots ≡ slots) count (without_none s.first slots)

pub emptied_view : (end : ℕ) (old new : RenewedSet) → IsEmptied end old new → renewed_view new ≡ renewed_view old
emptied_view end old new done =
    ap (λ (fs : List Field). members_view fs (held_slots new)) done.fields ∙ ap (members_view old.set_components.fields.now) done.kept

pub come_renewed : (s : RenewedSet) → s.first ≡ s.stop → come_view s.set_components ≡ renewed_view s
come_renewed s none = ap (members_view s.set_components.fields.now) (sym (view_none s s.set_components.slots.items none))

-- what is next once slots are emptied was so before
pub next_emptied : (end : ℕ) (old mid new : RenewedSet) (which : ℕ) (type : Shape) → HasLeft old new which → IsEmptied end old mid → IsNext mid new which type → IsNext old new which type
next_emptied end old mid new which type left done next =
    record {
      vacant = subst (λ (l : List SetComponent). IsVacant l which type) (emptied_view end old mid done) next.vacant;
      fields = next.fields ∙ done.fields;
      there = next.there;
      put = λ slot. next.put slot ∙ ap (λ (l : List (Option Value)). set l which slot) done.kept;
      left = left;
    }

-- one that is due where none of them is left
pub next_anywhere : (s : RenewedSet) (which : ℕ) (type : Shape) → s.first ≡ s.stop → IsVacant (come_view s.set_components) which type → IsNext s s which type
next_anywhere s which type none vacant =
    let slots = s.set_components.slots.items in
    let there = vacant_below (come_view s.set_components) which type vacant in
    let all = members_in_slots s.set_components.fields.now slots in
    record {
      vacant = subst (λ (l : List SetComponent). IsVacant l which type) (come_renewed s none) vacant;
      fields = refl;
      there = omega (arith, there, all);
      put = λ slot. view_none s (set slots which slot) none ∙ ap (λ (l : List (Option Value)). set l which slot) (sym (view_none s slots none));
      left = λ passed. (passed, λ place from to other. (from, to));
    }

below_last : (place stop : ℕ) → place < stop → ¬ (place ≡ stop - 1) → place < stop - 1
below_last place stop below other = omega (arith, below, other)

behind_first : (place first : ℕ) → first ≤ place → ¬ (place ≡ first) → first + 1 ≤ place
behind_first place first from other = omega (arith, from, other)

pub field_at : (fields : List Field) (i : ℕ) → i < length fields → (f : Field) × (f ≡ get_or fields i f)
field_at [] i below = absurd (omega (arith, below))
field_at (f ∷ fields) zero below = (f, refl)
field_at (f ∷ fields) (suc i) below = field_at fields i (omega (arith, below))

-- the last of those that have not come, which has this type
pub next_last : (old : RenewedSet) (which : ℕ) (type : Shape) → IsRoomy old → old.first < old.stop → which ≡ old.stop - 1 → ((f : Field) → f ≡ get_or old.set_components.fields.now (old.stop - 1) f → type ≡ ty_view f.ty)
    → IsNext old (record { set_components = old.set_components; first = old.first; stop = old.stop - 1; has_passed = old.has_passed }) which type
next_last old which type roomy some is its =
    let fields = old.set_components.fields.now in
    let slots = old.set_components.slots.items in
    let last = old.stop - 1 in
    let found = field_at fields last (omega (arith, roomy.fields, some)) in
    let new : RenewedSet = record { set_components = old.set_components; first = old.first; stop = last; has_passed = old.has_passed } in
    subst₂ (IsNext old new) (sym is) (sym (its found.0 found.1)) (record {
      vacant = vacant_without fields slots old.first (old.stop - old.first) last found.0 (omega (arith, roomy.fields, some)) (omega (arith, roomy.slots, some)) (omega (arith, some)) (omega (arith, some)) found.1;
      fields = refl;
      there = omega (arith, roomy.slots, some);
      put = λ slot. put_last old.first old.stop last slots slot some (omega (arith, some));
      left = λ passed. (passed, λ place from to other. (from, below_last place old.stop to other));
    })

-- the first of them
pub next_first : (old : RenewedSet) (which : ℕ) (type : Shape) → IsRoomy old → old.first < old.stop → which ≡ old.first → ((f : Field) → f ≡ get_or old.set_components.fields.now old.first f → type ≡ ty_view f.ty)
    → IsNext old (record { set_components = old.set_components; first = old.first + 1; stop = old.stop; has_passed = old.has_passed }) which type
next_first old which type roomy some is its =
    let fields = old.set_components.fields.now in
    let slots = old.set_components.slots.items in
    let found = field_at fields old.first (omega (arith, roomy.fields, some)) in
    let new : RenewedSet = record { set_components = old.set_components; first = old.first + 1; stop = old.stop; has_passed = old.has_passed } in
    subst₂ (IsNext old new) (sym is) (sym (its found.0 found.1)) (record {
      vacant = vacant_without fields slots old.first (old.stop - old.first) old.first found.0 (omega (arith, roomy.fields, some)) (omega (arith, roomy.slots, some)) (omega arith) (omega (arith, some)) found.1;
      fields = refl;
      there = omega (arith, roomy.slots, some);
      put = λ slot. put_first old.first old.stop (old.first + 1) slots slot some refl;
      left = λ passed. (passed, λ place from to other. (behind_first place old.first from other, to));
    })

-- the one before which slots are emptied
pub next_ahead : (place : ℕ) (old mid : RenewedSet) → IsEmptied place old mid → place < mid.stop
    → IsNextAt old (record { set_components = mid.set_components; first = place + 1; stop = mid.stop; has_passed = true }) place
next_ahead place old mid done some =
    let slots = mid.set_components.slots.items in (
      subst (λ (l : List Field). place < length l) done.fields (omega (arith, done.roomy.fields, some)),
      λ f at.
          record {
            vacant = subst (λ (l : List SetComponent). IsVacant l place (ty_view f.ty)) (emptied_view place old mid done)
                (vacant_without mid.set_components.fields.now slots mid.first (mid.stop - mid.first) place f (omega (arith, done.roomy.fields, some)) (omega (arith, done.roomy.slots, some)) (omega (arith, done.first)) (omega (arith, done.first, some))
                (subst (λ (l : List Field). f ≡ get_or l place f) (sym done.fields) at));
            fields = done.fields;
            there = omega (arith, done.roomy.slots, some);
            put = λ slot. subst (λ n. without (place + 1) (mid.stop - (place + 1)) (set slots place slot) ≡ set (without n (mid.stop - n) slots) place slot) (sym done.first) (put_first place mid.stop (place + 1) slots slot some refl)
                ∙ ap (λ (l : List (Option Value)). set l place slot) done.kept;
            left = λ passed. absurd (cc passed);
          },
    )

-- a component that is read into its slot
pub renewed_come : (levels : ℕ) (octets : List ℕ) (old new : RenewedSet) (v : Value) (which used : ℕ) (type : Shape) → IsNext old new which type → IsRead levels type octets v used
    → IsMemberRead levels octets (Parts.set (renewed_view old)) (Parts.set (members_view new.set_components.fields.now (slots_view new (set new.set_components.slots.items which (Some v))))) used
renewed_come levels octets old new v which used type next h =
    subst₂ (λ (fs : List Field) (l : List (Option Value)). IsMemberRead levels octets (Parts.set (renewed_view old)) (Parts.set (members_view fs l)) used) (sym next.fields) (sym (next.put (Some v)))
    (member_come levels old.set_components.fields.now octets (held_slots old) v which type used next.vacant h)

-- none has not come but those that had not, and not the one that is put
vacant_put : (fields : List Field) (slots : List (Option Value)) (v : Value) (which other : ℕ) (type : Shape) → IsVacant (members_view fields (set slots which (Some v))) other type → (¬ (other ≡ which)) × IsVacant (members_view fields slots) other type
vacant_put [] slots v which other type vacant = absurd vacant
vacant_put (f ∷ fields) [] v which other type vacant = absurd vacant
vacant_put (f ∷ fields) (s ∷ slots) v zero zero type vacant = absurd (cc vacant.0)
vacant_put (f ∷ fields) (s ∷ slots) v zero (suc other) type vacant = ((λ same. absurd (omega (arith, same))), vacant)
vacant_put (f ∷ fields) (s ∷ slots) v (suc which) zero type vacant = ((λ same. absurd (omega (arith, same))), vacant)
vacant_put (f ∷ fields) (s ∷ slots) v (suc which) (suc other) type vacant =
    let before = vacant_put fields slots v which other type vacant in
    ((λ same. before.0 (omega (arith, same))), before.1)

-- those that have not come are in the range once a component is put
abbrev pub IsFilledWith : RenewedSet → ℕ → Value → Type 0
IsFilledWith new which v = new.has_passed ≡ false → (other : ℕ) (its : Shape) → IsVacant (members_view new.set_components.fields.now (slots_view new (set new.set_components.slots.items which (Some v)))) other its → (new.first ≤ other) × (other < new.stop)

pub filled_come : (old new : RenewedSet) (v : Value) (which : ℕ) (type : Shape) → IsFilled old → IsNext old new which type → IsFilledWith new which v
filled_come old new v which type filled next passed other its vacant =
    let before = subst₂ (λ (fs : List Field) (l : List (Option Value)). IsVacant (members_view fs l) other its) next.fields (next.put (Some v)) vacant in
    let was = vacant_put old.set_components.fields.now (held_slots old) v which other its before in
    let left = next.left passed in
    let within = filled left.0 other its was.1 in
    left.1 other within.0 within.1 was.0

-- at first all are in it
pub filled_first : (s : RenewedSet) → s.first ≡ 0 → s.stop ≡ length s.set_components.fields.now → IsFilled s
filled_first s first stop passed which type vacant =
    let there = vacant_below (renewed_view s) which type vacant in
    let all = members_in_fields s.set_components.fields.now (held_slots s) in
    (omega (arith, first), omega (arith, stop, there, all))

-- where nothing is left of it, each has come
pub none_left : (s : RenewedSet) → s.first ≡ s.stop → s.has_passed ≡ false → IsFilled s → (which : ℕ) (type : Shape) → ¬ IsVacant (come_view s.set_components) which type
none_left s none passed filled which type vacant =
    let within = filled passed which type (subst (λ (l : List SetComponent). IsVacant l which type) (come_renewed s none) vacant) in
    absurd (omega (arith, none, within.0, within.1))

pub none_missing : (ss : List SetComponent) → ((which : ℕ) (type : Shape) → ¬ IsVacant ss which type) → AllByRecursion (λ (s : SetComponent). s.come ≡ None → MayBeAbsent s.component.requirement) ss
none_missing [] none = tt
none_missing (s ∷ ss) none = ((λ vacant. absurd (none 0 s.component.type (vacant, refl))), none_missing ss (λ which type. none (suc which) type))

-- the type of a component that has not come
pub due_good : (tag : Tag) (fields : List Field) (set_components : List SetComponent) (which : ℕ) (type : Shape) → AllByRecursion IsGoodComponent (map field_view fields) → AreSetComponentsOf (map field_view fields) (Parts.set set_components) → IsVacant set_components which type → IsGoodType type
due_good tag fields set_components which type good of vacant =
    let place = due_field tag fields set_components which type of vacant in
    let at = field_at fields which place.below in
    subst IsGoodType (field_type at.0 ∙ place.types at.0 at.1) (good_component fields which at.0 place.below at.1 good).type
