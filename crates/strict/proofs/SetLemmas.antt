-- Lemmas on the components of a SET that were read.
use Rattle.std.proofs.Common.{◌≡◌, ◌↔◌, ℕ, zero, suc, ◌+◌, ◌-◌, inl, inr, List, [], ◌∷◌, ◌++◌, Bool, true, Option, Some, None, IsTrue, IsPermutation, AllPairs, Contains, MatchOption, Vec, Global, length, get_or, take, drop, map, option_map, set, refl, sym, ◌∙◌, ap, subst, subst₂, arith}
use Rattle.std.specs.List.{AllByRecursion}
use Rattle.std.proofs.Math.Seq.{take-add}
use Rattle.std.proofs.lemmas.List.{length-drop, drop-drop, take_rest}
use Rattle.std.proofs.lemmas.List.Sorted.{IsPermutation-refl, IsPermutation-sym, IsPermutation-trans, IsPermutation-cons, IsPermutation-swap, IsPermutation-to_front}
use Rattle.octets.specs.declared.canonical.Canonical.{Canonical}
use Rattle.octets.specs.declared.tag.Tag.{Tag}
use Rattle.octets.specs.Rule.{Rule, IsCanonical, rule_of}
use Rattle.octets.specs.Tag.{ComesBefore}
use Rattle.types.specs.declared.ty.Field.{Field}
use Rattle.types.specs.declared.value.Value.{Value}
use Rattle.types.specs.declared.value.Value as value
use Rattle.types.specs.Shape.{Val, Slots, no_slot, absent, present, Shape}
use Rattle.types.specs.View.{ComponentView, components_of, components_view, field_view, slots_of, slots_view, ty_view, value_view}
use Rattle.types.specs.Conforms.{DiffersFromDefault}
use Rattle.types.specs.Encoding.{IsEncoding, AreSlotEncodings, standing}
use Rattle.types.specs.FirstTags.{first_tags, AreDistinct, tags_of_components}
use Rattle.types.specs.Form.{IsConstructed}
use Rattle.types.specs.Order.{IsOrderTagIn}
use Rattle.types.proofs.DepthLemmas.{absent_is_none}
use Rattle.types.proofs.ListLemmas.{AllPairs-nil, contains_cases, not_in_nil}
use Rattle.types.proofs.OrderLemmas.{ComesBefore-trans}
use Rattle.types.proofs.SetOrderLemmas.{one_order_tag}
use Rattle.types.proofs.SortedLemmas.{AllPairs-first, AllPairs-rest, AllPairs-from_first}
use Rattle.types.proofs.TagLemmas.{contains_either}
use Rattle.types.proofs.ViewLemmas.{value-Fields}
use Rattle.encoding_parts.specs.HeldParts.{members_view}
use Rattle.encoding_parts.specs.Parts.{IsVacant, IsGoodType, IsGoodComponent}
use Rattle.encoding_parts.proofs.PartsOpenLemmas.{components_good}
use Rattle.encoding_parts.proofs.SetComponentLemmas.{AreFilled}
use Rattle.strict.specs.Head.{EndsHere}
use Rattle.strict.specs.Inside.{HasInside, IsInsideRead}
use Rattle.strict.specs.Components.{IsFront, IsPresentRead}
use Rattle.strict.specs.Members.{IsOrderTagOf, AreMembersLeft, AreMembersCome, ComesBehind, ComesUpTo, HasMembers, AreMembersRead}
use Rattle.strict.proofs.FrontLemmas.{canonical_of}
use Rattle.strict.proofs.FieldLemmas.{field_type}
use Rattle.strict.proofs.PartLemmas.{concat_last}
use Rattle.strict.proofs.ComponentLemmas.{may_of_absent}
use Rattle.strict.proofs.SequenceLemmas.{absent_stands}
use Rattle.strict.proofs.MemberLemmas.{come_of, IsComponentAt}
use Rattle.strict.proofs.DueLemmas.{IsFound, IsDue, found_at, is_due, due_after, order_in, read_begins}

-- one that has come besides the others
record IsOneMore (rule : Rule) (cs : List ComponentView) (slots : List (Option Value)) (encodings : List (Option (List ℕ))) (part : List ℕ) : Type 0 where
  others : List (Option (List ℕ))
  each : AreMembersCome rule cs slots others
  order : IsPermutation (standing others) (part ∷ standing encodings)

one_later : (rule : Rule) (c : ComponentView) (cs : List ComponentView) (slot : Option Value) (slots : List (Option Value)) (encoding : Option (List ℕ)) (encodings : List (Option (List ℕ))) (part : List ℕ)
    → ((others : List (Option (List ℕ))) → AreMembersCome rule cs slots others → AreMembersCome rule (c ∷ cs) (slot ∷ slots) (encoding ∷ others)) → IsOneMore rule cs slots encodings part → IsOneMore rule (c ∷ cs) (slot ∷ slots) (encoding ∷ encodings) part
one_later rule c cs slot slots encoding encodings part step m = record { others = encoding ∷ m.others; each = step m.others m.each; order = order_later encoding }
  where
    order_later : (encoding : Option (List ℕ)) → IsPermutation (standing (encoding ∷ m.others)) (part ∷ standing (encoding ∷ encodings))
    order_later None = m.order
    order_later (Some before) =
        IsPermutation-trans (before ∷ standing m.others) (before ∷ (part ∷ standing encodings)) (part ∷ (before ∷ standing encodings)) (IsPermutation-cons before (standing m.others) (part ∷ standing encodings) m.order)
        (IsPermutation-swap (before ∷ (part ∷ standing encodings)) (part ∷ (before ∷ standing encodings)) 0 1 (omega arith) (omega arith) refl)

one_more : (rule : Rule) (cs : List ComponentView) (slots : List (Option Value)) (encodings : List (Option (List ℕ))) (place : ℕ) (c : ComponentView) (v : Value) (part : List ℕ) → AreMembersCome rule cs slots encodings → IsVacant (come_of cs slots) place c.type → IsComponentAt cs place c
    → IsEncoding rule c.type (value_view v) part → DiffersFromDefault c.requirement (value_view v) → IsOneMore rule cs (set slots place (Some v)) encodings part
one_more rule [] [] [] place c v part h vacant here encoding differs = absurd vacant
one_more rule (x ∷ cs) (None ∷ slots) (None ∷ encodings) zero c v part h vacant here encoding differs = record {
  others = Some part ∷ encodings;
  each = ((subst (λ (y : ComponentView). IsEncoding rule y.type (value_view v) part) (sym here) encoding, subst (λ (y : ComponentView). DiffersFromDefault y.requirement (value_view v)) (sym here) differs), h);
  order = IsPermutation-refl (part ∷ standing encodings);
}
one_more rule (x ∷ cs) (Some w ∷ slots) (Some octets ∷ encodings) zero c v part h vacant here encoding differs = cc vacant.0
one_more rule (x ∷ cs) (None ∷ slots) (None ∷ encodings) (suc place) c v part h vacant here encoding differs =
    one_later rule x cs None (set slots place (Some v)) None encodings part (λ others k. k) (one_more rule cs slots encodings place c v part h vacant here encoding differs)
one_more rule (x ∷ cs) (Some w ∷ slots) (Some octets ∷ encodings) (suc place) c v part h vacant here encoding differs =
    one_later rule x cs (Some w) (set slots place (Some v)) (Some octets) encodings part (λ others k. (h.0, k)) (one_more rule cs slots encodings place c v part h.1 vacant here encoding differs)
one_more rule cs slots encodings place c v part h vacant here encoding differs = elim h [ ]

-- one more at the end of what ascends
pairs_last : (R : List ℕ → List ℕ → Type 0) (es : List (List ℕ)) (e : List ℕ) → AllPairs R es → AllByRecursion (λ a. R a e) es → AllPairs R (es ++ (e ∷ []))
pairs_last R [] e h k = AllPairs-from_first R e [] (λ b c. absurd (not_in_nil b c)) (AllPairs-nil R)
pairs_last R (x ∷ es) e h k =
    AllPairs-from_first R x (es ++ (e ∷ []))
    (λ b c. elim (contains_either es (e ∷ []) b c) [ inl here ↦ AllPairs-first R x b es h here | inr last ↦ elim (contains_cases e b [] last) [ inl same ↦ subst (R x) same k.0 | inr never ↦ absurd (not_in_nil b never) ] ])
    (pairs_last R es e (AllPairs-rest R x es h) k.1)

all_last : (P Q : List ℕ → Type 0) → ((e : List ℕ) → P e → Q e) → (es : List (List ℕ)) (e : List ℕ) → AllByRecursion P es → Q e → AllByRecursion Q (es ++ (e ∷ []))
all_last P Q f [] e h k = (k, tt)
all_last P Q f (x ∷ es) e h k = (f x h.0, all_last P Q f es e h.1 k)

all_weaker : (P Q : List ℕ → Type 0) → ((e : List ℕ) → P e → Q e) → (es : List (List ℕ)) → AllByRecursion P es → AllByRecursion Q es
all_weaker P Q f [] h = tt
all_weaker P Q f (x ∷ es) h = (f x h.0, all_weaker P Q f es h.1)

-- what comes up to the last tag comes before one behind it
before_next : (rule : Rule) (cs : List ComponentView) (last : Option Tag) (order : Tag) (b : Bool) (octets : List ℕ) (tag : Tag) → (IsTrue b ↔ MatchOption last (Unit {0}) (λ before. ComesBefore before order)) → b ≡ true
    → ComesUpTo rule cs last octets → IsOrderTagIn rule (components_of cs) octets tag → ComesBefore tag order
before_next rule cs None order b octets tag iff on up is = absurd up
before_next rule cs (Some before) order b octets tag iff on up is =
    elim (up tag is) [
      | inl same ↦ subst (λ t. ComesBefore t order) (sym same) (iff.0 on)
      | inr less ↦ ComesBefore-trans tag before order less (iff.0 on)
    ]

-- no component yet
none_come : (rule : Rule) (cs : List ComponentView) → AreMembersCome rule cs (map (λ c. None) cs) (map (λ c. None) cs)
none_come rule [] = tt
none_come rule (c ∷ cs) = none_come rule cs

none_standing : (cs : List ComponentView) → standing (map (λ c. None) cs) ≡ []
none_standing [] = refl
none_standing (c ∷ cs) = none_standing cs

pub no_members : (rule : Rule) (cs : List ComponentView) (definite : Bool) (room : ℕ) (octets : List ℕ) (slots : List (Option Value)) → slots ≡ map (λ c. None) cs → AreMembersRead rule cs slots None definite room octets 0
no_members rule cs definite room octets slots none = record {
  there = omega arith;
  within = omega arith;
  encodings = map (λ c. None) cs;
  each = subst (λ l. AreMembersCome rule cs l (map (λ c. None) cs)) (sym none) (none_come rule cs);
  order = [];
  permutes = subst (λ l. IsPermutation l []) (sym (none_standing cs)) (IsPermutation-refl []);
  ascends = AllPairs-nil (λ a b. (t u : Tag) → IsOrderTagIn rule (components_of cs) a t → IsOrderTagIn rule (components_of cs) b u → ComesBefore t u);
  up_to = tt;
  joined = refl;
  forth = λ more h. subst₂ (λ l n. HasMembers rule cs l None definite n (octets ++ more)) (sym none) (omega arith) h;
}

-- one component more
member_read : (rule : Rule) (cs : List ComponentView) (slots : List (Option Value)) (last : Option Tag) (place : ℕ) (c : ComponentView) (tag order : Tag) (b definite : Bool) (room : ℕ) (octets : List ℕ) (v : Value) (at used : ℕ) → IsCanonical rule → IsGoodType c.type
    → AreDistinct (tags_of_components (components_of cs)) → IsFound cs slots place c tag → IsOrderTagIn rule (components_of cs) (take used (drop at octets)) order
    → (IsTrue b ↔ MatchOption last (Unit {0}) (λ before. ComesBefore before order)) → b ≡ true
    → ((more : List ℕ) → HasMembers rule cs slots last definite (room - at) (drop at octets ++ more) → IsDue rule cs slots last place c order definite (room - at) (drop at octets ++ more))
    → AreMembersRead rule cs slots last definite room octets at → IsPresentRead rule c (room - at) (drop at octets) (Some v) used → AreMembersRead rule cs (set slots place (Some v)) (Some order) definite room octets (at + used)
member_read rule cs slots last place c tag order b definite room octets v at used canonical good distinct found ordered iff on due h one =
    let rest = drop at octets in
    let part = take used rest in
    let size = length-drop at octets in
    let more = one_more rule cs slots h.encodings place c v part h.each found.vacant found.here one.0.2 one.1 in
    let R = λ (a b : List ℕ). (t u : Tag) → IsOrderTagIn rule (components_of cs) a t → IsOrderTagIn rule (components_of cs) b u → ComesBefore t u in
    let only : (u : Tag) → IsOrderTagIn rule (components_of cs) part u → u ≡ order = λ u is. one_order_tag rule (components_of cs) part u order canonical distinct is ordered in
    let front = IsPermutation-trans (standing more.others) (part ∷ standing h.encodings) (part ∷ h.order) more.order (IsPermutation-cons part (standing h.encodings) h.order h.permutes) in
    record {
      there = omega (arith, h.there, one.0.0, size);
      within = omega (arith, h.within, one.0.1);
      encodings = more.others;
      each = more.each;
      order = h.order ++ (part ∷ []);
      permutes = IsPermutation-trans (standing more.others) (part ∷ h.order) (h.order ++ (part ∷ [])) front (IsPermutation-sym (h.order ++ (part ∷ [])) (part ∷ h.order) (IsPermutation-to_front h.order part));
      ascends = pairs_last R h.order part h.ascends
          (all_weaker (ComesUpTo rule cs last) (λ a. R a part) (λ a up t u is k. subst (ComesBefore t) (sym (only u k)) (before_next rule cs last order b a t iff on up is)) h.order h.up_to);
      up_to = all_last (ComesUpTo rule cs last) (ComesUpTo rule cs (Some order)) (λ a up t is. inr (before_next rule cs last order b a t iff on up is)) h.order part h.up_to (λ t is. inl (only t is));
      joined = take-add at used octets ∙ (ap (λ x. x ++ part) h.joined ∙ sym (concat_last h.order part));
      forth = λ later k.
          let next = due_after rule cs slots last place c order definite (room - at) used rest later v good one (due later (h.forth later k)) in
          let left : (room - at) - used ≡ room - (at + used) = omega arith in
          subst₂ (λ n x. HasMembers rule cs (set slots place (Some v)) (Some order) definite n (x ++ later)) left (drop-drop used at octets) next;
    }

pub member_more : (rule : Canonical) (cs : List ComponentView) (slots : List (Option Value)) (last : Option Tag) (place : ℕ) (c : ComponentView) (tag order : Tag) (b definite : Bool) (room : ℕ) (octets : List ℕ) (slot : Option Value) (at used : ℕ) → IsGoodType c.type
    → AreDistinct (tags_of_components (components_of cs)) → IsFront (Some tag) definite (room - at) (drop at octets) → IsFound cs slots place c tag → IsOrderTagOf (rule_of rule) c.type tag order
    → (IsTrue b ↔ MatchOption last (Unit {0}) (λ before. ComesBefore before order)) → b ≡ true → AreMembersRead (rule_of rule) cs slots last definite room octets at → IsPresentRead (rule_of rule) c (room - at) (drop at octets) slot used
    → AreMembersRead (rule_of rule) cs (set slots place slot) (Some order) definite room octets (at + used)
member_more rule cs slots last place c tag order b definite room octets None at used good distinct front found is iff on h one = absurd one
member_more rule cs slots last place c tag order b definite room octets (Some v) at used good distinct front found is iff on h one =
    let begins = read_begins (rule_of rule) c tag definite (room - at) used (drop at octets) v front one in
    let ordered = order_in (rule_of rule) cs place c tag order (take used (drop at octets)) found.here is found.first begins in
    member_read (rule_of rule) cs slots last place c tag order b definite room octets v at used (canonical_of rule) good distinct found ordered iff on
    (λ more k. is_due (rule_of rule) cs slots last place c order definite (room - at) (drop at octets) more tag distinct front found is k) h one

-- the slots of all components
filled_slots : (rule : Rule) (cs : List ComponentView) (slots : List (Option Value)) (encodings : List (Option (List ℕ))) → AreMembersCome rule cs slots encodings → AreFilled (come_of cs slots) → AreSlotEncodings rule (components_of cs) (slots_of (map (option_map value_view) slots)) encodings
filled_slots rule [] [] [] h filled = tt
filled_slots rule (c ∷ cs) (None ∷ slots) (None ∷ encodings) h filled = (absent_stands rule c.requirement (IsEncoding rule c.type) (filled.0 refl), filled_slots rule cs slots encodings h filled.1)
filled_slots rule (c ∷ cs) (Some v ∷ slots) (Some octets ∷ encodings) h filled = (h.0.0, h.0.1, filled_slots rule cs slots encodings h.1 filled.1)
filled_slots rule cs slots encodings h filled = elim h [ ]

-- they are the contents octets of a SET
pub set_read : (rule : Rule) (tag : Tag) (fields : List Field) (definite : Bool) (room : ℕ) (octets : List ℕ) (slots : Vec (Option Value) Global) (last : Option Tag) (used : ℕ) → AreFilled (come_of (map field_view fields) slots.items)
    → AreMembersRead rule (map field_view fields) slots.items last definite room octets used → EndsHere definite (room - used) (drop used octets) → IsInsideRead rule (Shape.set tag (components_view fields)) definite room octets (value.Fields slots) used
set_read rule tag fields definite room octets slots last used filled read ends =
    let shape = Shape.set tag (components_view fields) in
    record {
      there = read.there;
      within = read.within;
      ends = ends;
      makes = λ own whole is made.
          let same : tag ≡ own = cc is in
          let encodes : IsEncoding rule shape (Val.fields (slots_view slots.items)) whole = record {
            slots = slots_view slots.items;
            is = refl;
            encodings = read.encodings;
            each = filled_slots rule (map field_view fields) slots.items read.encodings read.each filled;
            order = read.order;
            permutes = read.permutes;
            ascends = λ canonical. read.ascends;
            whole = subst₂ (λ t x. IsConstructed rule t x whole) (sym same) read.joined made;
          } in
          subst (λ v. IsEncoding rule shape v whole) (sym (value-Fields slots)) encodes;
    }

-- what can stand inside a SET
members_left : (rule : Canonical) (cs : List ComponentView) (slots : Slots) (encodings : List (Option (List ℕ))) → AreSlotEncodings (rule_of rule) (components_of cs) slots encodings → AreMembersLeft (rule_of rule) cs (map (λ c. None) cs) encodings
members_left rule [] no_slot [] h = tt
members_left rule (c ∷ cs) (absent slots) (None ∷ encodings) h = (may_of_absent (rule_of rule) c.requirement (IsEncoding (rule_of rule) c.type) None h.0, members_left rule cs slots encodings h.1)
members_left rule (c ∷ cs) (absent slots) (Some octets ∷ encodings) h =
    let none : Some octets ≡ None = absent_is_none (rule_of rule) c.requirement (IsEncoding (rule_of rule) c.type) (Some octets) (canonical_of rule) h.0 in cc
members_left rule (c ∷ cs) (present v slots) (Some octets ∷ encodings) h = ((v, h.0, h.1), members_left rule cs slots encodings h.2)
members_left rule cs slots encodings h = elim h [ ]

all_first : (rule : Rule) (cs : List ComponentView) (order : List (List ℕ)) → AllByRecursion (ComesBehind rule cs None) order
all_first rule cs [] = tt
all_first rule cs (e ∷ order) = (tt, all_first rule cs order)

pub members_inside : (rule : Canonical) (tag : Tag) (cs : List ComponentView) (definite : Bool) (room : ℕ) (octets : List ℕ) → HasInside (rule_of rule) (Shape.set tag (components_of cs)) definite room octets
    → HasMembers (rule_of rule) cs (map (λ c. None) cs) None definite room octets
members_inside rule tag cs definite room octets h =
    let e = h.encoding in
    record { encodings = e.encodings; each = members_left rule cs e.slots e.encodings e.each; order = e.order; permutes = e.permutes; ascends = e.ascends (canonical_of rule); behind = all_first (rule_of rule) cs e.order; rest = h.rest; fills = h.fills; parts = h.parts }

pub good_members : (tag : Tag) (fields : List Field) → IsGoodType (Shape.set tag (components_view fields)) → AllByRecursion IsGoodComponent (map field_view fields)
good_members tag fields good = components_good (map field_view fields) good.within.1 good.tags.1 good.defaults.1 good.defaults.0

-- where a tag was read and its component found, it is due in all that goes on with all components
pub due_there : {rule : Rule} {own fields : List Field} {slots : List (Option Value)} {last front : Option Tag} {definite : Bool} {room at : ℕ} {octets : List ℕ} {tag : Tag} (place : ℕ) (type : Shape) (f : Field) (order : Tag) → AreDistinct (tags_of_components (components_of (map field_view fields)))
    → AreMembersRead rule (map field_view fields) slots last definite room octets at → own ≡ fields → front ≡ Some tag → IsFront front definite (room - at) (take (length octets - at) (drop at octets)) → IsVacant (members_view own slots) place type × Contains (first_tags type) tag → f ≡ get_or fields place f
    → IsOrderTagOf rule (ty_view f.ty) tag order → (more : List ℕ) → HasMembers rule (map field_view fields) (map (λ c. None) (map field_view fields)) None definite room (octets ++ more) → IsDue rule (map field_view fields) slots last place (field_view f) order definite (room - at) (drop at octets ++ more)
due_there {rule} {own} {fields} {slots} {last} {front} {definite} {room} {at} {octets} {tag} place type f order distinct read same known there due is ordered more h =
    let here : IsFront (Some tag) definite (room - at) (drop at octets) = subst₂ (λ t x. IsFront t definite (room - at) x) known (take_rest octets at) there in
    let found = found_at own fields slots place type f tag same due is in
    let by = subst (λ t. IsOrderTagOf rule t tag order) (sym (field_type f)) ordered in
    is_due rule (map field_view fields) slots last place (field_view f) order definite (room - at) (drop at octets) more tag distinct here found by (read.forth more h)
