-- Lemmas on the component of a SET that a tag at the front begins.
use Rattle.std.proofs.Common.{◌≡◌, ◌↔◌, ℕ, zero, suc, ◌-◌, ◌<◌, ◌≤◌, inl, inr, List, [], ◌∷◌, ◌++◌, Bool, true, false, Option, Some, None, IsTrue, Contains, MatchOption, length, take, drop, map, set, get_or, refl, sym, ◌∙◌, ap, subst, subst₂, arith}
use Rattle.std.specs.List.{AllByRecursion}
use Rattle.std.proofs.lemmas.List.{length-take-le, take-append-drop}
use Rattle.octets.specs.declared.tag.Tag.{Tag}
use Rattle.octets.specs.Rule.{Rule, ber, cer, der}
use Rattle.octets.specs.Tag.{ComesBefore}
use Rattle.octets.proofs.FrontLemmas.{front_of_more}
use Rattle.types.specs.declared.ty.Field.{Field}
use Rattle.types.specs.declared.value.Value.{Value}
use Rattle.types.specs.Shape.{Val, Shape}
use Rattle.types.specs.View.{ComponentView, components_of, field_view, value_view}
use Rattle.types.specs.Conforms.{DiffersFromDefault}
use Rattle.types.specs.Encoding.{IsEncoding}
use Rattle.types.specs.FirstTags.{first_tags, AreDistinct, tags_of_components}
use Rattle.types.specs.Order.{BeginsWith, BeginsWithOneOf, IsOrderTag, IsOrderTagIn}
use Rattle.types.proofs.BeginningLemmas.{encoding_begins, begins_once}
use Rattle.types.proofs.FirstTagLemmas.{tag_within}
use Rattle.types.proofs.ListLemmas.{contains_left, contains_right, distinct_apart, distinct_right}
use Rattle.encoding_parts.specs.HeldParts.{members_view}
use Rattle.encoding_parts.specs.Parts.{IsVacant, IsGoodType, IsGoodComponent}
use Rattle.encoding_parts.proofs.SetComponentLemmas.{NoneDue, AreFilled, vacant_below, members_in_fields}
use Rattle.encoding_parts.specs.Segments.{BeginsAboveZero}
use Rattle.strict.specs.Head.{EndsHere}
use Rattle.strict.specs.Components.{IsFront, EndsOrBegins, HasPresent, IsPresentRead}
use Rattle.strict.specs.Members.{IsOrderTagOf, ComesBehind, HasMembers}
use Rattle.strict.proofs.PartLemmas.{one_of, same_part, one_begins, no_end_here}
use Rattle.strict.proofs.FrontLemmas.{same_tag, within_of, begins_whole}
use Rattle.strict.proofs.MemberLemmas.{come_of, IsComponentAt, IsNextMember, next_member}

-- the component that begins with the tag and has not come
pub record IsFound (cs : List ComponentView) (slots : List (Option Value)) (place : ℕ) (c : ComponentView) (tag : Tag) : Type 0 where
  pub here : IsComponentAt cs place c
  pub vacant : IsVacant (come_of cs slots) place c.type
  pub first : Contains (first_tags c.type) tag

found_in : (fields : List Field) (slots : List (Option Value)) (place : ℕ) (type : Shape) (f : Field) (tag : Tag) → IsVacant (members_view fields slots) place type → Contains (first_tags type) tag → f ≡ get_or fields place f → IsFound (map field_view fields) slots place (field_view f) tag
found_in [] slots place type f tag vacant first is = absurd vacant
found_in (x ∷ fields) [] place type f tag vacant first is = absurd vacant
found_in (x ∷ fields) (s ∷ slots) zero type f tag vacant first is =
    let here : field_view x ≡ field_view f = ap field_view (sym is) in
    let same : type ≡ (field_view f).type = sym vacant.1 ∙ ap (λ (c : ComponentView). c.type) here in
    record { here = here; vacant = (vacant.0, ap (λ (c : ComponentView). c.type) here); first = subst (λ t. Contains (first_tags t) tag) same first }
found_in (x ∷ fields) (s ∷ slots) (suc place) type f tag vacant first is =
    let later = found_in fields slots place type f tag vacant first is in
    record { here = later.here; vacant = later.vacant; first = later.first }

pub found_at : (own fields : List Field) (slots : List (Option Value)) (place : ℕ) (type : Shape) (f : Field) (tag : Tag) → own ≡ fields → IsVacant (members_view own slots) place type × Contains (first_tags type) tag → f ≡ get_or fields place f → IsFound (map field_view fields) slots place (field_view f) tag
found_at own fields slots place type f tag same due is = found_in fields slots place type f tag (subst (λ (l : List Field). IsVacant (members_view l slots) place type) same due.0) due.1 is

pub found_below : (own fields : List Field) (slots : List (Option Value)) (place : ℕ) (type : Shape) → own ≡ fields → IsVacant (members_view own slots) place type → place < length fields
found_below own fields slots place type same vacant = omega (arith, vacant_below (members_view own slots) place type vacant, members_in_fields own slots, ap length same)

pub component_all : (P : ComponentView → Type 0) (cs : List ComponentView) (i : ℕ) (c : ComponentView) → IsComponentAt cs i c → AllByRecursion P cs → P c
component_all P [] i c h all = absurd h
component_all P (x ∷ cs) zero c h all = subst P h all.0
component_all P (x ∷ cs) (suc i) c h all = component_all P cs i c h all.1

tags_within : (cs : List ComponentView) (i : ℕ) (c : ComponentView) (tag : Tag) → IsComponentAt cs i c → Contains (first_tags c.type) tag → Contains (tags_of_components (components_of cs)) tag
tags_within [] i c tag h k = absurd h
tags_within (x ∷ cs) zero c tag h k = contains_left (first_tags x.type) (tags_of_components (components_of cs)) tag (subst (λ (y : ComponentView). Contains (first_tags y.type) tag) (sym h) k)
tags_within (x ∷ cs) (suc i) c tag h k = contains_right (first_tags x.type) (tags_of_components (components_of cs)) tag (tags_within cs i c tag h k)

-- one component begins with the tag
component_once : (cs : List ComponentView) (i j : ℕ) (c d : ComponentView) (tag : Tag) → AreDistinct (tags_of_components (components_of cs)) → IsComponentAt cs i c → Contains (first_tags c.type) tag → IsComponentAt cs j d → Contains (first_tags d.type) tag → (i ≡ j) × (c ≡ d)
component_once [] i j c d tag distinct h k g l = absurd h
component_once (x ∷ cs) zero zero c d tag distinct h k g l = (refl, sym h ∙ g)
component_once (x ∷ cs) zero (suc j) c d tag distinct h k g l = absurd (distinct_apart (first_tags x.type) (tags_of_components (components_of cs)) distinct tag (subst (λ (y : ComponentView). Contains (first_tags y.type) tag) (sym h) k) (tags_within cs j d tag g l))
component_once (x ∷ cs) (suc i) zero c d tag distinct h k g l = absurd (distinct_apart (first_tags x.type) (tags_of_components (components_of cs)) distinct tag (subst (λ (y : ComponentView). Contains (first_tags y.type) tag) (sym g) l) (tags_within cs i c tag h k))
component_once (x ∷ cs) (suc i) (suc j) c d tag distinct h k g l =
    let later = component_once cs i j c d tag (distinct_right (first_tags x.type) (tags_of_components (components_of cs)) distinct) h k g l in
    (ap suc later.0, later.1)

order_tag_in : (rule : Rule) (cs : List ComponentView) (i : ℕ) (c : ComponentView) (octets : List ℕ) (tag : Tag) → IsComponentAt cs i c → BeginsWithOneOf (first_tags c.type) octets → IsOrderTag rule c.type octets tag → IsOrderTagIn rule (components_of cs) octets tag
order_tag_in rule [] i c octets tag h begins is = absurd h
order_tag_in rule (x ∷ cs) zero c octets tag h begins is =
    inl (subst (λ (y : ComponentView). BeginsWithOneOf (first_tags y.type) octets) (sym h) begins, subst (λ (y : ComponentView). IsOrderTag rule y.type octets tag) (sym h) is)
order_tag_in rule (x ∷ cs) (suc i) c octets tag h begins is = inr (order_tag_in rule cs i c octets tag h begins is)

order_tag_is : (rule : Rule) (type : Shape) (tag order : Tag) (octets : List ℕ) → BeginsWith tag octets → IsOrderTagOf rule type tag order → IsOrderTag rule type octets order
order_tag_is ber type tag order octets begins is = tt
order_tag_is cer type tag order octets begins is = is
order_tag_is der type tag order octets begins is = subst (λ t. BeginsWith t octets) (sym is) begins

-- an encoding of a component has the order tag of the tag that it begins with
pub order_in : (rule : Rule) (cs : List ComponentView) (i : ℕ) (c : ComponentView) (tag order : Tag) (octets : List ℕ) → IsComponentAt cs i c → IsOrderTagOf rule c.type tag order → Contains (first_tags c.type) tag → BeginsWith tag octets → IsOrderTagIn rule (components_of cs) octets order
order_in rule cs i c tag order octets h is first begins = order_tag_in rule cs i c octets order h (tag, first, begins) (order_tag_is rule c.type tag order octets begins is)

-- the next component is the one that the tag at the front begins
record IsFrontMember (rule : Rule) (cs : List ComponentView) (slots : List (Option Value)) (last : Option Tag) (definite : Bool) (room : ℕ) (octets : List ℕ) (tag : Tag) : Type 0 where
  next : IsNextMember rule cs slots last definite room octets
  begins : BeginsWith tag next.part
  first : Contains (first_tags next.member.component.type) tag

front_member : (rule : Rule) (cs : List ComponentView) (slots : List (Option Value)) (last : Option Tag) (definite : Bool) (room : ℕ) (octets more : List ℕ) (tag : Tag) → IsFront (Some tag) definite room octets → HasMembers rule cs slots last definite room (octets ++ more)
    → IsFrontMember rule cs slots last definite room (octets ++ more) tag
front_member rule cs slots last definite room octets more tag front h =
    elim (next_member rule cs slots last definite room (octets ++ more) h) [
      | inl none ↦ absurd (front.1 more none.ends)
      | inr n ↦
          let m = n.member in
          let b = encoding_begins rule m.component.type m.value n.part m.encoding in
          let same : b.0 ≡ tag = sym (same_tag tag b.0 room octets more front.0 (within_of b.0 room n.part n.tail (octets ++ more) n.parts n.fits b.2)) in
          let first = subst (Contains (first_tags m.component.type)) same b.1 in
          record { next = n; begins = subst (λ t. BeginsWith t n.part) same b.2; first = first }
    ]

-- so it can be told what stands there
pub members_begin : (rule : Rule) (cs : List ComponentView) (slots : List (Option Value)) (last : Option Tag) (definite : Bool) (room : ℕ) (octets : List ℕ) → AllByRecursion IsGoodComponent cs → HasMembers rule cs slots last definite room octets → EndsOrBegins definite room octets
members_begin rule cs slots last definite room octets good h =
    elim (next_member rule cs slots last definite room octets h) [
      | inl none ↦ inl none.ends
      | inr n ↦
          let m = n.member in
          let type = component_all IsGoodComponent cs n.place m.component m.here good in
          let b = encoding_begins rule m.component.type m.value n.part m.encoding in
          let one = one_of rule m.component.type m.value n.part type.type m.encoding in
          inr (b.0, tag_within m.component.type b.0 type.type.within b.1, within_of b.0 room n.part n.tail octets n.parts n.fits b.2, subst BeginsAboveZero (sym n.parts) (one_begins n.part n.tail one))
    ]

-- where the contents octets end, no component is left that must stand
ends_more : (definite : Bool) (room : ℕ) (octets more : List ℕ) → EndsHere definite room octets → EndsHere definite room (octets ++ more)
ends_more true room octets more ends = ends
ends_more false room octets more ends = (ends.0 ++ more, ap (λ x. x ++ more) ends.1)

pub members_filled : (rule : Rule) (cs : List ComponentView) (slots : List (Option Value)) (last : Option Tag) (definite : Bool) (room : ℕ) (octets more : List ℕ) → AllByRecursion IsGoodComponent cs → EndsHere definite room octets → HasMembers rule cs slots last definite room (octets ++ more)
    → AreFilled (come_of cs slots)
members_filled rule cs slots last definite room octets more good ends h =
    elim (next_member rule cs slots last definite room (octets ++ more) h) [
      | inl none ↦ none.filled
      | inr n ↦
          let m = n.member in
          let type = component_all IsGoodComponent cs n.place m.component m.here good in
          let one = one_of rule m.component.type m.value n.part type.type m.encoding in
          absurd (no_end_here definite room n.part n.tail one n.fits (subst (EndsHere definite room) n.parts (ends_more definite room octets more ends)))
    ]

-- where no component is left that the tag begins, nothing goes on
pub none_goes_on : (rule : Rule) (cs : List ComponentView) (slots : List (Option Value)) (last : Option Tag) (definite : Bool) (room : ℕ) (octets more : List ℕ) (tag : Tag) → IsFront (Some tag) definite room octets
    → NoneDue tag (come_of cs slots) → HasMembers rule cs slots last definite room (octets ++ more) → ⊥
none_goes_on rule cs slots last definite room octets more tag front none h =
    let f = front_member rule cs slots last definite room octets more tag front h in
    none f.next.place f.next.member.component.type f.next.member.vacant f.first

-- the component that was found is the one that stands there
pub record IsDue (rule : Rule) (cs : List ComponentView) (slots : List (Option Value)) (last : Option Tag) (place : ℕ) (c : ComponentView) (order : Tag) (definite : Bool) (room : ℕ) (octets : List ℕ) : Type 0 where
  pub value : Val
  pub part : List ℕ
  pub tail : List ℕ
  pub encoding : IsEncoding rule c.type value part
  pub differs : DiffersFromDefault c.requirement value
  pub ordered : IsOrderTagIn rule (components_of cs) part order
  pub behind : ComesBehind rule cs last part
  pub fits : length part ≤ room
  pub parts : octets ≡ part ++ tail
  pub later : (v : Value) → HasMembers rule cs (set slots place (Some v)) (Some order) definite (room - length part) tail

pub is_due : (rule : Rule) (cs : List ComponentView) (slots : List (Option Value)) (last : Option Tag) (place : ℕ) (c : ComponentView) (order : Tag) (definite : Bool) (room : ℕ) (octets more : List ℕ) (tag : Tag) → AreDistinct (tags_of_components (components_of cs))
    → IsFront (Some tag) definite room octets → IsFound cs slots place c tag → IsOrderTagOf rule c.type tag order → HasMembers rule cs slots last definite room (octets ++ more) → IsDue rule cs slots last place c order definite room (octets ++ more)
is_due rule cs slots last place c order definite room octets more tag distinct front found is h =
    let f = front_member rule cs slots last definite room octets more tag front h in
    let n = f.next in
    let m = n.member in
    let once = component_once cs n.place place m.component c tag distinct m.here f.first found.here found.first in
    let ordered = order_in rule cs place c tag order n.part found.here is found.first f.begins in
    record {
      value = m.value;
      part = n.part;
      tail = n.tail;
      encoding = subst (λ (d : ComponentView). IsEncoding rule d.type m.value n.part) once.1 m.encoding;
      differs = subst (λ (d : ComponentView). DiffersFromDefault d.requirement m.value) once.1 m.differs;
      ordered = ordered;
      behind = n.behind;
      fits = n.fits;
      parts = n.parts;
      later = λ v. subst (λ i. HasMembers rule cs (set slots i (Some v)) (Some order) definite (room - length n.part) n.tail) once.0 (n.later v order ordered);
    }

pub present_due : (rule : Rule) (cs : List ComponentView) (slots : List (Option Value)) (last : Option Tag) (place : ℕ) (c : ComponentView) (order : Tag) (definite : Bool) (room : ℕ) (octets : List ℕ) → IsDue rule cs slots last place c order definite room octets → HasPresent rule c room octets
present_due rule cs slots last place c order definite room octets d = record { value = d.value; part = d.part; rest = d.tail; encoding = d.encoding; differs = d.differs; fits = d.fits; parts = d.parts }

-- one that does not come behind the last one does not stand there
not_behind : (rule : Rule) (cs : List ComponentView) (last : Option Tag) (order : Tag) (b : Bool) (part : List ℕ) → (IsTrue b ↔ MatchOption last (Unit {0}) (λ before. ComesBefore before order)) → b ≡ false → IsOrderTagIn rule (components_of cs) part order → ComesBehind rule cs last part → ⊥
not_behind rule cs None order b part iff off ordered behind = let on : b ≡ true = iff.1 tt in cc
not_behind rule cs (Some before) order b part iff off ordered behind = let on : b ≡ true = iff.1 (behind order ordered) in cc

pub none_before : (rule : Rule) (cs : List ComponentView) (slots : List (Option Value)) (last : Option Tag) (place : ℕ) (c : ComponentView) (order : Tag) (b : Bool) (definite : Bool) (room : ℕ) (octets : List ℕ)
    → (IsTrue b ↔ MatchOption last (Unit {0}) (λ before. ComesBefore before order)) → b ≡ false → IsDue rule cs slots last place c order definite room octets → ⊥
none_before rule cs slots last place c order b definite room octets iff off d = not_behind rule cs last order b d.part iff off d.ordered d.behind

-- what goes on behind the one that was read
pub due_after : (rule : Rule) (cs : List ComponentView) (slots : List (Option Value)) (last : Option Tag) (place : ℕ) (c : ComponentView) (order : Tag) (definite : Bool) (room used : ℕ) (octets more : List ℕ) (v : Value) → IsGoodType c.type → IsPresentRead rule c room octets (Some v) used
    → IsDue rule cs slots last place c order definite room (octets ++ more) → HasMembers rule cs (set slots place (Some v)) (Some order) definite (room - used) (drop used octets ++ more)
due_after rule cs slots last place c order definite room used octets more v good read d =
    let front = take used octets in
    let split : octets ++ more ≡ front ++ (drop used octets ++ more) = front_of_more used octets more in
    let same = same_part d.part front d.tail (drop used octets ++ more) (one_of rule c.type d.value d.part good d.encoding) (one_of rule c.type (value_view v) front good read.0.2) (sym d.parts ∙ split) in
    let size : length d.part ≡ used = ap length same.0 ∙ length-take-le used octets read.0.0 in
    subst₂ (λ n x. HasMembers rule cs (set slots place (Some v)) (Some order) definite (room - n) x) size same.1 (d.later v)

-- what was read begins with the tag at the front
pub read_begins : (rule : Rule) (c : ComponentView) (tag : Tag) (definite : Bool) (room used : ℕ) (octets : List ℕ) (v : Value) → IsFront (Some tag) definite room octets → IsPresentRead rule c room octets (Some v) used → BeginsWith tag (take used octets)
read_begins rule c tag definite room used octets v front read =
    let part = take used octets in
    let b = encoding_begins rule c.type (value_view v) part read.0.2 in
    let there : BeginsWith tag octets = record { constructed = front.0.constructed; identifier = front.0.identifier; rest = front.0.rest; tagged = front.0.tagged; joined = front.0.parts } in
    let whole = begins_whole b.0 part (drop used octets) octets (sym (take-append-drop used octets)) b.2 in
    subst (λ t. BeginsWith t part) (begins_once b.0 tag octets whole there) b.2
