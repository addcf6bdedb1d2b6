-- Lemmas on the components of a SET, one after another: each that was read is the one that stands there.
use Rattle.std.proofs.Common.{◌≡◌, ℕ, zero, suc, ◌-◌, ◌≤◌, ◌⊎◌, inl, inr, List, [], ◌∷◌, ◌++◌, Bool, Option, Some, None, IsPermutation, Contains, length, map, option_map, set, refl, sym, ◌∙◌, subst, arith, append_assoc, length-append}
use Rattle.std.specs.List.{AllByRecursion, concat}
use Rattle.std.proofs.lemmas.List.Sorted.{IsPermutation-refl, IsPermutation-sym, IsPermutation-trans, IsPermutation-cons, IsPermutation-swap, Contains-permutation, length_permutation}
use Rattle.octets.specs.declared.tag.Tag.{Tag}
use Rattle.octets.specs.Rule.{Rule}
use Rattle.octets.specs.Tag.{ComesBefore}
use Rattle.types.specs.declared.value.Value.{Value}
use Rattle.types.specs.Shape.{Val}
use Rattle.types.specs.View.{ComponentView, components_of, value_view}
use Rattle.types.specs.Conforms.{DiffersFromDefault}
use Rattle.types.specs.Encoding.{IsEncoding, standing}
use Rattle.types.specs.Order.{IsOrderTagIn, AscendsByTag}
use Rattle.types.proofs.ListLemmas.{not_in_nil, contains_first, contains_cases, contains_later}
use Rattle.types.proofs.SortedLemmas.{AllPairs-first, AllPairs-rest}
use Rattle.strict.specs.Head.{Fills, mark, EndsHere}
use Rattle.strict.specs.Members.{AreMembersLeft, ComesBehind, HasMembers}
use Rattle.encoding_parts.specs.HeldParts.{set_components_view}
use Rattle.encoding_parts.specs.Parts.{SetComponent, IsVacant}
use Rattle.encoding_parts.proofs.OthersLemmas.{permutation_others}
use Rattle.encoding_parts.proofs.SetComponentLemmas.{AreFilled}
use Rattle.strict.proofs.PartLemmas.{ends_here, fills_after}

-- the components, and what has come of them
abbrev pub come_of : List ComponentView → List (Option Value) → List SetComponent
come_of components slots = set_components_view components (map (option_map value_view) slots)

-- this is the component at the place
abbrev pub IsComponentAt : List ComponentView → ℕ → ComponentView → Type 0
IsComponentAt [] place c = ⊥
IsComponentAt (x ∷ components) zero c = x ≡ c
IsComponentAt (x ∷ components) (suc place) c = IsComponentAt components place c

-- the encoding of a component that is left
pub record IsMember (rule : Rule) (components : List ComponentView) (slots : List (Option Value)) (place : ℕ) (part : List ℕ) : Type 0 where
  pub component : ComponentView
  pub value : Val
  pub here : IsComponentAt components place component
  pub vacant : IsVacant (come_of components slots) place component.type
  pub encoding : IsEncoding rule component.type value part
  pub differs : DiffersFromDefault component.requirement value

-- one of the encodings, and the others
record IsPicked (rule : Rule) (components : List ComponentView) (slots : List (Option Value)) (encodings : List (Option (List ℕ))) (part : List ℕ) : Type 0 where
  place : ℕ
  member : IsMember rule components slots place part
  others : List (Option (List ℕ))
  left : (v : Value) → AreMembersLeft rule components (set slots place (Some v)) others
  order : IsPermutation (standing encodings) (part ∷ standing others)

picked_later : (rule : Rule) (c : ComponentView) (components : List ComponentView) (slot : Option Value) (slots : List (Option Value)) (encoding : Option (List ℕ)) (encodings : List (Option (List ℕ))) (part : List ℕ)
    → ((slots : List (Option Value)) (encodings : List (Option (List ℕ))) → AreMembersLeft rule components slots encodings → AreMembersLeft rule (c ∷ components) (slot ∷ slots) (encoding ∷ encodings))
    → IsPicked rule components slots encodings part → IsPicked rule (c ∷ components) (slot ∷ slots) (encoding ∷ encodings) part
picked_later rule c components slot slots encoding encodings part step p = record {
  place = suc p.place;
  member = record { component = p.member.component; value = p.member.value; here = p.member.here; vacant = p.member.vacant; encoding = p.member.encoding; differs = p.member.differs };
  others = encoding ∷ p.others;
  left = λ v. step (set slots p.place (Some v)) p.others (p.left v);
  order = order_later encoding;
}
  where
    order_later : (encoding : Option (List ℕ)) → IsPermutation (standing (encoding ∷ encodings)) (part ∷ standing (encoding ∷ p.others))
    order_later None = p.order
    order_later (Some before) =
        IsPermutation-trans (before ∷ standing encodings) (before ∷ (part ∷ standing p.others)) (part ∷ (before ∷ standing p.others)) (IsPermutation-cons before (standing encodings) (part ∷ standing p.others) p.order)
        (IsPermutation-swap (before ∷ (part ∷ standing p.others)) (part ∷ (before ∷ standing p.others)) 0 1 (omega arith) (omega arith) refl)

picked : (rule : Rule) (components : List ComponentView) (slots : List (Option Value)) (encodings : List (Option (List ℕ))) (part : List ℕ) → AreMembersLeft rule components slots encodings → Contains (standing encodings) part → IsPicked rule components slots encodings part
picked rule [] [] [] part h c = absurd (not_in_nil part c)
picked rule (x ∷ components) (Some v ∷ slots) (None ∷ encodings) part h c =
    picked_later rule x components (Some v) slots None encodings part (λ s e k. k) (picked rule components slots encodings part h c)
picked rule (x ∷ components) (None ∷ slots) (None ∷ encodings) part h c =
    picked_later rule x components None slots None encodings part (λ s e k. (h.0, k)) (picked rule components slots encodings part h.1 c)
picked rule (x ∷ components) (None ∷ slots) (Some octets ∷ encodings) part h c =
    elim (contains_cases octets part (standing encodings) c) [
      | inl same ↦ record {
        place = zero;
        member = record { component = x; value = h.0.0; here = refl; vacant = (refl, refl); encoding = subst (IsEncoding rule x.type h.0.0) same h.0.1; differs = h.0.2 };
        others = None ∷ encodings;
        left = λ v. h.1;
        order = subst (λ y. IsPermutation (octets ∷ standing encodings) (y ∷ standing encodings)) same (IsPermutation-refl (octets ∷ standing encodings));
      }
      | inr later ↦ picked_later rule x components None slots (Some octets) encodings part (λ s e k. (h.0, k)) (picked rule components slots encodings part h.1 later)
    ]
picked rule components slots encodings part h c = elim h [ ]

-- what goes on: the next component in the order
pub record IsNextMember (rule : Rule) (components : List ComponentView) (slots : List (Option Value)) (last : Option Tag) (definite : Bool) (room : ℕ) (octets : List ℕ) : Type 0 where
  pub place : ℕ
  pub part : List ℕ
  pub tail : List ℕ
  pub member : IsMember rule components slots place part
  pub behind : ComesBehind rule components last part
  pub fits : length part ≤ room
  pub parts : octets ≡ part ++ tail
  pub later : (v : Value) (tag : Tag) → IsOrderTagIn rule (components_of components) part tag → HasMembers rule components (set slots place (Some v)) (Some tag) definite (room - length part) tail

-- or the end, where all others may be absent
pub record IsNoMember (components : List ComponentView) (slots : List (Option Value)) (definite : Bool) (room : ℕ) (octets : List ℕ) : Type 0 where
  pub ends : EndsHere definite room octets
  pub filled : AreFilled (come_of components slots)

none_stands : (rule : Rule) (components : List ComponentView) (slots : List (Option Value)) (encodings : List (Option (List ℕ))) → AreMembersLeft rule components slots encodings → length (standing encodings) ≡ 0 → AreFilled (come_of components slots)
none_stands rule [] [] [] h none = tt
none_stands rule (c ∷ components) (Some v ∷ slots) (None ∷ encodings) h none = (λ vacant. cc vacant, none_stands rule components slots encodings h none)
none_stands rule (c ∷ components) (None ∷ slots) (None ∷ encodings) h none = (λ vacant. h.0, none_stands rule components slots encodings h.1 none)
none_stands rule (c ∷ components) (None ∷ slots) (Some octets ∷ encodings) h none = absurd (omega (arith, none))
none_stands rule components slots encodings h none = elim h [ ]

all_behind : (rule : Rule) (components : List ComponentView) (part : List ℕ) (tag : Tag) (order : List (List ℕ)) → IsOrderTagIn rule (components_of components) part tag
    → ((other : List ℕ) → Contains order other → (t u : Tag) → IsOrderTagIn rule (components_of components) part t → IsOrderTagIn rule (components_of components) other u → ComesBefore t u)
    → AllByRecursion (ComesBehind rule components (Some tag)) order
all_behind rule components part tag [] is h = tt
all_behind rule components part tag (o ∷ order) is h =
    (λ u k. h o (contains_first o o order refl) tag u is k, all_behind rule components part tag order is (λ other c. h other (contains_later o other order c)))

next_of : (rule : Rule) (components : List ComponentView) (slots : List (Option Value)) (last : Option Tag) (definite : Bool) (room : ℕ) (octets rest : List ℕ) (encodings : List (Option (List ℕ))) (order : List (List ℕ)) → AreMembersLeft rule components slots encodings
    → IsPermutation (standing encodings) order → AscendsByTag rule (components_of components) order → AllByRecursion (ComesBehind rule components last) order → Fills definite room (concat order) → octets ≡ concat order ++ (mark definite ++ rest)
    → IsNoMember components slots definite room octets ⊎ IsNextMember rule components slots last definite room octets
next_of rule components slots last definite room octets rest encodings [] each permutes ascends behind fills parts =
    inl record { ends = subst (EndsHere definite room) (sym parts) (ends_here definite room rest fills); filled = none_stands rule components slots encodings each (sym (length_permutation (standing encodings) [] permutes)) }
next_of rule components slots last definite room octets rest encodings (part ∷ order) each permutes ascends behind fills parts =
    let p = picked rule components slots encodings part each (Contains-permutation (part ∷ order) (standing encodings) part (IsPermutation-sym (standing encodings) (part ∷ order) permutes) (contains_first part part order refl)) in
    let both = IsPermutation-trans (part ∷ standing p.others) (standing encodings) (part ∷ order) (IsPermutation-sym (standing encodings) (part ∷ standing p.others) p.order) permutes in
    let tail = concat order ++ (mark definite ++ rest) in
    let R = λ (a b : List ℕ). (t u : Tag) → IsOrderTagIn rule (components_of components) a t → IsOrderTagIn rule (components_of components) b u → ComesBefore t u in
    inr record {
      place = p.place;
      part = part;
      tail = tail;
      member = p.member;
      behind = behind.0;
      fits = omega (arith, fills.within, length-append part (concat order));
      parts = parts ∙ append_assoc part (concat order) (mark definite ++ rest);
      later = λ v tag is. record {
        encodings = p.others;
        each = p.left v;
        order = order;
        permutes = permutation_others part (standing p.others) order both;
        ascends = AllPairs-rest R part order ascends;
        behind = all_behind rule components part tag order is (λ other c. AllPairs-first R part other order ascends c);
        rest = rest;
        fills = fills_after definite room (length part) part (concat order) refl fills;
        parts = refl;
      };
    }

pub next_member : (rule : Rule) (components : List ComponentView) (slots : List (Option Value)) (last : Option Tag) (definite : Bool) (room : ℕ) (octets : List ℕ) → HasMembers rule components slots last definite room octets
    → IsNoMember components slots definite room octets ⊎ IsNextMember rule components slots last definite room octets
next_member rule components slots last definite room octets h = next_of rule components slots last definite room octets h.rest h.encodings h.order h.each h.permutes h.ascends h.behind h.fills h.parts
