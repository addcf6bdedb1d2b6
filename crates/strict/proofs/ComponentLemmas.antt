-- Lemmas on the components of a SEQUENCE, one after another.
use Rattle.std.proofs.Common.{◌≡◌, ℕ, ◌-◌, ◌≤◌, ◌⊎◌, inl, inr, List, [], ◌∷◌, ◌++◌, Bool, Option, Some, None, Contains, length, take, drop, refl, sym, ◌∙◌, ap, subst, subst₂, arith, append_assoc, length-append}
use Rattle.std.specs.List.{AllByRecursion, concat}
use Rattle.std.proofs.lemmas.List.{length-take-le}
use Rattle.octets.specs.declared.canonical.Canonical.{Canonical}
use Rattle.octets.specs.declared.tag.Tag.{Tag}
use Rattle.octets.specs.Rule.{Rule, rule_of}
use Rattle.octets.proofs.FrontLemmas.{front_of_more}
use Rattle.types.specs.Shape.{Val, Slots, absent, present, Requirement, required, optional, default, component}
use Rattle.types.specs.Conforms.{MayBeAbsent, DiffersFromDefault}
use Rattle.types.specs.Encoding.{IsEncoding, AreSlotEncodings, StandsForAbsent, standing}
use Rattle.types.specs.FirstTags.{first_tags, tags_of_run, AreDistinct, RunsAreDistinct, HasDistinctTags}
use Rattle.types.specs.Order.{BeginsWithOneOf}
use Rattle.types.specs.View.{ComponentView, components_of}
use Rattle.types.specs.WellFormed.{nodes_of, nodes_of_components, IsNodeWithin}
use Rattle.types.proofs.BerLemmas.{slots_by_ber}
use Rattle.types.proofs.BeginningLemmas.{IsOneNested, encoding_begins, slots_are_nested}
use Rattle.types.proofs.DepthLemmas.{absent_is_none}
use Rattle.types.proofs.ListLemmas.{not_in_nil}
use Rattle.types.proofs.TagLemmas.{contains_either}
use Rattle.types.proofs.NodeLemmas.{all_both}
use Rattle.types.proofs.SlotLemmas.{filled, begin_apart, run_is, run_begins}
use Rattle.types.proofs.FirstTagLemmas.{tag_within}
use Rattle.encoding_parts.specs.Parts.{IsGoodType, IsGoodComponent}
use Rattle.encoding_parts.specs.Segments.{BeginsAboveZero}
use Rattle.strict.specs.Head.{Fills, mark, EndsHere}
use Rattle.strict.specs.Components.{HasComponents, EndsOrBegins}
use Rattle.strict.proofs.PartLemmas.{one_of, same_part, one_begins, no_end_here, ends_here, fills_after}
use Rattle.strict.proofs.FrontLemmas.{canonical_of, BeginsPart, within_of, begins_front, part_begins}

pub run_within : (left : List ComponentView) (tag : Tag) → AllByRecursion IsGoodComponent left → Contains (tags_of_run (components_of left)) tag → tag.number ≤ 268_435_455
run_within [] tag good c = absurd (not_in_nil tag c)
run_within (x ∷ left) tag good c = run_within_of x left tag x.requirement good.0.type.within (λ later. run_within left tag good.1 later) c
  where
    run_within_of : (x : ComponentView) (left : List ComponentView) (tag : Tag) (requirement : Requirement) → AllByRecursion IsNodeWithin (nodes_of x.type) → (Contains (tags_of_run (components_of left)) tag → tag.number ≤ 268_435_455)
        → Contains (tags_of_run (component x.name x.type requirement (components_of left))) tag → tag.number ≤ 268_435_455
    run_within_of x left tag required within more c = tag_within x.type tag within c
    run_within_of x left tag optional within more c = elim (contains_either (first_tags x.type) (tags_of_run (components_of left)) tag c) [ inl here ↦ tag_within x.type tag within here | inr later ↦ more later ]
    run_within_of x left tag (default value) within more c = elim (contains_either (first_tags x.type) (tags_of_run (components_of left)) tag c) [ inl here ↦ tag_within x.type tag within here | inr later ↦ more later ]

good_tags : (left : List ComponentView) → AllByRecursion IsGoodComponent left → AllByRecursion HasDistinctTags (nodes_of_components (components_of left))
good_tags [] good = tt
good_tags (x ∷ left) good = all_both HasDistinctTags (nodes_of x.type) (nodes_of_components (components_of left)) good.0.type.tags (good_tags left good.1)

-- the first encoding that stands for some components
pub record IsFirst (left : List ComponentView) (room : ℕ) (octets : List ℕ) : Type 0 where
  pub first : List ℕ
  pub tail : List ℕ
  pub one : IsOneNested first
  pub fits : length first ≤ room
  pub parts : octets ≡ first ++ tail
  pub begins : BeginsWithOneOf (tags_of_run (components_of left)) first

first_of_list : (rule : Canonical) (left : List ComponentView) (definite : Bool) (room : ℕ) (octets : List ℕ) (h : HasComponents (rule_of rule) left definite room octets) (ss : List (List ℕ)) → standing h.encodings ≡ ss → AllByRecursion IsOneNested ss → AllByRecursion IsGoodComponent left
    → EndsHere definite room octets ⊎ IsFirst left room octets
first_of_list rule left definite room octets h [] same ones good =
    inl (subst (EndsHere definite room) (sym (h.parts ∙ ap (λ l. concat l ++ (mark definite ++ h.rest)) same)) (ends_here definite room h.rest (subst (λ l. Fills definite room (concat l)) same h.fills)))
first_of_list rule left definite room octets h (y ∷ ys) same ones good =
    let fills : Fills definite room (y ++ concat ys) = subst (λ l. Fills definite room (concat l)) same h.fills in
    inr record {
      first = y;
      tail = concat ys ++ (mark definite ++ h.rest);
      one = ones.0;
      fits = omega (arith, fills.within, length-append y (concat ys));
      parts = h.parts ∙ (ap (λ l. concat l ++ (mark definite ++ h.rest)) same ∙ append_assoc y (concat ys) (mark definite ++ h.rest));
      begins = run_begins (rule_of rule) (components_of left) h.slots h.encodings y ys (filled (rule_of rule) (components_of left) h.slots h.encodings h.each) same;
    }

pub first_stands : (rule : Canonical) (left : List ComponentView) (definite : Bool) (room : ℕ) (octets : List ℕ) → AllByRecursion IsGoodComponent left → HasComponents (rule_of rule) left definite room octets → EndsHere definite room octets ⊎ IsFirst left room octets
first_stands rule left definite room octets good h =
    let ones = slots_are_nested (components_of left) h.slots h.encodings (good_tags left good) (slots_by_ber (rule_of rule) (components_of left) h.slots h.encodings h.each) in
    first_of_list rule left definite room octets h (standing h.encodings) refl ones good

-- so it can be told what stands there
pub ends_or_begins : (rule : Canonical) (left : List ComponentView) (definite : Bool) (room : ℕ) (octets : List ℕ) → AllByRecursion IsGoodComponent left → HasComponents (rule_of rule) left definite room octets → EndsOrBegins definite room octets
ends_or_begins rule left definite room octets good h =
    elim (first_stands rule left definite room octets good h) [
      | inl ends ↦ inl ends
      | inr f ↦ inr (f.begins.0, run_within left f.begins.0 good f.begins.1, within_of f.begins.0 room f.first f.tail octets f.parts f.fits f.begins.2, subst BeginsAboveZero (sym f.parts) (one_begins f.first f.tail f.one))
    ]

-- a component is left out
pub record IsLeftOut (rule : Rule) (c : ComponentView) (others : List ComponentView) (definite : Bool) (room : ℕ) (octets : List ℕ) : Type 0 where
  pub may : MayBeAbsent c.requirement
  pub later : HasComponents rule others definite room octets

-- or its encoding stands
pub record Stands (rule : Rule) (c : ComponentView) (others : List ComponentView) (definite : Bool) (room : ℕ) (octets : List ℕ) : Type 0 where
  pub value : Val
  pub part : List ℕ
  pub tail : List ℕ
  pub encoding : IsEncoding rule c.type value part
  pub differs : DiffersFromDefault c.requirement value
  pub fits : length part ≤ room
  pub parts : octets ≡ part ++ tail
  pub later : HasComponents rule others definite (room - length part) tail

pub may_of_absent : (rule : Rule) (requirement : Requirement) (P : Val → List ℕ → Type 0) (encoding : Option (List ℕ)) → StandsForAbsent rule requirement P encoding → MayBeAbsent requirement
may_of_absent rule required P encoding h = h
may_of_absent rule optional P encoding h = tt
may_of_absent rule (default value) P encoding h = tt

next_of : (rule : Canonical) (c : ComponentView) (others : List ComponentView) (definite : Bool) (room : ℕ) (octets rest : List ℕ) (slots : Slots) (encodings : List (Option (List ℕ))) → AreSlotEncodings (rule_of rule) (components_of (c ∷ others)) slots encodings
    → Fills definite room (concat (standing encodings)) → octets ≡ concat (standing encodings) ++ (mark definite ++ rest) → IsLeftOut (rule_of rule) c others definite room octets ⊎ Stands (rule_of rule) c others definite room octets
next_of rule c others definite room octets rest (absent slots) (None ∷ encodings) each fills parts =
    inl record { may = may_of_absent (rule_of rule) c.requirement (IsEncoding (rule_of rule) c.type) None each.0; later = record { slots = slots; encodings = encodings; rest = rest; each = each.1; fills = fills; parts = parts } }
next_of rule c others definite room octets rest (absent slots) (Some y ∷ encodings) each fills parts =
    let none : Some y ≡ None = absent_is_none (rule_of rule) c.requirement (IsEncoding (rule_of rule) c.type) (Some y) (canonical_of rule) each.0 in cc
next_of rule c others definite room octets rest (present value slots) (Some y ∷ encodings) each fills parts =
    let tail = concat (standing encodings) ++ (mark definite ++ rest) in
    inr record {
      value = value;
      part = y;
      tail = tail;
      encoding = each.0;
      differs = each.1;
      fits = omega (arith, fills.within, length-append y (concat (standing encodings)));
      parts = parts ∙ append_assoc y (concat (standing encodings)) (mark definite ++ rest);
      later = record { slots = slots; encodings = encodings; rest = rest; each = each.2; fills = fills_after definite room (length y) y (concat (standing encodings)) refl fills; parts = refl };
    }
next_of rule c others definite room octets rest slots encodings each fills parts = elim each [ ]

pub next_component : (rule : Canonical) (c : ComponentView) (others : List ComponentView) (definite : Bool) (room : ℕ) (octets : List ℕ) → HasComponents (rule_of rule) (c ∷ others) definite room octets → IsLeftOut (rule_of rule) c others definite room octets ⊎ Stands (rule_of rule) c others definite room octets
next_component rule c others definite room octets h = next_of rule c others definite room octets h.rest h.slots h.encodings h.each h.fills h.parts

-- where an encoding begins as those of the component, it stands
pub it_stands : (rule : Canonical) (c : ComponentView) (others : List ComponentView) (definite : Bool) (room : ℕ) (octets : List ℕ) → RunsAreDistinct (components_of (c ∷ others)) → AllByRecursion IsGoodComponent others
    → BeginsWithOneOf (first_tags c.type) octets → (EndsHere definite room octets → ⊥) → HasComponents (rule_of rule) (c ∷ others) definite room octets → Stands (rule_of rule) c others definite room octets
it_stands rule c others definite room octets runs good begins goes h =
    elim (next_component rule c others definite room octets h) [
      | inr s ↦ s
      | inl l ↦
          elim (first_stands rule others definite room octets good l.later) [
            | inl ends ↦ absurd (goes ends)
            | inr f ↦ absurd (begin_apart (first_tags c.type) (tags_of_run (components_of others)) octets (subst AreDistinct (run_is c.name c.type c.requirement (components_of others) l.may) runs.0) begins (begins_front (tags_of_run (components_of others)) f.first f.tail octets f.parts f.begins))
          ]
    ]

-- where none does, it is left out
pub none_stands : (rule : Canonical) (c : ComponentView) (others : List ComponentView) (definite : Bool) (room : ℕ) (octets : List ℕ) → IsGoodType c.type → (BeginsPart c.type room octets → BeginsAboveZero octets → ⊥)
    → HasComponents (rule_of rule) (c ∷ others) definite room octets → IsLeftOut (rule_of rule) c others definite room octets
none_stands rule c others definite room octets good none h =
    elim (next_component rule c others definite room octets h) [
      | inl l ↦ l
      | inr s ↦
          let b = part_begins (rule_of rule) c.type room octets good (record { value = s.value; part = s.part; rest = s.tail; encoding = s.encoding; fits = s.fits; parts = s.parts }) in
          absurd (none b.0 b.1)
    ]

-- what was read is the one that stands
pub record IsThatOne (rule : Rule) (c : ComponentView) (others : List ComponentView) (definite : Bool) (room used : ℕ) (octets more : List ℕ) : Type 0 where
  pub value : Val
  pub encoding : IsEncoding rule c.type value (take used octets)
  pub differs : DiffersFromDefault c.requirement value
  pub later : HasComponents rule others definite (room - used) (drop used octets ++ more)

pub that_one : (rule : Canonical) (c : ComponentView) (others : List ComponentView) (definite : Bool) (room used : ℕ) (v : Val) (octets more : List ℕ) → IsGoodType c.type → RunsAreDistinct (components_of (c ∷ others)) → AllByRecursion IsGoodComponent others
    → used ≤ length octets → used ≤ room → IsEncoding (rule_of rule) c.type v (take used octets) → HasComponents (rule_of rule) (c ∷ others) definite room (octets ++ more) → IsThatOne (rule_of rule) c others definite room used octets more
that_one rule c others definite room used v octets more good runs goods there fits encoding h =
    let front = take used octets in
    let tail = drop used octets ++ more in
    let split : octets ++ more ≡ front ++ tail = front_of_more used octets more in
    let size : length front ≡ used = length-take-le used octets there in
    let one = one_of (rule_of rule) c.type v front good encoding in
    let begins = begins_front (first_tags c.type) front tail (octets ++ more) split (encoding_begins (rule_of rule) c.type v front encoding) in
    let s = it_stands rule c others definite room (octets ++ more) runs goods begins (λ ends. no_end_here definite room front tail one (omega (arith, size, fits)) (subst (EndsHere definite room) split ends)) h in
    let same = same_part s.part front s.tail tail (one_of (rule_of rule) c.type s.value s.part good s.encoding) one (sym s.parts ∙ split) in
    record {
      value = s.value;
      encoding = subst (IsEncoding (rule_of rule) c.type s.value) same.0 s.encoding;
      differs = s.differs;
      later = subst₂ (HasComponents (rule_of rule) others definite) (ap (λ n. room - n) (ap length same.0 ∙ size)) same.1 s.later;
    }
