-- Lemmas on the components of a SEQUENCE that were read.
use Rattle.std.proofs.Common.{◌≡◌, ℕ, ◌+◌, ◌-◌, ◌≤◌, inl, inr, List, [], ◌∷◌, ◌++◌, Bool, true, false, Option, Some, None, Vec, Global, length, take, drop, map, option_map, refl, sym, ◌∙◌, ap, ap₂, subst, subst₂, arith, append_assoc, append-nil}
use Rattle.std.specs.List.{AllByRecursion, concat}
use Rattle.std.proofs.Math.Seq.{take-add}
use Rattle.std.proofs.lemmas.List.{length-drop, drop-drop, drop_all, take_all}
use Rattle.octets.specs.declared.canonical.Canonical.{Canonical}
use Rattle.octets.specs.declared.tag.Tag.{Tag}
use Rattle.octets.specs.Rule.{Rule, ber, cer, der, rule_of}
use Rattle.types.specs.declared.value.Value.{Value}
use Rattle.types.specs.declared.ty.Field.{Field}
use Rattle.types.specs.Shape.{Val, Slots, no_slot, Requirement, required, optional, default, Shape, no_component}
use Rattle.types.specs.Conforms.{MayBeAbsent}
use Rattle.types.specs.Encoding.{IsEncoding, AreSlotEncodings, StandsForAbsent, standing}
use Rattle.types.specs.FirstTags.{first_tags, RunsAreDistinct}
use Rattle.types.specs.Order.{BeginsWithOneOf}
use Rattle.types.specs.Form.{IsConstructed}
use Rattle.types.specs.View.{ComponentView, value_view, field_view, components_of, components_view, slots_of, slots_view}
use Rattle.encoding_parts.specs.Parts.{IsGoodType, IsGoodComponent}
use Rattle.encoding_parts.proofs.PartsOpenLemmas.{components_good}
use Rattle.strict.specs.Head.{Fills, mark, EndsHere}
use Rattle.strict.specs.Inside.{HasInside, IsInsideRead}
use Rattle.strict.specs.Components.{HasPresent, IsPresentRead, HasComponents, AreComponentsRead}
use Rattle.strict.proofs.PartLemmas.{ends_here}
use Rattle.strict.proofs.FrontLemmas.{IsStandingKnown, begins_tag}
use Rattle.strict.proofs.ComponentLemmas.{next_component, none_stands, that_one, it_stands}

pub absent_stands : (rule : Rule) (requirement : Requirement) (P : Val → List ℕ → Type 0) → MayBeAbsent requirement → StandsForAbsent rule requirement P None
absent_stands rule required P h = h
absent_stands rule optional P h = refl
absent_stands ber (default v) P h = tt
absent_stands cer (default v) P h = refl
absent_stands der (default v) P h = refl

-- a component that is left out
pub absent_read : (rule : Canonical) (c : ComponentView) (others : List ComponentView) (definite : Bool) (room : ℕ) (octets : List ℕ) (slot : Option Value) → slot ≡ None → MayBeAbsent c.requirement → IsGoodType c.type → IsStandingKnown false c.type definite room octets
    → AreComponentsRead (rule_of rule) (c ∷ []) others definite room octets (slot ∷ []) 0
absent_read rule c others definite room octets slot none may good known = record {
  there = omega arith;
  within = omega arith;
  encodings = None ∷ [];
  each = subst (λ s. AreSlotEncodings (rule_of rule) (components_of (c ∷ [])) (slots_of (option_map value_view s ∷ [])) (None ∷ [])) (sym none) (absent_stands (rule_of rule) c.requirement (IsEncoding (rule_of rule) c.type) may, tt);
  joined = refl;
  forth = λ more h. subst (λ n. HasComponents (rule_of rule) others definite n (octets ++ more)) (omega arith) (none_stands rule c others definite room (octets ++ more) good (known more) h).later;
}

-- one that stands
pub stands_read : (rule : Canonical) (c : ComponentView) (others : List ComponentView) (definite : Bool) (room : ℕ) (octets : List ℕ) (slot : Option Value) (used : ℕ) → IsGoodType c.type → RunsAreDistinct (components_of (c ∷ others)) → AllByRecursion IsGoodComponent others
    → IsPresentRead (rule_of rule) c room octets slot used → AreComponentsRead (rule_of rule) (c ∷ []) others definite room octets (slot ∷ []) used
stands_read rule c others definite room octets None used good runs goods read = absurd read
stands_read rule c others definite room octets (Some v) used good runs goods read = record {
  there = read.0.0;
  within = read.0.1;
  encodings = Some (take used octets) ∷ [];
  each = (read.0.2, read.1, tt);
  joined = sym (append-nil (take used octets));
  forth = λ more h. (that_one rule c others definite room used (value_view v) octets more good runs goods read.0.0 read.0.1 read.0.2 h).later;
}

-- where its encoding begins, it can stand
pub present_stands : (rule : Canonical) (c : ComponentView) (others : List ComponentView) (definite : Bool) (room : ℕ) (octets more : List ℕ) → RunsAreDistinct (components_of (c ∷ others)) → AllByRecursion IsGoodComponent others → IsStandingKnown true c.type definite room octets
    → HasComponents (rule_of rule) (c ∷ others) definite room (octets ++ more) → HasPresent (rule_of rule) c room (octets ++ more)
present_stands rule c others definite room octets more runs goods known h =
    let b = known.0 in
    let begins : BeginsWithOneOf (first_tags c.type) (octets ++ more) = (b.tag, b.first, begins_tag b.tag room octets more b.head) in
    let s = it_stands rule c others definite room (octets ++ more) runs goods begins (known.1 more) h in
    record { value = s.value; part = s.part; rest = s.tail; encoding = s.encoding; differs = s.differs; fits = s.fits; parts = s.parts }

-- so one stands that cannot be absent, or that begins there
pub present_first : (rule : Canonical) (c : ComponentView) (others : List ComponentView) (definite : Bool) (room : ℕ) (octets more : List ℕ) → RunsAreDistinct (components_of (c ∷ others)) → AllByRecursion IsGoodComponent others
    → (MayBeAbsent c.requirement → IsStandingKnown true c.type definite room octets) → HasComponents (rule_of rule) (c ∷ others) definite room (octets ++ more) → HasPresent (rule_of rule) c room (octets ++ more)
present_first rule c others definite room octets more runs goods known h =
    elim (next_component rule c others definite room (octets ++ more) h) [
      | inl l ↦ present_stands rule c others definite room octets more runs goods (known l.may) h
      | inr s ↦ record { value = s.value; part = s.part; rest = s.tail; encoding = s.encoding; differs = s.differs; fits = s.fits; parts = s.parts }
    ]

-- no component yet
pub none_read : (rule : Rule) (others : List ComponentView) (definite : Bool) (room : ℕ) (octets : List ℕ) (slots : List (Option Value)) → slots ≡ [] → AreComponentsRead rule [] others definite room octets slots 0
none_read rule others definite room octets slots none = record {
  there = omega arith;
  within = omega arith;
  encodings = [];
  each = subst (λ l. AreSlotEncodings rule no_component (slots_of (map (option_map value_view) l)) []) (sym none) tt;
  joined = refl;
  forth = λ more h. subst (λ n. HasComponents rule others definite n (octets ++ more)) (omega arith) h;
}

slots_append : (rule : Rule) (second : List ComponentView) (ys : List (Option Val)) (es : List (Option (List ℕ))) (first : List ComponentView) (xs : List (Option Val)) (ds : List (Option (List ℕ))) → AreSlotEncodings rule (components_of first) (slots_of xs) ds
    → AreSlotEncodings rule (components_of second) (slots_of ys) es → AreSlotEncodings rule (components_of (first ++ second)) (slots_of (xs ++ ys)) (ds ++ es)
slots_append rule second ys es [] [] [] h g = g
slots_append rule second ys es [] [] (d ∷ ds) h g = elim h [ ]
slots_append rule second ys es [] (None ∷ xs) ds h g = elim h [ ]
slots_append rule second ys es [] (Some v ∷ xs) ds h g = elim h [ ]
slots_append rule second ys es (c ∷ first) [] ds h g = elim h [ ]
slots_append rule second ys es (c ∷ first) (None ∷ xs) [] h g = elim h [ ]
slots_append rule second ys es (c ∷ first) (Some v ∷ xs) [] h g = elim h [ ]
slots_append rule second ys es (c ∷ first) (Some v ∷ xs) (None ∷ ds) h g = elim h [ ]
slots_append rule second ys es (c ∷ first) (None ∷ xs) (d ∷ ds) h g = (h.0, slots_append rule second ys es first xs ds h.1 g)
slots_append rule second ys es (c ∷ first) (Some v ∷ xs) (Some o ∷ ds) h g = (h.0, h.1, slots_append rule second ys es first xs ds h.2 g)

standing_append : (ds es : List (Option (List ℕ))) → concat (standing (ds ++ es)) ≡ concat (standing ds) ++ concat (standing es)
standing_append [] es = refl
standing_append (None ∷ ds) es = standing_append ds es
standing_append (Some o ∷ ds) es = ap (λ x. o ++ x) (standing_append ds es) ∙ sym (append_assoc o (concat (standing ds)) (concat (standing es)))

map_last : (slots : List (Option Value)) (slot : Option Value) → map (option_map value_view) (slots ++ (slot ∷ [])) ≡ map (option_map value_view) slots ++ (option_map value_view slot ∷ [])
map_last [] slot = refl
map_last (s ∷ slots) slot = ap (λ l. option_map value_view s ∷ l) (map_last slots slot)

-- one component more
pub component_more : (rule : Rule) (first : List ComponentView) (c : ComponentView) (others : List ComponentView) (definite : Bool) (room : ℕ) (octets : List ℕ) (slots : List (Option Value)) (slot : Option Value) (at used : ℕ) → AreComponentsRead rule first (c ∷ others) definite room octets slots at
    → AreComponentsRead rule (c ∷ []) others definite (room - at) (drop at octets) (slot ∷ []) used → AreComponentsRead rule (first ++ (c ∷ [])) others definite room octets (slots ++ (slot ∷ [])) (at + used)
component_more rule first c others definite room octets slots slot at used h one =
    let rest = drop at octets in
    let es = h.encodings ++ one.encodings in
    let size = length-drop at octets in
    record {
      there = omega (arith, h.there, one.there, size);
      within = omega (arith, h.within, one.within);
      encodings = es;
      each = subst (λ l. AreSlotEncodings rule (components_of (first ++ (c ∷ []))) (slots_of l) es) (sym (map_last slots slot)) (slots_append rule (c ∷ []) (option_map value_view slot ∷ []) one.encodings first (map (option_map value_view) slots) h.encodings h.each one.each);
      joined = take-add at used octets ∙ (ap₂ (λ x y. x ++ y) h.joined one.joined ∙ sym (standing_append h.encodings one.encodings));
      forth = λ more k.
          let here = h.forth more (subst (λ l. HasComponents rule l definite room (octets ++ more)) (append_assoc first (c ∷ []) others) k) in
          let left : (room - at) - used ≡ room - (at + used) = omega arith in
          subst₂ (λ n x. HasComponents rule others definite n (x ++ more)) left (drop-drop used at octets) (one.forth more here);
    }

pub good_components : (tag : Tag) (fields : List Field) → IsGoodType (Shape.sequence tag (components_view fields)) → AllByRecursion IsGoodComponent (map field_view fields)
good_components tag fields good = components_good (map field_view fields) good.within.1 good.tags.1 good.defaults.1 good.defaults.0

-- what can stand inside a SEQUENCE
pub components_inside : (rule : Rule) (tag : Tag) (components : List ComponentView) (definite : Bool) (room : ℕ) (octets : List ℕ) → HasInside rule (Shape.sequence tag (components_of components)) definite room octets → HasComponents rule components definite room octets
components_inside rule tag components definite room octets h = record { slots = h.encoding.slots; encodings = h.encoding.encodings; rest = h.rest; each = h.encoding.each; fills = h.fills; parts = h.parts }

-- behind all components it ends
nothing_of : (rule : Rule) (definite : Bool) (room : ℕ) (octets rest : List ℕ) (slots : Slots) (encodings : List (Option (List ℕ))) → AreSlotEncodings rule no_component slots encodings → Fills definite room (concat (standing encodings)) → octets ≡ concat (standing encodings) ++ (mark definite ++ rest) → EndsHere definite room octets
nothing_of rule definite room octets rest no_slot [] each fills parts = subst (EndsHere definite room) (sym parts) (ends_here definite room rest fills)
nothing_of rule definite room octets rest slots encodings each fills parts = elim each [ ]

ends_behind : (rule : Rule) (definite : Bool) (room : ℕ) (octets : List ℕ) → HasComponents rule [] definite room octets → EndsHere definite room octets
ends_behind rule definite room octets h = nothing_of rule definite room octets h.rest h.slots h.encodings h.each h.fills h.parts

ends_behind_all : (rule : Rule) (components : List ComponentView) (definite : Bool) (room : ℕ) (octets more : List ℕ) (slots : List (Option Value)) (at : ℕ) → AreComponentsRead rule components [] definite room octets slots at → HasComponents rule components definite room (octets ++ more)
    → EndsHere definite (room - at) (drop at octets ++ more)
ends_behind_all rule components definite room octets more slots at read h =
    ends_behind rule definite (room - at) (drop at octets ++ more) (read.forth more (subst (λ l. HasComponents rule l definite room (octets ++ more)) (sym (append-nil components)) h))

-- so do the octets that are left, in the room and form that are
pub ends_left : (rule : Rule) (components : List ComponentView) (definite form : Bool) (room left : ℕ) (octets rest more : List ℕ) (slots : List (Option Value)) → AreComponentsRead rule components [] definite room octets slots (length octets - length rest)
    → rest ≡ drop (length octets - length rest) octets → left ≡ room - (length octets - length rest) → form ≡ definite → HasComponents rule components definite room (octets ++ more) → EndsHere form left (rest ++ more)
ends_left rule components definite form room left octets rest more slots read rest_is left_is form_is h =
    subst (λ b. EndsHere b left (rest ++ more)) (sym form_is) (subst₂ (λ n x. EndsHere definite n (x ++ more)) (sym left_is) (sym rest_is) (ends_behind_all rule components definite room octets more slots (length octets - length rest) read h))

-- no component is left, and each has its slot
pub all_read : (rule : Rule) (fields : List Field) (i : ℕ) (definite : Bool) (room : ℕ) (octets : List ℕ) (slots : List (Option Value)) (at : ℕ) → length fields ≤ i → length slots ≡ length fields
    → AreComponentsRead rule (map field_view (take i fields)) (map field_view (drop i fields)) definite room octets (take i slots) at → AreComponentsRead rule (map field_view fields) [] definite room octets slots at
all_read rule fields i definite room octets slots at past many read =
    let first = subst₂ (λ xs ys. AreComponentsRead rule (map field_view xs) (map field_view ys) definite room octets (take i slots) at) (take_all i fields past) (drop_all i fields past) read in
    subst (λ l. AreComponentsRead rule (map field_view fields) [] definite room octets l at) (take_all i slots (omega (arith, past, many))) first

-- they are the contents octets of a SEQUENCE
pub sequence_read : (rule : Rule) (tag : Tag) (fields : List Field) (definite : Bool) (room : ℕ) (octets : List ℕ) (slots : Vec (Option Value) Global) (v : Value) (used : ℕ) → AreComponentsRead rule (map field_view fields) [] definite room octets slots.items used
    → EndsHere definite (room - used) (drop used octets) → value_view v ≡ Val.fields (slots_view slots.items) → IsInsideRead rule (Shape.sequence tag (components_view fields)) definite room octets v used
sequence_read rule tag fields definite room octets slots v used read ends holds =
    let shape = Shape.sequence tag (components_view fields) in
    record {
      there = read.there;
      within = read.within;
      ends = ends;
      makes = λ own whole is made.
          let same : tag ≡ own = cc is in
          let encodes : IsEncoding rule shape (Val.fields (slots_view slots.items)) whole = record { slots = slots_view slots.items; is = refl; encodings = read.encodings; each = read.each; whole = subst₂ (λ t x. IsConstructed rule t x whole) (sym same) read.joined made } in
          subst (λ x. IsEncoding rule shape x whole) (sym holds) encodes;
    }
