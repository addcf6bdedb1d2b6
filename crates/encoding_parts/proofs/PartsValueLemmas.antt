-- Lemmas on the value of parts that have all come.
use Rattle.std.specs.List.{AllByRecursion, AllZip, concat}
use Rattle.std.proofs.Common.{◌≡◌, ℕ, suc, List, [], ◌∷◌, ◌++◌, Option, Some, None, refl, sym, ap, ◌∙◌, subst, map, append-nil}
use Rattle.std.proofs.lemmas.List.Sorted.{IsPermutation-refl}
use Rattle.octets.specs.declared.tag.Tag.{Tag}
use Rattle.octets.specs.Rule.{ber}
use Rattle.types.specs.Shape.{Val, listed, Requirement, required, optional, default, Shape, Components, component}
use Rattle.types.specs.View.{ComponentView, components_of, slots_of, items_of}
use Rattle.types.specs.Conforms.{MayBeAbsent}
use Rattle.types.specs.FirstTags.{IsUsable, first_tags}
use Rattle.types.specs.Form.{IsConstructed}
use Rattle.types.specs.Depth.{IsNested}
use Rattle.types.specs.Encoding.{Meaning, standing, StandsForAbsent, IsEncoding, AreSlotEncodings}
use Rattle.types.proofs.ViewLemmas.{listed-items_of}
use Rattle.types.proofs.ZipLemmas.{zip_map}
use Rattle.types.proofs.BeginningLemmas.{all_zip, all_permutation, explicit_parts}
use Rattle.types.proofs.DepthLemmas.{nested_around}
use Rattle.encoding_parts.specs.Parts.{Parts, SetComponent, IsPartOf, IsCome, AreCome, HasComeBy, AreItemsCome, Holds, ArePartsOf, IsSettled, IsValueOf, IsValueOfSet, IsGoodType}
use Rattle.encoding_parts.proofs.PartsPutLemmas.{standing_append, slot_come}

-- nothing stands for a component that may be absent
absent_stands : (requirement : Requirement) (Encodes : Meaning) → MayBeAbsent requirement → StandsForAbsent ber requirement Encodes None
absent_stands required Encodes h = h
absent_stands optional Encodes h = refl
absent_stands (default value) Encodes h = tt

-- what stands for an absent slot, and nests no deeper
record IsSpelt (levels : ℕ) (type : Shape) (requirement : Requirement) (octets : List ℕ) : Type 0 where
  stands : StandsForAbsent ber requirement (IsEncoding ber type) (Some octets)
  depth : IsNested levels octets

spelt : (levels : ℕ) (type : Shape) (requirement : Requirement) (octets : List ℕ) → StandsForAbsent ber requirement (IsPartOf levels type) (Some octets) → IsSpelt levels type requirement octets
spelt levels type required octets h = elim h [ ]
spelt levels type optional octets h = cc
spelt levels type (default value) octets h = record { stands = h.encoding; depth = h.depth }

come_encodes : (levels : ℕ) (c : ComponentView) (slot : Option Val) (encoding : Option (List ℕ)) (others : Components) (slots : List (Option Val)) (encodings : List (Option (List ℕ)))
    → IsCome levels c slot encoding → AreSlotEncodings ber others (slots_of slots) encodings → AreSlotEncodings ber (component c.name c.type c.requirement others) (slots_of (slot ∷ slots)) (encoding ∷ encodings)
come_encodes levels c None None others slots encodings h more = (absent_stands c.requirement (IsEncoding ber c.type) h, more)
come_encodes levels c None (Some octets) others slots encodings h more = ((spelt levels c.type c.requirement octets h).stands, more)
come_encodes levels c (Some value) None others slots encodings h more = elim h [ ]
come_encodes levels c (Some value) (Some octets) others slots encodings h more = (h.0.encoding, h.1, more)

come_nested : (levels : ℕ) (c : ComponentView) (slot : Option Val) (octets : List ℕ) → IsCome levels c slot (Some octets) → IsNested levels octets
come_nested levels c None octets h = (spelt levels c.type c.requirement octets h).depth
come_nested levels c (Some value) octets h = h.0.depth

-- the components that are left are absent
left_encodes : (left : List ComponentView) → AllByRecursion (λ c. MayBeAbsent c.requirement) left → AreSlotEncodings ber (components_of left) (slots_of (map (λ c. None) left)) (map (λ c. None) left)
left_encodes [] h = tt
left_encodes (c ∷ left) h = (absent_stands c.requirement (IsEncoding ber c.type) h.0, left_encodes left h.1)

run_encodes : (levels : ℕ) (passed left : List ComponentView) (slots : List (Option Val)) (encodings : List (Option (List ℕ))) → AreCome levels passed slots encodings → AllByRecursion (λ c. MayBeAbsent c.requirement) left
    → AreSlotEncodings ber (components_of (passed ++ left)) (slots_of (slots ++ map (λ c. None) left)) (encodings ++ map (λ c. None) left)
run_encodes levels [] left [] [] h absent = left_encodes left absent
run_encodes levels [] left [] (encoding ∷ encodings) h absent = elim h [ ]
run_encodes levels [] left (slot ∷ slots) encodings h absent = elim h [ ]
run_encodes levels (c ∷ passed) left [] encodings h absent = elim h [ ]
run_encodes levels (c ∷ passed) left (slot ∷ slots) [] h absent = elim h [ ]
run_encodes levels (c ∷ passed) left (slot ∷ slots) (encoding ∷ encodings) h absent =
    come_encodes levels c slot encoding (components_of (passed ++ left)) (slots ++ map (λ x. None) left) (encodings ++ map (λ x. None) left) h.0 (run_encodes levels passed left slots encodings h.1 absent)

run_nested : (levels : ℕ) (passed : List ComponentView) (slots : List (Option Val)) (encodings : List (Option (List ℕ))) → AreCome levels passed slots encodings → AllByRecursion (IsNested levels) (standing encodings)
run_nested levels [] [] [] h = tt
run_nested levels [] [] (encoding ∷ encodings) h = elim h [ ]
run_nested levels [] (slot ∷ slots) encodings h = elim h [ ]
run_nested levels (c ∷ passed) [] encodings h = elim h [ ]
run_nested levels (c ∷ passed) (slot ∷ slots) [] h = elim h [ ]
run_nested levels (c ∷ passed) (slot ∷ slots) (None ∷ encodings) h = run_nested levels passed slots encodings h.1
run_nested levels (c ∷ passed) (slot ∷ slots) (Some octets ∷ encodings) h = (come_nested levels c slot octets h.0, run_nested levels passed slots encodings h.1)

none_standing : (left : List ComponentView) → standing (map (λ c. None) left) ≡ []
none_standing [] = refl
none_standing (c ∷ left) = none_standing left

-- nothing follows the encodings that stand
standing_whole : (encodings : List (Option (List ℕ))) (left : List ComponentView) → standing (encodings ++ map (λ c. None) left) ≡ standing encodings
standing_whole encodings left = standing_append encodings (map (λ c. None) left) ∙ (ap (λ z. standing encodings ++ z) (none_standing left) ∙ append-nil (standing encodings))

-- a component of a SET that came, or may be absent
set_component_come : (levels : ℕ) (c : ComponentView) (come slot : Option Val) (encoding : Option (List ℕ)) → HasComeBy levels record { component = c; come = come } encoding → IsSettled record { component = c; come = come } slot → (come ≡ None → MayBeAbsent c.requirement) → IsCome levels c slot encoding
set_component_come levels c None None None h settled absent = absent refl
set_component_come levels c None None (Some octets) h settled absent = let none : Some octets ≡ None = h in cc
set_component_come levels c None (Some value) encoding h settled absent = let none : Some value ≡ None = settled in cc
set_component_come levels c (Some value) slot None h settled absent = elim h [ ]
set_component_come levels c (Some value) slot (Some octets) h settled absent = slot_come levels c.name c.type c.requirement value slot octets settled h

set_components_come : (levels : ℕ) (set_components : List SetComponent) (slots : List (Option Val)) (encodings : List (Option (List ℕ))) → AllZip (HasComeBy levels) set_components encodings → AllZip IsSettled set_components slots → AllByRecursion (λ s. s.come ≡ None → MayBeAbsent s.component.requirement) set_components
    → AreCome levels (map (λ s. s.component) set_components) slots encodings
set_components_come levels [] [] [] h settled absent = tt
set_components_come levels [] [] (encoding ∷ encodings) h settled absent = elim h [ ]
set_components_come levels [] (slot ∷ slots) encodings h settled absent = elim settled [ ]
set_components_come levels (s ∷ set_components) [] encodings h settled absent = elim settled [ ]
set_components_come levels (s ∷ set_components) (slot ∷ slots) [] h settled absent = elim h [ ]
set_components_come levels (s ∷ set_components) (slot ∷ slots) (encoding ∷ encodings) h settled absent = (set_component_come levels s.component s.come slot encoding h.0 settled.0 absent.0, set_components_come levels set_components slots encodings h.1 settled.1 absent.1)

-- all components have come
come_encode : (levels : ℕ) (components : List ComponentView) (slots : List (Option Val)) (encodings : List (Option (List ℕ))) → AreCome levels components slots encodings → AreSlotEncodings ber (components_of components) (slots_of slots) encodings
come_encode levels components slots encodings h =
    subst (λ x. AreSlotEncodings ber (components_of x) (slots_of slots) encodings) (append-nil components)
    (subst (λ x. AreSlotEncodings ber (components_of (components ++ [])) (slots_of x) encodings) (append-nil slots)
    (subst (λ x. AreSlotEncodings ber (components_of (components ++ [])) (slots_of (slots ++ [])) x) (append-nil encodings) (run_encodes levels components [] slots encodings h tt)))

items_encode : (levels : ℕ) (type : Shape) (values : List Val) (encodings : List (List ℕ)) → AllZip (IsPartOf levels type) values encodings → AllZip (IsEncoding ber type) (listed (items_of values)) encodings
items_encode levels type values encodings h =
    subst (λ x. AllZip (IsEncoding ber type) x encodings) (sym (listed-items_of values)) (zip_map (IsPartOf levels type) (IsEncoding ber type) (λ v octets p. p.encoding) values encodings h)

items_nested : (levels : ℕ) (type : Shape) (values : List Val) (encodings : List (List ℕ)) → AllZip (IsPartOf levels type) values encodings → AllByRecursion (IsNested levels) encodings
items_nested levels type values encodings h = all_zip (IsPartOf levels type) (IsNested levels) (λ v octets p. p.depth) values encodings h

same_tag : (t u : Tag) → t ∷ [] ≡ u ∷ [] → u ≡ t
same_tag t u h = cc

pub explicit_encodes : (levels : ℕ) (tag : Tag) (type : Shape) (v : Val) (contents octets : List ℕ) → IsUsable tag → IsPartOf levels type v contents → IsConstructed ber tag contents octets → IsPartOf (suc levels) (Shape.explicit tag type) v octets
explicit_encodes levels tag type v contents octets usable h whole = record {
  encoding = record { inner = contents; encodes = h.encoding; whole = whole };
  depth = nested_around ber levels tag (contents ∷ []) octets usable (h.depth, tt) (explicit_parts ber tag contents octets whole);
}

pub sequence_of_encodes : (levels : ℕ) (tag : Tag) (type : Shape) (values : List Val) (contents octets : List ℕ) → IsUsable tag → AreItemsCome levels type values contents → IsConstructed ber tag contents octets → IsPartOf (suc levels) (Shape.sequence_of tag type) (Val.items (items_of values)) octets
sequence_of_encodes levels tag type values contents octets usable h whole =
    let joined : IsConstructed ber tag (concat h.encodings) octets = subst (λ x. IsConstructed ber tag x octets) h.joined whole in
    record {
      encoding = record { items = items_of values; is = refl; encodings = h.encodings; each = items_encode levels type values h.encodings h.each; whole = joined };
      depth = nested_around ber levels tag h.encodings octets usable (items_nested levels type values h.encodings h.each) joined;
    }

pub set_of_encodes : (levels : ℕ) (tag : Tag) (type : Shape) (values : List Val) (contents octets : List ℕ) → IsUsable tag → AreItemsCome levels type values contents → IsConstructed ber tag contents octets → IsPartOf (suc levels) (Shape.set_of tag type) (Val.items (items_of values)) octets
set_of_encodes levels tag type values contents octets usable h whole =
    let joined : IsConstructed ber tag (concat h.encodings) octets = subst (λ x. IsConstructed ber tag x octets) h.joined whole in
    record {
      encoding = record { items = items_of values; is = refl; encodings = h.encodings; each = items_encode levels type values h.encodings h.each; order = h.encodings; permutes = IsPermutation-refl h.encodings; ascends = λ canonical. absurd (canonical refl); whole = joined };
      depth = nested_around ber levels tag h.encodings octets usable (items_nested levels type values h.encodings h.each) joined;
    }

pub sequence_encodes : (levels : ℕ) (tag : Tag) (passed left : List ComponentView) (slots : List (Option Val)) (contents octets : List ℕ) → IsUsable tag → Holds levels (Parts.sequence passed slots left) contents → AllByRecursion (λ c. MayBeAbsent c.requirement) left → IsConstructed ber tag contents octets
    → IsPartOf (suc levels) (Shape.sequence tag (components_of (passed ++ left))) (Val.fields (slots_of (slots ++ map (λ c. None) left))) octets
sequence_encodes levels tag passed left slots contents octets usable h absent whole =
    let joined : IsConstructed ber tag (concat (standing h.encodings)) octets = subst (λ x. IsConstructed ber tag x octets) h.joined whole in
    record {
      encoding = record {
        slots = slots_of (slots ++ map (λ c. None) left);
        is = refl;
        encodings = h.encodings ++ map (λ c. None) left;
        each = run_encodes levels passed left slots h.encodings h.each absent;
        whole = subst (λ x. IsConstructed ber tag (concat x) octets) (sym (standing_whole h.encodings left)) joined;
      };
      depth = nested_around ber levels tag (standing h.encodings) octets usable (run_nested levels passed slots h.encodings h.each) joined;
    }

set_encodes : (levels : ℕ) (tag : Tag) (set_components : List SetComponent) (v : Val) (contents octets : List ℕ) → IsUsable tag → Holds levels (Parts.set set_components) contents → IsValueOfSet set_components v → IsConstructed ber tag contents octets
    → IsPartOf (suc levels) (Shape.set tag (components_of (map (λ s. s.component) set_components))) v octets
set_encodes levels tag set_components v contents octets usable h is whole =
    let joined : IsConstructed ber tag (concat h.order) octets = subst (λ x. IsConstructed ber tag x octets) h.joined whole in
    let components = map (λ s. s.component) set_components in
    let come = set_components_come levels set_components is.slots h.encodings h.each is.each is.filled in
    let nested = run_nested levels components is.slots h.encodings come in
    record {
      encoding = record {
        slots = slots_of is.slots;
        is = is.value_is;
        encodings = h.encodings;
        each = come_encode levels components is.slots h.encodings come;
        order = h.order;
        permutes = h.permutes;
        ascends = λ canonical. absurd (canonical refl);
        whole = joined;
      };
      depth = nested_around ber levels tag h.order octets usable (all_permutation (IsNested levels) (standing h.encodings) h.order h.permutes nested) joined;
    }

-- around the parts of a value, a constructed encoding of it
pub value_encodes : (levels : ℕ) (node : Shape) (parts : Parts) (tag : Tag) (v : Val) (contents octets : List ℕ)
    → ArePartsOf node parts → Holds levels parts contents → IsValueOf parts v → IsGoodType node → first_tags node ≡ tag ∷ [] → IsConstructed ber tag contents octets → IsPartOf (suc levels) node v octets
value_encodes levels (Shape.explicit t inner) (Parts.explicit type None) tag v contents octets of holds is good own whole = cc
value_encodes levels (Shape.explicit t inner) (Parts.explicit type (Some value)) tag v contents octets of holds is good own whole =
    let same : value ≡ v = cc is in
    let part : IsPartOf levels inner v contents = subst (λ x. IsPartOf levels inner x contents) same (subst (λ x. IsPartOf levels x value contents) (sym of) holds) in
    explicit_encodes levels t inner v contents octets good.tags.0 part (subst (λ x. IsConstructed ber x contents octets) (same_tag t tag own) whole)
value_encodes levels (Shape.sequence_of t inner) (Parts.items type values) tag v contents octets of holds is good own whole =
    subst (λ x. IsPartOf (suc levels) (Shape.sequence_of t inner) x octets) (sym is)
    (sequence_of_encodes levels t inner values contents octets good.tags.0 (subst (λ x. AreItemsCome levels x values contents) (sym of) holds) (subst (λ x. IsConstructed ber x contents octets) (same_tag t tag own) whole))
value_encodes levels (Shape.set_of t inner) (Parts.items type values) tag v contents octets of holds is good own whole =
    subst (λ x. IsPartOf (suc levels) (Shape.set_of t inner) x octets) (sym is)
    (set_of_encodes levels t inner values contents octets good.tags.0 (subst (λ x. AreItemsCome levels x values contents) (sym of) holds) (subst (λ x. IsConstructed ber x contents octets) (same_tag t tag own) whole))
value_encodes levels (Shape.sequence t components) (Parts.sequence passed slots left) tag v contents octets of holds is good own whole =
    subst (λ x. IsPartOf (suc levels) (Shape.sequence t components) x octets) (sym is.1)
    (subst (λ x. IsPartOf (suc levels) (Shape.sequence t x) (Val.fields (slots_of (slots ++ map (λ c. None) left))) octets) (sym of)
    (sequence_encodes levels t passed left slots contents octets good.tags.0.0 holds is.0 (subst (λ x. IsConstructed ber x contents octets) (same_tag t tag own) whole)))
value_encodes levels (Shape.set t components) (Parts.set set_components) tag v contents octets of holds is good own whole =
    subst (λ x. IsPartOf (suc levels) (Shape.set t x) v octets) (sym of)
    (set_encodes levels t set_components v contents octets good.tags.0.0 holds is (subst (λ x. IsConstructed ber x contents octets) (same_tag t tag own) whole))
value_encodes levels node parts tag v contents octets of holds is good own whole = elim of [ ]
