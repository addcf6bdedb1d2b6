-- Lemmas on which values have canonical encodings: all that conform, where they weigh less than lengths can say.
use Rattle.std.proofs.Common.{◌≡◌, ◌+◌, ◌*◌, ◌^◌, ◌<◌, ◌≤◌, ℕ, zero, suc, false, List, [], ◌∷◌, Some, None, length, refl, sym, ◌∙◌, ap, arith, length-append, IsPermutation, sum_by}
use Rattle.std.specs.List.{AllByRecursion, AllZip, concat}
use Rattle.std.proofs.lemmas.List.Concat.{concat_is, length-flat_map}
use Rattle.std.proofs.lemmas.List.Sorted.{sum_by-IsPermutation}
use Rattle.octets.specs.declared.tag.Tag.{Tag}
use Rattle.octets.specs.Rule.{Rule, ber, cer, der, IsCanonical}
use Rattle.octets.proofs.ShortestLemmas.{shortest_length_within}
use Rattle.types.specs.Shape.{SimpleType, StringType, SimpleValue, StringValue, Val, Slots, no_slot, absent, present, Items, no_item, item, listed, Requirement, required, optional, default, Shape, Components, no_component, component, Alternatives, no_alternative, alternative}
use Rattle.types.specs.FirstTags.{HasDistinctTags}
use Rattle.types.specs.WellFormed.{nodes_of, nodes_of_components, nodes_of_alternatives, levels_of, levels_of_components, levels_of_alternatives, IsTagWithin, IsNodeWithin}
use Rattle.types.specs.Conforms.{SimpleConforms, StringConforms, MayBeAbsent, Conforms, SlotsConform, AlternativeConforms}
use Rattle.types.specs.Weight.{weight_of_simple, weight_of_string, weight_of, weight_of_slots, weight_of_items}
use Rattle.types.specs.Form.{IsConstructed}
use Rattle.types.specs.Encoding.{Meaning, standing, StandsForAbsent, IsEncoding, AreSlotEncodings, IsAlternativeEncoding}
use Rattle.types.specs.Laws.{EveryValueHasACanonicalEncoding}
use Rattle.types.proofs.ListLemmas.{all_append}
use Rattle.types.proofs.FormExistenceLemmas.{HasLengthsBelow, definite_around, constructed_around}
use Rattle.types.proofs.ContentsExistenceLemmas.{simple_contents}
use Rattle.types.proofs.StringExistenceLemmas.{encoding_of_string}
use Rattle.types.proofs.InOrderLemmas.{ascending_order}
use Rattle.types.proofs.TagOrderLemmas.{tag_order}

-- octets of some kind, of a value of this weight in a type of this many levels
pub record IsOfWeight (IsWhole : List ℕ → Type 0) (weight levels : ℕ) : Type 0 where
  pub octets : List ℕ
  pub whole : IsWhole octets
  pub size : length octets + 8_000 ≤ 16_384 * weight + 132 * levels

-- encodings of some kind that weigh so much together
pub record AreOfWeight {E : Type 0} (AreEach : E → Type 0) (all : E → List (List ℕ)) (weight : ℕ) : Type 0 where
  pub encodings : E
  pub each : AreEach encodings
  pub size : length (concat (all encodings)) ≤ 16_384 * weight

size_is : (xs : List (List ℕ)) → length (concat xs) ≡ sum_by (λ x. length x) xs
size_is xs = ap length (concat_is xs) ∙ length-flat_map (λ x. x) xs

size_of_order : (xs ys : List (List ℕ)) → IsPermutation xs ys → length (concat ys) ≡ length (concat xs)
size_of_order xs ys order = size_is ys ∙ (sum_by-IsPermutation (λ x. length x) xs ys order ∙ sym (size_is xs))

some_weight : (v : Val) → 1 ≤ weight_of v
some_weight (Val.simple (SimpleValue.boolean truth)) = omega arith
some_weight (Val.simple (SimpleValue.integer number)) = omega arith
some_weight (Val.simple (SimpleValue.wide_integer octets)) = omega arith
some_weight (Val.simple (SimpleValue.enumerated number)) = omega arith
some_weight (Val.simple SimpleValue.null) = omega arith
some_weight (Val.simple (SimpleValue.oid arcs)) = omega arith
some_weight (Val.simple (SimpleValue.relative_oid arcs)) = omega arith
some_weight (Val.string (StringValue.bits bits)) = omega arith
some_weight (Val.string (StringValue.octets octets)) = omega arith
some_weight (Val.string (StringValue.text octets)) = omega arith
some_weight (Val.fields slots) = omega arith
some_weight (Val.items items) = omega arith
some_weight (Val.chosen which value) = omega arith

absent_stands : (rule : Rule) (requirement : Requirement) (Encodes : Meaning) → IsCanonical rule → MayBeAbsent requirement → StandsForAbsent rule requirement Encodes None
absent_stands rule required Encodes canonical c = elim c [ ]
absent_stands rule optional Encodes canonical c = refl
absent_stands ber (default value) Encodes canonical c = tt
absent_stands cer (default value) Encodes canonical c = refl
absent_stands der (default value) Encodes canonical c = refl

module _ (limit : ℕ) (lengths : HasLengthsBelow (16_384 * limit)) (rule : Rule) (canonical : IsCanonical rule) where
  -- a constructed encoding around parts that weigh one less than the value
  around_parts : (n weight : ℕ) (tag : Tag) (contents : List ℕ) → IsTagWithin tag → 1 + weight < limit → length contents ≤ 16_384 * weight → IsOfWeight (IsConstructed rule tag contents) (1 + weight) n
  around_parts n weight tag contents within light few =
      let around = constructed_around (16_384 * limit) lengths rule tag contents within (omega arith) in
      record { octets = around.octets; whole = around.whole; size = omega (arith, around.size) }

  simple_exists : (n : ℕ) (tag : Tag) (type : SimpleType) (value : SimpleValue) → IsTagWithin tag → SimpleConforms type value → weight_of_simple value < limit → IsOfWeight (IsEncoding rule (Shape.simple tag type) (Val.simple value)) (weight_of_simple value) n
  simple_exists n tag type value within c light =
      let some : 1 ≤ weight_of_simple value = some_weight (Val.simple value) in
      let contents = simple_contents rule type value canonical c in
      let few : length contents.0 ≤ 19 * weight_of_simple value = contents.2 in
      let around = definite_around (16_384 * limit) lengths rule tag false contents.0 within (omega arith) in
      record {
        octets = around.octets;
        whole = record { value = value; is = refl; conforms = c; contents = contents.0; spelt = contents.1; primitive = around.whole };
        size = omega (arith, around.size);
      }

  string_exists : (n : ℕ) (tag : Tag) (type : StringType) (value : StringValue) → IsTagWithin tag → StringConforms type value → weight_of_string value < limit → IsOfWeight (IsEncoding rule (Shape.string tag type) (Val.string value)) (weight_of_string value) n
  string_exists n tag type value within c light =
      let some : 1 ≤ weight_of_string value = some_weight (Val.string value) in
      let made = encoding_of_string (16_384 * limit) lengths (omega arith) rule tag type value canonical within c (omega arith) in
      record { octets = made.octets; whole = made.encoding; size = omega (arith, made.size) }

  items_exist : (type : Shape) (n : ℕ) → n ≤ 59 → ((v : Val) → Conforms type v → weight_of v < limit → IsOfWeight (IsEncoding rule type v) (weight_of v) n) → (items : Items) → AllByRecursion (Conforms type) (listed items) → weight_of_items items < limit
      → AreOfWeight (AllZip (IsEncoding rule type) (listed items)) (λ encodings. encodings) (weight_of_items items)
  items_exist type n most each no_item c light = record { encodings = []; each = tt; size = omega arith }
  items_exist type n most each (item value items) c light =
      let first = each value c.0 (omega arith) in
      let rest = items_exist type n most each items c.1 (omega arith) in
      record { encodings = first.octets ∷ rest.encodings; each = (first.whole, rest.each); size = omega (arith, first.size, rest.size, length-append first.octets (concat rest.encodings)) }

  mutual
    pub exists : (shape : Shape) (v : Val) (n : ℕ) → n ≤ 60 → levels_of shape ≤ n → AllByRecursion HasDistinctTags (nodes_of shape) → AllByRecursion IsNodeWithin (nodes_of shape) → Conforms shape v → weight_of v < limit → IsOfWeight (IsEncoding rule shape v) (weight_of v) n
    exists (Shape.simple tag type) (Val.simple value) n most levels tags within c light = simple_exists n tag type value within.0.0 c light
    exists (Shape.string tag type) (Val.string value) n most levels tags within c light = string_exists n tag type value within.0.0 c light
    exists (Shape.sequence tag components) (Val.fields slots) zero most levels tags within c light = absurd (omega arith)
    exists (Shape.sequence tag components) (Val.fields slots) (suc n) most levels tags within c light =
        let parts = slots_exist components slots n (omega arith) (omega arith) tags.1 within.1 c (omega arith) in
        let around = around_parts (suc n) (weight_of_slots slots) tag (concat (standing parts.encodings)) within.0.0 light parts.size in
        record { octets = around.octets; whole = record { slots = slots; is = refl; encodings = parts.encodings; each = parts.each; whole = around.whole }; size = around.size }
    exists (Shape.set tag components) (Val.fields slots) zero most levels tags within c light = absurd (omega arith)
    exists (Shape.set tag components) (Val.fields slots) (suc n) most levels tags within c light =
        let parts = slots_exist components slots n (omega arith) (omega arith) tags.1 within.1 c (omega arith) in
        let put = tag_order rule components slots parts.encodings canonical tags.0.1 parts.each in
        let around = around_parts (suc n) (weight_of_slots slots) tag (concat put.order) within.0.0 light (omega (arith, size_of_order (standing parts.encodings) put.order put.permutes, parts.size)) in
        record {
          octets = around.octets;
          whole = record { slots = slots; is = refl; encodings = parts.encodings; each = parts.each; order = put.order; permutes = put.permutes; ascends = λ is_canonical. put.ascends; whole = around.whole };
          size = around.size;
        }
    exists (Shape.sequence_of tag type) (Val.items items) zero most levels tags within c light = absurd (omega arith)
    exists (Shape.sequence_of tag type) (Val.items items) (suc n) most levels tags within c light =
        let parts = items_exist type n (omega arith) (λ w k l. exists type w n (omega arith) (omega arith) tags.1 within.1 k l) items c (omega arith) in
        let around = around_parts (suc n) (weight_of_items items) tag (concat parts.encodings) within.0 light parts.size in
        record { octets = around.octets; whole = record { items = items; is = refl; encodings = parts.encodings; each = parts.each; whole = around.whole }; size = around.size }
    exists (Shape.set_of tag type) (Val.items items) zero most levels tags within c light = absurd (omega arith)
    exists (Shape.set_of tag type) (Val.items items) (suc n) most levels tags within c light =
        let parts = items_exist type n (omega arith) (λ w k l. exists type w n (omega arith) (omega arith) tags.1 within.1 k l) items c (omega arith) in
        let put = ascending_order parts.encodings in
        let around = around_parts (suc n) (weight_of_items items) tag (concat put.order) within.0 light (omega (arith, size_of_order parts.encodings put.order put.permutes, parts.size)) in
        record {
          octets = around.octets;
          whole = record { items = items; is = refl; encodings = parts.encodings; each = parts.each; order = put.order; permutes = put.permutes; ascends = λ is_canonical. put.ascends; whole = around.whole };
          size = around.size;
        }
    exists (Shape.choice alternatives) (Val.chosen which value) n most levels tags within c light =
        let made = alternative_exists alternatives which value n most levels tags.1 within.1 c (omega arith) in
        record { octets = made.octets; whole = record { which = which; value = value; is = refl; chosen = made.whole }; size = omega (arith, made.size) }
    exists (Shape.explicit tag type) v zero most levels tags within c light = absurd (omega arith)
    exists (Shape.explicit tag type) v (suc n) most levels tags within c light =
        let inner = exists type v n (omega arith) (omega arith) tags.1 within.1 c light in
        let around = constructed_around (16_384 * limit) lengths rule tag inner.octets within.0 (omega (arith, inner.size)) in
        record { octets = around.octets; whole = record { inner = inner.octets; encodes = inner.whole; whole = around.whole }; size = omega (arith, inner.size, around.size) }
    exists shape v n most levels tags within c light = elim c [ ]

    slots_exist : (components : Components) (slots : Slots) (n : ℕ) → n ≤ 59 → levels_of_components components ≤ n → AllByRecursion HasDistinctTags (nodes_of_components components) → AllByRecursion IsNodeWithin (nodes_of_components components) → SlotsConform components slots → weight_of_slots slots < limit
        → AreOfWeight (AreSlotEncodings rule components slots) standing (weight_of_slots slots)
    slots_exist no_component no_slot n most levels tags within c light = record { encodings = []; each = tt; size = omega arith }
    slots_exist (component name type requirement others) (absent slots) n most levels tags within c light =
        let tag_parts = all_append HasDistinctTags (nodes_of type) (nodes_of_components others) tags in
        let node_parts = all_append IsNodeWithin (nodes_of type) (nodes_of_components others) within in
        let rest = slots_exist others slots n most (omega arith) tag_parts.1 node_parts.1 c.1 (omega arith) in
        record { encodings = None ∷ rest.encodings; each = (absent_stands rule requirement (IsEncoding rule type) canonical c.0, rest.each); size = omega (arith, rest.size) }
    slots_exist (component name type requirement others) (present value slots) n most levels tags within c light =
        let tag_parts = all_append HasDistinctTags (nodes_of type) (nodes_of_components others) tags in
        let node_parts = all_append IsNodeWithin (nodes_of type) (nodes_of_components others) within in
        let first = exists type value n (omega arith) (omega arith) tag_parts.0 node_parts.0 c.0 (omega arith) in
        let rest = slots_exist others slots n most (omega arith) tag_parts.1 node_parts.1 c.2 (omega arith) in
        record { encodings = Some first.octets ∷ rest.encodings; each = (first.whole, c.1, rest.each); size = omega (arith, first.size, rest.size, length-append first.octets (concat (standing rest.encodings))) }
    slots_exist components slots n most levels tags within c light = elim c [ ]

    alternative_exists : (alternatives : Alternatives) (which : ℕ) (v : Val) (n : ℕ) → n ≤ 60 → levels_of_alternatives alternatives ≤ n → AllByRecursion HasDistinctTags (nodes_of_alternatives alternatives) → AllByRecursion IsNodeWithin (nodes_of_alternatives alternatives) → AlternativeConforms alternatives which v → weight_of v < limit
        → IsOfWeight (IsAlternativeEncoding rule alternatives which v) (weight_of v) n
    alternative_exists no_alternative which v n most levels tags within c light = elim c [ ]
    alternative_exists (alternative name type others) zero v n most levels tags within c light =
        exists type v n most (omega arith) (all_append HasDistinctTags (nodes_of type) (nodes_of_alternatives others) tags).0 (all_append IsNodeWithin (nodes_of type) (nodes_of_alternatives others) within).0 c light
    alternative_exists (alternative name type others) (suc which) v n most levels tags within c light =
        alternative_exists others which v n most (omega arith) (all_append HasDistinctTags (nodes_of type) (nodes_of_alternatives others) tags).1 (all_append IsNodeWithin (nodes_of type) (nodes_of_alternatives others) within).1 c light

all_lengths : HasLengthsBelow (16_384 * 2 ^ 128)
all_lengths n fits = let room : 256 ^ 18 ≡ 4 * (16_384 * 2 ^ 128) = refl in shortest_length_within n 18 (omega arith) (omega arith)

pub every_value_has_one : EveryValueHasACanonicalEncoding
every_value_has_one rule shape v well canonical c light =
    let made = exists (2 ^ 128) all_lengths rule canonical shape v 60 (omega arith) well.limits.levels well.tags well.limits.each c light in
    (made.octets, made.whole)
