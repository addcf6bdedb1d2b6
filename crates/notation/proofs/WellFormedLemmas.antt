-- The parts of a well-formed type are well formed.
use Rattle.std.proofs.Common.{◌≡◌, ◌≤◌, ℕ, suc, max, List, [], ◌∷◌, ◌++◌, map, length, refl, ap, subst, arith, length-append}
use Rattle.std.specs.List.{AllByRecursion}
use Rattle.octets.specs.declared.tag.Tag.{Tag}
use Rattle.types.specs.Shape.{Shape}
use Rattle.types.specs.View.{ComponentView, AlternativeView, components_of, alternatives_of}
use Rattle.types.specs.FirstTags.{HasDistinctTags}
use Rattle.types.specs.WellFormed.{nodes_of, levels_of, nodes_of_components, levels_of_components, nodes_of_alternatives, levels_of_alternatives, count_of_components, count_of_alternatives, IsTagWithin, IsNodeWithin, NumbersDiffer, HasGoodDefaults, IsWellFormed}
use Rattle.types.proofs.ListLemmas.{all_append}

-- what is asked of each of these nodes, of which so many may stand, nested so deep
pub record AreGood (nodes : List Shape) (levels : ℕ) : Type 0 where
  pub few : length nodes ≤ 4_096
  pub low : levels ≤ 60
  pub within : AllByRecursion IsNodeWithin nodes
  pub tags : AllByRecursion HasDistinctTags nodes
  pub numbers : AllByRecursion NumbersDiffer nodes
  pub defaults : AllByRecursion HasGoodDefaults nodes

pub good_type : (type : Shape) → AreGood (nodes_of type) (levels_of type) → IsWellFormed type
good_type type h = record { limits = record { nodes = h.few; levels = h.low; each = h.within }; tags = h.tags; numbers = h.numbers; defaults = h.defaults }

-- those of a part, and those of the others
pub good_first : (front others : List Shape) (a b : ℕ) → AreGood (front ++ others) (max a b) → AreGood front a × AreGood others b
good_first front others a b h =
    let few = h.few in
    let low = h.low in
    let long = length-append front others in
    let within = all_append IsNodeWithin front others h.within in
    let tags = all_append HasDistinctTags front others h.tags in
    let numbers = all_append NumbersDiffer front others h.numbers in
    let defaults = all_append HasGoodDefaults front others h.defaults in (
      record { few = omega arith; low = omega arith; within = within.0; tags = tags.0; numbers = numbers.0; defaults = defaults.0 },
      record { few = omega arith; low = omega arith; within = within.1; tags = tags.1; numbers = numbers.1; defaults = defaults.1 },
    )

good_components : (vs : List ComponentView) → AreGood (nodes_of_components (components_of vs)) (levels_of_components (components_of vs)) → AllByRecursion IsWellFormed (map (λ (v : ComponentView). v.type) vs)
good_components [] h = tt
good_components (v ∷ vs) h =
    let both = good_first (nodes_of v.type) (nodes_of_components (components_of vs)) (levels_of v.type) (levels_of_components (components_of vs)) h in
    (good_type v.type both.0, good_components vs both.1)

good_alternatives : (vs : List AlternativeView) → AreGood (nodes_of_alternatives (alternatives_of vs)) (levels_of_alternatives (alternatives_of vs)) → AllByRecursion IsWellFormed (map (λ (v : AlternativeView). v.type) vs)
good_alternatives [] h = tt
good_alternatives (v ∷ vs) h =
    let both = good_first (nodes_of v.type) (nodes_of_alternatives (alternatives_of vs)) (levels_of v.type) (levels_of_alternatives (alternatives_of vs)) h in
    (good_type v.type both.0, good_alternatives vs both.1)

pub sequence_parts : (tag : Tag) (vs : List ComponentView) → IsWellFormed (Shape.sequence tag (components_of vs)) → AllByRecursion IsWellFormed (map (λ (v : ComponentView). v.type) vs)
sequence_parts tag vs h =
    let few = h.limits.nodes in
    let low = h.limits.levels in
    good_components vs (record { few = omega arith; low = omega arith; within = h.limits.each.1; tags = h.tags.1; numbers = h.numbers.1; defaults = h.defaults.1 })

pub set_parts : (tag : Tag) (vs : List ComponentView) → IsWellFormed (Shape.set tag (components_of vs)) → AllByRecursion IsWellFormed (map (λ (v : ComponentView). v.type) vs)
set_parts tag vs h =
    let few = h.limits.nodes in
    let low = h.limits.levels in
    good_components vs (record { few = omega arith; low = omega arith; within = h.limits.each.1; tags = h.tags.1; numbers = h.numbers.1; defaults = h.defaults.1 })

pub choice_parts : (vs : List AlternativeView) → IsWellFormed (Shape.choice (alternatives_of vs)) → AllByRecursion IsWellFormed (map (λ (v : AlternativeView). v.type) vs)
choice_parts vs h =
    let few = h.limits.nodes in
    let low = h.limits.levels in
    good_alternatives vs (record { few = omega arith; low = omega arith; within = h.limits.each.1; tags = h.tags.1; numbers = h.numbers.1; defaults = h.defaults.1 })

pub sequence_of_part : (tag : Tag) (type : Shape) → IsWellFormed (Shape.sequence_of tag type) → IsWellFormed type
sequence_of_part tag type h =
    let few = h.limits.nodes in
    let low = h.limits.levels in
    good_type type (record { few = omega arith; low = omega arith; within = h.limits.each.1; tags = h.tags.1; numbers = h.numbers.1; defaults = h.defaults.1 })

pub set_of_part : (tag : Tag) (type : Shape) → IsWellFormed (Shape.set_of tag type) → IsWellFormed type
set_of_part tag type h =
    let few = h.limits.nodes in
    let low = h.limits.levels in
    good_type type (record { few = omega arith; low = omega arith; within = h.limits.each.1; tags = h.tags.1; numbers = h.numbers.1; defaults = h.defaults.1 })

pub explicit_part : (tag : Tag) (type : Shape) → IsWellFormed (Shape.explicit tag type) → IsWellFormed type
explicit_part tag type h =
    let few = h.limits.nodes in
    let low = h.limits.levels in
    good_type type (record { few = omega arith; low = omega arith; within = h.limits.each.1; tags = h.tags.1; numbers = h.numbers.1; defaults = h.defaults.1 })

-- how many parts there are
pub count_views : (vs : List ComponentView) → count_of_components (components_of vs) ≡ length vs
count_views [] = refl
count_views (v ∷ vs) = ap suc (count_views vs)

pub count_alternative_views : (vs : List AlternativeView) → count_of_alternatives (alternatives_of vs) ≡ length vs
count_alternative_views [] = refl
count_alternative_views (v ∷ vs) = ap suc (count_alternative_views vs)

-- the outermost tag of a well-formed type is within its limit
abbrev pub HasTag : Tag → Shape → Type 0
HasTag tag (Shape.simple own type) = own ≡ tag
HasTag tag (Shape.string own type) = own ≡ tag
HasTag tag (Shape.sequence own components) = own ≡ tag
HasTag tag (Shape.set own components) = own ≡ tag
HasTag tag (Shape.sequence_of own type) = own ≡ tag
HasTag tag (Shape.set_of own type) = own ≡ tag
HasTag tag (Shape.choice alternatives) = ⊥
HasTag tag (Shape.explicit own type) = own ≡ tag

pub tag_within : (tag : Tag) (type : Shape) → HasTag tag type → IsWellFormed type → IsTagWithin tag
tag_within tag (Shape.simple own type) t h = subst IsTagWithin t h.limits.each.0.0
tag_within tag (Shape.string own type) t h = subst IsTagWithin t h.limits.each.0.0
tag_within tag (Shape.sequence own components) t h = subst IsTagWithin t h.limits.each.0.0
tag_within tag (Shape.set own components) t h = subst IsTagWithin t h.limits.each.0.0
tag_within tag (Shape.sequence_of own type) t h = subst IsTagWithin t h.limits.each.0
tag_within tag (Shape.set_of own type) t h = subst IsTagWithin t h.limits.each.0
tag_within tag (Shape.choice alternatives) t h = absurd t
tag_within tag (Shape.explicit own type) t h = subst IsTagWithin t h.limits.each.0
