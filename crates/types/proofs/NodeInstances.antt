-- Nodes and levels of some types, and which types keep the limits and have good defaults.
use Rattle.std.proofs.Common.{◌≡◌, ◌+◌, ℕ, zero, suc, [], ◌∷◌, ◌++◌, length, refl, ap, arith, true, ℤ, pos, length-append}
use Rattle.std.proofs.lemmas.Int.{ints}
use Rattle.std.specs.List.{AllByRecursion}
use Rattle.strings.specs.declared.text.TextKind.TheVariants.{Bmp}
use Rattle.types.specs.Shape.{SimpleType, StringType, EnumerationItem, Shape, Val, required, default, no_component, component, no_alternative, alternative}
use Rattle.types.specs.FirstTags.{HasDistinctTags}
use Rattle.types.specs.WellFormed.{nodes_of, levels_of, IsNodeWithin, NumbersDiffer, IsGoodDefault, HasGoodDefaults, IsWellFormed}
use Rattle.types.proofs.ListLemmas.{first_differs, contains_first, contains_later}
use Rattle.types.proofs.FormInstances.{universal, context, usable_universal, usable_context}
use Rattle.types.proofs.LeafInstances.{integer, null, truth, number, nothing}
use Rattle.types.proofs.TypeInstances.{a, b, empty_sequence}
use Rattle.types.proofs.StringInstances.{octet_string}

-- one node: a string has no level, though its encoding may be constructed, and an empty SEQUENCE has one
of_string : (length (nodes_of (octet_string (universal 4))) ≡ 1) × (levels_of (octet_string (universal 4)) ≡ 0)
of_string = (refl, refl)

of_empty : (length (nodes_of empty_sequence) ≡ 1) × (levels_of empty_sequence ≡ 1)
of_empty = (refl, refl)

-- two nodes: an explicit tag has a level, and a CHOICE has none
of_items : (length (nodes_of (Shape.sequence_of (universal 16) (null (universal 5)))) ≡ 2) × (levels_of (Shape.sequence_of (universal 16) (null (universal 5))) ≡ 1)
of_items = (refl, refl)

abbrev u : Shape
u = Shape.explicit (context 0) (null (universal 5))

of_explicit : (length (nodes_of u) ≡ 2) × (levels_of u ≡ 1)
of_explicit = (refl, refl)

of_choice : (length (nodes_of (Shape.choice (alternative a empty_sequence no_alternative))) ≡ 2) × (levels_of (Shape.choice (alternative a empty_sequence no_alternative)) ≡ 1)
of_choice = (refl, refl)

-- SEQUENCE { a U, b U }, where U is [0] EXPLICIT NULL: what stands twice counts twice, and levels are those of the deepest part
of_two : (length (nodes_of (Shape.sequence (universal 16) (component a u required (component b u required no_component)))) ≡ 5)
    × (levels_of (Shape.sequence (universal 16) (component a u required (component b u required no_component))) ≡ 2)
of_two = (refl, refl)

-- OCTET STRING under so many tags [0] EXPLICIT
tagged : ℕ → Shape
tagged zero = octet_string (universal 4)
tagged (suc n) = Shape.explicit (context 0) (tagged n)

levels_tagged : (n : ℕ) → levels_of (tagged n) ≡ n
unfolding tagged
levels_tagged zero = refl
levels_tagged (suc n) = ap suc (levels_tagged n)

nodes_tagged : (n : ℕ) → length (nodes_of (tagged n)) ≡ n + 1
unfolding tagged
nodes_tagged zero = refl
nodes_tagged (suc n) = omega (arith, nodes_tagged n)

each_tagged : (n : ℕ) → AllByRecursion IsNodeWithin (nodes_of (tagged n)) × AllByRecursion HasDistinctTags (nodes_of (tagged n)) × AllByRecursion NumbersDiffer (nodes_of (tagged n)) × AllByRecursion HasGoodDefaults (nodes_of (tagged n))
unfolding tagged
each_tagged zero = ((omega arith, tt), (usable_universal 4 (omega arith), tt), (tt, tt), (tt, tt))
each_tagged (suc n) = let rest = each_tagged n in ((omega arith, rest.0), (usable_context 0, rest.1), (tt, rest.2), (tt, rest.3))

sixty : IsWellFormed (tagged 60)
sixty = record {
  limits = record { nodes = omega (arith, nodes_tagged 60); levels = omega (arith, levels_tagged 60); each = (each_tagged 60).0 };
  tags = (each_tagged 60).1;
  numbers = (each_tagged 60).2;
  defaults = (each_tagged 60).3;
}

sixty_one : IsWellFormed (tagged 61) → ⊥
sixty_one h = absurd (omega (arith, h.limits.levels, levels_tagged 61))

-- NULL doubled so often, each time SEQUENCE { a X, b X } of the type before
doubled : ℕ → Shape
doubled zero = null (universal 5)
doubled (suc n) = Shape.sequence (universal 16) (component a (doubled n) required (component b (doubled n) required no_component))

abbrev doubles : ℕ → ℕ
doubles zero = 1
doubles (suc n) = 1 + (doubles n + doubles n)

nodes_doubled : (n : ℕ) → length (nodes_of (doubled n)) ≡ doubles n
unfolding doubled
nodes_doubled zero = refl
nodes_doubled (suc n) =
    omega (arith, nodes_doubled n, length-append (nodes_of (doubled n)) (nodes_of (doubled n) ++ []), length-append (nodes_of (doubled n)) [])

of_eleven : length (nodes_of (doubled 11)) ≡ 4_095
of_eleven = nodes_doubled 11

-- one node more is 4,096, and two more are too many
one_more : length (nodes_of (Shape.sequence (universal 16) (component a (doubled 11) required no_component))) ≡ 4_096
one_more = omega (arith, of_eleven, length-append (nodes_of (doubled 11)) [])

two_more : IsWellFormed (Shape.sequence (universal 16) (component a (doubled 11) required (component b (null (universal 5)) required no_component))) → ⊥
two_more h = absurd (omega (arith, h.limits.nodes, of_eleven, length-append (nodes_of (doubled 11)) (null (universal 5) ∷ [])))

-- the greatest tag number, and one more, also within another type
greatest_tag : IsNodeWithin (null (context 268_435_455))
greatest_tag = (omega arith, tt)

too_great_tag : IsWellFormed (Shape.set_of (universal 17) (null (context 268_435_456))) → ⊥
too_great_tag h = absurd (omega (arith, h.limits.each.1.0.0))

-- no CHOICE without alternatives, and no ENUMERATED without items or with a number twice
no_alternatives : IsWellFormed (Shape.choice no_alternative) → ⊥
no_alternatives h = absurd (omega (arith, h.limits.each.0.0))

no_items : IsWellFormed (Shape.simple (universal 10) (SimpleType.enumerated [])) → ⊥
no_items h = absurd (omega (arith, h.limits.each.0.1.0))

abbrev item_of : ℤ → EnumerationItem
item_of n = record { name = a; number = n }

repeated_number : IsWellFormed (Shape.simple (universal 10) (SimpleType.enumerated (item_of (pos 1) ∷ item_of (pos 2) ∷ item_of (pos 1) ∷ []))) → ⊥
repeated_number h = first_differs (pos 1) (pos 2 ∷ pos 1 ∷ []) h.numbers.0 (contains_later (pos 2) (pos 1) (pos 1 ∷ []) (contains_first (pos 1) (pos 1) [] refl))

-- a default is seen through tags and not through a CHOICE
through_tag : IsGoodDefault (Shape.explicit (context 0) integer) (default (number (pos 5)))
through_tag = (tt, omega (arith, ints), tt)

through_choice : IsGoodDefault (Shape.choice (alternative a integer no_alternative)) (default (Val.chosen 0 (number (pos 5)))) → ⊥
through_choice h = h.0

-- NULL, BMPString and OBJECT IDENTIFIER take none, and TRUE is no INTEGER
null_default : IsGoodDefault (null (universal 5)) (default nothing) → ⊥
null_default h = h.0

bmp_default : (v : Val) → IsGoodDefault (Shape.string (universal 30) (StringType.text Bmp)) (default v) → ⊥
bmp_default v h = h.0

oid_default : (v : Val) → IsGoodDefault (Shape.simple (universal 6) SimpleType.oid) (default v) → ⊥
oid_default v h = h.0

other_default : IsGoodDefault integer (default (truth true)) → ⊥
other_default h = h.1
