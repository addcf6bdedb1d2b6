-- Lemmas on how much the parts weigh that an open encoding holds.
use Rattle.std.specs.List.{AllZip, concat}
use Rattle.std.proofs.Common.{◌≡◌, ◌+◌, ◌*◌, ◌≤◌, inl, inr, ℕ, zero, suc, List, [], ◌∷◌, ◌++◌, Option, Some, None, length, map, refl, sym, ap, ◌∙◌, subst, arith, length-append}
use Rattle.std.proofs.Math.Nat.{mul-add}
use Rattle.octets.specs.declared.tag.Tag.{Tag}
use Rattle.types.specs.Shape.{Val, listed, Shape, Alternatives, no_alternative, alternative}
use Rattle.types.specs.View.{ComponentView, components_of, items_of, slots_of}
use Rattle.types.specs.Weight.{weight_of_items, weight_of_slots}
use Rattle.types.specs.WellFormed.{nodes_of, nodes_of_alternatives, nodes_of_components}
use Rattle.types.specs.Encoding.{standing}
use Rattle.encoding_parts.specs.Parts.{Parts, SetComponent, IsPartOf, IsNextOf, IsVacant, IsDue, IsCome, AreCome, HasComeBy, Holds, ArePartsOf, IsNodeFor, IsNodeForOneOf}
use Rattle.berreader.specs.Weight.{weight_of_parts}
use Rattle.berreader.proofs.WeightLemmas.{light, items_light, more_of, size_of_order, some_nodes, some_part}

-- how many nodes components have
abbrev nodes_in : List ComponentView → ℕ
nodes_in components = length (nodes_of_components (components_of components))

nodes_first : (c : ComponentView) (others : List ComponentView) → nodes_in (c ∷ others) ≡ length (nodes_of c.type) + nodes_in others
nodes_first c others = length-append (nodes_of c.type) (nodes_of_components (components_of others))

nodes_joined : (front rest : List ComponentView) → nodes_in (front ++ rest) ≡ nodes_in front + nodes_in rest
nodes_joined [] rest = omega arith
nodes_joined (c ∷ front) rest = omega (arith, nodes_first c (front ++ rest), nodes_first c front, nodes_joined front rest)

few_components : (components : List ComponentView) → length components ≤ nodes_in components
few_components [] = omega arith
few_components (c ∷ others) = omega (arith, nodes_first c others, some_nodes c.type, few_components others)

next_nodes : (left : List ComponentView) (which : ℕ) (type : Shape) → IsNextOf left which type → length (nodes_of type) ≤ nodes_in left
next_nodes [] which type h = absurd h
next_nodes (c ∷ others) zero type h = omega (arith, nodes_first c others, ap (λ s. length (nodes_of s)) h)
next_nodes (c ∷ others) (suc which) type h = omega (arith, nodes_first c others, next_nodes others which type h.1)

vacant_nodes : (set_components : List SetComponent) (which : ℕ) (type : Shape) → IsVacant set_components which type → length (nodes_of type) ≤ nodes_in (map (λ s. s.component) set_components)
vacant_nodes [] which type h = absurd h
vacant_nodes (s ∷ others) zero type h = omega (arith, nodes_first s.component (map (λ s. s.component) others), ap (λ s. length (nodes_of s)) h.1)
vacant_nodes (s ∷ others) (suc which) type h = omega (arith, nodes_first s.component (map (λ s. s.component) others), vacant_nodes others which type h)

same_nodes : (type node : Shape) → type ≡ node → length (nodes_of node) ≤ length (nodes_of type)
same_nodes type node same = omega (arith, ap (λ s. length (nodes_of s)) same)

-- the nodes of an encoding's parts are some of its own
explicit_nodes : (node type : Shape) (held : Option Val) → ArePartsOf node (Parts.explicit type held) → 1 + length (nodes_of type) ≤ length (nodes_of node)
explicit_nodes (Shape.explicit tag inner) type held h = omega (arith, same_nodes inner type h)
explicit_nodes node type held h = elim h [ ]

item_nodes : (node type : Shape) (values : List Val) → ArePartsOf node (Parts.items type values) → 1 + length (nodes_of type) ≤ length (nodes_of node)
item_nodes (Shape.sequence_of tag inner) type values h = omega (arith, same_nodes inner type h)
item_nodes (Shape.set_of tag inner) type values h = omega (arith, same_nodes inner type h)
item_nodes node type values h = elim h [ ]

run_nodes : (node : Shape) (passed : List ComponentView) (slots : List (Option Val)) (left : List ComponentView) → ArePartsOf node (Parts.sequence passed slots left) → 1 + nodes_in passed + nodes_in left ≤ length (nodes_of node)
run_nodes (Shape.sequence tag components) passed slots left h = omega (arith, ap (λ c. length (nodes_of_components c)) h, nodes_joined passed left)
run_nodes node passed slots left h = elim h [ ]

set_component_nodes : (node : Shape) (set_components : List SetComponent) → ArePartsOf node (Parts.set set_components) → 1 + nodes_in (map (λ s. s.component) set_components) ≤ length (nodes_of node)
set_component_nodes (Shape.set tag components) set_components h = omega (arith, ap (λ c. length (nodes_of_components c)) h)
set_component_nodes node set_components h = elim h [ ]

-- a part has no more nodes than what it is a part of
pub due_nodes : (node : Shape) (parts : Parts) (which : ℕ) (type : Shape) → ArePartsOf node parts → IsDue parts which type → length (nodes_of type) ≤ length (nodes_of node)
due_nodes node (Parts.explicit own None) which type h due = omega (arith, explicit_nodes node own None h, same_nodes own type due)
due_nodes node (Parts.explicit own (Some value)) which type h due = elim due [ ]
due_nodes node (Parts.items own values) which type h due = omega (arith, item_nodes node own values h, same_nodes own type due)
due_nodes node (Parts.sequence passed slots left) which type h due = omega (arith, run_nodes node passed slots left h, next_nodes left which type due)
due_nodes node (Parts.set set_components) which type h due = omega (arith, set_component_nodes node set_components h, vacant_nodes set_components which type due)

mutual
  -- nor has the alternative of a CHOICE
  pub node_nodes : (tag : Tag) (type node : Shape) → IsNodeFor tag type node → length (nodes_of node) ≤ length (nodes_of type)
  node_nodes tag (Shape.simple own type) node h = same_nodes (Shape.simple own type) node (sym h.1)
  node_nodes tag (Shape.string own type) node h = same_nodes (Shape.string own type) node (sym h.1)
  node_nodes tag (Shape.sequence own components) node h = same_nodes (Shape.sequence own components) node (sym h.1)
  node_nodes tag (Shape.set own components) node h = same_nodes (Shape.set own components) node (sym h.1)
  node_nodes tag (Shape.sequence_of own type) node h = same_nodes (Shape.sequence_of own type) node (sym h.1)
  node_nodes tag (Shape.set_of own type) node h = same_nodes (Shape.set_of own type) node (sym h.1)
  node_nodes tag (Shape.choice alternatives) node h = omega (arith, one_of_nodes tag alternatives node h)
  node_nodes tag (Shape.explicit own type) node h = same_nodes (Shape.explicit own type) node (sym h.1)

  one_of_nodes : (tag : Tag) (alternatives : Alternatives) (node : Shape) → IsNodeForOneOf tag alternatives node → length (nodes_of node) ≤ length (nodes_of_alternatives alternatives)
  one_of_nodes tag no_alternative node h = elim h [ ]
  one_of_nodes tag (alternative name type others) node (inl h) = omega (arith, length-append (nodes_of type) (nodes_of_alternatives others), node_nodes tag type node h)
  one_of_nodes tag (alternative name type others) node (inr h) = omega (arith, length-append (nodes_of type) (nodes_of_alternatives others), one_of_nodes tag others node h)

-- what has come for one component
come_light : (levels : ℕ) (c : ComponentView) (slot : Option Val) (encoding : Option (List ℕ)) (others : List (Option Val)) (rest : List (Option (List ℕ))) (n k : ℕ) → length (nodes_of c.type) ≤ n → IsCome levels c slot encoding
    → weight_of_slots (slots_of others) ≤ k + n * length (concat (standing rest)) → weight_of_slots (slots_of (slot ∷ others)) ≤ length (nodes_of c.type) + k + n * length (concat (standing (encoding ∷ rest)))
come_light levels c None None others rest n k many h light_rest = omega (arith, some_nodes c.type, light_rest)
come_light levels c None (Some e) others rest n k many h light_rest =
    let behind = concat (standing rest) in
    let more : n * length behind ≤ n * length (e ++ behind) = more_of n (length behind) (length (e ++ behind)) (omega (arith, length-append e behind)) in
    omega (arith, some_nodes c.type, light_rest, more)
come_light levels c (Some value) (Some e) others rest n k many h light_rest =
    let behind = concat (standing rest) in
    let split : n * length (e ++ behind) ≡ n * length e + n * length behind = ap (λ x. n * x) (length-append e behind) ∙ mul-add n (length e) (length behind) in
    omega (arith, some_nodes c.type, light c.type value e n many h.0.encoding, light_rest, split)
come_light levels c (Some value) None others rest n k many h light_rest = absurd h

run_light : (levels : ℕ) (passed : List ComponentView) (slots : List (Option Val)) (encodings : List (Option (List ℕ))) (n : ℕ) → nodes_in passed ≤ n → AreCome levels passed slots encodings
    → weight_of_slots (slots_of slots) ≤ nodes_in passed + n * length (concat (standing encodings))
run_light levels [] [] [] n many h = omega arith
run_light levels (c ∷ passed) (slot ∷ slots) (encoding ∷ encodings) n many h =
    let nodes = nodes_first c passed in
    let rest = run_light levels passed slots encodings n (omega (arith, many, nodes)) h.1 in
    omega (arith, nodes, come_light levels c slot encoding slots encodings n (nodes_in passed) (omega (arith, many, nodes)) h.0 rest)
run_light levels [] [] (encoding ∷ encodings) n many h = elim h [ ]
run_light levels [] (slot ∷ slots) encodings n many h = elim h [ ]
run_light levels (c ∷ passed) [] encodings n many h = elim h [ ]
run_light levels (c ∷ passed) (slot ∷ slots) [] n many h = elim h [ ]

-- what has come for a component of a SET
set_component_light : (levels : ℕ) (c : ComponentView) (come : Option Val) (encoding : Option (List ℕ)) (others : List (Option Val)) (rest : List (Option (List ℕ))) (n k : ℕ) → length (nodes_of c.type) ≤ n → HasComeBy levels record { component = c; come = come } encoding
    → weight_of_slots (slots_of others) ≤ k + n * length (concat (standing rest)) → weight_of_slots (slots_of (come ∷ others)) ≤ length (nodes_of c.type) + k + n * length (concat (standing (encoding ∷ rest)))
set_component_light levels c None None others rest n k many h light_rest = omega (arith, some_nodes c.type, light_rest)
set_component_light levels c None (Some e) others rest n k many h light_rest = let none : Some e ≡ None = h in cc
set_component_light levels c (Some value) None others rest n k many h light_rest = absurd h
set_component_light levels c (Some value) (Some e) others rest n k many h light_rest =
    let behind = concat (standing rest) in
    let split : n * length (e ++ behind) ≡ n * length e + n * length behind = ap (λ x. n * x) (length-append e behind) ∙ mul-add n (length e) (length behind) in
    omega (arith, some_nodes c.type, light c.type value e n many h.encoding, light_rest, split)

set_components_light : (levels : ℕ) (set_components : List SetComponent) (encodings : List (Option (List ℕ))) (n : ℕ) → nodes_in (map (λ s. s.component) set_components) ≤ n → AllZip (HasComeBy levels) set_components encodings
    → weight_of_slots (slots_of (map (λ s. s.come) set_components)) ≤ nodes_in (map (λ s. s.component) set_components) + n * length (concat (standing encodings))
set_components_light levels [] [] n many h = omega arith
set_components_light levels (s ∷ set_components) (encoding ∷ encodings) n many h =
    let own = map (λ s. s.component) set_components in
    let nodes = nodes_first s.component own in
    let rest = set_components_light levels set_components encodings n (omega (arith, many, nodes)) h.1 in
    omega (arith, nodes, set_component_light levels s.component s.come encoding (map (λ s. s.come) set_components) encodings n (nodes_in own) (omega (arith, many, nodes)) h.0 rest)
set_components_light levels [] (encoding ∷ encodings) n many h = absurd h
set_components_light levels (s ∷ set_components) [] n many h = absurd h

listed_of : (values : List Val) → listed (items_of values) ≡ values
listed_of [] = refl
listed_of (value ∷ values) = ap (λ vs. value ∷ vs) (listed_of values)

list_light : (type : Shape) (levels : ℕ) (values : List Val) (encodings : List (List ℕ)) (n : ℕ) → 1 + length (nodes_of type) ≤ n → AllZip (IsPartOf levels type) values encodings → 1 + weight_of_items (items_of values) ≤ n + n * length (concat encodings)
list_light type levels values encodings zero many h = absurd (omega (arith, many))
list_light type levels values encodings (suc m) many h =
    let each = subst (λ vs. AllZip (IsPartOf levels type) vs encodings) (sym (listed_of values)) h in
    let items = items_light m (IsPartOf levels type) (λ v o g. (some_part type v o g.encoding, light type v o m (omega (arith, many)) g.encoding)) (items_of values) encodings each in
    omega (arith, items)

-- the parts of an encoding weigh no more than its nodes times its contents octets and one more
pub parts_light : (node : Shape) (parts : Parts) (levels : ℕ) (contents : List ℕ) (n : ℕ) → length (nodes_of node) ≤ n → ArePartsOf node parts → Holds levels parts contents → weight_of_parts parts ≤ n + n * length contents
parts_light node (Parts.explicit type None) levels contents n many h holds = omega arith
parts_light node (Parts.explicit type (Some value)) levels contents n many h holds = omega (arith, light type value contents n (omega (arith, many, explicit_nodes node type (Some value) h)) holds.encoding)
parts_light node (Parts.items type values) levels contents n many h holds =
    omega (arith, list_light type levels values holds.encodings n (omega (arith, many, item_nodes node type values h)) holds.each, ap (λ o. n * length o) holds.joined)
parts_light node (Parts.sequence passed slots left) levels contents n many h holds =
    let nodes = run_nodes node passed slots left h in
    omega (arith, many, nodes, few_components left, run_light levels passed slots holds.encodings n (omega (arith, many, nodes)) holds.each, ap (λ o. n * length o) holds.joined)
parts_light node (Parts.set set_components) levels contents n many h holds =
    let nodes = set_component_nodes node set_components h in
    let size : length contents ≡ length (concat (standing holds.encodings)) = ap length holds.joined ∙ size_of_order (standing holds.encodings) holds.order holds.permutes in
    omega (arith, many, nodes, set_components_light levels set_components holds.encodings n (omega (arith, many, nodes)) holds.each, ap (λ k. n * k) size)
