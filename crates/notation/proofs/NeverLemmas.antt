-- Lists of which one part is never good, and parts that are never small.
use Rattle.std.proofs.Common.{◌≡◌, ◌+◌, ◌≤◌, ℕ, suc, Bool, true, false, List, [], ◌∷◌, ◌++◌, Option, Some, None, map, length, refl, sym, ◌∙◌, subst, arith, length-append}
use Rattle.std.specs.List.{AllByRecursion}
use Rattle.std.proofs.lemmas.List.{map_push}
use Rattle.octets.specs.declared.tag.Tag.{Tag}
use Rattle.types.specs.Shape.{Shape, Requirement}
use Rattle.types.specs.View.{ComponentView, AlternativeView, components_of, alternatives_of}
use Rattle.types.specs.WellFormed.{nodes_of, nodes_of_components, nodes_of_alternatives, IsWellFormed}
use Rattle.types.proofs.ListLemmas.{all_append}
use Rattle.syntax.specs.declared.tree.Group.{Group}
use Rattle.syntax.specs.declared.tree.Group.TheVariants.{Sequence, Set}
use Rattle.syntax.specs.declared.tree.TagPrefix.{TagPrefix}
use Rattle.syntax.specs.Tree.{Ending, Form, tagged, list, of, choice, Tree}
use Rattle.syntax.specs.View.{components_of as written_components, alternatives_of as written_alternatives}
use Rattle.types.specs.Universal.{sequence_tag, set_tag}
use Rattle.builtin_types.specs.Universal.{list_of, repeated}
use Rattle.types.specs.Tagging.{tagged_by_default}
use Rattle.builtin_types.specs.Tagging.{tag_of, IsUntaggedChoice, context}
use Rattle.builtin_types.specs.Defaults.{IsRequirement}
use Rattle.builtin_types.specs.Names.{NamesDiffer}
use Rattle.notation.specs.Meaning.{IsMeaning}
use Rattle.notation.specs.Parts.{IsPart, IsComponent, IsAlternative}
use Rattle.notation.specs.Under.{IsUnder, IsExplicitAt, IsRoot}
use Rattle.notation.specs.Refused.{NeverHasType, HasNoTypeWithin, PartHasNoTypeWithin, ComponentsNever, AlternativesNever, IsSmall}
use Rattle.notation.proofs.UnderLemmas.{behind_tag, by_default-implicitly, by_default-explicitly}
use Rattle.notation.proofs.UniqueLemmas.{one_meaning}
use Rattle.notation.proofs.PartsLemmas.{parts_last}
use Rattle.notation.proofs.ListLemmas.{automatic_in, automatic_among, list-meaning, choice-meaning, of-meaning}
use Rattle.notation.proofs.WellFormedLemmas.{sequence_parts, set_parts, choice_parts, sequence_of_part, set_of_part, explicit_part}

module _ (IsGood : Shape → Type 0) (m : Tree) (automatic : Bool) where
  pub components_never-before : (ws : List (List ℕ × Form × Ending)) (w : List ℕ × Form × Ending) → ComponentsNever IsGood m automatic ws → ComponentsNever IsGood m automatic (ws ++ w ∷ [])
  components_never-before ws w h vs all good =
      let l = parts_last (IsComponent m automatic) 0 ws w vs all in
      let type : ComponentView → Shape = λ v. v.type in
      let both = all_append IsGood (map type l.front) (l.last.type ∷ []) (subst (AllByRecursion IsGood) (map_push type l.front l.last) (subst (λ (i : List ComponentView). AllByRecursion IsGood (map type i)) l.whole good)) in
      h l.front l.before both.0

  -- the last has no view that is good
  pub components_never-last : (ws : List (List ℕ × Form × Ending)) (w : List ℕ × Form × Ending) → ((view : ComponentView) → IsComponent m automatic (length ws) w view → IsGood view.type → ⊥) → ComponentsNever IsGood m automatic (ws ++ w ∷ [])
  components_never-last ws w h vs all good =
      let l = parts_last (IsComponent m automatic) 0 ws w vs all in
      let type : ComponentView → Shape = λ v. v.type in
      let both = all_append IsGood (map type l.front) (l.last.type ∷ []) (subst (AllByRecursion IsGood) (map_push type l.front l.last) (subst (λ (i : List ComponentView). AllByRecursion IsGood (map type i)) l.whole good)) in
      h l.last (subst (λ (n : ℕ). IsComponent m automatic n w l.last) (let e : 0 + length ws ≡ length ws = omega arith in e) l.one) both.1.0

  pub alternatives_never-before : (ws : List (List ℕ × Form)) (w : List ℕ × Form) → AlternativesNever IsGood m automatic ws → AlternativesNever IsGood m automatic (ws ++ w ∷ [])
  alternatives_never-before ws w h vs all good =
      let l = parts_last (IsAlternative m automatic) 0 ws w vs all in
      let type : AlternativeView → Shape = λ v. v.type in
      let both = all_append IsGood (map type l.front) (l.last.type ∷ []) (subst (AllByRecursion IsGood) (map_push type l.front l.last) (subst (λ (i : List AlternativeView). AllByRecursion IsGood (map type i)) l.whole good)) in
      h l.front l.before both.0

  pub alternatives_never-last : (ws : List (List ℕ × Form)) (w : List ℕ × Form) → ((view : AlternativeView) → IsAlternative m automatic (length ws) w view → IsGood view.type → ⊥) → AlternativesNever IsGood m automatic (ws ++ w ∷ [])
  alternatives_never-last ws w h vs all good =
      let l = parts_last (IsAlternative m automatic) 0 ws w vs all in
      let type : AlternativeView → Shape = λ v. v.type in
      let both = all_append IsGood (map type l.front) (l.last.type ∷ []) (subst (AllByRecursion IsGood) (map_push type l.front l.last) (subst (λ (i : List AlternativeView). AllByRecursion IsGood (map type i)) l.whole good)) in
      h l.last (subst (λ (n : ℕ). IsAlternative m automatic n w l.last) (let e : 0 + length ws ≡ length ws = omega arith in e) l.one) both.1.0

-- a part has one type, so a default that this type does not take is taken by none
pub one_part : (m : Tree) (differ : NamesDiffer (map (λ (assigned : List ℕ × Form). assigned.0) m.assignments)) (automatic : Bool) (place : ℕ) (form : Form) (type other : Shape) → IsPart m automatic place form type → IsPart m automatic place form other → type ≡ other
one_part m differ false place form type other d e = one_meaning m differ d other e
one_part m differ true place form type other (own, d, e) (another, g, f) = e ∙ subst (λ (i : Shape). tagged_by_default (context place) own ≡ tagged_by_default (context place) i) (one_meaning m differ d another g) refl ∙ sym f

pub no_view-default : (m : Tree) (differ : NamesDiffer (map (λ (assigned : List ℕ × Form). assigned.0) m.assignments)) (automatic : Bool) (place : ℕ) (written : List ℕ × Form × Ending) (type : Shape) → IsPart m automatic place written.1 type
    → ((requirement : Requirement) → IsRequirement type written.2 requirement → ⊥) → (view : ComponentView) → IsComponent m automatic place written view → ⊥
no_view-default m differ automatic place written type part none view one =
    none view.requirement (subst (λ (i : Shape). IsRequirement i written.2 view.requirement) (one_part m differ automatic place written.1 view.type type one.type part) one.requirement)

-- nothing has no node
pub some_nodes : (type : Shape) → 1 ≤ length (nodes_of type)
some_nodes (Shape.simple tag type) = omega arith
some_nodes (Shape.string tag type) = omega arith
some_nodes (Shape.sequence tag components) = omega arith
some_nodes (Shape.set tag components) = omega arith
some_nodes (Shape.sequence_of tag type) = omega arith
some_nodes (Shape.set_of tag type) = omega arith
some_nodes (Shape.choice alternatives) = omega arith
some_nodes (Shape.explicit tag type) = omega arith

pub no_type_within-0 : (m : Tree) (outer : Option Tag) (form : Form) → HasNoTypeWithin m 0 outer form
no_type_within-0 m outer form whole d small = let few = small.few in let some = some_nodes whole in absurd (omega (arith, few, some))

pub no_type_within-never : (m : Tree) (most : ℕ) (outer : Option Tag) (form : Form) → NeverHasType m form → HasNoTypeWithin m most outer form
no_type_within-never m most outer form h whole d small = h outer whole d small.good

-- where there are few nodes, none within a limit is none
pub no_type_within-root : (m : Tree) (most : ℕ) (outer tag : Option Tag) (form root : Form) → IsRoot m outer form tag root → HasNoTypeWithin m most tag root → HasNoTypeWithin m most outer form
no_type_within-root m most outer tag form root r h whole d small = h whole ((r.same whole).0 d) small

-- under an explicit tag
small_explicit : (most : ℕ) (outer : Option Tag) (tag : Tag) (type whole : Shape) → IsUnder outer (Shape.explicit tag type) whole → IsSmall (suc most) whole → IsSmall most type
small_explicit most None tag type whole u small = let s = subst (IsSmall (suc most)) u small in let few = s.few in record { good = explicit_part tag type s.good; few = omega (arith, few) }
small_explicit most (Some other) tag type whole u small = let s = subst (IsSmall (suc most)) u.1 small in let few = s.few in record { good = explicit_part other type s.good; few = omega (arith, few) }

pub no_type_within-explicit : (m : Tree) (most : ℕ) (outer : Option Tag) (prefix : TagPrefix) (form : Form) → IsExplicitAt m prefix form → HasNoTypeWithin m most None form → HasNoTypeWithin m (suc most) outer (tagged prefix form)
no_type_within-explicit m most outer prefix form explicit h whole d small =
    let b = behind_tag m prefix form d.type d.meaning in
    h b.0 (record { type = b.0; meaning = b.1; under = refl }) (small_explicit most outer (tag_of prefix) b.0 whole (subst (λ (i : Shape). IsUnder outer i whole) ((explicit b.0 d.type b.1).0 b.2) d.under) small)

-- SEQUENCE OF and SET OF
small_repeated : (most : ℕ) (group : Group) (outer : Option Tag) (type whole : Shape) → IsUnder outer (repeated group type) whole → IsSmall (suc most) whole → IsSmall most type
small_repeated most Sequence None type whole u small = let s = subst (IsSmall (suc most)) u small in let few = s.few in record { good = sequence_of_part sequence_tag type s.good; few = omega (arith, few) }
small_repeated most Sequence (Some tag) type whole u small = let s = subst (IsSmall (suc most)) u.1 small in let few = s.few in record { good = sequence_of_part tag type s.good; few = omega (arith, few) }
small_repeated most Set None type whole u small = let s = subst (IsSmall (suc most)) u small in let few = s.few in record { good = set_of_part set_tag type s.good; few = omega (arith, few) }
small_repeated most Set (Some tag) type whole u small = let s = subst (IsSmall (suc most)) u.1 small in let few = s.few in record { good = set_of_part tag type s.good; few = omega (arith, few) }

pub no_type_within-of : (m : Tree) (most : ℕ) (outer : Option Tag) (group : Group) (form : Form) → HasNoTypeWithin m most None form → HasNoTypeWithin m (suc most) outer (of group form)
no_type_within-of m most outer group form h whole d small =
    let b = of-meaning m group form d.type d.meaning in
    h b.0 (record { type = b.0; meaning = b.1; under = refl }) (small_repeated most group outer b.0 whole (subst (λ (i : Shape). IsUnder outer i whole) b.2 d.under) small)

-- lists
small_components : (most : ℕ) (vs : List ComponentView) → AllByRecursion IsWellFormed (map (λ (v : ComponentView). v.type) vs) → length (nodes_of_components (components_of vs)) ≤ most → AllByRecursion (IsSmall most) (map (λ (v : ComponentView). v.type) vs)
small_components most [] h few = tt
small_components most (v ∷ vs) h few =
    let long = length-append (nodes_of v.type) (nodes_of_components (components_of vs)) in
    (record { good = h.0; few = omega arith }, small_components most vs h.1 (omega arith))

small_list : (most : ℕ) (group : Group) (outer : Option Tag) (vs : List ComponentView) (whole : Shape) → IsUnder outer (list_of group (components_of vs)) whole → IsSmall (suc most) whole → AllByRecursion (IsSmall most) (map (λ (v : ComponentView). v.type) vs)
small_list most Sequence None vs whole u small = let s = subst (IsSmall (suc most)) u small in let few = s.few in small_components most vs (sequence_parts sequence_tag vs s.good) (omega (arith, few))
small_list most Sequence (Some tag) vs whole u small = let s = subst (IsSmall (suc most)) u.1 small in let few = s.few in small_components most vs (sequence_parts tag vs s.good) (omega (arith, few))
small_list most Set None vs whole u small = let s = subst (IsSmall (suc most)) u small in let few = s.few in small_components most vs (set_parts set_tag vs s.good) (omega (arith, few))
small_list most Set (Some tag) vs whole u small = let s = subst (IsSmall (suc most)) u.1 small in let few = s.few in small_components most vs (set_parts tag vs s.good) (omega (arith, few))

pub no_type_within-list : (m : Tree) (most : ℕ) (outer : Option Tag) (group : Group) (ws : List (List ℕ × Form × Ending)) → ComponentsNever (IsSmall most) m (automatic_in m ws) ws → HasNoTypeWithin m (suc most) outer (list group (written_components ws))
no_type_within-list m most outer group ws h whole d small =
    let l = list-meaning m group ws d.type d.meaning in
    h l.views l.parts (small_list most group outer l.views whole (subst (λ (i : Shape). IsUnder outer i whole) l.is d.under) small)

small_alternatives : (most : ℕ) (vs : List AlternativeView) → AllByRecursion IsWellFormed (map (λ (v : AlternativeView). v.type) vs) → length (nodes_of_alternatives (alternatives_of vs)) ≤ most → AllByRecursion (IsSmall most) (map (λ (v : AlternativeView). v.type) vs)
small_alternatives most [] h few = tt
small_alternatives most (v ∷ vs) h few =
    let long = length-append (nodes_of v.type) (nodes_of_alternatives (alternatives_of vs)) in
    (record { good = h.0; few = omega arith }, small_alternatives most vs h.1 (omega arith))

small_choice : (most : ℕ) (outer : Option Tag) (vs : List AlternativeView) (whole : Shape) → IsUnder outer (Shape.choice (alternatives_of vs)) whole → IsSmall (suc most) whole → AllByRecursion (IsSmall most) (map (λ (v : AlternativeView). v.type) vs)
small_choice most None vs whole u small = let s = subst (IsSmall (suc most)) u small in let few = s.few in small_alternatives most vs (choice_parts vs s.good) (omega (arith, few))
small_choice most (Some tag) vs whole u small = absurd (u.0 tt)

pub no_type_within-choice : (m : Tree) (most : ℕ) (outer : Option Tag) (ws : List (List ℕ × Form)) → AlternativesNever (IsSmall most) m (automatic_among m ws) ws → HasNoTypeWithin m (suc most) outer (choice (written_alternatives ws))
no_type_within-choice m most outer ws h whole d small =
    let l = choice-meaning m ws d.type d.meaning in
    h l.views l.parts (small_choice most outer l.views whole (subst (λ (i : Shape). IsUnder outer i whole) l.is d.under) small)

-- parts
pub no_part_within-plain : (m : Tree) (most place : ℕ) (form : Form) → HasNoTypeWithin m most None form → PartHasNoTypeWithin m most false place form
no_part_within-plain m most place form h type d small = h type (record { type = type; meaning = d; under = refl }) small

pub no_part_within-automatic : (m : Tree) (most place : ℕ) (form : Form) → ((type : Shape) → IsMeaning m form type → IsUntaggedChoice type → ⊥) → HasNoTypeWithin m most (Some (context place)) form → PartHasNoTypeWithin m most true place form
no_part_within-automatic m most place form others h type (own, d, e) small =
    h type (record { type = own; meaning = d; under = (others own d, subst (λ (i : Shape). type ≡ i) (by_default-implicitly (context place) own (others own d)) e) }) small

pub no_part_within-choice : (m : Tree) (most place : ℕ) (form : Form) → ((type : Shape) → IsMeaning m form type → IsUntaggedChoice type) → HasNoTypeWithin m most None form → PartHasNoTypeWithin m (suc most) true place form
no_part_within-choice m most place form choices h type (own, d, e) small =
    let whole = subst (λ (i : Shape). type ≡ i) (by_default-explicitly (context place) own (choices own d)) e in
    h own (record { type = own; meaning = d; under = refl }) (small_explicit most None (context place) own type whole small)
