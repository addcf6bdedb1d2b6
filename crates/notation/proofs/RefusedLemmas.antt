-- Expressions that mean no well-formed type, since a part of them means none, or a limit is not kept.
use Rattle.std.proofs.Common.{◌≡◌, ◌<◌, ◌≤◌, ◌⊎◌, inl, inr, ℕ, true, false, List, Option, Some, None, map, length, refl, sym, subst, arith}
use Rattle.std.specs.List.{AllByRecursion}
use Rattle.octets.specs.declared.tag.Tag.{Tag}
use Rattle.types.specs.Shape.{Shape}
use Rattle.types.specs.View.{ComponentView, AlternativeView, components_of, alternatives_of}
use Rattle.types.specs.WellFormed.{nodes_of, levels_of, IsWellFormed}
use Rattle.syntax.specs.declared.tree.Group.{Group}
use Rattle.syntax.specs.declared.tree.Group.TheVariants.{Sequence, Set}
use Rattle.syntax.specs.declared.tree.TagPrefix.{TagPrefix}
use Rattle.syntax.specs.Tree.{Ending, Form, tagged, list, of, choice, reference, Tree}
use Rattle.syntax.specs.View.{components_of as written_components, alternatives_of as written_alternatives}
use Rattle.builtin_types.specs.Tagging.{tag_of, IsUntaggedChoice, context}
use Rattle.builtin_types.specs.Names.{NamesDiffer}
use Rattle.builtin_types.specs.Universal.{list_of, repeated}
use Rattle.notation.specs.Meaning.{component_names, alternative_names, IsAssigned, IsMeaning, of_reference}
use Rattle.notation.specs.Under.{IsUnder, outermost, IsExplicitAt, IsImplicitAt, IsRoot}
use Rattle.notation.specs.Size.{counted, HaveSize}
use Rattle.notation.specs.Refused.{HasNoType, NeverHasType, PartHasNoType, ComponentsHaveNoTypes, AlternativesHaveNoTypes}
use Rattle.notation.proofs.UnderLemmas.{behind_tag, under_implicit, by_default-implicitly, by_default-explicitly}
use Rattle.notation.proofs.ListLemmas.{automatic_in, automatic_among, list-meaning, choice-meaning, of-meaning}
use Rattle.notation.proofs.SizeLemmas.{size_under}
use Rattle.notation.proofs.WellFormedLemmas.{sequence_parts, set_parts, choice_parts, sequence_of_part, set_of_part, explicit_part}

-- an expression that means nothing
pub never-nothing : (m : Tree) (form : Form) → ((type : Shape) → IsMeaning m form type → ⊥) → NeverHasType m form
never-nothing m form none outer whole h good = none h.type h.meaning

-- along a root
pub no_type-root : (m : Tree) (outer tag : Option Tag) (form root : Form) → IsRoot m outer form tag root → HasNoType m tag root → HasNoType m outer form
no_type-root m outer tag form root r h whole d good = h whole ((r.same whole).0 d) good

pub never-reference : (m : Tree) (name : List ℕ) (form : Form) → ((other : Form) → IsAssigned m name other → form ≡ other) → NeverHasType m form → NeverHasType m (reference name)
never-reference m name form once h outer whole d good = by_meaning d.meaning
  where
    by_meaning : IsMeaning m (reference name) d.type → ⊥
    by_meaning (of_reference {form = other} a e) = h outer whole (record { type = d.type; meaning = subst (λ (i : Form). IsMeaning m i d.type) (sym (once other a)) e; under = d.under }) good

pub never-unassigned : (m : Tree) (name : List ℕ) → ((form : Form) → IsAssigned m name form → ⊥) → NeverHasType m (reference name)
never-unassigned m name none outer whole d good = by_meaning d.meaning
  where
    by_meaning : IsMeaning m (reference name) d.type → ⊥
    by_meaning (of_reference {form = other} a e) = none other a

-- tagged expressions
under_explicit : (outer : Option Tag) (tag : Tag) (type whole : Shape) → IsUnder outer (Shape.explicit tag type) whole → IsWellFormed whole → IsWellFormed type
under_explicit None tag type whole u good = explicit_part tag type (subst IsWellFormed u good)
under_explicit (Some other) tag type whole u good = explicit_part other type (subst IsWellFormed u.1 good)

pub never-explicit : (m : Tree) (prefix : TagPrefix) (form : Form) → IsExplicitAt m prefix form → HasNoType m None form → NeverHasType m (tagged prefix form)
never-explicit m prefix form explicit h outer whole d good =
    let b = behind_tag m prefix form d.type d.meaning in
    let within = under_explicit outer (tag_of prefix) b.0 whole (subst (λ (i : Shape). IsUnder outer i whole) ((explicit b.0 d.type b.1).0 b.2) d.under) good in
    h b.0 (record { type = b.0; meaning = b.1; under = refl }) within

pub never-implicit : (m : Tree) (prefix : TagPrefix) (form : Form) → IsImplicitAt m prefix form → NeverHasType m form → NeverHasType m (tagged prefix form)
never-implicit m prefix form implicit h outer whole d good = h (Some (outermost outer (tag_of prefix))) whole ((under_implicit m outer prefix form whole implicit).0 d) good

-- an implicit tag in front of an untagged CHOICE means nothing
pub never-implicit_choice : (m : Tree) (prefix : TagPrefix) (form : Form) → IsImplicitAt m prefix form → ((type : Shape) → IsMeaning m form type → IsUntaggedChoice type) → NeverHasType m (tagged prefix form)
never-implicit_choice m prefix form implicit choices outer whole d good =
    let b = behind_tag m prefix form d.type d.meaning in
    ((implicit b.0 d.type b.1).0 b.2).0 (choices b.0 b.1)

-- SEQUENCE OF and SET OF
under_repeated : (group : Group) (outer : Option Tag) (type whole : Shape) → IsUnder outer (repeated group type) whole → IsWellFormed whole → IsWellFormed type
under_repeated Sequence None type whole u good = sequence_of_part _ type (subst IsWellFormed u good)
under_repeated Sequence (Some tag) type whole u good = sequence_of_part tag type (subst IsWellFormed u.1 good)
under_repeated Set None type whole u good = set_of_part _ type (subst IsWellFormed u good)
under_repeated Set (Some tag) type whole u good = set_of_part tag type (subst IsWellFormed u.1 good)

pub never-of : (m : Tree) (group : Group) (form : Form) → HasNoType m None form → NeverHasType m (of group form)
never-of m group form h outer whole d good =
    let b = of-meaning m group form d.type d.meaning in
    let within = under_repeated group outer b.0 whole (subst (λ (i : Shape). IsUnder outer i whole) b.2 d.under) good in
    h b.0 (record { type = b.0; meaning = b.1; under = refl }) within

-- parts of lists
pub no_part-plain : (m : Tree) (place : ℕ) (form : Form) → HasNoType m None form → PartHasNoType m false place form
no_part-plain m place form h type d good = h type (record { type = type; meaning = d; under = refl }) good

pub no_part-automatic : (m : Tree) (place : ℕ) (form : Form) → ((type : Shape) → IsMeaning m form type → IsUntaggedChoice type → ⊥) → HasNoType m (Some (context place)) form → PartHasNoType m true place form
no_part-automatic m place form others h type (own, d, e) good =
    h type (record { type = own; meaning = d; under = (others own d, subst (λ (i : Shape). type ≡ i) (by_default-implicitly (context place) own (others own d)) e) }) good

pub no_part-choice : (m : Tree) (place : ℕ) (form : Form) → ((type : Shape) → IsMeaning m form type → IsUntaggedChoice type) → HasNoType m None form → PartHasNoType m true place form
no_part-choice m place form choices h type (own, d, e) good =
    let whole = subst (λ (i : Shape). type ≡ i) (by_default-explicitly (context place) own (choices own d)) e in
    h own (record { type = own; meaning = d; under = refl }) (explicit_part (context place) own (subst IsWellFormed whole good))

-- SEQUENCE and SET
pub under_list : (group : Group) (outer : Option Tag) (vs : List ComponentView) (whole : Shape) → IsUnder outer (list_of group (components_of vs)) whole → IsWellFormed whole → AllByRecursion IsWellFormed (map (λ (v : ComponentView). v.type) vs)
under_list Sequence None vs whole u good = sequence_parts _ vs (subst IsWellFormed u good)
under_list Sequence (Some tag) vs whole u good = sequence_parts tag vs (subst IsWellFormed u.1 good)
under_list Set None vs whole u good = set_parts _ vs (subst IsWellFormed u good)
under_list Set (Some tag) vs whole u good = set_parts tag vs (subst IsWellFormed u.1 good)

pub never-list : (m : Tree) (group : Group) (ws : List (List ℕ × Form × Ending)) → ComponentsHaveNoTypes m (automatic_in m ws) ws → NeverHasType m (list group (written_components ws))
never-list m group ws h outer whole d good =
    let l = list-meaning m group ws d.type d.meaning in
    h l.views l.parts (under_list group outer l.views whole (subst (λ (i : Shape). IsUnder outer i whole) l.is d.under) good)

-- a CHOICE: under a tag from outside it means nothing
under_choice : (outer : Option Tag) (vs : List AlternativeView) (whole : Shape) → IsUnder outer (Shape.choice (alternatives_of vs)) whole → IsWellFormed whole → AllByRecursion IsWellFormed (map (λ (v : AlternativeView). v.type) vs)
under_choice None vs whole u good = choice_parts vs (subst IsWellFormed u good)
under_choice (Some tag) vs whole u good = absurd (u.0 tt)

pub never-choice : (m : Tree) (ws : List (List ℕ × Form)) → AlternativesHaveNoTypes m (automatic_among m ws) ws → NeverHasType m (choice (written_alternatives ws))
never-choice m ws h outer whole d good =
    let l = choice-meaning m ws d.type d.meaning in
    h l.views l.parts (under_choice outer l.views whole (subst (λ (i : Shape). IsUnder outer i whole) l.is d.under) good)

-- equal names
pub never-equal_components : (m : Tree) (group : Group) (ws : List (List ℕ × Form × Ending)) → (NamesDiffer (component_names (written_components ws)) → ⊥) → NeverHasType m (list group (written_components ws))
never-equal_components m group ws same outer whole d good = same (list-meaning m group ws d.type d.meaning).differ

pub never-equal_alternatives : (m : Tree) (ws : List (List ℕ × Form)) → (NamesDiffer (alternative_names (written_alternatives ws)) → ⊥) → NeverHasType m (choice (written_alternatives ws))
never-equal_alternatives m ws same outer whole d good = same (choice-meaning m ws d.type d.meaning).differ

-- too many nodes or levels
too_many : (nodes levels n l : ℕ) → (4_096 < nodes) ⊎ (60 < levels) → nodes ≡ counted n → levels ≡ counted l → n ≤ 4_096 → l ≤ 60 → ⊥
too_many nodes levels n l (inl many) a b few low = absurd (omega (arith, many, a, few))
too_many nodes levels n l (inr deep) a b few low = absurd (omega (arith, deep, b, low))

pub never-large : (m : Tree) (form : Form) (nodes levels : ℕ) → HaveSize m form nodes levels → (4_096 < nodes) ⊎ (60 < levels) → NeverHasType m form
never-large m form nodes levels h large outer whole d good =
    let size = size_under outer d.type whole nodes levels d.under (h d.type d.meaning) in
    too_many nodes levels (length (nodes_of whole)) (levels_of whole) large size.nodes_are size.levels_are good.limits.nodes good.limits.levels
