-- An expression means at most one type, and so does a name.
use Rattle.std.proofs.Common.{◌≡◌, ℕ, List, map, refl, sym, ap, ◌∙◌, subst}
use Rattle.types.specs.Shape.{EnumerationItem, SimpleType, Requirement, Shape, Components, component, Alternatives, alternative}
use Rattle.syntax.specs.declared.tree.Simple.{Simple}
use Rattle.syntax.specs.declared.tree.Simple.TheVariants.{Boolean, Integer, Null, BitString, OctetString, ObjectIdentifier, RelativeOid, Utf8String, NumericString, PrintableString, Ia5String, VisibleString, BmpString, UtcTime, GeneralizedTime}
use Rattle.syntax.specs.declared.tree.Group.{Group}
use Rattle.syntax.specs.declared.tree.Group.TheVariants.{Sequence, Set}
use Rattle.syntax.specs.Tree.{Form, reference, Components as WrittenComponents, Alternatives as WrittenAlternatives, Tree}
use Rattle.types.specs.Universal.{enumerated_tag}
use Rattle.builtin_types.specs.Universal.{named_by_words, list_of, repeated}
use Rattle.builtin_types.specs.Tagging.{tag_of, IsTagged, components_in, alternatives_in}
use Rattle.builtin_types.specs.Numbering.{written_numbers}
use Rattle.builtin_types.specs.Defaults.{IsRequirement}
use Rattle.builtin_types.specs.Names.{NamesDiffer}
use Rattle.builtin_types.proofs.NameLemmas.{one_of_name}
use Rattle.builtin_types.proofs.NumberingLemmas.{one_numbering, numbered_names}
use Rattle.builtin_types.proofs.DefaultLemmas.{HasNamesOnce, one_requirement}
use Rattle.builtin_types.proofs.TaggingLemmas.{one_tagged, once_tagged}
use Rattle.notation.specs.Meaning.{IsAssigned, IsMeaning, of_words, of_reference, of_tag, of_items, of_named_bits, of_components, of_item_type, of_alternatives, AreMeanings, no_more, one_more, AreAlternativeMeanings, no_other, one_other, Means, NameMeans}

once_words : (words : Simple) → HasNamesOnce (named_by_words words)
once_words Boolean = tt
once_words Integer = tt
once_words Null = tt
once_words BitString = tt
once_words OctetString = tt
once_words ObjectIdentifier = tt
once_words RelativeOid = tt
once_words Utf8String = tt
once_words NumericString = tt
once_words PrintableString = tt
once_words Ia5String = tt
once_words VisibleString = tt
once_words BmpString = tt
once_words UtcTime = tt
once_words GeneralizedTime = tt

once_list : (group : Group) (types : Components) → HasNamesOnce (list_of group types)
once_list Sequence types = tt
once_list Set types = tt

once_repeated : (group : Group) (type : Shape) → HasNamesOnce (repeated group type)
once_repeated Sequence type = tt
once_repeated Set type = tt

-- the items of an ENUMERATED that is meant have different names
pub once_meant : {m : Tree} {form : Form} {type : Shape} → IsMeaning m form type → HasNamesOnce type
once_meant (of_words {words} e) = subst HasNamesOnce (sym e) (once_words words)
once_meant (of_reference a d) = once_meant d
once_meant {m} (of_tag {prefix} {type} {whole} d t) = once_tagged m.tagging prefix.mode (tag_of prefix) type whole (once_meant d) t
once_meant (of_items {entries} {items} differ numbered e) = subst HasNamesOnce (sym e) (subst NamesDiffer (sym (numbered_names (written_numbers entries) 0 entries items numbered)) differ)
once_meant (of_named_bits differ e) = subst HasNamesOnce (sym e) tt
once_meant {m} (of_components {group} {written} {types} differ ds e) = subst HasNamesOnce (sym e) (once_list group (components_in m.tagging written types))
once_meant (of_item_type {group} {item} d e) = subst HasNamesOnce (sym e) (once_repeated group item)
once_meant (of_alternatives differ ds e) = subst HasNamesOnce (sym e) tt

-- a name is assigned once
pub one_assignment : (m : Tree) → NamesDiffer (map (λ (assigned : List ℕ × Form). assigned.0) m.assignments) → (name : List ℕ) (form other : Form) → IsAssigned m name form → IsAssigned m name other → form ≡ other
one_assignment m differ name form other h g = ap (λ (assigned : List ℕ × Form). assigned.1) (one_of_name (λ (assigned : List ℕ × Form). assigned.0) m.assignments differ (name, form) (name, other) h g refl)

module _ (m : Tree) (differ : NamesDiffer (map (λ (assigned : List ℕ × Form). assigned.0) m.assignments)) where
  mutual
    pub one_meaning : {form : Form} {type : Shape} → IsMeaning m form type → (other : Shape) → IsMeaning m form other → type ≡ other
    one_meaning (of_words e) other (of_words f) = e ∙ sym f
    one_meaning (of_reference {name} {form} a d) other (of_reference {form = g} b f) =
        one_meaning d other (subst (λ (i : Form). IsMeaning m i other) (sym (one_assignment m differ name form g a b)) f)
    one_meaning (of_tag {prefix} {type} {whole} d t) other (of_tag {type = within} f u) =
        one_tagged m.tagging prefix.mode (tag_of prefix) within whole other (subst (λ (i : Shape). IsTagged m.tagging prefix.mode (tag_of prefix) i whole) (one_meaning d within f) t) u
    one_meaning (of_items {entries} {items} n a e) other (of_items {items = others} k b f) =
        e ∙ ap (λ (i : List EnumerationItem). Shape.simple enumerated_tag (SimpleType.enumerated i)) (one_numbering (written_numbers entries) 0 entries items others a b) ∙ sym f
    one_meaning (of_named_bits n e) other (of_named_bits k f) = e ∙ sym f
    one_meaning (of_components {group} {written} {types} n ds e) other (of_components {types = others} k fs f) =
        e ∙ ap (λ (i : Components). list_of group (components_in m.tagging written i)) (one_list ds others fs) ∙ sym f
    one_meaning (of_item_type {group} {item} d e) other (of_item_type {item = within} g f) = e ∙ ap (repeated group) (one_meaning d within g) ∙ sym f
    one_meaning (of_alternatives {written} {types} n ds e) other (of_alternatives {types = others} k fs f) =
        e ∙ ap (λ (i : Alternatives). Shape.choice (alternatives_in m.tagging written i)) (one_choice ds others fs) ∙ sym f

    pub one_list : {written : WrittenComponents} {types : Components} → AreMeanings m written types → (others : Components) → AreMeanings m written others → types ≡ others
    one_list no_more others no_more = refl
    one_list (one_more {name} {ending} {type} {requirement} {types} d r ds) others (one_more {type = other} {requirement = need} {types = rest} f q fs) =
        let same = one_meaning d other f in
        let needed = one_requirement other ending requirement need (once_meant f) (subst (λ (i : Shape). IsRequirement i ending requirement) same r) q in
        let tail = one_list ds rest fs in
        ap (λ (i : Shape). component name i requirement types) same ∙ ap (λ (i : Requirement). component name other i types) needed ∙ ap (component name other need) tail

    pub one_choice : {written : WrittenAlternatives} {types : Alternatives} → AreAlternativeMeanings m written types → (others : Alternatives) → AreAlternativeMeanings m written others → types ≡ others
    one_choice no_other others no_other = refl
    one_choice (one_other {name} {type} {types} d ds) others (one_other {type = other} {types = rest} f fs) =
        ap (λ (i : Shape). alternative name i types) (one_meaning d other f) ∙ ap (alternative name other) (one_choice ds rest fs)

pub one_type : (m : Tree) (form : Form) (type other : Shape) → Means m form type → Means m form other → type ≡ other
one_type m form type other h g = one_meaning m h.names_differ h.meaning other g.meaning

pub one_type_of_name : (m : Tree) (name : List ℕ) (type other : Shape) → NameMeans m name type → NameMeans m name other → type ≡ other
one_type_of_name m name type other h g = one_type m (reference name) type other h g
