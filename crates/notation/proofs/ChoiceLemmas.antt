-- Which expressions mean an untagged CHOICE, and which never do.
use Rattle.std.proofs.Common.{◌≡◌, ℕ, List, sym, subst}
use Rattle.octets.specs.declared.tag.Tag.{Tag}
use Rattle.types.specs.Shape.{Shape}
use Rattle.syntax.specs.declared.tree.Simple.{Simple}
use Rattle.syntax.specs.declared.tree.Simple.TheVariants.{Boolean, Integer, Null, BitString, OctetString, ObjectIdentifier, RelativeOid, Utf8String, NumericString, PrintableString, Ia5String, VisibleString, BmpString, UtcTime, GeneralizedTime}
use Rattle.syntax.specs.declared.tree.Group.{Group}
use Rattle.syntax.specs.declared.tree.Group.TheVariants.{Sequence, Set}
use Rattle.syntax.specs.declared.tree.TagPrefix.{TagPrefix}
use Rattle.syntax.specs.declared.tree.TagMode.{TagMode}
use Rattle.syntax.specs.declared.tree.TagMode.TheVariants.{Unmarked, Implicit, Explicit}
use Rattle.syntax.specs.declared.tree.Tagging.{Tagging}
use Rattle.syntax.specs.declared.tree.Tagging.TheVariants.{Explicit as ExplicitTags, Implicit as ImplicitTags, Automatic as AutomaticTags}
use Rattle.syntax.specs.Tree.{Entry, Form, tagged, list, of, choice, enumerated, named_bits, simple, reference, Components as WrittenComponents, Alternatives as WrittenAlternatives, Tree}
use Rattle.builtin_types.specs.Universal.{named_by_words}
use Rattle.types.specs.Tagging.{tagged_by_default}
use Rattle.builtin_types.specs.Tagging.{tag_of, IsUntaggedChoice, IsTagged}
use Rattle.notation.specs.Meaning.{IsAssigned, IsMeaning, of_words, of_reference, of_tag, of_items, of_named_bits, of_components, of_item_type, of_alternatives}
use Rattle.notation.proofs.UnderLemmas.{no_choice-implicitly}

pub choice-untagged : (m : Tree) (alternatives : WrittenAlternatives) (type : Shape) → IsMeaning m (choice alternatives) type → IsUntaggedChoice type
choice-untagged m alternatives type (of_alternatives n ds e) = subst IsUntaggedChoice (sym e) tt

no_choice-default : (tag : Tag) (type : Shape) → IsUntaggedChoice (tagged_by_default tag type) → ⊥
no_choice-default tag (Shape.simple other type) c = c
no_choice-default tag (Shape.string other type) c = c
no_choice-default tag (Shape.sequence other components) c = c
no_choice-default tag (Shape.set other components) c = c
no_choice-default tag (Shape.sequence_of other type) c = c
no_choice-default tag (Shape.set_of other type) c = c
no_choice-default tag (Shape.choice alternatives) c = c
no_choice-default tag (Shape.explicit other type) c = c

no_choice-of_tag : (environment : Tagging) (mode : TagMode) (tag : Tag) (type whole : Shape) → IsTagged environment mode tag type whole → IsUntaggedChoice whole → ⊥
no_choice-of_tag environment Explicit tag type whole t c = subst IsUntaggedChoice t c
no_choice-of_tag environment Implicit tag type whole t c = no_choice-implicitly tag type t.0 (subst IsUntaggedChoice t.1 c)
no_choice-of_tag ExplicitTags Unmarked tag type whole t c = subst IsUntaggedChoice t c
no_choice-of_tag ImplicitTags Unmarked tag type whole t c = no_choice-default tag type (subst IsUntaggedChoice t c)
no_choice-of_tag AutomaticTags Unmarked tag type whole t c = no_choice-default tag type (subst IsUntaggedChoice t c)

pub no_choice-tagged : (m : Tree) (prefix : TagPrefix) (form : Form) (type : Shape) → IsMeaning m (tagged prefix form) type → IsUntaggedChoice type → ⊥
no_choice-tagged m prefix form type (of_tag {type = within} d t) c = no_choice-of_tag m.tagging prefix.mode (tag_of prefix) within type t c

pub no_choice-list : (m : Tree) (group : Group) (components : WrittenComponents) (type : Shape) → IsMeaning m (list group components) type → IsUntaggedChoice type → ⊥
no_choice-list m Sequence components type (of_components n ds e) c = subst IsUntaggedChoice e c
no_choice-list m Set components type (of_components n ds e) c = subst IsUntaggedChoice e c

pub no_choice-of : (m : Tree) (group : Group) (form : Form) (type : Shape) → IsMeaning m (of group form) type → IsUntaggedChoice type → ⊥
no_choice-of m Sequence form type (of_item_type d e) c = subst IsUntaggedChoice e c
no_choice-of m Set form type (of_item_type d e) c = subst IsUntaggedChoice e c

pub no_choice-enumerated : (m : Tree) (entries : List Entry) (type : Shape) → IsMeaning m (enumerated entries) type → IsUntaggedChoice type → ⊥
no_choice-enumerated m entries type (of_items n a e) c = subst IsUntaggedChoice e c

pub no_choice-named_bits : (m : Tree) (bits : List (List ℕ × ℕ)) (type : Shape) → IsMeaning m (named_bits bits) type → IsUntaggedChoice type → ⊥
no_choice-named_bits m bits type (of_named_bits n e) c = subst IsUntaggedChoice e c

no_choice-words : (words : Simple) → IsUntaggedChoice (named_by_words words) → ⊥
no_choice-words Boolean c = c
no_choice-words Integer c = c
no_choice-words Null c = c
no_choice-words BitString c = c
no_choice-words OctetString c = c
no_choice-words ObjectIdentifier c = c
no_choice-words RelativeOid c = c
no_choice-words Utf8String c = c
no_choice-words NumericString c = c
no_choice-words PrintableString c = c
no_choice-words Ia5String c = c
no_choice-words VisibleString c = c
no_choice-words BmpString c = c
no_choice-words UtcTime c = c
no_choice-words GeneralizedTime c = c

pub no_choice-simple : (m : Tree) (words : Simple) (type : Shape) → IsMeaning m (simple words) type → IsUntaggedChoice type → ⊥
no_choice-simple m words type (of_words e) c = no_choice-words words (subst IsUntaggedChoice e c)

-- a reference is seen through, where no other expression is assigned to the name
pub choice-reference : (m : Tree) (name : List ℕ) (form : Form) → ((other : Form) → IsAssigned m name other → form ≡ other) → ((type : Shape) → IsMeaning m form type → IsUntaggedChoice type)
    → (type : Shape) → IsMeaning m (reference name) type → IsUntaggedChoice type
choice-reference m name form once choices type (of_reference {form = other} a d) = choices type (subst (λ (i : Form). IsMeaning m i type) (sym (once other a)) d)

pub no_choice-reference : (m : Tree) (name : List ℕ) (form : Form) → ((other : Form) → IsAssigned m name other → form ≡ other) → ((type : Shape) → IsMeaning m form type → IsUntaggedChoice type → ⊥)
    → (type : Shape) → IsMeaning m (reference name) type → IsUntaggedChoice type → ⊥
no_choice-reference m name form once others type (of_reference {form = other} a d) = others type (subst (λ (i : Form). IsMeaning m i type) (sym (once other a)) d)
