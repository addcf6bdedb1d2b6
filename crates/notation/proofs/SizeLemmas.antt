-- The nodes and levels of what an expression means are those of its parts together.
use Rattle.std.proofs.Common.{◌≡◌, ◌+◌, ℕ, max, Bool, true, false, List, [], ◌∷◌, ◌++◌, Option, Some, None, length, refl, sym, ◌∙◌, subst, arith, length-append}
use Rattle.octets.specs.declared.tag.Tag.{Tag}
use Rattle.types.specs.Shape.{Shape, Components}
use Rattle.types.specs.View.{ComponentView, components_of}
use Rattle.types.specs.WellFormed.{nodes_of, levels_of, nodes_of_components, levels_of_components}
use Rattle.syntax.specs.declared.tree.Simple.{Simple}
use Rattle.syntax.specs.declared.tree.Simple.TheVariants.{Boolean, Integer, Null, BitString, OctetString, ObjectIdentifier, RelativeOid, Utf8String, NumericString, PrintableString, Ia5String, VisibleString, BmpString, UtcTime, GeneralizedTime}
use Rattle.syntax.specs.declared.tree.Group.{Group}
use Rattle.syntax.specs.declared.tree.Group.TheVariants.{Sequence, Set}
use Rattle.syntax.specs.declared.tree.TagPrefix.{TagPrefix}
use Rattle.syntax.specs.Tree.{Ending, Entry, Form, tagged, list, of, enumerated, named_bits, simple, reference, Tree}
use Rattle.syntax.specs.View.{components_of as written_components}
use Rattle.builtin_types.specs.Universal.{named_by_words, list_of, repeated}
use Rattle.types.specs.Tagging.{tagged_implicitly}
use Rattle.builtin_types.specs.Tagging.{tag_of, IsUntaggedChoice, context}
use Rattle.notation.specs.Meaning.{IsAssigned, IsMeaning, of_words, of_reference, of_items, of_named_bits}
use Rattle.notation.specs.Parts.{IsPart, IsComponent}
use Rattle.notation.specs.Under.{IsUnder, IsExplicitAt, IsImplicitAt}
use Rattle.notation.specs.Size.{counted, HasSize, HaveSize, PartHasSize, AreOfSize, ComponentsHaveSize}
use Rattle.notation.proofs.UnderLemmas.{behind_tag, by_default-implicitly, by_default-explicitly}
use Rattle.notation.proofs.PartsLemmas.{parts_last}
use Rattle.notation.proofs.ListLemmas.{automatic_in, list-meaning, of-meaning}

-- along equal types
along : (type other : Shape) (nodes levels : ℕ) → type ≡ other → HasSize other nodes levels → HasSize type nodes levels
along type other nodes levels e h = subst (λ (i : Shape). HasSize i nodes levels) (sym e) h

pub size_implicitly : (tag : Tag) (type : Shape) (nodes levels : ℕ) → HasSize type nodes levels → HasSize (tagged_implicitly tag type) nodes levels
size_implicitly tag (Shape.simple other type) nodes levels h = record { nodes_are = h.nodes_are; levels_are = h.levels_are }
size_implicitly tag (Shape.string other type) nodes levels h = record { nodes_are = h.nodes_are; levels_are = h.levels_are }
size_implicitly tag (Shape.sequence other components) nodes levels h = record { nodes_are = h.nodes_are; levels_are = h.levels_are }
size_implicitly tag (Shape.set other components) nodes levels h = record { nodes_are = h.nodes_are; levels_are = h.levels_are }
size_implicitly tag (Shape.sequence_of other type) nodes levels h = record { nodes_are = h.nodes_are; levels_are = h.levels_are }
size_implicitly tag (Shape.set_of other type) nodes levels h = record { nodes_are = h.nodes_are; levels_are = h.levels_are }
size_implicitly tag (Shape.choice alternatives) nodes levels h = h
size_implicitly tag (Shape.explicit other type) nodes levels h = record { nodes_are = h.nodes_are; levels_are = h.levels_are }

pub size_under : (outer : Option Tag) (type whole : Shape) (nodes levels : ℕ) → IsUnder outer type whole → HasSize type nodes levels → HasSize whole nodes levels
size_under None type whole nodes levels u h = along whole type nodes levels u h
size_under (Some tag) type whole nodes levels u h = along whole (tagged_implicitly tag type) nodes levels u.1 (size_implicitly tag type nodes levels h)

pub size_explicit : (tag : Tag) (type : Shape) (nodes levels : ℕ) → HasSize type nodes levels → HasSize (Shape.explicit tag type) (counted (nodes + 1)) (counted (levels + 1))
size_explicit tag type nodes levels h = let a = h.nodes_are in let b = h.levels_are in record { nodes_are = omega (arith, a); levels_are = omega (arith, b) }

-- by cases on the expression
words_size : (words : Simple) → HasSize (named_by_words words) 1 0
words_size Boolean = record { nodes_are = refl; levels_are = refl }
words_size Integer = record { nodes_are = refl; levels_are = refl }
words_size Null = record { nodes_are = refl; levels_are = refl }
words_size BitString = record { nodes_are = refl; levels_are = refl }
words_size OctetString = record { nodes_are = refl; levels_are = refl }
words_size ObjectIdentifier = record { nodes_are = refl; levels_are = refl }
words_size RelativeOid = record { nodes_are = refl; levels_are = refl }
words_size Utf8String = record { nodes_are = refl; levels_are = refl }
words_size NumericString = record { nodes_are = refl; levels_are = refl }
words_size PrintableString = record { nodes_are = refl; levels_are = refl }
words_size Ia5String = record { nodes_are = refl; levels_are = refl }
words_size VisibleString = record { nodes_are = refl; levels_are = refl }
words_size BmpString = record { nodes_are = refl; levels_are = refl }
words_size UtcTime = record { nodes_are = refl; levels_are = refl }
words_size GeneralizedTime = record { nodes_are = refl; levels_are = refl }

pub size-simple : (m : Tree) (words : Simple) → HaveSize m (simple words) 1 0
size-simple m words type (of_words e) = along type (named_by_words words) 1 0 e (words_size words)

pub size-enumerated : (m : Tree) (entries : List Entry) → HaveSize m (enumerated entries) 1 0
size-enumerated m entries type (of_items differ numbered e) = subst (λ (i : Shape). HasSize i 1 0) (sym e) (record { nodes_are = refl; levels_are = refl })

pub size-named_bits : (m : Tree) (bits : List (List ℕ × ℕ)) → HaveSize m (named_bits bits) 1 0
size-named_bits m bits type (of_named_bits differ e) = subst (λ (i : Shape). HasSize i 1 0) (sym e) (record { nodes_are = refl; levels_are = refl })

-- where no other expression is assigned to the name
pub size-reference : (m : Tree) (name : List ℕ) (form : Form) (nodes levels : ℕ) → ((other : Form) → IsAssigned m name other → form ≡ other) → HaveSize m form nodes levels → HaveSize m (reference name) nodes levels
size-reference m name form nodes levels once h type (of_reference {form = other} a d) = h type (subst (λ (i : Form). IsMeaning m i type) (sym (once other a)) d)

pub size-explicit_tag : (m : Tree) (prefix : TagPrefix) (form : Form) (nodes levels : ℕ) → IsExplicitAt m prefix form → HaveSize m form nodes levels → HaveSize m (tagged prefix form) (counted (nodes + 1)) (counted (levels + 1))
size-explicit_tag m prefix form nodes levels explicit h type d =
    let b = behind_tag m prefix form type d in
    along type (Shape.explicit (tag_of prefix) b.0) (counted (nodes + 1)) (counted (levels + 1)) ((explicit b.0 type b.1).0 b.2) (size_explicit (tag_of prefix) b.0 nodes levels (h b.0 b.1))

pub size-implicit_tag : (m : Tree) (prefix : TagPrefix) (form : Form) (nodes levels : ℕ) → IsImplicitAt m prefix form → HaveSize m form nodes levels → HaveSize m (tagged prefix form) nodes levels
size-implicit_tag m prefix form nodes levels implicit h type d =
    let b = behind_tag m prefix form type d in
    size_under (Some (tag_of prefix)) b.0 type nodes levels ((implicit b.0 type b.1).0 b.2) (h b.0 b.1)

repeated_size : (group : Group) (type : Shape) (nodes levels : ℕ) → HasSize type nodes levels → HasSize (repeated group type) (counted (nodes + 1)) (counted (levels + 1))
repeated_size Sequence type nodes levels h = let a = h.nodes_are in let b = h.levels_are in record { nodes_are = omega (arith, a); levels_are = omega (arith, b) }
repeated_size Set type nodes levels h = let a = h.nodes_are in let b = h.levels_are in record { nodes_are = omega (arith, a); levels_are = omega (arith, b) }

pub size-of : (m : Tree) (group : Group) (form : Form) (nodes levels : ℕ) → HaveSize m form nodes levels → HaveSize m (of group form) (counted (nodes + 1)) (counted (levels + 1))
size-of m group form nodes levels h type d =
    let b = of-meaning m group form type d in
    along type (repeated group b.0) (counted (nodes + 1)) (counted (levels + 1)) b.2 (repeated_size group b.0 nodes levels (h b.0 b.1))

-- parts of lists
pub part_size-plain : (m : Tree) (place : ℕ) (form : Form) (nodes levels : ℕ) → HaveSize m form nodes levels → PartHasSize m false place form nodes levels
part_size-plain m place form nodes levels h type d = h type d

pub part_size-automatic : (m : Tree) (place : ℕ) (form : Form) (nodes levels : ℕ) → ((type : Shape) → IsMeaning m form type → IsUntaggedChoice type → ⊥) → HaveSize m form nodes levels → PartHasSize m true place form nodes levels
part_size-automatic m place form nodes levels others h type (own, d, e) =
    along type (tagged_implicitly (context place) own) nodes levels (e ∙ by_default-implicitly (context place) own (others own d)) (size_implicitly (context place) own nodes levels (h own d))

pub part_size-choice : (m : Tree) (place : ℕ) (form : Form) (nodes levels : ℕ) → ((type : Shape) → IsMeaning m form type → IsUntaggedChoice type) → HaveSize m form nodes levels → PartHasSize m true place form (counted (nodes + 1)) (counted (levels + 1))
part_size-choice m place form nodes levels choices h type (own, d, e) =
    along type (Shape.explicit (context place) own) (counted (nodes + 1)) (counted (levels + 1)) (e ∙ by_default-explicitly (context place) own (choices own d)) (size_explicit (context place) own nodes levels (h own d))

nodes_push : (vs : List ComponentView) (v : ComponentView) → length (nodes_of_components (components_of (vs ++ v ∷ []))) ≡ length (nodes_of_components (components_of vs)) + length (nodes_of v.type)
nodes_push [] v = omega (arith, length-append (nodes_of v.type) [])
nodes_push (x ∷ vs) v =
    omega (arith, nodes_push vs v, length-append (nodes_of x.type) (nodes_of_components (components_of (vs ++ v ∷ []))), length-append (nodes_of x.type) (nodes_of_components (components_of vs)))

levels_push : (vs : List ComponentView) (v : ComponentView) → levels_of_components (components_of (vs ++ v ∷ [])) ≡ max (levels_of_components (components_of vs)) (levels_of v.type)
levels_push [] v = omega arith
levels_push (x ∷ vs) v = omega (arith, levels_push vs v)

pub components_size-none : (m : Tree) (automatic : Bool) → ComponentsHaveSize m automatic [] 0 0
components_size-none m automatic [] h = record { nodes_are = refl; levels_are = refl }
components_size-none m automatic (v ∷ vs) h = absurd h

pub components_size-more : (m : Tree) (automatic : Bool) (ws : List (List ℕ × Form × Ending)) (w : List ℕ × Form × Ending) (nodes levels more deep : ℕ) → ComponentsHaveSize m automatic ws nodes levels → PartHasSize m automatic (length ws) w.1 more deep
    → ComponentsHaveSize m automatic (ws ++ w ∷ []) (counted (nodes + more)) (max levels deep)
components_size-more m automatic ws w nodes levels more deep h part vs all =
    let l = parts_last (IsComponent m automatic) 0 ws w vs all in
    let one = l.one in
    let a = h l.front l.before in
    let b = part l.last.type (subst (λ (n : ℕ). IsPart m automatic n w.1 l.last.type) (let e : 0 + length ws ≡ length ws = omega arith in e) one.type) in
    let p = a.nodes_are in
    let q = b.nodes_are in
    let r = a.levels_are in
    let s = b.levels_are in
    let n = nodes_push l.front l.last in
    let k = levels_push l.front l.last in
    subst (λ (i : List ComponentView). AreOfSize (components_of i) (counted (nodes + more)) (max levels deep)) (sym l.whole) (record { nodes_are = omega (arith, p, q, n); levels_are = omega (arith, r, s, k) })

list_size : (group : Group) (types : Components) (nodes levels : ℕ) → AreOfSize types nodes levels → HasSize (list_of group types) (counted (nodes + 1)) (counted (levels + 1))
list_size Sequence types nodes levels h = let a = h.nodes_are in let b = h.levels_are in record { nodes_are = omega (arith, a); levels_are = omega (arith, b) }
list_size Set types nodes levels h = let a = h.nodes_are in let b = h.levels_are in record { nodes_are = omega (arith, a); levels_are = omega (arith, b) }

pub size-list : (m : Tree) (group : Group) (ws : List (List ℕ × Form × Ending)) (nodes levels : ℕ) → ComponentsHaveSize m (automatic_in m ws) ws nodes levels → HaveSize m (list group (written_components ws)) (counted (nodes + 1)) (counted (levels + 1))
size-list m group ws nodes levels h type d =
    let l = list-meaning m group ws type d in
    along type (list_of group (components_of l.views)) (counted (nodes + 1)) (counted (levels + 1)) l.is (list_size group (components_of l.views) nodes levels (h l.views l.parts))
