-- What is refused while a type is made: an expression that means nothing, a list of which one part is never good, a
-- part whose automatic tag is too great.
use Rattle.std.proofs.Common.{◌≡◌, ◌+◌, ◌<◌, ◌≤◌, ℕ, zero, suc, Bool, true, false, List, [], ◌∷◌, Option, Some, None, map, length, get_or, refl, sym, subst, arith}
use Rattle.std.specs.List.{AllByRecursion}
use Rattle.octets.specs.declared.tag.Tag.{Tag}
use Rattle.types.specs.Shape.{Shape}
use Rattle.types.specs.View.{ComponentView, AlternativeView}
use Rattle.syntax.specs.declared.tree.Group.{Group}
use Rattle.syntax.specs.declared.tree.TagPrefix.{TagPrefix}
use Rattle.syntax.specs.declared.tree.Component.{Component}
use Rattle.syntax.specs.declared.tree.Alternative.{Alternative}
use Rattle.syntax.specs.Tree.{Entry, Form, tagged, list, of, choice, enumerated, reference, Tree}
use Rattle.syntax.specs.View.{component, alternative, components_of as written_components, alternatives_of as written_alternatives}
use Rattle.types.specs.Tagging.{tagged_by_default}
use Rattle.builtin_types.specs.Tagging.{context}
use Rattle.builtin_types.specs.Numbering.{AreItems}
use Rattle.notation.specs.Meaning.{of_items}
use Rattle.types.specs.Shape.{EnumerationItem}
use Rattle.notation.specs.Parts.{IsPart, IsComponent, IsAlternative, AreComponents, AreAlternatives}
use Rattle.notation.specs.Under.{IsAtRoot, IsRoot}
use Rattle.notation.specs.Settled.{MeansNothing}
use Rattle.notation.specs.Refused.{HasNoTypeWithin, PartHasNoTypeWithin, ComponentsNever, AlternativesNever, IsSmall}
use Rattle.notation.proofs.ChoiceLemmas.{choice-untagged}
use Rattle.notation.proofs.ListLemmas.{automatic_in, automatic_among}
use Rattle.notation.proofs.NeverLemmas.{some_nodes, no_type_within-root, no_type_within-explicit, no_type_within-of, no_type_within-list, no_type_within-choice}
use Rattle.notation.proofs.WellFormedLemmas.{HasTag, tag_within}

-- what means nothing
pub nothing_within : (m : Tree) (most : ℕ) (outer : Option Tag) (f : Form) → MeansNothing m f → HasNoTypeWithin m most outer f
nothing_within m most outer f none whole d small = none d.type d.meaning

pub no_part_of_nothing : (m : Tree) (most : ℕ) (automatic : Bool) (place : ℕ) (f : Form) → MeansNothing m f → PartHasNoTypeWithin m most automatic place f
no_part_of_nothing m most false place f none type d small = none type d
no_part_of_nothing m most true place f none type (own, d, e) small = none own d

pub no_part_within-0 : (m : Tree) (automatic : Bool) (place : ℕ) (f : Form) → PartHasNoTypeWithin m 0 automatic place f
no_part_within-0 m automatic place f type d small = let few = small.few in let some = some_nodes type in absurd (omega (arith, few, some))

-- an expression that is this one at its root
pub explicit_never : (m : Tree) (most depth : ℕ) (outer tag : Option Tag) (f r : Form) (prefix : TagPrefix) (inner within : Form) → IsRoot m outer f tag r → r ≡ tagged prefix inner → within ≡ inner → most ≡ suc depth → HasNoTypeWithin m depth None within → HasNoTypeWithin m most outer f
explicit_never m most depth outer tag f r prefix inner within root is same more none =
    let at = subst (IsAtRoot m) is root.at_root in
    let whole = no_type_within-explicit m depth tag prefix inner at (subst (λ (i : Form). HasNoTypeWithin m depth None i) same none) in
    no_type_within-root m most outer tag f r root (subst (λ (i : Form). HasNoTypeWithin m most tag i) (sym is) (subst (λ (n : ℕ). HasNoTypeWithin m n tag (tagged prefix inner)) (sym more) whole))

pub of_never : (m : Tree) (most depth : ℕ) (outer tag : Option Tag) (f r : Form) (group : Group) (inner within : Form) → IsRoot m outer f tag r → r ≡ of group inner → within ≡ inner → most ≡ suc depth → HasNoTypeWithin m depth None within → HasNoTypeWithin m most outer f
of_never m most depth outer tag f r group inner within root is same more none =
    let whole = no_type_within-of m depth tag group inner (subst (λ (i : Form). HasNoTypeWithin m depth None i) same none) in
    no_type_within-root m most outer tag f r root (subst (λ (i : Form). HasNoTypeWithin m most tag i) (sym is) (subst (λ (n : ℕ). HasNoTypeWithin m n tag (of group inner)) (sym more) whole))

pub root_never : (m : Tree) (most depth : ℕ) (outer tag : Option Tag) (f r whole : Form) → IsRoot m outer f tag r → r ≡ whole → most ≡ suc depth → HasNoTypeWithin m (suc depth) tag whole → HasNoTypeWithin m most outer f
root_never m most depth outer tag f r whole root is more none =
    no_type_within-root m most outer tag f r root (subst (λ (i : Form). HasNoTypeWithin m most tag i) (sym is) (subst (λ (n : ℕ). HasNoTypeWithin m n tag whole) (sym more) none))

pub choice_under_tag : (m : Tree) (most : ℕ) (outer tag : Option Tag) (f r : Form) (ws : List (List ℕ × Form)) (t : Tag) → IsRoot m outer f tag r → r ≡ choice (written_alternatives ws) → tag ≡ Some t → HasNoTypeWithin m most outer f
choice_under_tag m most outer tag f r ws t root is some =
    no_type_within-root m most outer tag f r root (subst (λ (i : Form). HasNoTypeWithin m most tag i) (sym is) (subst (λ (o : Option Tag). HasNoTypeWithin m most o (choice (written_alternatives ws))) (sym some)
    (λ whole d small. d.under.0 (choice-untagged m (written_alternatives ws) d.type d.meaning))))

pub no_root_reference : (m : Tree) (most : ℕ) (outer tag : Option Tag) (f r : Form) (name : List ℕ) → IsRoot m outer f tag r → r ≡ reference name → HasNoTypeWithin m most outer f
no_root_reference m most outer tag f r name root is = absurd (subst (IsAtRoot m) is root.at_root)

-- items that have no numbers
pub no_items : (m : Tree) (entries : List Entry) → ((items : List EnumerationItem) → AreItems entries items → ⊥) → MeansNothing m (enumerated entries)
no_items m entries none type (of_items {items} differ are e) = none items are

-- a list of which one part is never good
never_from : (IsGood : Shape → Type 0) (m : Tree) (automatic : Bool) (from : ℕ) (xs : List Component) (i : ℕ) (x : Component) → i < length xs → x ≡ get_or xs i x → ((view : ComponentView) → IsComponent m automatic (from + i) (component x) view → IsGood view.type → ⊥)
    → (views : List ComponentView) → AreComponents m automatic from (map component xs) views → AllByRecursion IsGood (map (λ (view : ComponentView). view.type) views) → ⊥
never_from IsGood m automatic from [] i x within at h views parts good = absurd (omega (arith, within))
never_from IsGood m automatic from (y ∷ ys) i x within at h [] parts good = parts
never_from IsGood m automatic from (y ∷ ys) zero x within at h (v ∷ vs) parts good =
    let here : from ≡ from + 0 = omega arith in
    h v (subst (λ (n : ℕ). IsComponent m automatic n (component x) v) here (subst (λ (z : Component). IsComponent m automatic from (component z) v) (sym at) parts.0)) good.0
never_from IsGood m automatic from (y ∷ ys) (suc i) x within at h (v ∷ vs) parts good =
    let later : from + suc i ≡ suc from + i = omega arith in
    never_from IsGood m automatic (suc from) ys i x (omega (arith, within)) at (λ view one. h view (subst (λ (n : ℕ). IsComponent m automatic n (component x) view) (sym later) one)) vs parts.1 good.1

pub list_never : (m : Tree) (depth : ℕ) (under : Option Tag) (group : Group) (xs : List Component) (automatic : Bool) (i : ℕ) (x : Component) → i < length xs → x ≡ get_or xs i x → automatic ≡ automatic_in m (map component xs)
    → ((view : ComponentView) → IsComponent m automatic i (component x) view → IsSmall depth view.type → ⊥) → HasNoTypeWithin m (suc depth) under (list group (written_components (map component xs)))
list_never m depth under group xs automatic i x within at is none =
    no_type_within-list m depth under group (map component xs)
    (subst (λ (b : Bool). ComponentsNever (IsSmall depth) m b (map component xs)) is
    (never_from (IsSmall depth) m automatic 0 xs i x within at (λ view one. none view (subst (λ (n : ℕ). IsComponent m automatic n (component x) view) (let e : 0 + i ≡ i = omega arith in e) one))))

alternative_never_from : (IsGood : Shape → Type 0) (m : Tree) (automatic : Bool) (from : ℕ) (xs : List Alternative) (i : ℕ) (x : Alternative) → i < length xs → x ≡ get_or xs i x → ((view : AlternativeView) → IsAlternative m automatic (from + i) (alternative x) view → IsGood view.type → ⊥)
    → (views : List AlternativeView) → AreAlternatives m automatic from (map alternative xs) views → AllByRecursion IsGood (map (λ (view : AlternativeView). view.type) views) → ⊥
alternative_never_from IsGood m automatic from [] i x within at h views parts good = absurd (omega (arith, within))
alternative_never_from IsGood m automatic from (y ∷ ys) i x within at h [] parts good = parts
alternative_never_from IsGood m automatic from (y ∷ ys) zero x within at h (v ∷ vs) parts good =
    let here : from ≡ from + 0 = omega arith in
    h v (subst (λ (n : ℕ). IsAlternative m automatic n (alternative x) v) here (subst (λ (z : Alternative). IsAlternative m automatic from (alternative z) v) (sym at) parts.0)) good.0
alternative_never_from IsGood m automatic from (y ∷ ys) (suc i) x within at h (v ∷ vs) parts good =
    let later : from + suc i ≡ suc from + i = omega arith in
    alternative_never_from IsGood m automatic (suc from) ys i x (omega (arith, within)) at (λ view one. h view (subst (λ (n : ℕ). IsAlternative m automatic n (alternative x) view) (sym later) one)) vs parts.1 good.1

pub choice_never : (m : Tree) (depth : ℕ) (under : Option Tag) (xs : List Alternative) (automatic : Bool) (i : ℕ) (x : Alternative) → i < length xs → x ≡ get_or xs i x → automatic ≡ automatic_among m (map alternative xs)
    → PartHasNoTypeWithin m depth automatic i (alternative x).1 → HasNoTypeWithin m (suc depth) under (choice (written_alternatives (map alternative xs)))
choice_never m depth under xs automatic i x within at is none =
    no_type_within-choice m depth under (map alternative xs)
    (subst (λ (b : Bool). AlternativesNever (IsSmall depth) m b (map alternative xs)) is
    (alternative_never_from (IsSmall depth) m automatic 0 xs i x within at (λ view one small. none view.type (subst (λ (n : ℕ). IsPart m automatic n (alternative x).1 view.type) (let e : 0 + i ≡ i = omega arith in e) one.type) small)))

-- an automatic tag of 2^32 or more
has_default_tag : (tag : Tag) (type : Shape) → HasTag tag (tagged_by_default tag type)
has_default_tag tag (Shape.simple other type) = refl
has_default_tag tag (Shape.string other type) = refl
has_default_tag tag (Shape.sequence other components) = refl
has_default_tag tag (Shape.set other components) = refl
has_default_tag tag (Shape.sequence_of other type) = refl
has_default_tag tag (Shape.set_of other type) = refl
has_default_tag tag (Shape.choice alternatives) = refl
has_default_tag tag (Shape.explicit other type) = refl

pub great_tag : (m : Tree) (most place : ℕ) (f : Form) → 4_294_967_296 ≤ place → PartHasNoTypeWithin m most true place f
great_tag m most place f great type (own, d, e) small =
    let within = tag_within (context place) type (subst (HasTag (context place)) (sym e) (has_default_tag (context place) own)) small.good in
    absurd (omega (arith, great, within))
