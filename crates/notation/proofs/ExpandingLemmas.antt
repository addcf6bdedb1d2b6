-- What an expression at its root means under a tag from outside, by cases on the expression.
use Rattle.std.proofs.Common.{◌≡◌, ◌+◌, ◌<◌, ℕ, take, Bool, List, [], ◌∷◌, ◌++◌, Option, Some, None, Ok, IfSome, map, length, refl, sym, ap, ◌∙◌, subst, arith}
use Rattle.std.proofs.lemmas.List.{length-map, length-take-le}
use Rattle.std.specs.Option.{ok_or, unwrap_or}
use Rattle.octets.specs.declared.tag.Tag.{Tag}
use Rattle.types.specs.Shape.{EnumerationItem, SimpleType, StringType, Shape}
use Rattle.types.specs.View.{ComponentView, AlternativeView, components_of, alternatives_of}
use Rattle.syntax.specs.declared.tree.Group.{Group}
use Rattle.syntax.specs.declared.tree.TagPrefix.{TagPrefix}
use Rattle.syntax.specs.declared.tree.Simple.{Simple}
use Rattle.syntax.specs.Tree.{Ending, Entry, Form, tagged, list, of, choice, enumerated, named_bits, simple, Tree}
use Rattle.syntax.specs.View.{components_of as written_components, alternatives_of as written_alternatives}
use Rattle.types.specs.Universal.{bit_string_tag, enumerated_tag}
use Rattle.builtin_types.specs.Universal.{named_bit, named_by_words, with_named_bits, list_of, repeated}
use Rattle.types.specs.Tagging.{tagged_implicitly}
use Rattle.builtin_types.specs.Tagging.{tag_of, IsUntaggedChoice}
use Rattle.builtin_types.specs.Numbering.{AreItems}
use Rattle.builtin_types.specs.Names.{NamesDiffer}
use Rattle.builtin_types.specs.Defaults.{IsRequirement}
use Rattle.notation.specs.Meaning.{IsMeaning, of_words, of_tag, of_items, of_named_bits, of_item_type}
use Rattle.notation.specs.Under.{MeansUnder, IsExplicitAt, IsAtRoot, IsRoot}
use Rattle.notation.specs.Parts.{IsPart, IsComponent, IsAlternative, AreComponents, AreAlternatives}
use Rattle.notation.specs.Made.{IsAround, IsRepeated, AreMade}
use Rattle.notation.proofs.PartsLemmas.{parts_push}
use Rattle.notation.proofs.ListLemmas.{automatic_in, automatic_among, names_of_components, names_of_alternatives, list_means, choice_means}
use Rattle.notation.proofs.ChoiceLemmas.{no_choice-list, no_choice-of, no_choice-enumerated, no_choice-named_bits, no_choice-simple}

-- the value of an option behind `ok_or`
pub some_behind : {A E : Type 0} (o : Option A) (e : E) (a : A) → Ok a ≡ ok_or o e → o ≡ Some a
some_behind (Some x) e a h = cc
some_behind None e a h = absurd cc

pub told_of : {A E : Type 0} (o : Option A) (e : E) (a : A) (P : A → Type 0) → IfSome o P → Ok a ≡ ok_or o e → P a
told_of {A} o e a P h is = subst (λ (p : Option A). IfSome p P) (some_behind o e a is) h

-- an explicit tag, which a tag from outside replaces
pub explicit_under : (m : Tree) (tag : Option Tag) (prefix : TagPrefix) (f : Form) (whole : Shape) → IsExplicitAt m prefix f → IsAround m (unwrap_or tag (tag_of prefix)) f whole → MeansUnder m tag (tagged prefix f) whole
explicit_under m None prefix f whole explicit (type, d, e) =
    record { type = Shape.explicit (tag_of prefix) type; meaning = of_tag d ((explicit type (Shape.explicit (tag_of prefix) type) d).1 refl); under = e }
explicit_under m (Some tag) prefix f whole explicit (type, d, e) =
    record { type = Shape.explicit (tag_of prefix) type; meaning = of_tag d ((explicit type (Shape.explicit (tag_of prefix) type) d).1 refl); under = (λ c. c, e) }

-- a type with a tag of its own, which a tag from outside replaces
pub own_under : (m : Tree) (tag : Option Tag) (own : Tag) (f : Form) (type whole : Shape) → IsMeaning m f type → (IsUntaggedChoice type → ⊥) → tagged_implicitly own type ≡ type → whole ≡ tagged_implicitly (unwrap_or tag own) type → MeansUnder m tag f whole
own_under m None own f type whole d others same e = record { type = type; meaning = d; under = e ∙ same }
own_under m (Some tag) own f type whole d others same e = record { type = type; meaning = d; under = (others, e) }

pub list_under : (m : Tree) (tag : Option Tag) (own : Tag) (group : Group) (ws : List (List ℕ × Form × Ending)) (vs : List ComponentView) (whole : Shape) → AreMade m ws vs → tagged_implicitly own (list_of group (components_of vs)) ≡ list_of group (components_of vs)
    → whole ≡ tagged_implicitly (unwrap_or tag own) (list_of group (components_of vs)) → MeansUnder m tag (list group (written_components ws)) whole
list_under m tag own group ws vs whole made same e =
    let type = list_of group (components_of vs) in
    own_under m tag own (list group (written_components ws)) type whole (made group) (no_choice-list m group (written_components ws) type (made group)) same e

pub of_under : (m : Tree) (tag : Option Tag) (own : Tag) (group : Group) (f : Form) (whole : Shape) → ((inner : Shape) → tagged_implicitly own (repeated group inner) ≡ repeated group inner) → IsRepeated m group (unwrap_or tag own) f whole → MeansUnder m tag (of group f) whole
of_under m tag own group f whole same (type, d, e) =
    let meant : IsMeaning m (of group f) (repeated group type) = of_item_type d refl in
    own_under m tag own (of group f) (repeated group type) whole meant (no_choice-of m group f (repeated group type) meant) (same type) e

pub simple_under : (m : Tree) (tag : Option Tag) (own : Tag) (words : Simple) (whole : Shape) → tagged_implicitly own (named_by_words words) ≡ named_by_words words → whole ≡ tagged_implicitly (unwrap_or tag own) (named_by_words words) → MeansUnder m tag (simple words) whole
simple_under m tag own words whole same e =
    let meant : IsMeaning m (simple words) (named_by_words words) = of_words refl in
    own_under m tag own (simple words) (named_by_words words) whole meant (no_choice-simple m words (named_by_words words) meant) same e

pub enumerated_under : (m : Tree) (tag : Option Tag) (entries : List Entry) (items : List EnumerationItem) (whole : Shape) → NamesDiffer (map (λ (entry : Entry). entry.0) entries) → AreItems entries items
    → whole ≡ Shape.simple (unwrap_or tag enumerated_tag) (SimpleType.enumerated items) → MeansUnder m tag (enumerated entries) whole
enumerated_under m tag entries items whole differ are e =
    let type = Shape.simple enumerated_tag (SimpleType.enumerated items) in
    let meant : IsMeaning m (enumerated entries) type = of_items differ are refl in
    own_under m tag enumerated_tag (enumerated entries) type whole meant (no_choice-enumerated m entries type meant) refl e

pub named_bits_under : (m : Tree) (tag : Option Tag) (bits : List (List ℕ × ℕ)) (whole : Shape) → NamesDiffer (map (λ (bit : List ℕ × ℕ). bit.0) bits)
    → whole ≡ Shape.string (unwrap_or tag bit_string_tag) (StringType.named_bits (map named_bit bits)) → MeansUnder m tag (named_bits bits) whole
named_bits_under m tag bits whole differ e =
    let meant : IsMeaning m (named_bits bits) (with_named_bits bits) = of_named_bits differ refl in
    own_under m tag bit_string_tag (named_bits bits) (with_named_bits bits) whole meant (no_choice-named_bits m bits (with_named_bits bits) meant) refl e

pub under_none : (m : Tree) (tag : Option Tag) (f : Form) (type : Shape) → tag ≡ None → IsMeaning m f type → MeansUnder m tag f type
under_none m tag f type none d = subst (λ (t : Option Tag). MeansUnder m t f type) (sym none) (record { type = type; meaning = d; under = refl })

-- the same of an expression that is this one at its root
pub explicit_told : (m : Tree) (outer : Option Tag) (f : Form) (tag : Option Tag) (r : Form) (prefix : TagPrefix) (inner within : Form) (own put : Tag) (whole : Shape) → IsRoot m outer f tag r → r ≡ tagged prefix inner → within ≡ inner
    → own ≡ tag_of prefix → put ≡ unwrap_or tag own → IsAround m put within whole → MeansUnder m outer f whole
explicit_told m outer f tag r prefix inner within own put whole root is same owned given around =
    let a = subst (λ (i : Tag). IsAround m i inner whole) (given ∙ ap (unwrap_or tag) owned) (subst (λ (i : Form). IsAround m put i whole) same around) in
    (root.same whole).1 (subst (λ (i : Form). MeansUnder m tag i whole) (sym is) (explicit_under m tag prefix inner whole (subst (IsAtRoot m) is root.at_root) a))

pub list_told : (m : Tree) (outer : Option Tag) (f : Form) (tag : Option Tag) (r : Form) (group : Group) (ws written : List (List ℕ × Form × Ending)) (vs : List ComponentView) (own put : Tag) (whole : Shape) → IsRoot m outer f tag r → r ≡ list group (written_components ws) → written ≡ ws
    → tagged_implicitly own (list_of group (components_of vs)) ≡ list_of group (components_of vs) → put ≡ unwrap_or tag own → AreMade m written vs → whole ≡ tagged_implicitly put (list_of group (components_of vs)) → MeansUnder m outer f whole
list_told m outer f tag r group ws written vs own put whole root is same owned given made e =
    let made_so = subst (λ (i : List (List ℕ × Form × Ending)). AreMade m i vs) same made in
    let put_so = e ∙ ap (λ (i : Tag). tagged_implicitly i (list_of group (components_of vs))) given in
    (root.same whole).1 (subst (λ (i : Form). MeansUnder m tag i whole) (sym is) (list_under m tag own group ws vs whole made_so owned put_so))

pub of_told : (m : Tree) (outer : Option Tag) (f : Form) (tag : Option Tag) (r : Form) (group : Group) (inner within : Form) (own put : Tag) (whole : Shape) → IsRoot m outer f tag r → r ≡ of group inner → within ≡ inner
    → ((type : Shape) → tagged_implicitly own (repeated group type) ≡ repeated group type) → put ≡ unwrap_or tag own → IsRepeated m group put within whole → MeansUnder m outer f whole
of_told m outer f tag r group inner within own put whole root is same owned given made =
    let made_so = subst (λ (i : Tag). IsRepeated m group i inner whole) given (subst (λ (i : Form). IsRepeated m group put i whole) same made) in
    (root.same whole).1 (subst (λ (i : Form). MeansUnder m tag i whole) (sym is) (of_under m tag own group inner whole owned made_so))

pub choice_told : (m : Tree) (outer : Option Tag) (f : Form) (tag : Option Tag) (r : Form) (ws written : List (List ℕ × Form)) (whole : Shape) → IsRoot m outer f tag r → r ≡ choice (written_alternatives ws) → written ≡ ws → tag ≡ None
    → IsMeaning m (choice (written_alternatives written)) whole → MeansUnder m outer f whole
choice_told m outer f tag r ws written whole root is same none made =
    let made_so = subst (λ (i : List (List ℕ × Form)). IsMeaning m (choice (written_alternatives i)) whole) same made in
    (root.same whole).1 (subst (λ (i : Form). MeansUnder m tag i whole) (sym is) (under_none m tag (choice (written_alternatives ws)) whole none made_so))

pub simple_told : (m : Tree) (outer : Option Tag) (f : Form) (tag : Option Tag) (r : Form) (words : Simple) (own put : Tag) (whole : Shape) → IsRoot m outer f tag r → r ≡ simple words → tagged_implicitly own (named_by_words words) ≡ named_by_words words
    → put ≡ unwrap_or tag own → whole ≡ tagged_implicitly put (named_by_words words) → MeansUnder m outer f whole
simple_told m outer f tag r words own put whole root is owned given e =
    let put_so = e ∙ ap (λ (i : Tag). tagged_implicitly i (named_by_words words)) given in
    (root.same whole).1 (subst (λ (i : Form). MeansUnder m tag i whole) (sym is) (simple_under m tag own words whole owned put_so))

pub root_told : (m : Tree) (outer : Option Tag) (f : Form) (tag : Option Tag) (r own : Form) (whole : Shape) → IsRoot m outer f tag r → r ≡ own → MeansUnder m tag own whole → MeansUnder m outer f whole
root_told m outer f tag r own whole root is d = (root.same whole).1 (subst (λ (i : Form). MeansUnder m tag i whole) (sym is) d)

-- a list that is gathered part by part
pub components_made : (m : Tree) (ws : List (List ℕ × Form × Ending)) (vs : List ComponentView) (automatic : Bool) → NamesDiffer (map (λ (w : List ℕ × Form × Ending). w.0) ws) → automatic ≡ automatic_in m ws → AreComponents m automatic 0 ws vs → AreMade m ws vs
components_made m ws vs automatic differ is parts group =
    list_means m group ws vs (subst NamesDiffer (sym (names_of_components ws)) differ) (subst (λ (b : Bool). AreComponents m b 0 ws vs) is parts)

pub alternatives_made : (m : Tree) (ws : List (List ℕ × Form)) (vs : List AlternativeView) (automatic : Bool) → NamesDiffer (map (λ (w : List ℕ × Form). w.0) ws) → automatic ≡ automatic_among m ws → AreAlternatives m automatic 0 ws vs
    → IsMeaning m (choice (written_alternatives ws)) (Shape.choice (alternatives_of vs))
alternatives_made m ws vs automatic differ is parts =
    choice_means m ws vs (subst NamesDiffer (sym (names_of_alternatives ws)) differ) (subst (λ (b : Bool). AreAlternatives m b 0 ws vs) is parts)

pub length_front : {A B : Type 0} (f : A → B) (xs : List A) (i : ℕ) → i < length xs → i ≡ length (map f (take i xs))
length_front f xs i within = sym (length-map (take i xs) f ∙ length-take-le i xs (omega (arith, within)))

pub component_more : (m : Tree) (automatic : Bool) (ws : List (List ℕ × Form × Ending)) (vs : List ComponentView) (w : List ℕ × Form × Ending) (v : ComponentView) (place : ℕ) → place ≡ length ws → AreComponents m automatic 0 ws vs → v.name ≡ w.0 → IsPart m automatic place w.1 v.type → IsRequirement v.type w.2 v.requirement
    → AreComponents m automatic 0 (ws ++ w ∷ []) (vs ++ v ∷ [])
component_more m automatic ws vs w v place at h name part requirement =
    let here : place ≡ 0 + length ws = omega (arith, at) in
    parts_push (IsComponent m automatic) 0 ws vs w v h (record { name = name; type = subst (λ (n : ℕ). IsPart m automatic n w.1 v.type) here part; requirement = requirement })

pub alternative_more : (m : Tree) (automatic : Bool) (ws : List (List ℕ × Form)) (vs : List AlternativeView) (w : List ℕ × Form) (v : AlternativeView) (place : ℕ) → place ≡ length ws → AreAlternatives m automatic 0 ws vs → v.name ≡ w.0 → IsPart m automatic place w.1 v.type
    → AreAlternatives m automatic 0 (ws ++ w ∷ []) (vs ++ v ∷ [])
alternative_more m automatic ws vs w v place at h name part =
    let here : place ≡ 0 + length ws = omega (arith, at) in
    parts_push (IsAlternative m automatic) 0 ws vs w v h (record { name = name; type = subst (λ (n : ℕ). IsPart m automatic n w.1 v.type) here part })
