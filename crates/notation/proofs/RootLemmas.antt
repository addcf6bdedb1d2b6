-- What a type expression is at its root.
use Rattle.std.proofs.Common.{◌≡◌, ◌↔◌, ℕ, Bool, true, false, IsTrue, List, Option, Some, None, refl, sym, subst}
use Rattle.std.proofs.lemmas.Bool.{false≢true}
use Rattle.std.specs.Option.{option_or}
use Rattle.octets.specs.declared.tag.Tag.{Tag}
use Rattle.types.specs.Shape.{Shape}
use Rattle.syntax.specs.declared.tree.TagPrefix.{TagPrefix}
use Rattle.syntax.specs.Tree.{Form, tagged, list, of, choice, enumerated, named_bits, simple, reference, Tree}
use Rattle.types.specs.Tagging.{tagged_implicitly}
use Rattle.builtin_types.specs.Tagging.{tag_of, IsUntaggedChoice}
use Rattle.notation.specs.Meaning.{IsMeaning}
use Rattle.notation.specs.Under.{IsUnder, MeansUnder, outermost, IsImplicitAt, IsAtRoot, IsRoot}
use Rattle.notation.specs.Known.{TellsChoice, IsChoice, IsReferenceTo, IsNoReference}
use Rattle.notation.proofs.UnderLemmas.{no_choice-implicitly, under_both, both_under, under_implicit}
use Rattle.notation.proofs.ChoiceLemmas.{choice-untagged, no_choice-tagged, no_choice-list, no_choice-of, no_choice-enumerated, no_choice-named_bits, no_choice-simple}

either_own : (outer : Option Tag) (own : Tag) → option_or outer (Some own) ≡ Some (outermost outer own)
either_own None own = refl
either_own (Some outer) own = refl

-- an expression that is at its root
pub itself : (m : Tree) (outer : Option Tag) (form : Form) → IsAtRoot m form → IsRoot m outer form outer form
itself m outer form h = record { at_root = h; same = λ whole. (λ d. d, λ d. d) }

-- an implicit tag in front
pub behind_implicit : (m : Tree) (outer tag : Option Tag) (prefix : TagPrefix) (form root : Form) → IsImplicitAt m prefix form → IsRoot m (option_or outer (Some (tag_of prefix))) form tag root → IsRoot m outer (tagged prefix form) tag root
behind_implicit m outer tag prefix form root implicit h =
    let g = subst (λ (o : Option Tag). IsRoot m o form tag root) (either_own outer (tag_of prefix)) h in
    record {
      at_root = g.at_root;
      same = λ whole. (λ d. (g.same whole).0 ((under_implicit m outer prefix form whole implicit).0 d), λ d. (under_implicit m outer prefix form whole implicit).1 ((g.same whole).1 d));
    }

-- what the inner tag makes of the type
abbrev inner_type : Option Tag → Shape → Shape
inner_type None type = type
inner_type (Some tag) type = tagged_implicitly tag type

joined : (outer tag : Option Tag) (type within whole : Shape) → IsUnder tag type within → IsUnder outer within whole → IsUnder (option_or outer tag) type whole
joined None tag type within whole h g = subst (λ (w : Shape). IsUnder tag type w) (sym g) h
joined (Some outer) None type within whole h g = subst (λ (w : Shape). IsUnder (Some outer) w whole) h g
joined (Some outer) (Some tag) type within whole h g = both_under (Some outer) tag type within whole h g

inner_under : (outer tag : Option Tag) (type whole : Shape) → IsUnder (option_or outer tag) type whole → IsUnder tag type (inner_type tag type)
inner_under outer None type whole h = refl
inner_under None (Some tag) type whole h = (h.0, refl)
inner_under (Some outer) (Some tag) type whole h = (h.0, refl)

outer_under : (outer tag : Option Tag) (type whole : Shape) → IsUnder (option_or outer tag) type whole → IsUnder outer (inner_type tag type) whole
outer_under None None type whole h = h
outer_under (Some outer) None type whole h = h
outer_under None (Some tag) type whole h = under_both None tag type whole h
outer_under (Some outer) (Some tag) type whole h = under_both (Some outer) tag type whole h

-- a root under a tag from outside
pub under_more : (m : Tree) (outer tag : Option Tag) (form root : Form) → IsRoot m None form tag root → IsRoot m outer form (option_or outer tag) root
under_more m outer tag form root h = record { at_root = h.at_root; same = λ whole. (forth whole, back whole) }
  where
    forth : (whole : Shape) → MeansUnder m outer form whole → MeansUnder m (option_or outer tag) root whole
    forth whole d =
        let u = (h.same d.type).0 (record { type = d.type; meaning = d.meaning; under = refl }) in
        record { type = u.type; meaning = u.meaning; under = joined outer tag u.type d.type whole u.under d.under }

    back : (whole : Shape) → MeansUnder m (option_or outer tag) root whole → MeansUnder m outer form whole
    back whole u =
        let within = inner_type tag u.type in
        let d = (h.same within).1 (record { type = u.type; meaning = u.meaning; under = inner_under outer tag u.type whole u.under }) in
        record { type = within; meaning = subst (IsMeaning m form) (sym d.under) d.meaning; under = outer_under outer tag u.type whole u.under }

untagged_of : (m : Tree) (form : Form) (type : Shape) → IsChoice form → IsMeaning m form type → IsUntaggedChoice type
untagged_of m (choice alternatives) type c d = choice-untagged m alternatives type d
untagged_of m (tagged prefix form) type c d = absurd c
untagged_of m (list group components) type c d = absurd c
untagged_of m (of group form) type c d = absurd c
untagged_of m (enumerated entries) type c d = absurd c
untagged_of m (named_bits bits) type c d = absurd c
untagged_of m (simple words) type c d = absurd c
untagged_of m (reference name) type c d = absurd c

no_choice_of : (m : Tree) (form : Form) (type : Shape) → IsAtRoot m form → (IsChoice form → ⊥) → IsMeaning m form type → IsUntaggedChoice type → ⊥
no_choice_of m (choice alternatives) type a c d = absurd (c tt)
no_choice_of m (tagged prefix form) type a c d = no_choice-tagged m prefix form type d
no_choice_of m (list group components) type a c d = no_choice-list m group components type d
no_choice_of m (of group form) type a c d = no_choice-of m group form type d
no_choice_of m (enumerated entries) type a c d = no_choice-enumerated m entries type d
no_choice_of m (named_bits bits) type a c d = no_choice-named_bits m bits type d
no_choice_of m (simple words) type a c d = no_choice-simple m words type d
no_choice_of m (reference name) type a c d = absurd a

-- whether the root is an untagged CHOICE tells it of the expression
pub root_tells : (m : Tree) (form root : Form) (tag : Option Tag) (told : Bool) → IsRoot m None form tag root → IsTrue told ↔ (IsChoice root × (tag ≡ None)) → TellsChoice told m form
root_tells m form root tag true h same =
    λ type d.
    let is = same.0 refl in
    let u = (h.same type).0 (record { type = type; meaning = d; under = refl }) in
    let g = subst (λ (t : Option Tag). IsUnder t u.type type) is.1 u.under in
    subst IsUntaggedChoice (sym g) (untagged_of m root u.type is.0 u.meaning)
root_tells m form root None false h same =
    λ type d c.
    let u = (h.same type).0 (record { type = type; meaning = d; under = refl }) in
    no_choice_of m root u.type h.at_root (λ is. false≢true (same.1 (is, refl))) u.meaning (subst IsUntaggedChoice u.under c)
root_tells m form root (Some tag) false h same =
    λ type d c.
    let u = (h.same type).0 (record { type = type; meaning = d; under = refl }) in
    no_choice-implicitly tag u.type u.under.0 (subst IsUntaggedChoice u.under.1 c)

-- the same of an expression that is no reference
plain_tells : (m : Tree) (form : Form) → IsNoReference form → (IsChoice form → ⊥) → TellsChoice false m form
plain_tells m (choice alternatives) n c = λ type d. absurd (c tt)
plain_tells m (tagged prefix form) n c = λ type d. no_choice-tagged m prefix form type d
plain_tells m (list group components) n c = λ type d. no_choice-list m group components type d
plain_tells m (of group form) n c = λ type d. no_choice-of m group form type d
plain_tells m (enumerated entries) n c = λ type d. no_choice-enumerated m entries type d
plain_tells m (named_bits bits) n c = λ type d. no_choice-named_bits m bits type d
plain_tells m (simple words) n c = λ type d. no_choice-simple m words type d
plain_tells m (reference name) n c = λ type d. absurd n

pub form_tells : (m : Tree) (form : Form) (told : Bool) → IsNoReference form → IsTrue told ↔ IsChoice form → TellsChoice told m form
form_tells m form true n same = λ type d. untagged_of m form type (same.0 refl) d
form_tells m form false n same = plain_tells m form n (λ c. false≢true (same.1 c))

pub named_tells : (m : Tree) (form : Form) (name : List ℕ) (root : Form) (tag : Option Tag) (told : Bool) → IsReferenceTo form name → IsRoot m None (reference name) tag root → IsTrue told ↔ (IsChoice root × (tag ≡ None)) → TellsChoice told m form
named_tells m (reference own) name root tag told is h same =
    subst (λ (n : List ℕ). TellsChoice told m (reference n)) (sym is) (root_tells m (reference name) root tag told h same)
named_tells m (choice alternatives) name root tag told is h same = absurd is
named_tells m (tagged prefix form) name root tag told is h same = absurd is
named_tells m (list group components) name root tag told is h same = absurd is
named_tells m (of group form) name root tag told is h same = absurd is
named_tells m (enumerated entries) name root tag told is h same = absurd is
named_tells m (named_bits bits) name root tag told is h same = absurd is
named_tells m (simple words) name root tag told is h same = absurd is
