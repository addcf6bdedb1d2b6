-- What an expression means under a tag from outside, by cases on the expression.
use Rattle.std.proofs.Common.{◌≡◌, ◌↔◌, ℕ, List, Option, Some, None, refl, sym, ap, ◌∙◌, subst}
use Rattle.octets.specs.declared.tag.Tag.{Tag}
use Rattle.types.specs.Shape.{Shape}
use Rattle.syntax.specs.declared.tree.TagPrefix.{TagPrefix}
use Rattle.syntax.specs.declared.tree.TagMode.{TagMode}
use Rattle.syntax.specs.declared.tree.Tagging.{Tagging}
use Rattle.syntax.specs.declared.tree.TagMode.TheVariants.{Unmarked, Implicit, Explicit}
use Rattle.syntax.specs.declared.tree.Tagging.TheVariants.{Explicit as ExplicitTags, Implicit as ImplicitTags, Automatic as AutomaticTags}
use Rattle.syntax.specs.Tree.{Form, tagged, reference, Tree}
use Rattle.types.specs.Tagging.{tagged_implicitly, tagged_by_default}
use Rattle.builtin_types.specs.Tagging.{tag_of, IsUntaggedChoice, IsTagged}
use Rattle.notation.specs.Meaning.{IsAssigned, IsMeaning, of_reference, of_tag}
use Rattle.notation.specs.Under.{IsUnder, MeansUnder, outermost, IsExplicitAt, IsImplicitAt}

-- of two implicit tags the outer one stands
pub implicit_twice : (outer own : Tag) (type : Shape) → tagged_implicitly outer (tagged_implicitly own type) ≡ tagged_implicitly outer type
implicit_twice outer own (Shape.simple other type) = refl
implicit_twice outer own (Shape.string other type) = refl
implicit_twice outer own (Shape.sequence other components) = refl
implicit_twice outer own (Shape.set other components) = refl
implicit_twice outer own (Shape.sequence_of other type) = refl
implicit_twice outer own (Shape.set_of other type) = refl
implicit_twice outer own (Shape.choice alternatives) = refl
implicit_twice outer own (Shape.explicit other type) = refl

pub no_choice-implicitly : (tag : Tag) (type : Shape) → (IsUntaggedChoice type → ⊥) → IsUntaggedChoice (tagged_implicitly tag type) → ⊥
no_choice-implicitly tag (Shape.simple other type) h c = c
no_choice-implicitly tag (Shape.string other type) h c = c
no_choice-implicitly tag (Shape.sequence other components) h c = c
no_choice-implicitly tag (Shape.set other components) h c = c
no_choice-implicitly tag (Shape.sequence_of other type) h c = c
no_choice-implicitly tag (Shape.set_of other type) h c = c
no_choice-implicitly tag (Shape.choice alternatives) h c = h c
no_choice-implicitly tag (Shape.explicit other type) h c = c

pub by_default-implicitly : (tag : Tag) (type : Shape) → (IsUntaggedChoice type → ⊥) → tagged_by_default tag type ≡ tagged_implicitly tag type
by_default-implicitly tag (Shape.simple other type) h = refl
by_default-implicitly tag (Shape.string other type) h = refl
by_default-implicitly tag (Shape.sequence other components) h = refl
by_default-implicitly tag (Shape.set other components) h = refl
by_default-implicitly tag (Shape.sequence_of other type) h = refl
by_default-implicitly tag (Shape.set_of other type) h = refl
by_default-implicitly tag (Shape.choice alternatives) h = absurd (h tt)
by_default-implicitly tag (Shape.explicit other type) h = refl

pub by_default-explicitly : (tag : Tag) (type : Shape) → IsUntaggedChoice type → tagged_by_default tag type ≡ Shape.explicit tag type
by_default-explicitly tag (Shape.choice alternatives) h = refl
by_default-explicitly tag (Shape.simple other type) h = absurd h
by_default-explicitly tag (Shape.string other type) h = absurd h
by_default-explicitly tag (Shape.sequence other components) h = absurd h
by_default-explicitly tag (Shape.set other components) h = absurd h
by_default-explicitly tag (Shape.sequence_of other type) h = absurd h
by_default-explicitly tag (Shape.set_of other type) h = absurd h
by_default-explicitly tag (Shape.explicit other type) h = absurd h

-- a reference means what its assignment means
pub of_assigned : (m : Tree) (outer : Option Tag) (name : List ℕ) (form : Form) (whole : Shape) → IsAssigned m name form → MeansUnder m outer form whole → MeansUnder m outer (reference name) whole
of_assigned m outer name form whole a h = record { type = h.type; meaning = of_reference a h.meaning; under = h.under }

pub assigned-of : (m : Tree) (name : List ℕ) (type : Shape) → IsMeaning m (reference name) type → (form : Form) × IsAssigned m name form × IsMeaning m form type
assigned-of m name type (of_reference {form} a d) = (form, a, d)

-- what a tagged expression means
pub behind_tag : (m : Tree) (prefix : TagPrefix) (form : Form) (whole : Shape) → IsMeaning m (tagged prefix form) whole → (type : Shape) × IsMeaning m form type × IsTagged m.tagging prefix.mode (tag_of prefix) type whole
behind_tag m prefix form whole (of_tag {type} d t) = (type, d, t)

-- one implicit tag under another
pub under_both : (outer : Option Tag) (own : Tag) (type whole : Shape) → IsUnder (Some (outermost outer own)) type whole → IsUnder outer (tagged_implicitly own type) whole
under_both None own type whole h = h.1
under_both (Some outer) own type whole h = (no_choice-implicitly own type h.0, h.1 ∙ sym (implicit_twice outer own type))

pub both_under : (outer : Option Tag) (own : Tag) (type within whole : Shape) → IsUnder (Some own) type within → IsUnder outer within whole → IsUnder (Some (outermost outer own)) type whole
both_under None own type within whole h g = (h.0, g ∙ h.1)
both_under (Some outer) own type within whole h g = (h.0, g.1 ∙ ap (tagged_implicitly outer) h.1 ∙ implicit_twice outer own type)

-- an implicit tag in front of an expression is a tag from outside, where no other one is
pub under_implicit : (m : Tree) (outer : Option Tag) (prefix : TagPrefix) (form : Form) (whole : Shape) → IsImplicitAt m prefix form
    → MeansUnder m outer (tagged prefix form) whole ↔ MeansUnder m (Some (outermost outer (tag_of prefix))) form whole
under_implicit m outer prefix form whole implicit = (
  (λ h. let b = behind_tag m prefix form h.type h.meaning in
      record {
        type = b.0;
        meaning = b.1;
        under = both_under outer (tag_of prefix) b.0 h.type whole ((implicit b.0 h.type b.1).0 b.2) h.under;
      }),
  (λ h. record {
    type = tagged_implicitly (tag_of prefix) h.type;
    meaning = of_tag h.meaning ((implicit h.type (tagged_implicitly (tag_of prefix) h.type) h.meaning).1 (h.under.0, refl));
    under = under_both outer (tag_of prefix) h.type whole h.under;
  }),
)

-- which tags are explicit and which implicit
pub explicit-word : (m : Tree) (prefix : TagPrefix) (form : Form) → prefix.mode ≡ Explicit → IsExplicitAt m prefix form
explicit-word m prefix form e type whole d = (
  (λ t. subst (λ mode. IsTagged m.tagging mode (tag_of prefix) type whole) e t),
  (λ h. subst (λ mode. IsTagged m.tagging mode (tag_of prefix) type whole) (sym e) h),
)

pub implicit-word : (m : Tree) (prefix : TagPrefix) (form : Form) → prefix.mode ≡ Implicit → IsImplicitAt m prefix form
implicit-word m prefix form e type whole d = (
  (λ t. subst (λ mode. IsTagged m.tagging mode (tag_of prefix) type whole) e t),
  (λ h. subst (λ mode. IsTagged m.tagging mode (tag_of prefix) type whole) (sym e) h),
)

pub explicit_default : (m : Tree) (prefix : TagPrefix) (form : Form) → prefix.mode ≡ Unmarked → m.tagging ≡ ExplicitTags → IsExplicitAt m prefix form
explicit_default m prefix form e t type whole d =
    let same : IsTagged m.tagging prefix.mode (tag_of prefix) type whole ≡ (whole ≡ Shape.explicit (tag_of prefix) type) =
    ap (λ (mode : TagMode). IsTagged m.tagging mode (tag_of prefix) type whole) e ∙ ap (λ (tagging : Tagging). IsTagged tagging Unmarked (tag_of prefix) type whole) t in
    (λ h. subst (λ (P : Type 0). P) same h, λ h. subst (λ (P : Type 0). P) (sym same) h)

-- without EXPLICIT TAGS, by what is behind the tag
by_default : (m : Tree) (prefix : TagPrefix) (type whole : Shape) → prefix.mode ≡ Unmarked → (m.tagging ≡ ExplicitTags → ⊥)
    → IsTagged m.tagging prefix.mode (tag_of prefix) type whole ↔ (whole ≡ tagged_by_default (tag_of prefix) type)
by_default m prefix type whole e otherwise = by_tagging m.tagging refl
  where
    by_tagging : (tagging : Tagging) → m.tagging ≡ tagging → IsTagged m.tagging prefix.mode (tag_of prefix) type whole ↔ (whole ≡ tagged_by_default (tag_of prefix) type)
    by_tagging ExplicitTags t = absurd (otherwise t)
    by_tagging ImplicitTags t = rw (e, t) (λ h. h, λ h. h)
    by_tagging AutomaticTags t = rw (e, t) (λ h. h, λ h. h)

pub explicit_choice : (m : Tree) (prefix : TagPrefix) (form : Form) → prefix.mode ≡ Unmarked → (m.tagging ≡ ExplicitTags → ⊥)
    → ((type : Shape) → IsMeaning m form type → IsUntaggedChoice type) → IsExplicitAt m prefix form
explicit_choice m prefix form e otherwise choices type whole d =
    let both = by_default m prefix type whole e otherwise in
    let same = by_default-explicitly (tag_of prefix) type (choices type d) in
    (λ h. both.0 h ∙ same, λ h. both.1 (h ∙ sym same))

pub implicit_default : (m : Tree) (prefix : TagPrefix) (form : Form) → prefix.mode ≡ Unmarked → (m.tagging ≡ ExplicitTags → ⊥)
    → ((type : Shape) → IsMeaning m form type → IsUntaggedChoice type → ⊥) → IsImplicitAt m prefix form
implicit_default m prefix form e otherwise others type whole d =
    let both = by_default m prefix type whole e otherwise in
    let same = by_default-implicitly (tag_of prefix) type (others type d) in
    (λ h. (others type d, both.0 h ∙ same), λ h. both.1 (h.1 ∙ sym same))
