-- Automatic tags of some lists, each judged by itself.
use Rattle.std.proofs.Common.{◌≡◌, ℕ, List, [], ◌∷◌, refl, ap, arith}
use Rattle.types.specs.Shape.{Shape, Requirement, no_component, component, no_alternative, alternative}
use Rattle.types.proofs.ListLemmas.{contains_first}
use Rattle.syntax.specs.declared.tree.Group.TheVariants.{Sequence}
use Rattle.syntax.specs.declared.tree.TagMode.TheVariants.{Unmarked, Explicit}
use Rattle.syntax.specs.declared.tree.Tagging.TheVariants.{Automatic as AutomaticTags}
use Rattle.syntax.specs.Tree.{required, Form, list, of, choice, reference, no_component as no_written_component, next_component, no_alternative as no_written_alternative, next_alternative, Tree}
use Rattle.types.specs.Universal.{universal}
use Rattle.builtin_types.specs.Tagging.{context}
use Rattle.builtin_types.specs.Names.{NamesDiffer}
use Rattle.builtin_types.proofs.NameInstances.{a, b, apart, no_names, one_name, two_names}
use Rattle.notation.specs.Meaning.{IsMeaning, of_reference, of_tag, of_components, of_item_type, of_alternatives, no_more, one_more, no_other, one_other}
use Rattle.notation.proofs.UniqueLemmas.{one_meaning}
use Rattle.notation.proofs.TagInstances.{with_assignments, u-name, null, behind, null_type, null_meaning}

abbrev automatic : List (List ℕ × Form) → Tree
automatic assignments = with_assignments AutomaticTags assignments

-- `SEQUENCE { a .., b NULL }`
abbrev pair : Form → Form
pair first = list Sequence (next_component a first required (next_component b null required no_written_component))

abbrev pair_type : Shape → Shape → Shape
pair_type first last = Shape.sequence (universal 16) (component a first Requirement.required (component b last Requirement.required no_component))

names_differ : NamesDiffer (a ∷ b ∷ [])
names_differ = two_names a b (apart 97 98 (λ same. absurd (omega (arith, same))))

-- with no tag written: 0 and 1
no_tag : IsMeaning (automatic []) (pair null) (pair_type (null_type (context 0)) (null_type (context 1)))
no_tag =
    of_components names_differ
    (one_more (null_meaning (automatic [])) refl (one_more (null_meaning (automatic [])) refl no_more)) refl

-- with `a [5] NULL` none
one_tag : IsMeaning (automatic []) (pair (behind 5 Unmarked null)) (pair_type (null_type (context 5)) (null_type (universal 5)))
one_tag =
    of_components names_differ
    (one_more (of_tag (null_meaning (automatic [])) refl) refl (one_more (null_meaning (automatic [])) refl no_more)) refl

-- a reference is not written with a tag, whatever it means: `a U`, where U is `[5] NULL`
abbrev tagged_module : Tree
tagged_module = automatic ((u-name, behind 5 Unmarked null) ∷ [])

referred_tag : IsMeaning tagged_module (pair (reference u-name)) (pair_type (null_type (context 0)) (null_type (context 1)))
referred_tag =
    of_components names_differ
    (one_more {type = null_type (context 5)}
    (of_reference {form = behind 5 Unmarked null} (contains_first (u-name, behind 5 Unmarked null) (u-name, behind 5 Unmarked null) [] refl) (of_tag (null_meaning tagged_module) refl))
    refl (one_more (null_meaning tagged_module) refl no_more)) refl

-- and where U is `[5] EXPLICIT NULL`, the tag of the explicit node is replaced
abbrev explicit_module : Tree
explicit_module = automatic ((u-name, behind 5 Explicit null) ∷ [])

referred_explicit : IsMeaning explicit_module (pair (reference u-name)) (pair_type (Shape.explicit (context 0) (null_type (universal 5))) (null_type (context 1)))
referred_explicit =
    of_components names_differ
    (one_more {type = Shape.explicit (context 5) (null_type (universal 5))}
    (of_reference {form = behind 5 Explicit null} (contains_first (u-name, behind 5 Explicit null) (u-name, behind 5 Explicit null) [] refl) (of_tag (null_meaning explicit_module) refl))
    refl (one_more (null_meaning explicit_module) refl no_more)) refl

-- a tag in an inner list or behind OF does not count: `a SEQUENCE { b [7] NULL }` and `a SEQUENCE OF [7] NULL`
abbrev inner : Form
inner = list Sequence (next_component b (behind 7 Unmarked null) required no_written_component)

inner_list : IsMeaning (automatic []) (pair inner) (pair_type (Shape.sequence (context 0) (component b (null_type (context 7)) Requirement.required no_component)) (null_type (context 1)))
inner_list =
    of_components names_differ
    (one_more {type = Shape.sequence (universal 16) (component b (null_type (context 7)) Requirement.required no_component)}
    (of_components (one_name b) (one_more (of_tag (null_meaning (automatic [])) refl) refl no_more) refl)
    refl (one_more (null_meaning (automatic [])) refl no_more)) refl

item_type : IsMeaning (automatic []) (pair (of Sequence (behind 7 Unmarked null))) (pair_type (Shape.sequence_of (context 0) (null_type (context 7))) (null_type (context 1)))
item_type =
    of_components names_differ
    (one_more {type = Shape.sequence_of (universal 16) (null_type (context 7))} (of_item_type (of_tag (null_meaning (automatic [])) refl) refl) refl (one_more (null_meaning (automatic [])) refl no_more)) refl

-- the type of items has no automatic tag
items : IsMeaning (automatic []) (of Sequence null) (Shape.sequence_of (universal 16) (null_type (universal 5)))
items = of_item_type (null_meaning (automatic [])) refl

-- `CHOICE { a CHOICE { b NULL } }`: the tag of an untagged CHOICE is explicit
choice_in_choice : IsMeaning (automatic []) (choice (next_alternative a (choice (next_alternative b null no_written_alternative)) no_written_alternative))
    (Shape.choice (alternative a (Shape.explicit (context 0) (Shape.choice (alternative b (null_type (context 0)) no_alternative))) no_alternative))
choice_in_choice =
    of_alternatives (one_name a)
    (one_other {type = Shape.choice (alternative b (null_type (context 0)) no_alternative)} (of_alternatives (one_name b) (one_other (null_meaning (automatic [])) no_other) refl) no_other)
    refl

-- and not otherwise: each is meant once
abbrev number_of_tag : Shape → ℕ
number_of_tag (Shape.simple tag type) = tag.number
number_of_tag (Shape.explicit tag type) = tag.number
number_of_tag _ = 0

abbrev first_number : Shape → ℕ
first_number (Shape.sequence tag (component name type requirement others)) = number_of_tag type
first_number _ = 0

abbrev second_number : Shape → ℕ
second_number (Shape.sequence tag (component name type requirement (component other last need others))) = number_of_tag last
second_number _ = 0

-- where one tag is written, no other component is tagged
not_tagged : IsMeaning (automatic []) (pair (behind 5 Unmarked null)) (pair_type (null_type (context 5)) (null_type (context 1))) → ⊥
not_tagged h =
    let same = one_meaning (automatic []) no_names one_tag (pair_type (null_type (context 5)) (null_type (context 1))) h in
    let numbers : 5 ≡ 1 = ap second_number same in
    absurd (omega (arith, numbers))

-- a tag inside a reference is not kept
not_kept : IsMeaning tagged_module (pair (reference u-name)) (pair_type (null_type (context 5)) (null_type (context 1))) → ⊥
not_kept h =
    let same = one_meaning tagged_module (one_name u-name) referred_tag (pair_type (null_type (context 5)) (null_type (context 1))) h in
    let numbers : 0 ≡ 5 = ap first_number same in
    absurd (omega (arith, numbers))
