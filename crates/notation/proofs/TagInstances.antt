-- Modules and expressions of the examples, and what tags make of them.
use Rattle.std.proofs.Common.{◌≡◌, ℕ, List, [], ◌∷◌, refl, sym, ap, subst, arith}
use Rattle.octets.specs.declared.tag.Tag.{Tag}
use Rattle.types.specs.Shape.{SimpleType, Shape, no_alternative, alternative}
use Rattle.types.proofs.ListLemmas.{contains_first}
use Rattle.syntax.specs.declared.tree.Simple.TheVariants.{Null}
use Rattle.syntax.specs.declared.tree.TagClass.TheVariants.{ContextSpecific}
use Rattle.syntax.specs.declared.tree.TagMode.{TagMode}
use Rattle.syntax.specs.declared.tree.TagMode.TheVariants.{Unmarked, Implicit, Explicit}
use Rattle.syntax.specs.declared.tree.Tagging.{Tagging}
use Rattle.syntax.specs.declared.tree.Tagging.TheVariants.{Explicit as ExplicitTags, Implicit as ImplicitTags, Automatic as AutomaticTags}
use Rattle.syntax.specs.Tree.{Form, tagged, choice, simple, reference, no_alternative as no_written_alternative, next_alternative, Tree}
use Rattle.types.specs.Universal.{universal}
use Rattle.builtin_types.specs.Tagging.{context, IsUntaggedChoice}
use Rattle.builtin_types.proofs.NameInstances.{a, no_names, one_name}
use Rattle.notation.specs.Meaning.{IsMeaning, of_words, of_reference, of_tag, of_alternatives, no_other, one_other}
use Rattle.notation.proofs.UniqueLemmas.{one_meaning}

-- the module with this tag default and these assignments
abbrev pub with_assignments : Tagging → List (List ℕ × Form) → Tree
with_assignments environment assignments = record { name = 77 ∷ []; tagging = environment; assignments = assignments }

abbrev pub alone : Tagging → Tree
alone environment = with_assignments environment []

-- names
abbrev pub t-name : List ℕ
t-name = 84 ∷ []

abbrev pub u-name : List ℕ
u-name = 85 ∷ []

abbrev pub v-name : List ℕ
v-name = 86 ∷ []

-- `NULL`, and `[number]` with a keyword or none
abbrev pub null : Form
null = simple Null

abbrev pub behind : ℕ → TagMode → Form → Form
behind number mode form = tagged (record { class = ContextSpecific; number = number; mode = mode }) form

abbrev pub null_type : Tag → Shape
null_type tag = Shape.simple tag SimpleType.null

pub null_meaning : (m : Tree) → IsMeaning m null (null_type (universal 5))
null_meaning m = of_words refl

-- `[1] NULL`
under_explicit_tags : IsMeaning (alone ExplicitTags) (behind 1 Unmarked null) (Shape.explicit (context 1) (null_type (universal 5)))
under_explicit_tags = of_tag (null_meaning (alone ExplicitTags)) refl

under_implicit_tags : IsMeaning (alone ImplicitTags) (behind 1 Unmarked null) (null_type (context 1))
under_implicit_tags = of_tag (null_meaning (alone ImplicitTags)) refl

under_automatic_tags : IsMeaning (alone AutomaticTags) (behind 1 Unmarked null) (null_type (context 1))
under_automatic_tags = of_tag (null_meaning (alone AutomaticTags)) refl

-- `[1] IMPLICIT [2] EXPLICIT NULL`: the tag replaces that of the explicit node, and not the one within
pub implicit_of_explicit : (environment : Tagging) → IsMeaning (alone environment) (behind 1 Implicit (behind 2 Explicit null)) (Shape.explicit (context 1) (null_type (universal 5)))
implicit_of_explicit environment = of_tag {type = Shape.explicit (context 2) (null_type (universal 5))} (of_tag (null_meaning (alone environment)) refl) ((λ c. c), refl)

abbrev outermost_number : Shape → ℕ
outermost_number (Shape.simple tag type) = tag.number
outermost_number (Shape.explicit tag type) = tag.number
outermost_number _ = 0

not_within : (environment : Tagging) → IsMeaning (alone environment) (behind 1 Implicit (behind 2 Explicit null)) (Shape.explicit (context 2) (null_type (context 1))) → ⊥
not_within environment h =
    let same = one_meaning (alone environment) no_names (implicit_of_explicit environment) (Shape.explicit (context 2) (null_type (context 1))) h in
    let numbers : 1 ≡ 2 = ap outermost_number same in
    absurd (omega (arith, numbers))

-- `[1] EXPLICIT [2] IMPLICIT NULL`
pub explicit_of_implicit : (environment : Tagging) → IsMeaning (alone environment) (behind 1 Explicit (behind 2 Implicit null)) (Shape.explicit (context 1) (null_type (context 2)))
explicit_of_implicit environment = of_tag {type = null_type (context 2)} (of_tag (null_meaning (alone environment)) ((λ c. c), refl)) refl

abbrev nodes_around : Shape → ℕ
nodes_around (Shape.explicit tag type) = 1
nodes_around _ = 0

not_replaced : (environment : Tagging) → IsMeaning (alone environment) (behind 1 Explicit (behind 2 Implicit null)) (null_type (context 1)) → ⊥
not_replaced environment h =
    let same = one_meaning (alone environment) no_names (explicit_of_implicit environment) (null_type (context 1)) h in
    let numbers : 1 ≡ 0 = ap nodes_around same in
    absurd (omega (arith, numbers))

-- `CHOICE { a NULL }`, C
abbrev pub c : Form
c = choice (next_alternative a null no_written_alternative)

abbrev pub c_type : Shape
c_type = Shape.choice (alternative a (null_type (universal 5)) no_alternative)

pub c_meaning : (assignments : List (List ℕ × Form)) → IsMeaning (with_assignments ImplicitTags assignments) c c_type
c_meaning assignments = of_alternatives (one_name a) (one_other (null_meaning (with_assignments ImplicitTags assignments)) no_other) refl

-- under IMPLICIT TAGS `[1] C` is explicit, also where C is reached by a reference
implicit_choice : IsMeaning (alone ImplicitTags) (behind 1 Unmarked c) (Shape.explicit (context 1) c_type)
implicit_choice = of_tag (c_meaning []) refl

abbrev d_module : Tree
d_module = with_assignments ImplicitTags ((u-name, c) ∷ [])

referred_choice : IsMeaning d_module (behind 1 Unmarked (reference u-name)) (Shape.explicit (context 1) c_type)
referred_choice = of_tag (of_reference {form = c} (contains_first (u-name, c) (u-name, c) [] refl) (c_meaning ((u-name, c) ∷ []))) refl

-- and `[1] U` where U is `[5] C` replaces the tag of the explicit node
abbrev tagged_module : Tree
tagged_module = with_assignments ImplicitTags ((u-name, behind 5 Unmarked c) ∷ [])

tagged_choice : IsMeaning tagged_module (behind 1 Unmarked (reference u-name)) (Shape.explicit (context 1) c_type)
tagged_choice =
    of_tag {type = Shape.explicit (context 5) c_type}
    (of_reference {form = behind 5 Unmarked c} (contains_first (u-name, behind 5 Unmarked c) (u-name, behind 5 Unmarked c) [] refl) (of_tag (c_meaning ((u-name, behind 5 Unmarked c) ∷ [])) refl))
    refl

-- `[1] IMPLICIT C` means nothing
pub implicit_word_choice : (environment : Tagging) (type : Shape) → IsMeaning (alone environment) (behind 1 Implicit c) type → ⊥
implicit_word_choice environment type (of_tag (of_alternatives n ds e) t) = t.0 (subst IsUntaggedChoice (sym e) tt)
