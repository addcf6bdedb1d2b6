-- The size of a type that is named twice, counted before the type is made, and a name that never has a type.
use Rattle.std.proofs.Common.{◌≡◌, ℕ, false, List, [], ◌∷◌, refl, ap, inl, inr}
use Rattle.types.proofs.ListLemmas.{contains_cases, not_in_nil}
use Rattle.syntax.specs.declared.tree.Group.TheVariants.{Sequence}
use Rattle.syntax.specs.declared.tree.Simple.TheVariants.{Null}
use Rattle.syntax.specs.declared.tree.TagClass.TheVariants.{ContextSpecific}
use Rattle.syntax.specs.declared.tree.TagPrefix.{TagPrefix}
use Rattle.syntax.specs.declared.tree.TagMode.TheVariants.{Unmarked}
use Rattle.syntax.specs.declared.tree.Tagging.TheVariants.{Explicit as ExplicitTags}
use Rattle.syntax.specs.Tree.{Ending, required, Form, tagged, list, reference, no_component as no_written_component, next_component, Tree}
use Rattle.builtin_types.proofs.NameInstances.{a, b}
use Rattle.notation.specs.Meaning.{IsAssigned}
use Rattle.notation.specs.Size.{HaveSize, ComponentsHaveSize}
use Rattle.notation.proofs.UnderLemmas.{explicit_default}
use Rattle.notation.proofs.SizeLemmas.{size-simple, size-explicit_tag, size-reference, size-list, part_size-plain, components_size-none, components_size-more}
use Rattle.notation.proofs.TagInstances.{with_assignments, u-name, null}

-- `SEQUENCE { a U, b U }`, where U is `[0] NULL` under EXPLICIT TAGS
abbrev zero_tag : TagPrefix
zero_tag = record { class = ContextSpecific; number = 0; mode = Unmarked }

abbrev u : Form
u = tagged zero_tag null

abbrev u_module : Tree
u_module = with_assignments ExplicitTags ((u-name, u) ∷ [])

only_u : (other : Form) → IsAssigned u_module u-name other → u ≡ other
only_u other h = elim (contains_cases (u-name, u) (u-name, other) [] h) [ inl same ↦ ap (λ (assigned : List ℕ × Form). assigned.1) same | inr none ↦ absurd (not_in_nil (u-name, other) none) ]

u_size : HaveSize u_module (reference u-name) 2 1
u_size = size-reference u_module u-name u 2 1 only_u (size-explicit_tag u_module zero_tag null 1 0 (explicit_default u_module zero_tag null refl refl) (size-simple u_module Null))

abbrev part : List ℕ → List ℕ × Form × Ending
part name = (name, reference u-name, required)

both_size : ComponentsHaveSize u_module false (part a ∷ part b ∷ []) 4 1
both_size =
    components_size-more u_module false (part a ∷ []) (part b) 2 1 2 1
    (components_size-more u_module false [] (part a) 0 0 2 1 (components_size-none u_module false) (part_size-plain u_module 0 (reference u-name) 2 1 u_size))
    (part_size-plain u_module 1 (reference u-name) 2 1 u_size)

-- five nodes and two levels
list_size : HaveSize u_module (list Sequence (next_component a (reference u-name) required (next_component b (reference u-name) required no_written_component))) 5 2
list_size = size-list u_module Sequence (part a ∷ part b ∷ []) 4 1 both_size
