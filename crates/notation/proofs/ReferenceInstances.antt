-- Names that mean nothing, and names that mean a type beside them.
use Rattle.std.proofs.Common.{◌≡◌, inl, inr, ℕ, List, [], ◌∷◌, refl, ap, subst, arith, None, Contains}
use Rattle.types.specs.Shape.{Shape, Requirement, no_component, component}
use Rattle.types.proofs.ListLemmas.{contains_first, contains_later, contains_cases, not_in_nil, first_differs}
use Rattle.syntax.specs.declared.tree.Group.TheVariants.{Sequence, Set}
use Rattle.syntax.specs.declared.tree.Simple.TheVariants.{Boolean}
use Rattle.syntax.specs.declared.tree.Tagging.{Tagging}
use Rattle.syntax.specs.declared.tree.Tagging.TheVariants.{Implicit as ImplicitTags}
use Rattle.syntax.specs.Tree.{required, optional, Form, list, of, enumerated, simple, reference, no_component as no_written_component, next_component, Tree}
use Rattle.types.specs.Universal.{universal}
use Rattle.builtin_types.specs.Names.{NamesDiffer}
use Rattle.builtin_types.proofs.NameInstances.{a, apart, one_name, two_names}
use Rattle.notation.specs.Meaning.{IsAssigned, IsMeaning, of_words, of_reference, of_items, of_components, no_more, one_more, NameMeans}
use Rattle.notation.specs.References.{names_in, IsClosed}
use Rattle.notation.proofs.ReferenceLemmas.{name_means_nothing}
use Rattle.notation.proofs.TagInstances.{with_assignments, t-name, u-name, v-name, null, null_type, null_meaning}

-- the only assignment of a module
only_one : (environment : Tagging) (name : List ℕ) (form other : Form) → IsAssigned (with_assignments environment ((name, form) ∷ [])) name other → form ≡ other
only_one environment name form other h =
    elim (contains_cases (name, form) (name, other) [] h) [ inl same ↦ ap (λ (assigned : List ℕ × Form). assigned.1) same | inr none ↦ absurd (not_in_nil (name, other) none) ]

-- an expression that refers to T, assigned to T
refers_to_itself : (environment : Tagging) (form : Form) → Contains (names_in form) t-name → (type : Shape) → NameMeans (with_assignments environment ((t-name, form) ∷ [])) t-name type → ⊥
refers_to_itself environment form refers = name_means_nothing (with_assignments environment ((t-name, form) ∷ [])) (λ (name : List ℕ). name ≡ t-name) closed t-name refl
  where
    closed : IsClosed (with_assignments environment ((t-name, form) ∷ [])) (λ (name : List ℕ). name ≡ t-name)
    closed name same other assigned =
        let is = only_one environment t-name form other (subst (λ (n : List ℕ). IsAssigned (with_assignments environment ((t-name, form) ∷ [])) n other) same assigned) in
        (t-name, subst (λ (i : Form). Contains (names_in i) t-name) is refers, refl)

-- `T ::= T`, `T ::= SET OF T` and `T ::= SEQUENCE { a T OPTIONAL }`
itself : (environment : Tagging) (type : Shape) → NameMeans (with_assignments environment ((t-name, reference t-name) ∷ [])) t-name type → ⊥
itself environment = refers_to_itself environment (reference t-name) (contains_first t-name t-name [] refl)

set_of_itself : (environment : Tagging) (type : Shape) → NameMeans (with_assignments environment ((t-name, of Set (reference t-name)) ∷ [])) t-name type → ⊥
set_of_itself environment = refers_to_itself environment (of Set (reference t-name)) (contains_first t-name t-name [] refl)

optional_itself : (environment : Tagging) (type : Shape) → NameMeans (with_assignments environment ((t-name, list Sequence (next_component a (reference t-name) optional no_written_component)) ∷ [])) t-name type → ⊥
optional_itself environment = refers_to_itself environment (list Sequence (next_component a (reference t-name) optional no_written_component)) (contains_first t-name t-name [] refl)

-- a name that is not assigned
not_assigned : (environment : Tagging) (type : Shape) → NameMeans (with_assignments environment []) t-name type → ⊥
not_assigned environment = name_means_nothing (with_assignments environment []) (λ (name : List ℕ). name ≡ t-name) (λ name same other assigned. absurd (not_in_nil (name, other) assigned)) t-name refl

-- `T ::= NULL` beside `U ::= V`, where V is not assigned
beside_unknown : (environment : Tagging) → NameMeans (with_assignments environment ((t-name, null) ∷ (u-name, reference v-name) ∷ [])) t-name (null_type (universal 5))
beside_unknown environment = record {
  names_differ = two_names t-name u-name (apart 84 85 (λ same. absurd (omega (arith, same))));
  meaning = of_reference {form = null} (contains_first (t-name, null) (t-name, null) ((u-name, reference v-name) ∷ []) refl) (of_words refl);
}

-- and beside two assignments of U it means nothing
beside_two : (environment : Tagging) (type : Shape) → NameMeans (with_assignments environment ((u-name, null) ∷ (t-name, null) ∷ (u-name, simple Boolean) ∷ [])) t-name type → ⊥
beside_two environment type h =
    first_differs u-name (t-name ∷ u-name ∷ []) h.names_differ (contains_later t-name u-name (u-name ∷ []) (contains_first u-name u-name [] refl))

-- `SEQUENCE { a NULL, a BOOLEAN }` and `ENUMERATED { a, a }` mean nothing
twice : (names : List (List ℕ)) → NamesDiffer (a ∷ a ∷ names) → ⊥
twice names differ = first_differs a (a ∷ names) differ (contains_first a a names refl)

equal_components : (m : Tree) (type : Shape) → IsMeaning m (list Sequence (next_component a null required (next_component a (simple Boolean) required no_written_component))) type → ⊥
equal_components m type (of_components differ ds e) = twice [] differ

equal_items : (m : Tree) (type : Shape) → IsMeaning m (enumerated ((a, None) ∷ (a, None) ∷ [])) type → ⊥
equal_items m type (of_items differ numbered e) = twice [] differ

-- names in different lists may be equal
abbrev inner : Form
inner = list Sequence (next_component a null required no_written_component)

abbrev inner_type : Shape
inner_type = Shape.sequence (universal 16) (component a (null_type (universal 5)) Requirement.required no_component)

abbrev outer : Form
outer = list Sequence (next_component a inner required no_written_component)

within_another : IsMeaning (with_assignments ImplicitTags []) outer (Shape.sequence (universal 16) (component a inner_type Requirement.required no_component))
within_another =
    of_components (one_name a)
    (one_more (of_components (one_name a) (one_more (null_meaning (with_assignments ImplicitTags [])) refl no_more) refl) refl no_more)
    refl
