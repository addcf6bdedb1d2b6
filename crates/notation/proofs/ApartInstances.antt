-- Lists whose names differ, and lists of which one name stands twice.
use Rattle.std.proofs.Common.{ℕ, List, [], ◌∷◌, None, refl}
use Rattle.types.proofs.ListLemmas.{contains_first, first_differs}
use Rattle.syntax.specs.declared.tree.Group.TheVariants.{Sequence, Set}
use Rattle.syntax.specs.declared.tree.Simple.TheVariants.{Boolean}
use Rattle.syntax.specs.Tree.{required, Form, list, of, choice, enumerated, named_bits, simple, reference, no_component, next_component, no_alternative, next_alternative}
use Rattle.notation.specs.Apart.{HasNamesApart}
use Rattle.builtin_types.proofs.NameInstances.{a, one_name}
use Rattle.notation.proofs.TagInstances.{t-name, null}

module _ (IsOne : List ℕ → Type 0) where
  -- `SEQUENCE { a NULL, a BOOLEAN }`
  abbrev a_twice : Form
  a_twice = list Sequence (next_component a null required (next_component a (simple Boolean) required no_component))

  components : HasNamesApart IsOne a_twice → ⊥
  components h = first_differs a (a ∷ []) h.0 (contains_first a a [] refl)

  -- `SET OF SEQUENCE { a NULL, a BOOLEAN }`
  within : HasNamesApart IsOne (of Set a_twice) → ⊥
  within h = components h

  -- `CHOICE { a NULL, a BOOLEAN }`, `ENUMERATED { a, a }` and `BIT STRING { a(0), a(1) }`
  alternatives : HasNamesApart IsOne (choice (next_alternative a null (next_alternative a (simple Boolean) no_alternative))) → ⊥
  alternatives h = first_differs a (a ∷ []) h.0 (contains_first a a [] refl)

  items : HasNamesApart IsOne (enumerated ((a, None) ∷ (a, None) ∷ [])) → ⊥
  items h = first_differs a (a ∷ []) h (contains_first a a [] refl)

  bits : HasNamesApart IsOne (named_bits ((a, 0) ∷ (a, 1) ∷ [])) → ⊥
  bits h = first_differs a (a ∷ []) h (contains_first a a [] refl)

  -- `SEQUENCE { a SEQUENCE { a NULL } }`: names in different lists may be equal
  one_in_another : HasNamesApart IsOne (list Sequence (next_component a (list Sequence (next_component a null required no_component)) required no_component))
  one_in_another = (one_name a, ((one_name a, (tt, tt)), tt))

  -- `SEQUENCE { a T }`: as T is
  referring : IsOne t-name → HasNamesApart IsOne (list Sequence (next_component a (reference t-name) required no_component))
  referring h = (one_name a, (h, tt))

  refers : HasNamesApart IsOne (list Sequence (next_component a (reference t-name) required no_component)) → IsOne t-name
  refers h = h.1.0
