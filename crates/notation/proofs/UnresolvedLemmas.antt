-- A name of which nothing is known once all that can be known is means no type.
use Rattle.std.proofs.Common.{◌≡◌, ℕ, List, Option, None, sym, ◌∙◌, subst}
use Rattle.types.specs.Shape.{Shape}
use Rattle.syntax.specs.View.{tree}
use Rattle.syntax.specs.declared.tree.Module.{Module}
use Rattle.notation.specs.Meaning.{NameMeans}
use Rattle.notation.specs.Known.{IsScope, IsNewScope}
use Rattle.notation.specs.Settled.{place_in}
use Rattle.notation.specs.declared.scope.Scope.{Scope}
use Rattle.notation.proofs.PlaceLemmas.{unassigned_nothing}

own_new : (m : Module) (scope : Scope) → IsNewScope m scope → IsNewScope scope.module.now scope
own_new m scope new = subst (λ (i : Module). IsNewScope i scope) (sym new.scope_of.module_is) new

-- the name is not assigned
pub not_assigned : (m : Module) (scope : Scope) (name : List ℕ) (r : Option ℕ) → IsNewScope m scope → (IsScope scope.module.now scope → r ≡ place_in (tree scope.module.now) name) → r ≡ None → (type : Shape) → NameMeans (tree m) name type → ⊥
not_assigned m scope name r new told none type d =
    let here = told (own_new m scope new).scope_of in
    let at = subst (λ (i : Module). r ≡ place_in (tree i) name) new.scope_of.module_is here in
    unassigned_nothing (tree m) name (sym at ∙ none) type d.meaning
