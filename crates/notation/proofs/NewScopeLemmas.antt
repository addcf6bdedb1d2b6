-- A scope of which nothing but the names is known.
use Rattle.std.proofs.Common.{◌≡◌, ℕ, zero, suc, List, [], ◌∷◌, ◌++◌, Option, Some, None, map, take, length, slice_get, ap, ◌∙◌, subst, arith}
use Rattle.std.proofs.lemmas.Simd.{map-map}
use Rattle.std.proofs.lemmas.List.{take_all}
use Rattle.syntax.specs.View.{assignment}
use Rattle.syntax.specs.declared.tree.Assignment.{Assignment}
use Rattle.syntax.specs.declared.tree.Module.{Module}
use Rattle.builtin_types.specs.Names.{NamesDiffer, AreEntered}
use Rattle.notation.specs.Known.{KnowsNothing, IsNewScope}
use Rattle.notation.specs.declared.scope.Seen.{Seen}
use Rattle.notation.specs.declared.scope.Scope.{Scope}

one_unknown : (seen : List (Option Seen)) (place : ℕ) (s : Seen) → slice_get (seen ++ None ∷ []) place ≡ Some (Some s) → slice_get seen place ≡ Some (Some s)
one_unknown [] zero s e = absurd cc
one_unknown [] (suc place) s e = absurd cc
one_unknown (x ∷ seen) zero s e = e
one_unknown (x ∷ seen) (suc place) s e = one_unknown seen place s e

pub unknown-push : (seen after : List (Option Seen)) → after ≡ seen ++ None ∷ [] → KnowsNothing seen → KnowsNothing after
unknown-push seen after is h = λ place s e. h place s (one_unknown seen place s (subst (λ (xs : List (Option Seen)). slice_get xs place ≡ Some (Some s)) is e))

pub new_scope : (m : Module) (scope : Scope) (place : ℕ) → scope.module.now ≡ m → place ≡ length m.assignments.items → AreEntered (map (λ k. k.now) scope.names.keys) (map (λ a. a.0) (map assignment (take place m.assignments.items)))
    → length scope.seen.items ≡ place → KnowsNothing scope.seen.items → IsNewScope m scope
new_scope m scope place is all entered long new =
    let items = m.assignments.items in
    let same : take place items ≡ items = take_all place items (omega (arith, all)) in
    record {
      scope_of = record {
        module_is = is;
        differ = subst (λ (xs : List Assignment). NamesDiffer (map (λ a. a.0) (map assignment xs))) same entered.differ;
        long = long ∙ all;
        names = entered.are ∙ ap (λ (xs : List Assignment). map (λ a. a.0) (map assignment xs)) same ∙ map-map (λ a. a.0) assignment items;
        seen = λ p a s at known. absurd (new p s known);
      };
      new = new;
    }
