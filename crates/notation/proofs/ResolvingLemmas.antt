-- What is made of the root of a name is what the name means.
use Rattle.std.proofs.Common.{◌≡◌, ◌∙◌, ℕ, List, None, Some, slice_get, sym, ap, subst}
use Rattle.std.specs.Prelude.{option_and_then}
use Rattle.types.specs.Shape.{Shape}
use Rattle.syntax.specs.Tree.{reference}
use Rattle.syntax.specs.View.{form, tree}
use Rattle.syntax.specs.declared.tree.Module.{Module}
use Rattle.notation.specs.Meaning.{IsMeaning, NameMeans}
use Rattle.notation.specs.Under.{MeansUnder}
use Rattle.notation.specs.Known.{StandsAt, IsScope}
use Rattle.notation.specs.Settled.{place_in, known_at, known_of, IsSettled}
use Rattle.notation.specs.Apart.{AreApart, CanMake}
use Rattle.notation.specs.declared.scope.Seen.{Seen}
use Rattle.notation.specs.declared.scope.Scope.{Scope}
use Rattle.notation.proofs.KnownLemmas.{reference_leads}
use Rattle.notation.proofs.ApartLemmas.{can_make-seen}

pub own_scope : (m : Module) (scope : Scope) → IsScope m scope → IsScope scope.module.now scope
own_scope m scope s = subst (λ (i : Module). IsScope i scope) (sym s.module_is) s

pub name_means : (m : Module) (scope : Scope) (name : List ℕ) (place : ℕ) (seen : Seen) (type : Shape) → IsSettled m scope → AreApart scope → StandsAt m name place → Some place ≡ place_in (tree m) name → Some seen ≡ known_at scope.seen.items place → slice_get scope.seen.items place ≡ Some (Some seen)
    → ((seen.weight.cause ≡ None → CanMake scope.module.now scope (form seen.root.expr.now)) → MeansUnder (tree scope.module.now) seen.root.tag (form seen.root.expr.now) type) → NameMeans (tree m) name type
name_means m scope name place seen type settled apart stands placed known at made =
    let s = settled.known in
    let told : known_of (tree m) scope.seen.items name ≡ Some seen = ap (option_and_then (known_at scope.seen.items)) (sym placed) ∙ sym known in
    let moved = subst (λ (i : Module). (seen.weight.cause ≡ None → CanMake i scope (form seen.root.expr.now)) → MeansUnder (tree i) seen.root.tag (form seen.root.expr.now) type) s.module_is made in
    let meant = moved (can_make-seen m scope name seen settled apart told) in
    let d = ((reference_leads m scope name place seen s stands at).same type).1 meant in
    record { names_differ = s.differ; meaning = subst (IsMeaning (tree m) (reference name)) (sym d.under) d.meaning }
