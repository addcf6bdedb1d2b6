use Rattle.std.proofs.Common.{◌≡◌, Some, Result, IfOk, IfErr, map, sym, subst, ℕ}
use Rattle.types.specs.View.{ty_view}
use Rattle.syntax.specs.View.{tree}
use Rattle.syntax.specs.declared.tree.Module.{Module}
use Rattle.builtin_types.specs.Names.{IsFirstRepeat}
use Rattle.notation.specs.Known.{StandsAt, IsNewScope}
use Rattle.notation.specs.Settled.{place_in, IsSettled}
use Rattle.notation.specs.Weighed.{AreWeighed}
use Rattle.notation.specs.declared.scope.Scope.{Scope}
use Rattle.notation.proofs.ResolvingLemmas.{name_means}
use Rattle.notation.proofs.UniqueLemmas.{one_type_of_name}
use Rattle.notation.proofs.RefusingLemmas.{repeat_refused, type_refused}
use Rattle.notation.proofs.UnresolvedLemmas.{not_assigned}
use Rattle.notation.proofs.resolving.resolve.Goals as goal

pub returns-in-None-clause-cycle : goal.returns-in-None-clause-cycle
returns-in-None-clause-cycle c = λ e.
    let m = c.args.module.now in
    let new : IsNewScope m c.in-Ok.scope = subst (λ (r : Result Scope ℕ). IfOk r (λ s. IsNewScope m s)) c.in-Ok.is c.in_ok-scope.ensures.value in
    not_assigned m c.in-Ok.scope c.args.name.now c.place_of.result new c.place_of.ensures.place c.in-None.is

pub returns-in-Ok-type_of-clause-value : goal.returns-in-Ok-type_of-clause-value
returns-in-Ok-type_of-clause-value c =
    let m = c.args.module.now in
    let scope = c.in-Ok.scope in
    let name = c.args.name.now in
    let new : IsNewScope m scope = subst (λ (r : Result Scope ℕ). IfOk r (λ s. IsNewScope m s)) c.in-Ok.is c.in_ok-scope.ensures.value in
    let same = new.scope_of.module_is in
    let own = subst (λ (i : Module). IsNewScope i scope) (sym same) new in
    let settled : IsSettled m c.settle.new.self = subst (λ (i : Module). IsSettled i c.settle.new.self) same (c.in_ok-settle.ensures.settled own) in
    let stands : StandsAt m name c.in-Some.place = subst (λ (i : Module). StandsAt i name c.in-Some.place) same (c.in-Some.ensures.stands own.scope_of) in
    let placed : Some c.in-Some.place ≡ place_in (tree m) name = subst (λ (i : Module). Some c.in-Some.place ≡ place_in (tree i) name) same (c.in-Some.ensures.place own.scope_of) in
    name_means m c.settle.new.self name c.in-Some.place c.in-Some-seen_at.seen (ty_view c.in-Ok-type_of.ty) settled (c.in_ok-settle.ensures.apart own) stands placed c.in-Some-seen_at.ensures.known c.in-Some-seen_at.ensures.seen c.in-Ok-type_of.ensures.value

pub returns-in-Ok-type_of-clause-only : goal.returns-in-Ok-type_of-clause-only
returns-in-Ok-type_of-clause-only c =
    λ other d. one_type_of_name (tree c.args.module.now) c.args.name.now other (ty_view c.in-Ok-type_of.ty) d (returns-in-Ok-type_of-clause-value c)

pub returns-in-None-clause-refused : goal.returns-in-None-clause-refused
returns-in-None-clause-refused c = λ not type means good.
    let m = c.args.module.now in
    let new : IsNewScope m c.in-Ok.scope = subst (λ (r : Result Scope ℕ). IfOk r (λ s. IsNewScope m s)) c.in-Ok.is c.in_ok-scope.ensures.value in
    not_assigned m c.in-Ok.scope c.args.name.now c.place_of.result new c.place_of.ensures.place c.in-None.is type means

pub returns-in-Some-seen_at-clause-refused : goal.returns-in-Some-seen_at-clause-refused
returns-in-Some-seen_at-clause-refused c = λ not.
    let m = c.args.module.now in
    let scope = c.in-Ok.scope in
    let name = c.args.name.now in
    let new : IsNewScope m scope = subst (λ (r : Result Scope ℕ). IfOk r (λ s. IsNewScope m s)) c.in-Ok.is c.in_ok-scope.ensures.value in
    let same = new.scope_of.module_is in
    let own = subst (λ (i : Module). IsNewScope i scope) (sym same) new in
    let settled : IsSettled m c.settle.new.self = subst (λ (i : Module). IsSettled i c.settle.new.self) same (c.in_ok-settle.ensures.settled own) in
    let weighed : AreWeighed m c.settle.new.self = subst (λ (i : Module). AreWeighed i c.settle.new.self) same (c.in_ok-settle.ensures.weighed own) in
    let stands : StandsAt m name c.in-Some.place = subst (λ (i : Module). StandsAt i name c.in-Some.place) same (c.in-Some.ensures.stands own.scope_of) in
    let placed : Some c.in-Some.place ≡ place_in (tree m) name = subst (λ (i : Module). Some c.in-Some.place ≡ place_in (tree i) name) same (c.in-Some.ensures.place own.scope_of) in
    type_refused m c.settle.new.self name c.in-Some.place c.in-Some-seen_at.seen settled weighed (c.in_ok-settle.ensures.apart own) stands placed c.in-Some-seen_at.ensures.known c.in-Some-seen_at.ensures.seen (c.in-Err-Refused.ensures.never (λ e. absurd cc))

pub returns-in-Err-clause-refused : goal.returns-in-Err-clause-refused
returns-in-Err-clause-refused c = λ not type means good.
    repeat_refused _ c.in-Err.place (subst (λ (r : Result Scope ℕ). IfErr r (λ place. IsFirstRepeat (map (λ a. a.0) (tree c.args.module.now).assignments) place)) c.in-Err.is c.in_ok-scope.ensures.repeated) means.names_differ
