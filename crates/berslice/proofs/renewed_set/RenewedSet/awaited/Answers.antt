use Rattle.std.proofs.Common.{ap, arith}
use Rattle.types.specs.View.{ty_view}
use Rattle.berslice.proofs.RenewedSetLemmas.{next_first, next_last}
use Rattle.berslice.proofs.renewed_set.RenewedSet.awaited.Goals as goal

pub returns-in-Some-clause-next : goal.returns-in-Some-clause-next
returns-in-Some-clause-next c =
    let awaited = c.in-Some.awaited in
    let same = c.in-Some.ensures.same in
    next_last c.args.self.now awaited.place (ty_view awaited.ty.now) c.requires (omega (arith, c.if-self.false)) same.0 (λ f at. ap ty_view (same.1 f at))

pub returns-clause-next : goal.returns-clause-next
returns-clause-next c =
    let awaited = c.in_ok-awaited.awaited in
    let same = c.in_ok-awaited.ensures.same in
    next_first c.args.self.now awaited.place (ty_view awaited.ty.now) c.requires (omega (arith, c.if-self.false)) same.0 (λ f at. ap ty_view (same.1 f at))
