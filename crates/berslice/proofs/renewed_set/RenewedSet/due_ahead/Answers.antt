use Rattle.std.proofs.Common.{arith}
use Rattle.berslice.proofs.RenewedSetLemmas.{next_ahead}
use Rattle.berslice.proofs.renewed_set.RenewedSet.due_ahead.Goals as goal

pub returns-clause-next : goal.returns-clause-next
returns-clause-next c =
    let mid = c.empty_up_to.new.self in
    let done = c.empty_up_to.ensures in
    let some = c.if-place-self.false in (
      record { fields = done.roomy.fields; slots = done.roomy.slots; range = omega (arith, some) },
      next_ahead c.ahead-place.result c.args.self.now mid done (omega (arith, some)),
    )
