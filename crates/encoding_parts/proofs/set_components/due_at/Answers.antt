use Rattle.std.proofs.Common.{arith}
use Rattle.types.proofs.LoopLemmas.{so}
use Rattle.encoding_parts.proofs.SetComponentLemmas.{vacant_at}
use Rattle.encoding_parts.proofs.set_components.due_at.Goals as goal

pub returns-then-is_due : goal.returns-then-is_due
returns-then-is_due c =
    let f = c.index-fields-place.result in
    let s = c.index-slots-place.result in
    let due = so _ _ c.is_due.ensures c.if-is_due.true in
    (vacant_at c.args.fields.now c.args.slots.now c.args.place f s (omega arith) (omega arith) c.index-fields-place.is c.index-slots-place.is due.0, due.1)
