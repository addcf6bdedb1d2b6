use Rattle.std.proofs.Common.{arith}
use Rattle.types.proofs.LoopLemmas.{goes_on, ends, so, not_so}
use Rattle.encoding_parts.specs.HeldParts.{members_view}
use Rattle.encoding_parts.proofs.SetComponentLemmas.{NoneDue, member, member_at, members_below, members_in_fields, members_in_slots, none_due_first, none_due_nil, not_due_of, vacant_at}
use Rattle.encoding_parts.proofs.set_components.vacant.Goals as goal

pub loop-place-preserved : goal.loop-place-preserved
loop-place-preserved c =
    let fields = c.args.fields.now in
    let slots = c.args.slots.now in
    let i = c.loop-place.place in
    let f = c.index-fields-place.result in
    let s = c.index-slots-place.result in
    let never = not_so _ _ c.is_due.ensures c.if-is_due.false in
    goes_on (NoneDue c.args.tag) _ (members_view fields slots) i (member f s) (members_below fields slots i (omega arith) (omega arith)) (member_at fields slots i f s (omega arith) (omega arith) c.index-fields-place.is c.index-slots-place.is)
    (none_due_first c.args.tag (member f s) _) (not_due_of c.args.tag f s never) c.loop-place.invariant

pub returns-then-is_due : goal.returns-then-is_due
returns-then-is_due c =
    let f = c.index-fields-place.result in
    let s = c.index-slots-place.result in
    let due = so _ _ c.is_due.ensures c.if-is_due.true in
    (vacant_at c.args.fields.now c.args.slots.now c.loop-place.place f s (omega arith) (omega arith) c.index-fields-place.is c.index-slots-place.is due.0, due.1)

pub returns : goal.returns
returns c =
    let fields = c.args.fields.now in
    let slots = c.args.slots.now in
    ends (NoneDue c.args.tag) (members_view fields slots) c.loop-place.place (omega (arith, members_in_fields fields slots, members_in_slots fields slots)) (none_due_nil c.args.tag) c.loop-place.invariant
