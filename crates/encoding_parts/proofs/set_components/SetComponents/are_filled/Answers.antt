use Rattle.std.proofs.Common.{arith}
use Rattle.types.proofs.LoopLemmas.{goes_on, stops, ends, is_so, is_not_so, so, not_so}
use Rattle.encoding_parts.specs.HeldParts.{members_view}
use Rattle.encoding_parts.proofs.SetComponentLemmas.{AreFilled, IsFilled, member, member_at, members_below, members_in_fields, members_in_slots, is_empty, is_not_empty, filled_first, filled_if_come, filled_if_absent, not_filled}
use Rattle.encoding_parts.proofs.set_components.SetComponents.are_filled.Goals.{else-is_none-via-then-is_none+else-not-may_be_absent, else-is_none-via-else-is_none}
use Rattle.encoding_parts.proofs.set_components.SetComponents.are_filled.Goals as goal

pub loop-place-preserved : goal.loop-place-preserved
loop-place-preserved c =
    let fields = c.args.self.now.fields.now in
    let slots = c.args.self.now.slots.items in
    let i = c.loop-place.place in
    let f = c.index-fields-place.result in
    let s = c.index.result.now in
    let filled : IsFilled (member f s) = elim c.else-is_none.branch [
      | else-is_none-via-then-is_none+else-not-may_be_absent w ↦ filled_if_absent f s (so _ _ w.may_be_absent.ensures w.if-not-may_be_absent.false)
      | else-is_none-via-else-is_none w ↦ filled_if_come f s (is_not_empty s _ c.is_none.ensures w.if-is_none.false)
    ] in
    goes_on AreFilled _ (members_view fields slots) i (member f s) (members_below fields slots i (omega arith) (omega arith)) (member_at fields slots i f s (omega arith) (omega arith) c.index-fields-place.is c.index.ensures)
    (filled_first (member f s) _) filled c.loop-place.invariant

pub returns-then-not-may_be_absent : goal.returns-then-not-may_be_absent
returns-then-not-may_be_absent c =
    let fields = c.args.self.now.fields.now in
    let slots = c.args.self.now.slots.items in
    let i = c.loop-place.place in
    let f = c.index-fields-place.result in
    let s = c.index.result.now in
    is_not_so (stops AreFilled _ (members_view fields slots) i (member f s) (members_below fields slots i (omega arith) (omega arith)) (member_at fields slots i f s (omega arith) (omega arith) c.index-fields-place.is c.index.ensures)
    (filled_first (member f s) _) (not_filled f s (is_empty s _ c.is_none.ensures c.if-is_none.true) (not_so _ _ c.may_be_absent.ensures c.if-not-may_be_absent.true)) c.loop-place.invariant)

pub returns : goal.returns
returns c =
    let fields = c.args.self.now.fields.now in
    let slots = c.args.self.now.slots.items in
    is_so (ends AreFilled (members_view fields slots) c.loop-place.place (omega (arith, members_in_fields fields slots, members_in_slots fields slots)) tt c.loop-place.invariant)
