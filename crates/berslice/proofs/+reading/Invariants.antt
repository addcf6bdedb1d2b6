use Rattle.std.proofs.Common.{◌≡◌, length, map, take}
use Rattle.types.specs.View.{ty_view, field_view}
use Rattle.berslice.specs.RenewedSet.{renewed_view, IsFilled, IsRoomy}
use Rattle.encoding_parts.specs.Parts.{Parts}
use Rattle.berslice.proofs.ReadingLemmas.{AreComponentsBefore, AreItemsBefore, AreMembersBefore}
use Rattle.encoding_parts.specs.Renewed.{new_items}
use Rattle.berslice.proofs.+reading.Given as goal

abbrev pub invariant-components::read_each-loop-place : goal.invariant-components::read_each-loop-place
invariant-components::read_each-loop-place l =
    AreComponentsBefore l.levels (map field_view (take l.place l.fields)) l.octets l.rest (take l.place l.slots)
    × (length l.slots ≡ length l.fields)

abbrev pub invariant-items::read_items-loop-alloc : goal.invariant-items::read_items-loop-alloc
invariant-items::read_items-loop-alloc l = AreItemsBefore l.levels (ty_view l.inner) l.octets l.rest (new_items l.initial.list) (new_items l.list)

abbrev pub decreases-items::read_items-loop-alloc : goal.decreases-items::read_items-loop-alloc
decreases-items::read_items-loop-alloc l = length l.rest

abbrev pub invariant-leaf_items::read_leaf_items-loop-alloc : goal.invariant-leaf_items::read_leaf_items-loop-alloc
invariant-leaf_items::read_leaf_items-loop-alloc l = AreItemsBefore l.levels (ty_view l.inner) l.octets l.rest (new_items l.initial.list) (new_items l.list)

abbrev pub decreases-leaf_items::read_leaf_items-loop-alloc : goal.decreases-leaf_items::read_leaf_items-loop-alloc
decreases-leaf_items::read_leaf_items-loop-alloc l = length l.rest

abbrev pub invariant-members::read_members-loop-awaited : goal.invariant-members::read_members-loop-awaited
invariant-members::read_members-loop-awaited l =
    AreMembersBefore l.levels (map field_view l.fields) l.octets l.rest (Parts.set (renewed_view l.set))
    × IsRoomy l.set
    × IsFilled l.set
    × (l.set.set_components.fields.now ≡ l.fields)

abbrev pub decreases-members::read_members-loop-awaited : goal.decreases-members::read_members-loop-awaited
decreases-members::read_members-loop-awaited l = length l.rest

abbrev pub invariant-members::read_members-loop-alloc : goal.invariant-members::read_members-loop-alloc
invariant-members::read_members-loop-alloc l =
    AreMembersBefore l.levels (map field_view l.fields) l.octets l.rest (Parts.set (renewed_view l.set))
    × IsRoomy l.set
    × IsFilled l.set
    × (l.set.set_components.fields.now ≡ l.fields)

abbrev pub decreases-members::read_members-loop-alloc : goal.decreases-members::read_members-loop-alloc
decreases-members::read_members-loop-alloc l = length l.rest
