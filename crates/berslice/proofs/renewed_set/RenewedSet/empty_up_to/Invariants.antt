use Rattle.std.proofs.Common.{◌≡◌, ◌-◌, ◌≤◌, length}
use Rattle.berslice.specs.RenewedSet.{held_slots, without}
use Rattle.berslice.proofs.renewed_set.RenewedSet.empty_up_to.Given as goal

abbrev pub invariant-loop-place : goal.invariant-loop-place
invariant-loop-place l =
    (without l.place (l.self.stop - l.place) l.self.set_components.slots.items ≡ held_slots l.initial.self)
    × (l.self.stop ≤ length l.self.set_components.slots.items)
    × (l.self.stop ≡ l.initial.self.stop)
    × (l.self.set_components.fields ≡ l.initial.self.set_components.fields)
    × (l.place ≤ l.initial.end)
