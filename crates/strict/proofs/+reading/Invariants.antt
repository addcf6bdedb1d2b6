use Rattle.std.proofs.Common.{◌≡◌, ℕ, length, map, take, drop, ◌-◌}
use Rattle.octets.specs.Rule.{rule_of}
use Rattle.types.specs.View.{ty_view, field_view}
use Rattle.encoding_parts.specs.Renewed.{new_items}
use Rattle.strict.specs.Items.{AreItemsRead, between}
use Rattle.strict.specs.Components.{AreComponentsRead}
use Rattle.strict.specs.Members.{AreMembersRead}
use Rattle.strict.proofs.+reading.Given as goal

abbrev pub invariant-components::read_each-loop-place : goal.invariant-components::read_each-loop-place
invariant-components::read_each-loop-place l =
    AreComponentsRead (rule_of l.rule) (map field_view (take l.place l.fields)) (map field_view (drop l.place l.fields)) l.inside.definite l.inside.room l.octets (take l.place l.slots) (length l.octets - length l.rest)
    × (length l.slots ≡ length l.fields)
    × (l.rest ≡ drop (length l.octets - length l.rest) l.octets)
    × (l.left.room ≡ l.inside.room - (length l.octets - length l.rest))
    × (l.left.definite ≡ l.inside.definite)

abbrev pub invariant-items::read_listed-loop-alloc : goal.invariant-items::read_listed-loop-alloc
invariant-items::read_listed-loop-alloc l = (before : ℕ)
    × AreItemsRead (rule_of l.rule) (ty_view l.inner) l.ordered l.inside.definite l.inside.room l.octets (new_items l.list) before (length l.octets - length l.rest)
    × (l.last ≡ between l.octets before (length l.octets - length l.rest))
    × (l.rest ≡ drop (length l.octets - length l.rest) l.octets)
    × (l.room ≡ l.inside.room - (length l.octets - length l.rest))

abbrev pub decreases-items::read_listed-loop-alloc : goal.decreases-items::read_listed-loop-alloc
decreases-items::read_listed-loop-alloc l = length l.rest

abbrev pub invariant-members::read_members-loop-set_components : goal.invariant-members::read_members-loop-set_components
invariant-members::read_members-loop-set_components l =
    AreMembersRead (rule_of l.rule) (map field_view l.fields) l.set_components.slots.items l.last l.inside.definite l.inside.room l.octets l.at
    × (l.set_components.fields.now ≡ l.fields)

abbrev pub decreases-members::read_members-loop-set_components : goal.decreases-members::read_members-loop-set_components
decreases-members::read_members-loop-set_components l = length l.octets - l.at
