use Rattle.std.proofs.Common.{arith}
use Rattle.encoding_parts.specs.HeldParts.{come_view}
use Rattle.encoding_parts.proofs.SetComponentLemmas.{members_in_slots, set_component_taken, vacant_below}
use Rattle.encoding_parts.proofs.set_components.SetComponents.take.Goals as goal

pub index_mut-requires : goal.index_mut-requires
index_mut-requires c =
    let s = c.args.self.now in
    omega (arith, vacant_below (come_view s) c.args.which c.requires.0 c.requires.1, members_in_slots s.fields.now s.slots.items, s.slots.ok.0)

pub overflow_add-self : goal.overflow_add-self
overflow_add-self c =
    let s = c.args.self.now in
    omega (arith, vacant_below (come_view s) c.args.which c.requires.0 c.requires.1, members_in_slots s.fields.now s.slots.items, s.slots.ok.0, s.slots.ok.1, s.slots.small)

pub returns : goal.returns
returns c =
    let s = c.args.self.now in
    set_component_taken s.fields.now s.slots.items c.args.which c.requires.0 c.args.value c.requires.1
