use Rattle.std.proofs.Common.{◌≡◌, ◌+◌, ◌-◌, None, refl, subst, rules}
use Rattle.types.specs.Encoding.{most_nested}
use Rattle.berreader.specs.declared.cursor.Cursor.{Cursor}
use Rattle.berreader.specs.declared.nest.Nest.{Nest}
use Rattle.berreader.specs.Items.{AreItemsInside}
use Rattle.berreader.specs.Nest.{IsSoundNest}
use Rattle.berreader.specs.Stack.{layers_of}
use Rattle.berreader.proofs.CursorLemmas.{items_nest, sound_nest}
use Rattle.berreader.proofs.ItemsLemmas.{items_taken}
use Rattle.berreader.proofs.cursor.Cursor.take_items.Goals as goal

pub returns-clause-taken : goal.returns-clause-taken
returns-clause-taken c =
    let old = c.args.self.now in
    let octets = c.args.octets.now in
    let used = c.take_items-used.result in
    let layers = c.take_items-used.new.self in
    let none : old.string ≡ None = search rules in
    let nest : Nest = record { ty = old.nest.ty; layers = layers; taken = old.nest.taken + used } in
    let new : Cursor = record { nest = nest; string = old.string } in
    items_nest old new octets used none none (items_taken old.nest nest octets used record {
      type = refl;
      taken = refl;
      layers = subst (λ n. AreItemsInside (most_nested - n) (layers_of old.nest.layers) (layers_of layers) old.nest.taken octets used) c.depth-depth.ensures c.take_items-used.ensures.items;
    })

pub returns-clause-sound : goal.returns-clause-sound
returns-clause-sound c =
    let old = c.args.self.now in
    let none : old.string ≡ None = search rules in
    let nest : Nest = record { ty = old.nest.ty; layers = c.take_items-used.new.self; taken = old.nest.taken + c.take_items-used.result } in
    let sound : IsSoundNest nest = search rules in
    sound_nest (record { nest = nest; string = old.string }) none sound
