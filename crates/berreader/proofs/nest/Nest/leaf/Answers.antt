use Rattle.std.proofs.Common.{◌≡◌, ◌+◌, ◌≤◌, [], false, Err, refl, sym, ap, subst, arith}
use Rattle.octets.specs.declared.TheConstants.{MAX_ENCODING}
use Rattle.types.specs.Leaf.{tag_of}
use Rattle.types.specs.View.{ty_view, value_view}
use Rattle.berreader.specs.declared.nest.Nest.{Nest}
use Rattle.encoding_parts.specs.Head.{IsReadTag}
use Rattle.berreader.specs.Nest.{end_inside, levels_left}
use Rattle.berreader.specs.Stack.{layers_of}
use Rattle.encoding_parts.proofs.ChoiceLemmas.{node_good}
use Rattle.berreader.proofs.NestLemmas.{own_tag}
use Rattle.berreader.proofs.NestBackLemmas.{end_within, good_next}
use Rattle.berreader.proofs.NestStepLemmas.{IsNoted, leaf_own, part_next, part_next_whole, sound_noted, ready_noted, step_come, sound_come_nest}
use Rattle.encoding_parts.specs.Cut.{IsPartCut}
use Rattle.encoding_parts.proofs.RefusesLemmas.{passed_on}
use Rattle.berreader.proofs.CutLemmas.{part_cut}
use Rattle.berreader.proofs.StringLemmas.{tag_of_leaf}
use Rattle.berreader.proofs.nest.Nest.leaf.Goals as goal

pub read_leaf-requires-clause-good : goal.read_leaf-requires-clause-good
read_leaf-requires-clause-good c =
    let nest = c.args.self.now in
    let next = c.args.next in
    let type = ty_view next.ty.now in
    node_good next.tag type (ty_view next.node.now) c.requires.next.read.node (good_next (ty_view nest.ty.now) (layers_of nest.layers) next.which type c.requires.next.sound.type c.requires.next.sound.sound c.requires.next.read.due)

pub read_leaf-requires-clause-tagged : goal.read_leaf-requires-clause-tagged
read_leaf-requires-clause-tagged c =
    let nest = c.args.self.now in
    let next = c.args.next in
    let node = ty_view next.node.now in
    let octets = c.args.octets.now in
    let same : tag_of node ≡ next.tag = leaf_own next.tag node (own_tag next.tag (ty_view next.ty.now) node c.requires.next.read.node) c.requires.leaf in
    subst (λ e. IsReadTag (tag_of node) e nest.taken octets false next.identifier) (sym c.end.ensures)
    (subst (λ b. IsReadTag (tag_of node) (end_inside (layers_of nest.layers)) nest.taken octets b next.identifier) c.requires.primitive
    (subst (λ t. IsReadTag t (end_inside (layers_of nest.layers)) nest.taken octets next.constructed next.identifier) (sym same) c.requires.next.read.read))

pub returns-in_err-value-clause-refused : goal.returns-in_err-value-clause-refused
returns-in_err-value-clause-refused c =
    let nest = c.args.self.now in
    let next = c.args.next in
    let here = c.requires.next in
    let node = ty_view next.node.now in
    let octets = c.args.octets.now in
    let levels = levels_left (layers_of nest.layers) in
    let said = c.in_err-value.ensures in
    passed_on c.from_residual.result _ _ _ _ c.from_residual.ensures.1 (record {
      truncated = λ is h. said.truncated (ap Err is) levels (part_next_whole nest octets next c.end.result levels here.sound (here.no_end []) here.read c.end.ensures refl h);
      cut = λ is.
          part_cut nest octets next here.read
          (subst (λ t. IsPartCut t node levels (end_inside (layers_of nest.layers)) nest.taken octets) (tag_of_leaf nest octets next here.read c.requires.leaf)
          (subst (λ e. IsPartCut (tag_of node) node levels e nest.taken octets) c.end.ensures (said.cut (ap Err is) levels)));
      never = λ final more h. said.never final more levels (part_next nest octets more next c.end.result levels here.sound (here.no_end more) here.read c.end.ensures refl h);
      numbers = said.numbers;
    })

pub place_value-requires : goal.place_value-requires
place_value-requires c =
    let nest = c.args.self.now in
    let next = c.args.next in
    let here = c.requires.next in
    let used = c.in_ok-value.used in
    let mid : Nest = record { ty = nest.ty; layers = c.set_which.new.self; taken = nest.taken } in
    let noted : IsNoted nest mid next.which = record { sound = here.sound; layers = c.set_which.ensures.layers; type = refl; taken = refl; counted = c.set_which.ensures.counted here.sound.counted } in
    let fits : nest.taken + used ≤ end_inside (layers_of nest.layers) = subst (λ e. nest.taken + used ≤ e) c.end.ensures c.in_ok-value.ensures.there.1 in
    let ready = ready_noted nest mid c.args.octets.now next (value_view c.in_ok-value.value) used noted here.no_end here.read c.in_ok-value.ensures.there.0 fits (c.in_ok-value.ensures.value (levels_left (layers_of nest.layers))) in
    record {
      good = good_next (ty_view nest.ty.now) (layers_of nest.layers) next.which (ty_view next.ty.now) here.sound.type here.sound.sound here.read.due;
      due = ready.due;
      room = ready.room;
      none = c.requires.whole;
    }

pub returns-clause-taken : goal.returns-clause-taken
returns-clause-taken c =
    let nest = c.args.self.now in
    let next = c.args.next in
    let here = c.requires.next in
    let octets = c.args.octets.now in
    let used = c.in_ok-value.used in
    let v = value_view c.in_ok-value.value in
    let mid : Nest = record { ty = nest.ty; layers = c.set_which.new.self; taken = nest.taken } in
    let noted : IsNoted nest mid next.which = record { sound = here.sound; layers = c.set_which.ensures.layers; type = refl; taken = refl; counted = c.set_which.ensures.counted here.sound.counted } in
    let fits : nest.taken + used ≤ end_inside (layers_of nest.layers) = subst (λ e. nest.taken + used ≤ e) c.end.ensures c.in_ok-value.ensures.there.1 in
    let ready = ready_noted nest mid octets next v used noted here.no_end here.read c.in_ok-value.ensures.there.0 fits (c.in_ok-value.ensures.value (levels_left (layers_of nest.layers))) in
    step_come nest mid c.place_value.new.self octets (ty_view next.ty.now) next.tag v used c.place_value.new.whole c.in_ok-place_value.field-0 ready c.in_ok-place_value.ensures.come

pub returns-clause-sound : goal.returns-clause-sound
returns-clause-sound c =
    let nest = c.args.self.now in
    let next = c.args.next in
    let here = c.requires.next in
    let used = c.in_ok-value.used in
    let mid : Nest = record { ty = nest.ty; layers = c.set_which.new.self; taken = nest.taken } in
    let counted = c.set_which.ensures.counted here.sound.counted in
    let noted : IsNoted nest mid next.which = record { sound = here.sound; layers = c.set_which.ensures.layers; type = refl; taken = refl; counted = counted } in
    let fits : nest.taken + used ≤ end_inside (layers_of nest.layers) = subst (λ e. nest.taken + used ≤ e) c.end.ensures c.in_ok-value.ensures.there.1 in
    let room : nest.taken + used ≤ MAX_ENCODING = omega (arith, fits, end_within (layers_of nest.layers) here.sound.sound) in
    sound_come_nest mid c.place_value.new.self (ty_view next.ty.now) next.tag (value_view c.in_ok-value.value) used c.place_value.new.whole c.in_ok-place_value.field-0 (sound_noted nest mid next.which noted) room (c.in_ok-place_value.ensures.counted counted) c.in_ok-place_value.ensures.come
