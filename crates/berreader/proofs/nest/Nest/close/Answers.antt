use Rattle.std.proofs.Common.{ℕ, List, refl, subst}
use Rattle.octets.proofs.ResultLemmas.{IfErr-from}
use Rattle.types.specs.Refusal.{IsFinal}
use Rattle.types.specs.View.{value_view}
use Rattle.berreader.specs.declared.nest.Nest.{Nest}
use Rattle.berreader.specs.Nest.{AreSound, CanFinish, EndsInside}
use Rattle.berreader.specs.Stack.{layer_view, layers_of}
use Rattle.berreader.proofs.NestStepLemmas.{IsPopped, sound_popped, room_popped, ready_popped, value_ended, step_come, sound_come_nest}
use Rattle.berreader.proofs.nest.Nest.close.Goals as goal

pub returns-in_err-value-clause-never : goal.returns-in_err-value-clause-never
returns-in_err-value-clause-never c =
    let old = c.args.self.now in
    let layer = layer_view c.in-Some.open in
    let mid : Nest = record { ty = old.ty; layers = c.pop.new.self; taken = old.taken } in
    let counted = c.in-Some.ensures.counted c.requires.sound.counted in
    let popped : IsPopped old mid layer = record { sound = c.requires.sound; layers = c.in-Some.ensures.layers; type = refl; taken = refl; counted = counted } in
    IfErr-from c.from_residual.result _ (λ refusal. IsFinal refusal → (octets : List ℕ) → EndsInside (layers_of old.layers) old.taken octets → CanFinish old octets → ⊥) c.from_residual.ensures.1
    (λ refusal same final octets e h. value_ended old mid layer octets popped e h (c.in_err-value.ensures.none (subst IsFinal same final)))

pub place_value-requires : goal.place_value-requires
place_value-requires c =
    let old = c.args.self.now in
    let layer = layer_view c.in-Some.open in
    let mid : Nest = record { ty = old.ty; layers = c.pop.new.self; taken = old.taken } in
    let counted = c.in-Some.ensures.counted c.requires.sound.counted in
    let popped : IsPopped old mid layer = record { sound = c.requires.sound; layers = c.in-Some.ensures.layers; type = refl; taken = refl; counted = counted } in
    let ready = ready_popped old mid layer c.requires.ends.0 (value_view c.in_ok-value.value) c.args.used popped c.in_ok-value.ensures.value c.requires.ends.1 c.requires.ends.2 in
    record { good = (subst AreSound popped.layers c.requires.sound.sound).0.type; due = ready.due; room = ready.room; none = c.requires.whole }

pub returns-clause-taken : goal.returns-clause-taken
returns-clause-taken c = λ octets there e.
    let old = c.args.self.now in
    let layer = layer_view c.in-Some.open in
    let mid : Nest = record { ty = old.ty; layers = c.pop.new.self; taken = old.taken } in
    let counted = c.in-Some.ensures.counted c.requires.sound.counted in
    let popped : IsPopped old mid layer = record { sound = c.requires.sound; layers = c.in-Some.ensures.layers; type = refl; taken = refl; counted = counted } in
    let v = value_view c.in_ok-value.value in
    step_come old mid c.place_value.new.self octets layer.type layer.tag v c.args.used c.place_value.new.whole c.in_ok-place_value.field-0 (ready_popped old mid layer octets v c.args.used popped c.in_ok-value.ensures.value there e) c.in_ok-place_value.ensures.come

pub returns-clause-sound : goal.returns-clause-sound
returns-clause-sound c =
    let old = c.args.self.now in
    let layer = layer_view c.in-Some.open in
    let mid : Nest = record { ty = old.ty; layers = c.pop.new.self; taken = old.taken } in
    let counted = c.in-Some.ensures.counted c.requires.sound.counted in
    let popped : IsPopped old mid layer = record { sound = c.requires.sound; layers = c.in-Some.ensures.layers; type = refl; taken = refl; counted = counted } in
    let v = value_view c.in_ok-value.value in
    sound_come_nest mid c.place_value.new.self layer.type layer.tag v c.args.used c.place_value.new.whole c.in_ok-place_value.field-0 (sound_popped old mid layer popped)
    (room_popped old mid layer c.requires.ends.0 c.args.used popped c.requires.ends.1 c.requires.ends.2) (c.in_ok-place_value.ensures.counted counted) c.in_ok-place_value.ensures.come
