use Rattle.std.proofs.Common.{◌≡◌, ◌+◌, ◌-◌, ◌≤◌, ◌++◌, ℕ, List, length, refl, sym, subst, arith}
use Rattle.octets.specs.declared.TheConstants.{MAX_ENCODING}
use Rattle.octets.proofs.ResultLemmas.{IfErr-from}
use Rattle.types.specs.Refusal.{IsFinal}
use Rattle.types.specs.View.{ty_view, value_view}
use Rattle.berreader.specs.declared.nest.Nest.{Nest}
use Rattle.berreader.specs.Nest.{CanFinish, IsCome, IsDueInside}
use Rattle.berreader.specs.Stack.{layers_of}
use Rattle.berreader.specs.Strings.{IsString}
use Rattle.berreader.proofs.NestBackLemmas.{due_which, good_next}
use Rattle.berreader.proofs.NestStepLemmas.{IsNoted, sound_noted, step_come, sound_come_nest}
use Rattle.berreader.proofs.StringLemmas.{closed_come, conforms_string, ready_string}
use Rattle.berreader.proofs.nest.Nest.close_string.Goals as goal

pub returns-in_err-value-clause-never : goal.returns-in_err-value-clause-never
returns-in_err-value-clause-never c =
    let nest = c.args.self.now in
    let string = c.args.string in
    IfErr-from c.from_residual.result _ (λ refusal. IsFinal refusal → (passed more : List ℕ) → IsString nest string passed → CanFinish nest (passed ++ more) → ⊥) c.from_residual.ensures.1
    (λ refusal same final passed more h f. c.in_err-value.ensures.none (subst IsFinal same final)
    (conforms_string nest string passed more c.requires.sound c.requires.string.segments c.requires.closed h f))

pub place_value-requires : goal.place_value-requires
place_value-requires c =
    let nest = c.args.self.now in
    let string = c.args.string in
    let next = string.next in
    let shape = ty_view nest.ty.now in
    let type = ty_view next.ty.now in
    let due = c.requires.string.begun.next.due in
    record {
      good = good_next shape (layers_of nest.layers) next.which type c.requires.sound.type c.requires.sound.sound due;
      due = subst (λ l. IsDueInside shape l type) (sym c.set_which.ensures.layers) (due_which shape (layers_of nest.layers) next.which type due);
      room = omega (arith, c.requires.string.segments.place, c.requires.string.begun.segments.place);
      none = c.requires.whole;
    }

pub returns-clause-taken : goal.returns-clause-taken
returns-clause-taken c = λ passed h.
    let old = c.args.self.now in
    let string = c.args.string in
    let next = string.next in
    let type = ty_view next.ty.now in
    let v = value_view c.in_ok-value.value in
    let whole = c.place_value.new.whole in
    let n = c.in_ok-place_value.field-0 in
    let mid : Nest = record { ty = old.ty; layers = c.set_which.new.self; taken = old.taken } in
    let new = c.place_value.new.self in
    let noted : IsNoted old mid next.which = record { sound = c.requires.sound; layers = c.set_which.ensures.layers; type = refl; taken = refl; counted = c.set_which.ensures.counted c.requires.sound.counted } in
    let ready = ready_string old mid string passed v noted c.requires.string.segments c.requires.closed h c.in_ok-value.ensures.value.0 c.in_ok-value.ensures.value.1 in
    let count : string.segments.taken - old.taken ≡ length passed = omega (arith, h.segments.place) in
    let come : IsCome mid new type next.tag v (length passed) whole n = subst (λ m. IsCome mid new type next.tag v m whole n) count c.in_ok-place_value.ensures.come in
    closed_come old mid new passed type next.tag v whole n come (step_come old mid new passed type next.tag v (length passed) whole n ready come)

pub returns-clause-sound : goal.returns-clause-sound
returns-clause-sound c =
    let old = c.args.self.now in
    let string = c.args.string in
    let next = string.next in
    let mid : Nest = record { ty = old.ty; layers = c.set_which.new.self; taken = old.taken } in
    let counted = c.set_which.ensures.counted c.requires.sound.counted in
    let noted : IsNoted old mid next.which = record { sound = c.requires.sound; layers = c.set_which.ensures.layers; type = refl; taken = refl; counted = counted } in
    let used = string.segments.taken - old.taken in
    let room : old.taken + used ≤ MAX_ENCODING = omega (arith, c.requires.string.segments.place, c.requires.string.begun.segments.place) in
    sound_come_nest mid c.place_value.new.self (ty_view next.ty.now) next.tag (value_view c.in_ok-value.value) used c.place_value.new.whole c.in_ok-place_value.field-0 (sound_noted old mid next.which noted) room (c.in_ok-place_value.ensures.counted counted) c.in_ok-place_value.ensures.come
