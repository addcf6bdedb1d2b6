use Rattle.std.proofs.Common.{◌≡◌, ◌+◌, List, Option, None, MatchOption, get_or, option_map, sym, subst, arith}
use Rattle.types.specs.View.{value_view, requirement_view}
use Rattle.types.specs.declared.value.Value.{Value}
use Rattle.types.specs.declared.ty.Field.{Field}
use Rattle.types.specs.declared.ty.Presence.TheVariants as presence
use Rattle.encoding_parts.specs.Parts.{IsSlotOf}
use Rattle.encoding_parts.proofs.SetComponentLemmas.{IsSettledTo, settles_none, settles_more, settles_kept, settles_all, without_default}
use Rattle.encoding_parts.proofs.set_components.drop_defaults.Goals as goal
use Rattle.encoding_parts.proofs.set_components.drop_defaults.Goals.{in-Default, in_default}

pub loop-place-init : goal.loop-place-init
loop-place-init c = settles_none c.args.fields.now c.args.slots.now

pub loop-place-preserved : goal.loop-place-preserved
loop-place-preserved c =
    let fields = c.args.fields.now in
    let old = c.args.slots.now in
    let slots = c.loop-place.slots in
    let place = c.loop-place.place in
    let f = c.index-fields-place.result in
    let so_far = c.loop-place.invariant in
    elim c.match-presence.branch [
      | in-Default w ↦
          let s = w.index-slots-place.result in
          let y = w.drop_default.new.slot in
          let of_field = subst (λ (x : Field). MatchOption (get_or slots place s) (y ≡ None) (λ (value : Value). IsSlotOf (requirement_view x.presence) (value_view value) (option_map value_view y))) (sym c.index-fields-place.is) w.drop_default.ensures in
          let dropped = subst (λ (o : Option Value). MatchOption o (y ≡ None) (λ (value : Value). IsSlotOf (requirement_view f.presence) (value_view value) (option_map value_view y))) (sym w.index-slots-place.is) of_field in
          subst (λ (l : List (Option Value)). IsSettledTo fields old l (place + 1)) (sym w.slots-is)
          (settles_more fields old slots place f s y (omega (arith, so_far.many, c.requires)) (omega (arith, so_far.many)) c.index-fields-place.is w.index-slots-place.is dropped so_far)
      | in_default w ↦
          subst (λ (l : List (Option Value)). IsSettledTo fields old l (place + 1)) (sym w.slots-is)
          (settles_kept fields old slots place f (omega (arith, so_far.many, c.requires)) (omega (arith, so_far.many)) c.index-fields-place.is
          (without_default f.presence (subst (λ (x : Field). (other : Value) → x.presence ≡ presence.Default other → ⊥) (sym c.index-fields-place.is) w.in_default.not-Default)) so_far)
    ]

pub returns : goal.returns
returns c = settles_all c.args.fields.now c.args.slots.now c.loop-place.slots c.loop-place.place (omega (arith, c.loop-place.invariant.many)) c.loop-place.invariant
