use Rattle.std.proofs.Common.{◌≡◌, ◌∙◌, ◌<◌, ◌++◌, ◌∷◌, [], List, Option, length, take, ap, sym, arith}
use Rattle.std.proofs.lemmas.List.{length-set, take_more_set}
use Rattle.types.specs.declared.value.Value.{Value}
use Rattle.encoding_parts.proofs.SlotLemmas.{none_of, empty_more}
use Rattle.encoding_parts.proofs.slots.emptied_slots.Goals as goal

pub loop-place-preserved : goal.loop-place-preserved
loop-place-preserved c =
    let fields = c.args.fields.now in
    let slots = c.loop-place.slots.items in
    let i = c.loop-place.place in
    let so_far = c.loop-place.invariant in
    let all : c.len-place-end.result ≡ length fields = c.len-place-end.ensures ∙ c.in_ok-slots.slots.ok.0 ∙ c.in_ok-slots.ensures in
    let below : i < length fields = omega (arith, all) in (
      take_more_set slots i none_of (omega (arith, below, so_far.1)) ∙ ap (λ (l : List (Option Value)). l ++ (none_of ∷ [])) so_far.0 ∙ sym (empty_more fields i below),
      length-set slots i none_of ∙ so_far.1,
    )
