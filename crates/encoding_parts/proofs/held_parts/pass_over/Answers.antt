use Rattle.std.proofs.Common.{◌∙◌, ap, sym, map, option_map, append-nil, ◌++◌, ◌∷◌, [], None}
use Rattle.types.specs.View.{value_view}
use Rattle.encoding_parts.proofs.HeldPartsLemmas.{pass_more}
use Rattle.encoding_parts.proofs.held_parts.pass_over.Goals as goal

pub loop-init : goal.loop-init
loop-init c = sym (append-nil (map (option_map value_view) c.args.slots.now.items))

pub loop-preserved : goal.loop-preserved
loop-preserved c =
    ap (map (option_map value_view)) (c.push_reserved.ensures.items ∙ ap (λ l. l ++ (None ∷ [])) c.reserve.ensures.items) ∙ pass_more c.loop.slots.items (map (option_map value_view) c.args.slots.now.items) c.loop.counter c.loop.invariant
