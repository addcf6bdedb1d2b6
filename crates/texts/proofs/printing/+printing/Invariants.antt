use Rattle.std.proofs.Common.{◌≡◌, ◌++◌, cond, codes, drop, map, string_bytes}
use Rattle.types.specs.View.{ty_view, value_view, components_view, slots_view}
use Rattle.texts.specs.Text.{led, text_of, component_texts}
use Rattle.texts.proofs.printing.+printing.Given as goal

abbrev pub invariant-put_items-loop-item : goal.invariant-put_items-loop-item
invariant-put_items-loop-item l =
    string_bytes l.out ++ led (cond l.is_first (codes " ") (codes ", ")) (map (text_of (ty_view l.ty)) (map value_view (drop l.item-index l.items)))
    ≡ string_bytes l.initial.out ++ led (codes " ") (map (text_of (ty_view l.ty)) (map value_view l.items))

abbrev pub invariant-put_components-loop-place : goal.invariant-put_components-loop-place
invariant-put_components-loop-place l =
    string_bytes l.out ++ led (cond l.is_first (codes " ") (codes ", ")) (component_texts (components_view (drop l.place l.fields)) (slots_view (drop l.place l.slots)))
    ≡ string_bytes l.initial.out ++ led (codes " ") (component_texts (components_view l.fields) (slots_view l.slots))
