use Rattle.std.proofs.Common.{◌≡◌, ◌∙◌, List, map, ap, sym}
use Rattle.types.specs.Shape.{Val, listed}
use Rattle.types.specs.View.{value_view, items_view}
use Rattle.types.specs.declared.value.Value.{Value}
use Rattle.types.proofs.ViewLemmas.{value-Items, listed-items_view}
use Rattle.canon.proofs.parts.items_in.Goals as goal

pub returns-in-Items : goal.returns-in-Items
returns-in-Items c = λ items is.
    let whole : Val.items items ≡ Val.items (items_view c.in-Items.items.items) = sym is ∙ ap value_view c.in-Items.is ∙ value-Items c.in-Items.items in
    let same : items ≡ items_view c.in-Items.items.items = cc whole in
    ap listed same ∙ listed-items_view c.in-Items.items.items ∙ ap (λ (vs : List Value). map value_view vs) (sym c.as_slice.ensures.value)
