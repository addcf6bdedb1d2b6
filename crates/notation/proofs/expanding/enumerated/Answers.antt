use Rattle.std.proofs.Common.{◌∙◌, ap, map}
use Rattle.octets.specs.declared.tag.Tag.{Tag}
use Rattle.std.specs.Option.{unwrap_or}
use Rattle.types.specs.Shape.{Shape, SimpleType}
use Rattle.types.specs.View.{item_view}
use Rattle.types.proofs.ViewLemmas.{ty-Enumerated}
use Rattle.syntax.specs.View.{entry}
use Rattle.notation.proofs.ExpandingLemmas.{enumerated_under}
use Rattle.notation.proofs.expanding.enumerated.Goals as goal

pub returns-clause-value : goal.returns-clause-value
returns-clause-value c = λ differ m.
    let items = c.in_ok-numbered.field-0 in
    let tag = c.unwrap_or-tag.result in
    enumerated_under m c.args.outer (map entry c.args.items.now) (map item_view items.items) _ differ c.in_ok-numbered.ensures.items
    (ty-Enumerated tag items ∙ ap (λ (i : Tag). Shape.simple i (SimpleType.enumerated (map item_view items.items))) (c.unwrap_or-tag.ensures ∙ ap (unwrap_or c.args.outer) c.enumerated_tag.ensures))
