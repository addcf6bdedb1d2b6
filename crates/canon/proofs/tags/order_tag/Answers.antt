use Rattle.std.proofs.Common.{sym, subst}
use Rattle.types.specs.Encoding.{IsEncoding}
use Rattle.types.specs.Order.{IsOrderTag}
use Rattle.types.specs.View.{ty_view}
use Rattle.octets.specs.declared.canonical.Canonical.{Canonical}
use Rattle.octets.specs.Rule.{rule_of}
use Rattle.canon.proofs.OrderTagLemmas.{order_tag_at_front, own_order_tag}
use Rattle.canon.proofs.tags.order_tag.Goals as goal

pub returns-in-Der : goal.returns-in-Der
returns-in-Der c = λ v h.
    let shape = ty_view c.args.ty.now in
    let octets = c.args.encoding.now in
    let encodes = subst (λ (r : Canonical). IsEncoding (rule_of r) shape v octets) c.in-Der.is h in
    subst (λ (r : Canonical). IsOrderTag (rule_of r) shape octets c.tag_at_front.result) (sym c.in-Der.is) (order_tag_at_front shape v octets c.tag_at_front.result c.requires c.tag_at_front.ensures encodes)

pub returns-in-Some : goal.returns-in-Some
returns-in-Some c = λ v h. own_order_tag c.args.rule (ty_view c.args.ty.now) v c.args.encoding.now c.in-Some.tag c.in-Some.ensures.value h
