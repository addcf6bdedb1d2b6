use Rattle.std.proofs.Common.{rules, FitsSigned, ◌∙◌, map, refl, sym, ap}
use Rattle.std.specs.Int.{w128}
use Rattle.std.proofs.lemmas.Int.{to_z-of_z}
use Rattle.syntax.specs.declared.tree.DefaultValue.TheVariants as written
use Rattle.types.specs.Shape.{SimpleType, SimpleValue, Val}
use Rattle.types.specs.View.{item_view}
use Rattle.types.proofs.ViewLemmas.{value-Enumerated}
use Rattle.builtin_types.proofs.TakenLemmas.{simple_at, no_simple_at, simple_none}
use Rattle.builtin_types.proofs.defaults.item.Goals as goal

pub returns-in_ok-number_named-in-Name : goal.returns-in_ok-number_named-in-Name
returns-in_ok-number_named-in-Name c =
    let found = c.in_ok-number_named-in-Name.ensures.some in
    let type = SimpleType.enumerated (map item_view c.args.items.now) in
    let fits : FitsSigned w128 c.in_ok-number_named-in-Name.field-0 = search rules in
    simple_at type c.args.written.now (written.Name c.in-Name.name) _ (SimpleValue.enumerated found.0.number) c.in-Name.is (found.0, found.1, found.2 ∙ c.as_str.ensures.value, refl)
    (value-Enumerated _ ∙ ap (λ n. Val.simple (SimpleValue.enumerated n)) (to_z-of_z w128 c.in_ok-number_named-in-Name.field-0 fits ∙ sym found.3))

pub returns-in_err-number_named-in-Name : goal.returns-in_err-number_named-in-Name
returns-in_err-number_named-in-Name c =
    let type = SimpleType.enumerated (map item_view c.args.items.now) in
    simple_none type _ c.from_residual.result c.from_residual.ensures
    (no_simple_at type c.args.written.now (written.Name c.in-Name.name) c.in-Name.is (λ v h. c.in_err-number_named-in-Name.ensures.none refl h.0 h.1 (h.2 ∙ sym c.as_str.ensures.value)))
