use Rattle.std.proofs.Common.{rules, ◌≡◌, ◌∙◌, List, FitsSigned, map, sym, subst, arith}
use Rattle.std.specs.Int.{w128}
use Rattle.std.proofs.lemmas.Int.{to_z-of_z}
use Rattle.std.proofs.lemmas.Bool.Decides.{not_from_Decides}
use Rattle.std.proofs.lemmas.Slice.Eq.{bytes_eq-Decides}
use Rattle.std.proofs.lemmas.List.{take_all}
use Rattle.types.specs.declared.ty.Item.{Item}
use Rattle.types.specs.View.{item_view}
use Rattle.builtin_types.proofs.TakenLemmas.{IsNoneNamed, none_more, is_among}
use Rattle.builtin_types.proofs.defaults.number_named.Goals as goal

pub returns-then-eq-clause-some : goal.returns-then-eq-clause-some
returns-then-eq-clause-some c =
    let x = c.item-item.result in
    let fits : FitsSigned w128 x.number = search rules in
    let named : c.as_str.result.now ≡ c.args.name.now = (bytes_eq-Decides c.as_str.result.now c.args.name.now).0 (sym c.eq.ensures ∙ c.if-eq.true) in
    (item_view x, is_among c.args.items.now c.loop-item.item-index x c.loop-item-test.true c.item-item.is, sym c.as_str.ensures ∙ named, sym (to_z-of_z w128 x.number fits))

pub loop-item-preserved : goal.loop-item-preserved
loop-item-preserved c =
    let x = c.item-item.result in
    none_more c.args.name.now c.args.items.now c.loop-item.item-index x c.loop-item-test.true c.item-item.is
    (λ named. not_from_Decides _ (bytes_eq-Decides c.as_str.result.now c.args.name.now) (sym c.eq.ensures ∙ c.if-eq.false) (c.as_str.ensures ∙ named)) c.loop-item.invariant

pub returns-clause-none : goal.returns-clause-none
returns-clause-none c = λ none.
    subst (λ (xs : List Item). IsNoneNamed c.args.name.now (map item_view xs)) (take_all c.loop-item.item-index c.args.items.now (omega arith)) c.loop-item.invariant
