use Rattle.std.proofs.Common.{◌≡◌, ◌∙◌, ap, sym, subst, map, option_map, drop, length, append-nil, arith, List, Option, ◌++◌, ◌∷◌, [], None}
use Rattle.std.specs.List.{AllByRecursion}
use Rattle.types.specs.Conforms.{MayBeAbsent}
use Rattle.types.specs.Shape.{Val}
use Rattle.types.specs.View.{ComponentView, value_view, field_view, slots_of}
use Rattle.types.proofs.LoopLemmas.{begins, goes_on, stops, ends, so, not_so}
use Rattle.types.proofs.ViewLemmas.{value-Fields}
use Rattle.encoding_parts.proofs.HeldPartsLemmas.{AllAbsent, absent_first, pass_more, left_is, left_empty}
use Rattle.encoding_parts.proofs.held_parts.value_of_run.Goals as goal

pub loop-field-init : goal.loop-field-init
loop-field-init c = (sym (append-nil (map (option_map value_view) c.args.slots.items)), begins AllAbsent c.rest-field-items.result.now)

pub loop-field-preserved : goal.loop-field-preserved
loop-field-preserved c =
    let x = c.field-item.result in (
      ap (map (option_map value_view)) (c.push_reserved.ensures.items ∙ ap (λ l. l ++ (None ∷ [])) c.reserve.ensures.items) ∙ pass_more c.loop-field.slots.items (map (option_map value_view) c.args.slots.items) c.loop-field.field-index c.loop-field.invariant.0,
      goes_on AllAbsent _ c.rest-field-items.result.now c.loop-field.field-index x (omega arith) c.field-item.is (absent_first x _) (so _ _ c.may_be_absent.ensures c.if-not-may_be_absent.false) c.loop-field.invariant.1,
    )

pub returns-then-not-may_be_absent-clause-none : goal.returns-then-not-may_be_absent-clause-none
returns-then-not-may_be_absent-clause-none c = λ final v h.
    let x = c.field-item.result in
    let xs = c.rest-field-items.result.now in
    let same = left_is c.args.fields.now xs c.args.slots.items c.len.result c.rest-field-items.ensures (c.len.ensures ∙ c.args.slots.ok.0) in
    stops AllAbsent _ xs c.loop-field.field-index x (omega arith) c.field-item.is (absent_first x _) (not_so _ _ c.may_be_absent.ensures c.if-not-may_be_absent.true) c.loop-field.invariant.1
    (subst (AllByRecursion (λ (f : ComponentView). MayBeAbsent f.requirement)) (sym same) h.0)

pub returns-clause-value : goal.returns-clause-value
returns-clause-value c =
    let xs = c.rest-field-items.result.now in
    let same = left_is c.args.fields.now xs c.args.slots.items c.len.result c.rest-field-items.ensures (c.len.ensures ∙ c.args.slots.ok.0) in
    let left = drop (length (map (option_map value_view) c.args.slots.items)) (map field_view c.args.fields.now) in
    let all : c.loop-field.field-index ≡ length xs = omega arith in (
      subst (AllByRecursion (λ (f : ComponentView). MayBeAbsent f.requirement)) same (ends AllAbsent xs c.loop-field.field-index (omega arith) tt c.loop-field.invariant.1),
      value-Fields c.loop-field.slots ∙ ap (λ (l : List (Option Val)). Val.fields (slots_of l)) (c.loop-field.invariant.0 ∙ ap (λ (l : List (Option Val)). map (option_map value_view) c.args.slots.items ++ l) (left_empty xs left c.loop-field.field-index same all)),
    )
