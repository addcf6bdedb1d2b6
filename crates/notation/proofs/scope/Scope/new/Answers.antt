use Rattle.std.proofs.Common.{◌∙◌, ap, rules, refl, arith, List, get_or}
use Rattle.syntax.specs.declared.tree.Assignment.{Assignment}
use Rattle.syntax.specs.View.{assignment}
use Rattle.builtin_types.proofs.EnteredLemmas.{entered_more, repeat_place}
use Rattle.notation.proofs.NewScopeLemmas.{unknown-push, new_scope}
use Rattle.notation.proofs.scope.Scope.new.Goals as goal

pub returns-then-not-branch-clause-repeated : goal.returns-then-not-branch-clause-repeated
returns-then-not-branch-clause-repeated c =
    repeat_place (λ a. a.0) assignment c.args.module.now.assignments.items c.loop-place.place c.assignment-item.result c.as_str.result.now c.in_ok-enter.field-0 _ _
    (omega arith) (c.assignment-item.is ∙ ap (λ (xs : List Assignment). get_or xs c.loop-place.place c.assignment-item.result) c.deref-assignment-items.ensures.value) c.as_str.ensures.value (cc) c.loop-place.invariant.entered c.in_ok-enter.ensures

pub loop-place-preserved : goal.loop-place-preserved
loop-place-preserved c = record {
  entered = entered_more (λ a. a.0) assignment c.args.module.now.assignments.items c.loop-place.place c.assignment-item.result c.as_str.result.now c.in_ok-enter.field-0 _ _
      (omega arith) (c.assignment-item.is ∙ ap (λ (xs : List Assignment). get_or xs c.loop-place.place c.assignment-item.result) c.deref-assignment-items.ensures.value) c.as_str.ensures.value (cc) c.loop-place.invariant.entered c.in_ok-enter.ensures;
  long = search rules;
  new = unknown-push c.loop-place.seen.items c.push.new.self.items c.in_ok-push.ensures.items c.loop-place.invariant.new;
}

pub returns-clause-value : goal.returns-clause-value
returns-clause-value c = new_scope c.args.module.now _ c.loop-place.place refl (omega arith) c.loop-place.invariant.entered c.loop-place.invariant.long c.loop-place.invariant.new
