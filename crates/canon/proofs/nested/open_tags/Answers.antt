use Rattle.std.proofs.Common.{Ok, Err, OnErr, ◌∙◌, suc, refl, sym, ap, subst, arith}
use Rattle.std.specs.declared.result.Result.{Result}
use Rattle.types.specs.declared.ty.Ty.{Ty}
use Rattle.types.specs.Shape.{Shape}
use Rattle.types.specs.View.{ty_view}
use Rattle.types.proofs.ViewLemmas.{ty-Explicit}
use Rattle.canon.specs.Nested.{IsBehind}
use Rattle.canon.proofs.KeptLemmas.{keeps_chain}
use Rattle.canon.proofs.NestedLemmas.{opened_keeps, opened_more}
use Rattle.canon.proofs.nested.open_tags.Goals as goal

on_err : {A E : Type 0} (r : Result A E) (P : Type 0) → P → OnErr r P
on_err (Ok x) P h = tt
on_err (Err e) P h = h

pub loop-inner-init : goal.loop-inner-init
loop-inner-init c = ((0, (refl, refl)), (0, refl))

pub returns-in_err-put_opening-clause-kept : goal.returns-in_err-put_opening-clause-kept
returns-in_err-put_opening-clause-kept c =
    let so_far = c.loop-inner.invariant.0 in
    on_err c.from_residual.result _ (keeps_chain c.args.out.now.items c.loop-inner.out.items c.put_opening.new.out.items (opened_keeps so_far.0 (ty_view c.args.ty.now) (ty_view c.loop-inner.inner.now) c.args.out.now.items c.loop-inner.out.items so_far.1) c.in_err-put_opening.ensures.kept)

pub loop-inner-preserved : goal.loop-inner-preserved
loop-inner-preserved c =
    let so_far = c.loop-inner.invariant.0 in
    let behind = c.loop-inner.invariant.1 in (
      (suc so_far.0, opened_more so_far.0 (ty_view c.args.ty.now) (ty_view c.loop-inner.inner.now) (ty_view c.deref-inner.result.now) c.in-Explicit.tag c.in_ok-put_opening.field-0 c.args.out.now.items c.loop-inner.out.items c.put_opening.new.out.items (omega (arith, c.if-tag-ge31.false)) (ap ty_view c.in-Explicit.is ∙ ty-Explicit c.in-Explicit.tag c.in-Explicit.behind ∙ ap (λ (e : Ty). Shape.explicit c.in-Explicit.tag (ty_view e)) (sym c.deref-inner.ensures)) so_far.1 c.in_ok-put_opening.ensures.opened),
      (suc behind.0, (c.in-Explicit.tag, c.in-Explicit.behind, subst (λ (e : Ty). IsBehind behind.0 c.args.ty.now e) c.in-Explicit.is behind.1, c.deref-inner.ensures)),
    )

pub returns-clause-opened : goal.returns-clause-opened
returns-clause-opened c = c.loop-inner.invariant.0

pub returns-clause-behind : goal.returns-clause-behind
returns-clause-behind c = c.loop-inner.invariant.1
