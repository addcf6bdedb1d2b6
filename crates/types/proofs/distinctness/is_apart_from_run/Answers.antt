use Rattle.std.proofs.Common.{arith}
use Rattle.types.specs.View.{ty_view}
use Rattle.types.specs.FirstTags.{first_tags}
use Rattle.types.proofs.LoopLemmas.{goes_on, ends_with, ends, is_so, is_not_so, so, not_so}
use Rattle.types.proofs.TagLemmas.{ApartFromRun, apart_from_run_first, apart_from_run_last, apart_from_run_fails, apart_nil}
use Rattle.types.proofs.distinctness.is_apart_from_run.Goals as goal

pub loop-next-preserved : goal.loop-next-preserved
loop-next-preserved c =
    let x = c.next-item.result in
    let tags = first_tags (ty_view c.args.ty.now) in
    goes_on (ApartFromRun tags) _ c.args.others.now c.loop-next.next-index x (omega arith) c.next-item.is (apart_from_run_first tags x _ (so _ _ c.may_be_absent.ensures c.if-not-may_be_absent.false))
    (so _ _ c.are_apart.ensures c.if-not-are_apart.false) c.loop-next.invariant

pub returns-then-not-are_apart : goal.returns-then-not-are_apart
returns-then-not-are_apart c =
    let x = c.next-item.result in
    let tags = first_tags (ty_view c.args.ty.now) in
    is_not_so (apart_from_run_fails tags c.args.others.now c.loop-next.next-index x (omega arith) c.next-item.is (not_so _ _ c.are_apart.ensures c.if-not-are_apart.true) c.loop-next.invariant)

pub returns-then-not-may_be_absent : goal.returns-then-not-may_be_absent
returns-then-not-may_be_absent c =
    let x = c.next-item.result in
    let tags = first_tags (ty_view c.args.ty.now) in
    is_so (ends_with (ApartFromRun tags) c.args.others.now c.loop-next.next-index x (omega arith) c.next-item.is
    ((apart_from_run_last tags x _ (not_so _ _ c.may_be_absent.ensures c.if-not-may_be_absent.true)).1 (so _ _ c.are_apart.ensures c.if-not-are_apart.false)) c.loop-next.invariant)

pub returns : goal.returns
returns c =
    let tags = first_tags (ty_view c.args.ty.now) in
    is_so (ends (ApartFromRun tags) c.args.others.now c.loop-next.next-index (omega arith) (apart_nil tags) c.loop-next.invariant)
