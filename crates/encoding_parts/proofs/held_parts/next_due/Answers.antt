use Rattle.std.proofs.Common.{arith}
use Rattle.types.proofs.LoopLemmas.{begins, goes_on, ends_with, so, not_so}
use Rattle.encoding_parts.proofs.HeldPartsLemmas.{NoneNext, none_next_first, none_next_last, leads_none, leads_on, next_at}
use Rattle.encoding_parts.proofs.held_parts.next_due.Goals as goal

pub loop-which-init : goal.loop-which-init
loop-which-init c = (leads_none c.args.left.now, begins (NoneNext c.args.tag) c.args.left.now)

pub loop-which-preserved : goal.loop-which-preserved
loop-which-preserved c =
    let x = c.index-left-which.result in
    let xs = c.args.left.now in
    let may = so _ _ c.may_be_absent.ensures c.if-not-may_be_absent.false in (
      leads_on xs c.loop-which.which x (omega arith) c.index-left-which.is may c.loop-which.invariant.0,
      goes_on (NoneNext c.args.tag) _ xs c.loop-which.which x (omega arith) c.index-left-which.is (none_next_first c.args.tag x _ may) (not_so _ _ c.begins.ensures c.if-begins.false) c.loop-which.invariant.1,
    )

pub returns-then-begins-clause-value : goal.returns-then-begins-clause-value
returns-then-begins-clause-value c =
    (next_at c.args.left.now c.loop-which.which c.index-left-which.result (omega arith) c.index-left-which.is c.loop-which.invariant.0, so _ _ c.begins.ensures c.if-begins.true)

pub returns-then-not-may_be_absent-clause-never : goal.returns-then-not-may_be_absent-clause-never
returns-then-not-may_be_absent-clause-never c =
    let x = c.index-left-which.result in
    ends_with (NoneNext c.args.tag) c.args.left.now c.loop-which.which x (omega arith) c.index-left-which.is
    (none_next_last c.args.tag x _ (not_so _ _ c.may_be_absent.ensures c.if-not-may_be_absent.true) (not_so _ _ c.begins.ensures c.if-begins.false)) c.loop-which.invariant.1
