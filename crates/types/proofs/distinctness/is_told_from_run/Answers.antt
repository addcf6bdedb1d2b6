use Rattle.std.proofs.Common.{IsTrue}
use Rattle.types.proofs.LoopLemmas.{so}
use Rattle.types.proofs.TagLemmas.{stands_apart}
use Rattle.types.proofs.distinctness.is_told_from_run.Goals as goal

pub returns-else-not-may_be_absent : goal.returns-else-not-may_be_absent
returns-else-not-may_be_absent c =
    stands_apart (IsTrue c.is_apart_from_run.result) c.args.field.now c.args.others.now (so _ _ c.may_be_absent.ensures c.if-not-may_be_absent.false) c.is_apart_from_run.ensures
