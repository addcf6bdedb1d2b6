use Rattle.std.proofs.Common.{ap}
use Rattle.std.proofs.lemmas.Result.{IfErr-weaker}
use Rattle.types.specs.View.{ty_view}
use Rattle.engine.specs.Rule.{rule_of}
use Rattle.program.specs.Fault.{fault_status}
use Rattle.program.proofs.TaskLemmas.{unwritten_count}
use Rattle.program.proofs.tasks.perform.Goals as goal

pub returns-in_ok-count-in-Check-clause-stopped : goal.returns-in_ok-count-in-Check-clause-stopped
returns-in_ok-count-in-Check-clause-stopped g c =
    let left = g.S.Source.left c.args.source.now in
    let stopped = unwritten_count left (rule_of c.args.line.now.from) (ty_view c.args.ty.now) c.in_ok-count-in-Check.count c.in_ok-count-in-Check.ensures.checked in
    rw c.in-Check.is (IfErr-weaker c.print_count.result _ _ (λ fault is. rw is stopped) c.print_count.ensures.stopped)

pub returns-in_ok-count-in-Check-clause-kept : goal.returns-in_ok-count-in-Check-clause-kept
returns-in_ok-count-in-Check-clause-kept g c =
    IfErr-weaker c.print_count.result _ _ (λ fault is other checked. absurd (other (ap fault_status is))) c.print_count.ensures.stopped
