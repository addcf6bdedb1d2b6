use Rattle.types.specs.View.{ty_view}
use Rattle.program.proofs.RunLemmas.{run_failed}
use Rattle.program.proofs.running.run.Goals as goal

pub returns-clause-failed : goal.returns-clause-failed
returns-clause-failed g c =
    rw c.print_fault-in-Err-run_over.ensures (λ failed. run_failed c.args.line.now c.args.module.now (ty_view c.in-Ok.ty) c.in-Some.task _ _ _ _ c.in-Ok.ensures.value c.in-Some.ensures.value c.in-Err-run_over.ensures.stopped)
