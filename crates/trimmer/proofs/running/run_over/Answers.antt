use Rattle.std.proofs.lemmas.Result.{IfOk-weaker}
use Rattle.trimmer.proofs.running.run_over.Goals as goal

pub returns-in-Ok-clause-written : goal.returns-in-Ok-clause-written
returns-in-Ok-clause-written g c =
    IfOk-weaker c.print_trimmed.result _ _ (λ end appended is_written. (_, _, c.in-Ok.ensures, appended is_written)) c.print_trimmed.ensures.written
