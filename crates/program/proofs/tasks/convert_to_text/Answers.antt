use Rattle.std.proofs.Common.{rules, None}
use Rattle.types.specs.View.{ty_view}
use Rattle.octets.proofs.ResultLemmas.{IfErr-from}
use Rattle.engine.specs.Rule.{rule_of}
use Rattle.program.proofs.TaskLemmas.{unwritten_end}
use Rattle.program.proofs.tasks.convert_to_text.Goals as goal

pub returns-in_err-end_text-in-Err : goal.returns-in_err-end_text-in-Err
returns-in_err-end_text-in-Err g c =
    let left = g.S.Source.left c.args.source.now in
    let stopped = unwritten_end left None None (rule_of c.args.from) c.args.to (ty_view c.args.ty.now) c.in-Err.stopped.done c.in-Err.stopped.refusal c.in-Err.ensures.stopped in
    record {
      done = search rules;
      stopped = IfErr-from c.from_residual.result _ _ c.from_residual.ensures.1 (λ fault same. rw (same, c.in_err-end_text-in-Err.ensures.stopped) stopped);
      status = search rules;
    }
