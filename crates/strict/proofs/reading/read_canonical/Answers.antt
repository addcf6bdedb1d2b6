use Rattle.std.proofs.Common.{Err, ap, sym}
use Rattle.std.proofs.lemmas.Result.{err_from_is_err_and}
use Rattle.octets.proofs.ResultLemmas.{Err-known}
use Rattle.strict.proofs.reading.read_canonical.Goals as goal

pub returns-in_err-used-clause-front : goal.returns-in_err-used-clause-front
returns-in_err-used-clause-front c =
    let p = err_from_is_err_and c.from_residual.result c.from_residual.ensures.1 in
    record {
      value = rw p.1 tt;
      only = rw p.1 tt;
      truncated = λ refused. c.in_err-used.ensures.truncated (ap Err (sym (Err-known c.from_residual.result _ _ refused c.from_residual.ensures.1)));
      begun = λ refused. c.in_err-used.ensures.begun (ap Err (sym (Err-known c.from_residual.result _ _ refused c.from_residual.ensures.1)));
      never = rw (p.1, p.2) c.in_err-used.ensures.never;
      numbers = rw (p.1, p.2) c.in_err-used.ensures.numbers;
    }
