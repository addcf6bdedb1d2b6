use Rattle.strings.proofs.TimeLemmas.{if_none, no_year}
use Rattle.strings.proofs.time.split_year.Goals as goal

pub returns-in_err-last-in-Generalized-clause-none :
    goal.returns-in_err-last-in-Generalized-clause-none
returns-in_err-last-in-Generalized-clause-none c =
    if_none c.from_residual-in_err-last-in-Generalized.result (λ number rest is.
    no_year c.in-Generalized.is c.in_ok-first.ensures.found.2 c.in_err-last-in-Generalized.ensures.none is)
