use Rattle.std.proofs.Common.{sym, subst, true}
use Rattle.octets.specs.Rule.{rule_of}
use Rattle.strict.specs.Head.{IsOpened}
use Rattle.strict.proofs.BarsLemmas.{refused_named}
use Rattle.strict.proofs.InsideLemmas.{opened_definite, refused_definite}
use Rattle.strict.proofs.head.long_opened.Goals as goal

pub returns-in-Ok-clause-value : goal.returns-in-Ok-clause-value
returns-in-Ok-clause-value c =
    let start = c.in-Ok.start in
    let size = c.in-Ok.size in
    subst (λ r. IsOpened (rule_of r) c.args.tag c.args.room c.args.octets.now record { start = start; room = size; definite = true }) (sym c.in-Der.is) (opened_definite c.args.tag c.args.room start size c.args.octets.now c.in-Ok.ensures.value)

pub returns-in-Err-clause-refused : goal.returns-in-Err-clause-refused
returns-in-Err-clause-refused c =
    refused_named c.refusal_inside.ensures (refused_definite c.args.rule c.args.tag c.args.room c.args.octets.now c.in-Err.refusal c.in-Der.is c.in-Err.ensures.refused)
