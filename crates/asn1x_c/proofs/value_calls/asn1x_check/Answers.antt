use Rattle.std.proofs.Common.{rules}
use Rattle.types.specs.View.{ty_view}
use Rattle.engine.specs.Refusal.{IsOfChecking}
use Rattle.engine.specs.Rule.{rule_of}
use Rattle.engine.specs.Stream.{IsCheckStopped}
use Rattle.asn1x_c.specs.Done.{HasChecked}
use Rattle.asn1x_c.proofs.DoneLemmas.{stopped_by}
use Rattle.asn1x_c.proofs.value_calls.asn1x_check.Goals as goal

pub returns-clause-done : goal.returns-clause-done
returns-clause-done c =
    let octets = c.args.octets.now in
    let from = rule_of c.in-Some.from in
    let shape = ty_view c.in-Some.ty.value in
    let call = c.check-outcome in
    let checked : HasChecked from shape octets c.of.result = record {
      none_written = search rules;
      checked = search rules;
      stopped = stopped_by (IsOfChecking from) (λ done refusal. IsCheckStopped from shape done refusal octets) call.result 0 c.of.result (search rules) (search rules) call.ensures.numbers call.ensures.source;
    } in
    search (rules, checked)
