use Rattle.std.proofs.Common.{rules}
use Rattle.asn1x_c.proofs.value_calls.asn1x_convert_first.Goals as goal

pub returns-in_default-clause-done : goal.returns-in_default-clause-done
returns-in_default-clause-done c = search (rules, c.wrong.ensures c.args.out.now)
