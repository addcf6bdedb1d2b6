use Rattle.lexis.proofs.StringLemmas.{GoesOn, IsBest}
use Rattle.lexis.proofs.quoted.string_rest.Given as goal

abbrev pub invariant-loop-count : goal.invariant-loop-count
invariant-loop-count l = record {
  goes_on : GoesOn l.octets l.count l.is_half;
  best : IsBest l.octets l.count l.end;
}
