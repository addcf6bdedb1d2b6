use Rattle.encoding_parts.proofs.RefusesLemmas.{passed_on}
use Rattle.berreader.proofs.nest.Nest.part.Goals as goal

pub returns-in_err-next-clause-refused : goal.returns-in_err-next-clause-refused
returns-in_err-next-clause-refused c = passed_on c.from_residual.result _ _ _ _ c.from_residual.ensures.1 c.in_err-next.ensures.refused
