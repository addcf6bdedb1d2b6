use Rattle.value_stream.proofs.LawLemmas.{those_of_the_source}
use Rattle.value_stream.proofs.laws.values_returned_are_those_of_the_source.Goals as goal

pub returns : goal.returns
returns c = those_of_the_source
