use Rattle.engine.proofs.ReaderLemmas.{open_finished}
use Rattle.engine.proofs.any_reader.AnyReader.finish.Goals as goal

pub returns-in-Ber : goal.returns-in-Ber
returns-in-Ber c = λ shape old stands. open_finished shape _ old c.finish.result (rw c.in-Ber.is at stands) c.finish.ensures.exact c.finish.ensures.refused
