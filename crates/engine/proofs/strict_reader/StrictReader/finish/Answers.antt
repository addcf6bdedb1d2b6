use Rattle.engine.proofs.ReaderLemmas.{open_finished}
use Rattle.engine.proofs.strict_reader.StrictReader.finish.Goals as goal

pub returns : goal.returns
returns c = λ shape old stands.
    open_finished shape c.args.self.now.reader old c.finish.result stands.reader_stands c.finish.ensures.exact c.finish.ensures.refused
