use Rattle.convert.proofs.ModuleFileLemmas.{read_up_to}
use Rattle.program.proofs.running.read_text.Goals as goal

pub returns-in-Ok-clause-text : goal.returns-in-Ok-clause-text
returns-in-Ok-clause-text g c =
    let bytes = rw c.take.ensures.inner at c.in-Ok.ensures.bytes in
    read_up_to (g.R.Read.remaining c.args.input.now) c.take.result.limit 4194305 c.new-text.result.items c.read_to_end.new.buf.items c.take.ensures.limit c.new-text.ensures.items bytes
