use Rattle.texts.proofs.AppendLemmas.{printable_ascii}
use Rattle.texts.proofs.quoting.put_once.Goals as goal

pub put_ascii-requires : goal.put_ascii-requires
put_ascii-requires c = printable_ascii c.args.octets.now c.requires.printable
