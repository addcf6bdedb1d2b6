use Rattle.std.proofs.Common.{arith}
use Rattle.strict.proofs.ShortLemmas.{short_indefinite}
use Rattle.strict.proofs.short.short_indefinite.Goals as goal

pub returns : goal.returns
returns c = short_indefinite c.args.tag c.args.room c.args.octets.now c.requires.there c.requires.tagged (omega arith) (omega arith)
