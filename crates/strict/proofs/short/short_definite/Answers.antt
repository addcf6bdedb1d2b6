use Rattle.std.proofs.Common.{arith}
use Rattle.strict.proofs.ShortLemmas.{short_definite}
use Rattle.strict.proofs.short.short_definite.Goals as goal

pub returns : goal.returns
returns c = short_definite c.args.tag c.args.room c.from-size.result c.args.octets.now c.requires.there c.requires.tagged (omega arith) (omega (arith, c.from-size.ensures)) (omega arith)
