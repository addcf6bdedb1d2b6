use Rattle.std.proofs.Common.{refl, arith}
use Rattle.texts.proofs.AppendLemmas.{ascii_zeros}
use Rattle.texts.proofs.quoting.put_characters.Goals as goal

pub loop-octet-init : goal.loop-octet-init
loop-octet-init c = (refl, ascii_zeros 128, refl, omega arith)
