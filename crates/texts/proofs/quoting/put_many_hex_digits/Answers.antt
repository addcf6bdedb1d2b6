use Rattle.std.proofs.Common.{◌*◌, length, refl, rules}
use Rattle.std.proofs.lemmas.Str.{IsAscii-take}
use Rattle.texts.proofs.AppendLemmas.{ascii_zeros}
use Rattle.texts.proofs.quoting.put_many_hex_digits.Goals as goal

pub loop-chunk-init : goal.loop-chunk-init
loop-chunk-init c = (search rules, tt, search rules, ascii_zeros 1024, refl, search rules)

pub put_ascii-requires : goal.put_ascii-requires
put_ascii-requires c = IsAscii-take c.write_hex_digits.new.digits (2 * length c.in-Some.chunk.now) c.write_hex_digits.ensures.ascii
