use Rattle.std.proofs.Common.{◌*◌, length}
use Rattle.std.proofs.lemmas.Str.{IsAscii-take}
use Rattle.texts.proofs.AppendLemmas.{ascii_zeros}
use Rattle.texts.proofs.quoting.put_hex_digits.Goals as goal

pub write_hex_digits-requires-clause-ascii : goal.write_hex_digits-requires-clause-ascii
write_hex_digits-requires-clause-ascii c = ascii_zeros 128

pub put_ascii-requires : goal.put_ascii-requires
put_ascii-requires c = IsAscii-take c.write_hex_digits.new.digits (2 * length c.args.octets.now) c.write_hex_digits.ensures.ascii
