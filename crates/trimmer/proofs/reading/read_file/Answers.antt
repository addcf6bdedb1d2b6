use Rattle.std.proofs.Common.{◌≡◌}
use Rattle.trimmer.proofs.FileLemmas.{read_up_to}
use Rattle.trimmer.proofs.reading.read_file.Goals as goal

pub returns : goal.returns
returns g c =
    let bytes = rw c.take.ensures.inner at c.in_ok-read_to_end.ensures.bytes in
    read_up_to (g.R.Read.remaining c.args.file.now) c.take.result.limit 16777217 c.new-octets.result.items c.read_to_end.new.buf.items c.take.ensures.limit c.new-octets.ensures.items bytes
