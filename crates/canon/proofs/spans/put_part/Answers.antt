use Rattle.std.proofs.Common.{◌≡◌, ◌∙◌, ◌+◌, ◌-◌, ◌++◌, length, take, drop, ap, arith}
use Rattle.canon.proofs.PartLemmas.{cut_again}
use Rattle.canon.proofs.spans.put_part.Goals as goal

pub returns-clause-appended : goal.returns-clause-appended
returns-clause-appended c =
    let buffer = c.args.buffer.now in
    let span = c.args.span in
    let moved = c.args.moved.now.items in
    let octets = c.part-octets.result.now in
    let end : c.len.result + length octets ≡ length moved + length octets = omega (arith, c.len.ensures) in
    let copied : c.extend_from_slice-2.new.self.items ≡ moved ++ take (span.start + 16 - span.start) (drop span.start buffer) = c.in_ok-extend_from_slice-2.ensures.items in
    c.truncate.ensures.items ∙ ap (λ n. take n c.extend_from_slice-2.new.self.items) end ∙ ap (take (length moved + length octets)) copied
    ∙ cut_again buffer moved octets span (span.start + 16 - span.start) c.part-octets.ensures (omega (arith, c.if-octets-gt16.false))
