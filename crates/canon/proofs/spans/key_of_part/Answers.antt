use Rattle.std.proofs.Common.{◌≡◌, ◌∙◌, ◌+◌, ◌*◌, ◌^◌, ◌%◌, ◌-◌, ◌<◌, ◌≤◌, ℕ, All, length, drop, refl, ap, arith}
use Rattle.std.proofs.lemmas.List.{length-take, length-drop}
use Rattle.std.proofs.lemmas.List.Elements.{All-from_get_or}
use Rattle.canon.proofs.KeyLemmas.{words_shifted}
use Rattle.canon.proofs.spans.key_of_part.Goals as goal

pub returns : goal.returns
returns c =
    let buffer = c.args.buffer.now in
    let span = c.args.span in
    let there = c.min-there.result in
    let high = c.word_at-high.result in
    let low = c.word_at-low.result in
    let octets : All (λ d. d < 256) buffer = All-from_get_or {X = ℕ} (λ d. d < 256) buffer 0 (λ k below. omega (arith, c.type_inv.buffer k)) in
    let size = ap length c.part-octets.ensures ∙ length-take (span.end - span.start) (drop span.start buffer) in
    let within : span.start + there ≤ length buffer = omega (arith, size, length-drop span.start buffer, c.if-there-eq0.false, c.min-there.ensures) in
    let whole : c.from.result * 2 ^ 64 % 2 ^ 128 + c.from-2.result ≡ high * 2 ^ 64 + low = omega (arith, c.from.ensures, c.from-2.ensures, c.word_at-high.type_inv) in
    ap (λ k. k * 2 ^ (8 * (16 - there)) % 2 ^ 128) whole ∙ words_shifted buffer span there (span.start + there) high low octets (omega (arith, c.min-there.ensures, ap length c.part-octets.ensures)) refl (omega (arith, c.if-span-there-lt16.false)) within c.word_at-high.ensures c.word_at-low.ensures
