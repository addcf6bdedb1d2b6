use Rattle.std.proofs.Common.{◌<◌, ℕ, arith, All}
use Rattle.std.proofs.lemmas.List.Elements.{All-from_get_or}
use Rattle.primitives.proofs.IntegerLemmas.{IsWideInteger-from, above_sixteen}
use Rattle.primitives.proofs.integer.is_wide_integer.Goals as goal

pub returns-then-contents-le16 : goal.returns-then-contents-le16
returns-then-contents-le16 c =
    (λ h. absurd (cc h), λ h. absurd (omega (arith, h.within, above_sixteen c.args.contents.now h, c.then-contents-le16.either)))

pub returns : goal.returns
returns c =
    let cs = c.args.contents.now in
    let octets : All (λ d. d < 256) cs = All-from_get_or {X = ℕ} (λ d. d < 256) cs 0 (λ i below. omega (arith, c.type_inv.contents i)) in
    (λ h. IsWideInteger-from cs c.if-contents-le16.false c.if-contents-gt-MAX_INTEGER_OCTETS.false octets (c.is_shortest.ensures.0 h), λ h. c.is_shortest.ensures.1 h.spelt.shortest)
