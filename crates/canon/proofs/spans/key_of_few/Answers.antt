use Rattle.std.proofs.Common.{◌≡◌, ◌∙◌, ◌+◌, ◌*◌, ◌^◌, ◌%◌, ◌-◌, ◌<◌, ℕ, All, length, refl, ap, arith}
use Rattle.std.proofs.Math.Nat.{mod-eq_of_lt}
use Rattle.std.proofs.lemmas.List.Elements.{All-from_get_or}
use Rattle.canon.proofs.KeyLemmas.{halves_shifted, key_of-below}
use Rattle.canon.proofs.spans.key_of_few.Goals as goal

pub returns : goal.returns
returns c =
    let xs = c.args.octets.now in
    let first = c.half_at.result in
    let last = c.half_at-2.result in
    let octets : All (λ d. d < 256) xs = All-from_get_or {X = ℕ} (λ d. d < 256) xs 0 (λ k below. omega (arith, c.type_inv.octets k)) in
    let moved = ap (λ k. k * 2 ^ (8 * (8 - length xs))) c.from-last.ensures in
    let word : c.from.result ≡ first * 2 ^ 32 + (last * 2 ^ (8 * (8 - length xs))) % 2 ^ 32 = omega (arith, c.from.ensures, c.from-first.ensures, moved, c.half_at.type_inv) in
    ap (λ k. k * 2 ^ 64 % 2 ^ 128) word ∙ ap (λ k. k % 2 ^ 128) (halves_shifted xs (length xs) first last octets refl c.requires.0 c.requires.1 c.half_at.ensures c.half_at-2.ensures)
    ∙ mod-eq_of_lt (key_of-below 16 xs octets)
