use Rattle.std.proofs.Common.{◌≡◌, ◌-◌, ◌<◌, ◌≤◌, ◌++◌, ℕ, All, length, replicate, get_or, ap, ◌∙◌, arith}
use Rattle.std.proofs.lemmas.Int.{ints}
use Rattle.std.proofs.lemmas.List.Elements.{All-from_get_or}
use Rattle.std.specs.Int.{w128, from_be_bytes, cast_signed}
use Rattle.primitives.proofs.IntegerLemmas.{filled_up, filled_up_value}
use Rattle.primitives.proofs.integer.up_to_sixteen_octets.Goals as goal
use Rattle.primitives.proofs.integer.up_to_sixteen_octets.Goals.{then-contents-lt128, else-contents-lt128}

pub returns : goal.returns
returns c =
    let fill = c.if-contents-lt128.fill in
    let cs = c.args.contents.now in
    let room = filled_up fill c.copy_from_slice.new.self cs c.copy_from_slice.ensures.after c.requires.1 in
    let octets : All (λ d. d < 256) cs = All-from_get_or {X = ℕ} (λ d. d < 256) cs 0 (λ i below. omega (arith, c.type_inv.contents i)) in
    let value : c.from_be_bytes.result ≡ cast_signed w128 (from_be_bytes w128 (replicate (16 - length cs) fill ++ cs)) = c.from_be_bytes.ensures ∙ ap (λ x. cast_signed w128 (from_be_bytes w128 x)) room in
    let zeros : get_or cs 0 0 < 128 → fill ≡ 0 = λ low. elim c.if-contents-lt128.branch [ then-contents-lt128 w ↦ w.fill-is | else-contents-lt128 w ↦ absurd (omega (arith, low, w.if-contents-lt128.false)) ] in
    let ones : 128 ≤ get_or cs 0 0 → fill ≡ 255 = λ high. elim c.if-contents-lt128.branch [ then-contents-lt128 w ↦ absurd (omega (arith, high, w.if-contents-lt128.true)) | else-contents-lt128 w ↦ w.fill-is ] in
    let same = filled_up_value fill cs c.requires.0 c.requires.1 octets zeros ones in
    omega (arith, ints, same, value, c.from_be_bytes.type_inv)
