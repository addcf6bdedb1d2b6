use Rattle.std.proofs.Common.{◌+◌, ◌*◌, ◌^◌, ◌<◌, ℕ, All, get_or, refl, arith}
use Rattle.std.proofs.lemmas.List.Elements.{All-from_get_or}
use Rattle.canon.proofs.KeyLemmas.{IsOctet, octet_there, read_more, read_fits, read_shifted}
use Rattle.canon.proofs.spans.key.Goals as goal
use Rattle.canon.proofs.spans.key.Goals.{In-loop-i}

-- the octet that is read, and room for it
octet_read : (c : In-loop-i) → IsOctet c.args.octets.now c.loop-i.i (get_or c.args.octets.now c.loop-i.i 0)
octet_read c = octet_there c.args.octets.now c.loop-i.i (get_or c.args.octets.now c.loop-i.i 0) (omega (arith, c.min-there.ensures)) refl (omega (arith, c.type_inv.octets c.loop-i.i))

number_fits : (c : In-loop-i) → c.loop-i.number * 256 + (get_or c.args.octets.now c.loop-i.i 0) < 2 ^ 128
number_fits c =
    let xs = c.args.octets.now in
    let octets : All (λ d. d < 256) xs = All-from_get_or {X = ℕ} (λ d. d < 256) xs 0 (λ k below. omega (arith, c.type_inv.octets k)) in
    read_fits xs c.loop-i.i c.loop-i.number (get_or c.args.octets.now c.loop-i.i 0) (omega (arith, c.min-there.ensures)) octets c.loop-i.invariant (octet_read c)

pub overflow_add-number : goal.overflow_add-number
overflow_add-number c = omega (arith, number_fits (goal.at.overflow_add-number c).In-loop-i, c.from.ensures)

pub overflow_mul-number : goal.overflow_mul-number
overflow_mul-number c = omega (arith, number_fits c)

pub loop-i-preserved : goal.loop-i-preserved
loop-i-preserved c =
    rw c.from.ensures (read_more c.args.octets.now c.loop-i.i c.loop-i.number (get_or c.args.octets.now c.loop-i.i 0) (omega (arith, c.min-there.ensures)) c.loop-i.invariant (octet_read (goal.at.loop-i-preserved c).In-loop-i))

pub returns : goal.returns
returns c =
    let xs = c.args.octets.now in
    let octets : All (λ d. d < 256) xs = All-from_get_or {X = ℕ} (λ d. d < 256) xs 0 (λ k below. omega (arith, c.type_inv.octets k)) in
    read_shifted xs c.loop-i.i c.min-there.result c.loop-i.number c.min-there.ensures (omega (arith, c.loop-i-test.false, c.loop-i.auto.i-end)) octets c.loop-i.invariant
