use Rattle.std.proofs.Common.{◌≡◌, ◌≤◌, ◌+◌, ◌-◌, length, take, drop, subst, arith}
use Rattle.std.proofs.lemmas.List.{take_rest, length-drop}
use Rattle.octets.specs.Length.{IsReadLength}
use Rattle.encoding_parts.proofs.HeadLemmas.{IsPrimitive-from_parts}
use Rattle.berslice.proofs.heads.primitive.Goals as goal

pub returns : goal.returns
returns c =
    let octets = c.args.octets.now in
    let i = c.in_ok-start.start in
    let id = c.in_ok-start.ensures in
    let all : take (length octets - i) (drop i octets) ≡ drop i octets = take_rest octets i in
    let read : IsReadLength (drop i octets) c.in-Definite.size c.in-Definite.used = subst (λ x. IsReadLength x c.in-Definite.size c.in-Definite.used) all (c.in-Definite.ensures) in
    let size = length-drop i octets in
    let there : i + c.in-Definite.used + c.in-Definite.size ≤ length octets = omega (arith, id.0, read.there, size, c.if-size-octets.false) in
    record { there = there; whole = IsPrimitive-from_parts c.args.tag i c.in-Definite.used c.in-Definite.size octets id.1 read.form there }
