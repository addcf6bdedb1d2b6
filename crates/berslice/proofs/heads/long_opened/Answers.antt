use Rattle.std.proofs.Common.{◌≡◌, ◌∷◌, ◌≤◌, [], ◌+◌, ◌-◌, length, take, drop, refl, subst, arith}
use Rattle.std.proofs.lemmas.List.{take_rest, length-drop}
use Rattle.octets.specs.Length.{IsReadLength}
use Rattle.berslice.proofs.HeadLemmas.{opened_definite, opened_indefinite}
use Rattle.berslice.proofs.heads.long_opened.Goals as goal

pub returns-else-size-octets : goal.returns-else-size-octets
returns-else-size-octets c =
    let octets = c.args.octets.now in
    let i = c.in_ok-start.start in
    let id = c.in_ok-start.ensures in
    let all : take (length octets - i) (drop i octets) ≡ drop i octets = take_rest octets i in
    let read : IsReadLength (drop i octets) c.in-Definite.size c.in-Definite.used = subst (λ x. IsReadLength x c.in-Definite.size c.in-Definite.used) all (c.in-Definite.ensures) in
    let size = length-drop i octets in
    opened_definite c.args.tag i c.in-Definite.used c.in-Definite.size octets _ id.1 read.form (omega (arith, id.0, read.there, size, c.if-size-octets.false)) refl

pub returns-in-Indefinite : goal.returns-in-Indefinite
returns-in-Indefinite c =
    let octets = c.args.octets.now in
    let i = c.in_ok-start.start in
    let used = c.in-Indefinite.used in
    let id = c.in_ok-start.ensures in
    let all : take (length octets - i) (drop i octets) ≡ drop i octets = take_rest octets i in
    let read : (used ≤ length (drop i octets)) × (take used (drop i octets) ≡ 128 ∷ []) = subst (λ x. (used ≤ length x) × (take used x ≡ 128 ∷ [])) all (c.in-Indefinite.ensures) in
    opened_indefinite c.args.tag i used octets _ id.1 read.1 (omega (arith, id.0, read.0, length-drop i octets)) (take_rest octets (i + used))
