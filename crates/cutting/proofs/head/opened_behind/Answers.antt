use Rattle.std.proofs.Common.{◌≡◌, [], ◌∷◌, ◌≤◌, length, drop, take, true, false, arith, subst, length-drop}
use Rattle.octets.specs.Front.{HasFront, Begins}
use Rattle.octets.specs.Length.{IsReadLength, IsSomeLength}
use Rattle.cutting.specs.Heads.{IsReadUsable}
use Rattle.cutting.proofs.ReadLemmas.{definite_read, indefinite_read, form_never, no_length_no_head, no_length_never, length_short, behind}
use Rattle.cutting.proofs.head.opened_behind.Goals as goal

pub returns-in-Definite : goal.returns-in-Definite
returns-in-Definite c =
    let octets = c.args.octets.now in
    let at = c.args.at in
    let used = c.in-Definite.used in
    let read : IsReadLength (drop at octets) c.in-Definite.size used = behind (λ x. IsReadLength x c.in-Definite.size used) octets at c.in-Definite.ensures in
    (omega (arith, read.there, length-drop at octets, c.requires.read.there), definite_read octets c.args.constructed at c.in-Definite.size used c.requires read.within read.form)

pub returns-in-Indefinite : goal.returns-in-Indefinite
returns-in-Indefinite c =
    let octets = c.args.octets.now in
    let at = c.args.at in
    let used = c.in-Indefinite.used in
    let usable : IsReadUsable octets true at = subst (λ j. IsReadUsable octets j at) c.if-constructed.true c.requires in
    let read = behind (λ x. (used ≤ length x) × (take used x ≡ 128 ∷ [])) octets at c.in-Indefinite.ensures in
    (omega (arith, read.0, length-drop at octets, c.requires.read.there), indefinite_read octets at used usable read.1)

pub returns-in-Indefinite-2 : goal.returns-in-Indefinite-2
returns-in-Indefinite-2 c =
    let octets = c.args.octets.now in
    let at = c.args.at in
    let used = c.in-Indefinite-2.used in
    let usable : IsReadUsable octets false at = subst (λ j. IsReadUsable octets j at) c.if-constructed.false c.requires in
    let read = behind (λ x. (used ≤ length x) × (take used x ≡ 128 ∷ [])) octets at c.in-Indefinite-2.ensures in
    (tt, λ e. cc e, λ more. form_never octets more at used usable read.1)

pub returns-in-More : goal.returns-in-More
returns-in-More c =
    let octets = c.args.octets.now in
    let at = c.args.at in
    let read = behind (λ x. (HasFront IsSomeLength x → ⊥) × Begins IsSomeLength x) octets at c.in-More.ensures in
    (no_length_no_head octets c.args.constructed at c.requires read.0, length_short octets c.args.constructed at c.requires read.1)

pub returns-in-Bad : goal.returns-in-Bad
returns-in-Bad c =
    let octets = c.args.octets.now in
    let at = c.args.at in
    let read = behind (λ x. (HasFront IsSomeLength x → ⊥) × (Begins IsSomeLength x → ⊥)) octets at c.in-Bad.ensures in
    (tt, λ e. cc e, λ more. no_length_never octets more c.args.constructed at c.requires read.0 read.1)
