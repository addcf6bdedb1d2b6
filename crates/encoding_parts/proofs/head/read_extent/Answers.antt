use Rattle.std.proofs.Common.{◌≡◌, ◌≤◌, ◌++◌, length, take, subst, arith}
use Rattle.octets.specs.Front.{HasFront, Begins}
use Rattle.octets.specs.Length.{IsSomeLength, IsReadLength}
use Rattle.encoding_parts.proofs.HeadLemmas.{sized, none_windowed, none_past_end, none_cut, extent_of_front}
use Rattle.types.specs.declared.refusal.Refusal.TheVariants.{Truncated}
use Rattle.encoding_parts.proofs.CutLemmas.{length_cut}
use Rattle.encoding_parts.proofs.head.read_extent.Goals as goal

pub returns-then-size-room-clause-never : goal.returns-then-size-room-clause-never
returns-then-size-room-clause-never c = λ final more h.
    let room = c.saturating_sub-room.result in
    let octets = c.args.octets.now in
    let read : IsReadLength (take room octets) c.in-Definite.size c.in-Definite.used = subst (λ w. IsReadLength w c.in-Definite.size c.in-Definite.used) c.front-window.ensures c.in-Definite.ensures in
    let fits = extent_of_front c.args.constructed c.args.end c.args.taken c.in-Definite.size c.in-Definite.used room octets more read.form read.there h in
    absurd (omega (arith, fits, c.saturating_sub-room.ensures, c.if-size-room.true))

pub returns-in-More-clause-truncated : goal.returns-in-More-clause-truncated
returns-in-More-clause-truncated c = λ same h.
    let room = c.saturating_sub-room.result in
    let octets = c.args.octets.now in
    let s = sized c.args.constructed c.args.end c.args.taken octets c.requires h in
    let none : HasFront IsSomeLength (take room octets) → ⊥ = subst (λ w. HasFront IsSomeLength w → ⊥) c.front-window.ensures c.in-More.ensures.0 in
    none_cut IsSomeLength room s.front s.rest octets none s.some (omega (arith, s.fits, c.saturating_sub-room.ensures)) s.parts

pub returns-in-More-clause-never : goal.returns-in-More-clause-never
returns-in-More-clause-never c = λ final more h.
    let room = c.saturating_sub-room.result in
    let octets = c.args.octets.now in
    let s = sized c.args.constructed c.args.end c.args.taken (octets ++ more) c.requires h in
    let none : HasFront IsSomeLength (take room octets) → ⊥ = subst (λ w. HasFront IsSomeLength w → ⊥) c.front-window.ensures c.in-More.ensures.0 in
    let full : room ≤ length (take room octets) = subst (λ w. room ≤ length w) c.front-window.ensures (c.cut.ensures.never final) in
    none_past_end IsSomeLength room s.front s.rest octets more none full s.some (omega (arith, s.fits, c.saturating_sub-room.ensures)) s.parts

pub returns-in-Bad-clause-never : goal.returns-in-Bad-clause-never
returns-in-Bad-clause-never c = λ final more h.
    let room = c.saturating_sub-room.result in
    let octets = c.args.octets.now in
    let s = sized c.args.constructed c.args.end c.args.taken (octets ++ more) c.requires h in
    let none : HasFront IsSomeLength (take room octets) → ⊥ = subst (λ w. HasFront IsSomeLength w → ⊥) c.front-window.ensures c.in-Bad.ensures.0 in
    let begins : Begins IsSomeLength (take room octets) → ⊥ = subst (λ w. Begins IsSomeLength w → ⊥) c.front-window.ensures c.in-Bad.ensures.1 in
    none_windowed IsSomeLength room s.front s.rest octets more none begins s.some (omega (arith, s.fits, c.saturating_sub-room.ensures)) s.parts

pub returns-in-More-clause-cut : goal.returns-in-More-clause-cut
returns-in-More-clause-cut c = λ same.
    let known : c.cut.result ≡ Truncated = cc same in
    length_cut c.args.end c.args.taken c.saturating_sub-room.result c.front-window.result.now c.args.octets.now c.front-window.ensures c.saturating_sub-room.ensures (c.cut.ensures.truncated known) c.in-More.ensures.0 c.in-More.ensures.1
