use Rattle.std.proofs.Common.{◌≡◌, ◌≤◌, ◌++◌, length, take, subst, arith}
use Rattle.octets.specs.Front.{HasFront, Begins}
use Rattle.octets.specs.Identifier.{IsSomeIdentifier}
use Rattle.encoding_parts.proofs.HeadLemmas.{some_identifier, none_windowed, none_past_end, none_cut}
use Rattle.types.specs.declared.refusal.Refusal.TheVariants.{Truncated}
use Rattle.encoding_parts.proofs.CutLemmas.{identifier_cut}
use Rattle.encoding_parts.proofs.head.read_head_tag.Goals as goal

pub returns-in-More-clause-truncated : goal.returns-in-More-clause-truncated
returns-in-More-clause-truncated c = λ same tag within h.
    let room = c.saturating_sub-room.result in
    let octets = c.args.octets.now in
    let none : HasFront IsSomeIdentifier (take room octets) → ⊥ = subst (λ w. HasFront IsSomeIdentifier w → ⊥) c.front-window.ensures c.in-More.ensures.0 in
    none_cut IsSomeIdentifier room h.identifier h.rest octets none (some_identifier tag c.args.end c.args.taken octets within h) (omega (arith, h.fits, c.saturating_sub-room.ensures)) h.parts

pub returns-in-More-clause-never : goal.returns-in-More-clause-never
returns-in-More-clause-never c = λ final more tag within h.
    let room = c.saturating_sub-room.result in
    let octets = c.args.octets.now in
    let none : HasFront IsSomeIdentifier (take room octets) → ⊥ = subst (λ w. HasFront IsSomeIdentifier w → ⊥) c.front-window.ensures c.in-More.ensures.0 in
    let full : room ≤ length (take room octets) = subst (λ w. room ≤ length w) c.front-window.ensures (c.cut.ensures.never final) in
    none_past_end IsSomeIdentifier room h.identifier h.rest octets more none full (some_identifier tag c.args.end c.args.taken (octets ++ more) within h) (omega (arith, h.fits, c.saturating_sub-room.ensures)) h.parts

pub returns-in-Bad-clause-never : goal.returns-in-Bad-clause-never
returns-in-Bad-clause-never c = λ final more tag within h.
    let room = c.saturating_sub-room.result in
    let octets = c.args.octets.now in
    let none : HasFront IsSomeIdentifier (take room octets) → ⊥ = subst (λ w. HasFront IsSomeIdentifier w → ⊥) c.front-window.ensures c.in-Bad.ensures.0 in
    let begins : Begins IsSomeIdentifier (take room octets) → ⊥ = subst (λ w. Begins IsSomeIdentifier w → ⊥) c.front-window.ensures c.in-Bad.ensures.1 in
    none_windowed IsSomeIdentifier room h.identifier h.rest octets more none begins (some_identifier tag c.args.end c.args.taken (octets ++ more) within h) (omega (arith, h.fits, c.saturating_sub-room.ensures)) h.parts

pub returns-in-More-clause-cut : goal.returns-in-More-clause-cut
returns-in-More-clause-cut c = λ same.
    let known : c.cut.result ≡ Truncated = cc same in
    identifier_cut c.args.end c.args.taken c.saturating_sub-room.result c.front-window.result.now c.args.octets.now c.front-window.ensures c.saturating_sub-room.ensures (c.cut.ensures.truncated known) c.in-More.ensures.0 c.in-More.ensures.1
