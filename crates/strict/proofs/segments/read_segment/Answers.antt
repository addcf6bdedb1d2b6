use Rattle.std.proofs.Common.{◌≡◌, true, false, Err, refl, sym, ◌∙◌, ap, slice_range}
use Rattle.strict.proofs.BarsLemmas.{refused_for_good, refused_joining, refused_through}
use Rattle.strict.proofs.JoiningLemmas.{joined_segment}
use Rattle.strict.proofs.KindLemmas.{held_by_ber}
use Rattle.strict.proofs.SegmentLemmas.{stands_at}
use Rattle.strict.proofs.segments.read_segment.Goals as goal

pub returns-in_err-join-clause-refused : goal.returns-in_err-join-clause-refused
returns-in_err-join-clause-refused c =
    let octets = c.args.octets.now in
    let kind = c.args.kind in
    let full = c.args.full in
    let room = c.args.room in
    let start = c.in_ok-start.start in
    let stop = c.in_ok-start.stop in
    refused_through c.from_residual-in_err-join.result c.from_residual-in_err-join.ensures.1 (refused_joining c.in_err-join.ensures.numbers (λ same more h.
    let at = stands_at kind full room start stop octets more h.0 c.requires.no_end c.in_ok-start.ensures.place h.1 in
    c.in_err-join.ensures.none (ap Err same) at.piece (held_by_ber kind at.piece (slice_range octets start stop) at.holds)))

pub returns-then-is_spelt-clause-value : goal.returns-then-is_spelt-clause-value
returns-then-is_spelt-clause-value c =
    let octets = c.args.octets.now in
    let kind = c.args.kind in
    let start = c.in_ok-start.start in
    let stop = c.in_ok-start.stop in
    let j = c.in_ok-join.ensures.joined in
    joined_segment kind c.args.room start stop octets c.args.joined.now c.join.new.self c.is_full.result c.requires.no_end c.in_ok-start.ensures.place c.in_ok-start.ensures.short (c.requires.whole c.in_ok-start.ensures.open) j ((c.if-is_spelt.ensures j.piece j.holds).0 refl)
    c.is_full.ensures.0 c.is_full.ensures.1

pub returns-else-is_spelt-clause-refused : goal.returns-else-is_spelt-clause-refused
returns-else-is_spelt-clause-refused c = refused_for_good (tt, tt) (λ more h.
    let octets = c.args.octets.now in
    let kind = c.args.kind in
    let start = c.in_ok-start.start in
    let stop = c.in_ok-start.stop in
    let at = stands_at kind c.args.full c.args.room start stop octets more h.0 c.requires.no_end c.in_ok-start.ensures.place h.1 in
    let told : true ≡ false = sym ((c.is_spelt.ensures at.piece (held_by_ber kind at.piece (slice_range octets start stop) at.holds)).1 (at.holds, at.some)) ∙ c.if-is_spelt.false in
    absurd cc)
