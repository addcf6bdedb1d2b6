use Rattle.std.proofs.Common.{◌≡◌, ◌-◌, ◌++◌, true, false, length, take, drop, ap, subst, arith, rules, length-drop}
use Rattle.std.proofs.lemmas.List.{take_rest}
use Rattle.strict.specs.Head.{EndsHere, IsEndKnown}
use Rattle.strict.specs.Segments.{IsJoinedSegment}
use Rattle.strict.proofs.BarsLemmas.{refused_behind, refused_through}
use Rattle.strict.proofs.JoiningLemmas.{none_joined, more_joined}
use Rattle.strict.proofs.SegmentLemmas.{segments_or_end, some_octets}
use Rattle.strict.proofs.EndingLemmas.{fewer_behind, less_behind}
use Rattle.strict.proofs.segments.read_segments.Goals as goal

pub loop-kind-init : goal.loop-kind-init
loop-kind-init c = none_joined c.args.kind c.args.room c.args.octets.now c.args.joined.now c.requires.none c.requires.unused

pub returns-in_err-ends-clause-refused : goal.returns-in_err-ends-clause-refused
returns-in_err-ends-clause-refused c =
    let octets = c.args.octets.now in
    let kind = c.args.kind in
    let room = c.args.room in
    let at = c.loop-kind.at in
    let read = c.loop-kind.invariant.read in
    refused_through c.from_residual.result c.from_residual.ensures.1
    (refused_behind at c.in_err-ends.ensures.refused (λ more h.
    let g = read.forth more h.0 h.1 in
    segments_or_end kind c.loop-kind.full (room - at) g.0 (drop at octets ++ more) g.2)
    (λ k. fewer_behind false room at octets read.within read.there k))

pub read_segment-requires-clause-no_end : goal.read_segment-requires-clause-no_end
read_segment-requires-clause-no_end c =
    let octets = c.args.octets.now in
    let at = c.loop-kind.at in
    let inner = take (length octets - at) (drop at octets) in
    let off : c.in_ok-ends.field-0 ≡ false = search rules in
    subst (λ b. IsEndKnown b false (c.args.room - at) inner) off c.in_ok-ends.ensures.value

pub returns-in_err-used-clause-refused : goal.returns-in_err-used-clause-refused
returns-in_err-used-clause-refused c =
    let octets = c.args.octets.now in
    let room = c.args.room in
    let at = c.loop-kind.at in
    let read = c.loop-kind.invariant.read in
    refused_through c.from_residual-in_err-used.result c.from_residual-in_err-used.ensures.1
    (refused_behind at c.in_err-used.ensures.refused (λ more h. let g = read.forth more h.0 h.1 in (g.0, g.2)) (λ k. less_behind false room at octets read.within read.there k))

pub loop-kind-smaller : goal.loop-kind-smaller
loop-kind-smaller c =
    let octets = c.args.octets.now in
    let at = c.loop-kind.at in
    let used = c.in_ok-used.used in
    let inner = take (length octets - at) (drop at octets) in
    let all : inner ≡ drop at octets = take_rest octets at in
    let one = c.in_ok-used.ensures.value in
    let some = some_octets c.args.kind (c.args.room - at) inner one.piece c.in_ok-used.goes_on used one.read in
    omega (arith, some, one.read.there, ap length all, length-drop at octets, c.loop-kind.invariant.read.there)

pub loop-kind-preserved : goal.loop-kind-preserved
loop-kind-preserved c =
    let octets = c.args.octets.now in
    let at = c.loop-kind.at in
    let used = c.in_ok-used.used in
    let all : take (length octets - at) (drop at octets) ≡ drop at octets = take_rest octets at in
    let one = subst (λ x. IsJoinedSegment c.args.kind (c.args.room - at) x c.loop-kind.joined c.read_segment.new.joined c.in_ok-used.goes_on used) all c.in_ok-used.ensures.value in
    more_joined c.args.kind c.args.room at used octets c.loop-kind.joined c.read_segment.new.joined c.loop-kind.full c.in_ok-used.goes_on c.loop-kind.invariant c.in_ok-used.ensures.open one

pub returns-clause-value : goal.returns-clause-value
returns-clause-value c =
    let octets = c.args.octets.now in
    let at = c.loop-kind.at in
    let inner = take (length octets - at) (drop at octets) in
    let all : inner ≡ drop at octets = take_rest octets at in
    let on : c.in_ok-ends.field-0 ≡ true = search rules in
    let ends : EndsHere false (c.args.room - at) inner = subst (λ b. IsEndKnown b false (c.args.room - at) inner) on c.in_ok-ends.ensures.value in
    record { full = c.loop-kind.full; read = c.loop-kind.invariant.read; ends = subst (EndsHere false (c.args.room - at)) all ends }
