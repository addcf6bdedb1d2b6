use Rattle.std.proofs.Common.{◌+◌, ◌≤◌, ◌++◌, length, take, ap, sym, subst, arith}
use Rattle.std.proofs.lemmas.List.{length-drop}
use Rattle.types.specs.View.{value_view}
use Rattle.berreader.specs.Feeding.{IsDone, IsFed, IsFresh, shape_of}
use Rattle.berreader.proofs.FeedingLemmas.{next_of_piece, fed_so_far, done_cut, never_cut, never_rest, rest_is_fed}
use Rattle.berreader.proofs.RefusedLemmas.{final_passed}
use Rattle.berreader.proofs.pieces.Pieces.take_on.Goals as goal

pub returns-in-Some-clause-value : goal.returns-in-Some-clause-value
returns-in-Some-clause-value c = λ octets fed.
    let old = c.args.self.now in
    let now = c.loop-rest.self in
    let new = c.take_cut.new.self in
    let piece = c.args.piece.now in
    let at = c.loop-rest.at in
    let far = c.loop-rest.invariant.0 in
    let count = c.min-count.result in
    let rest = c.split_at.result.1.now in
    let next = c.split_at-in-loop-rest.result.0.now in
    let value = c.in-Some.field-0 in
    let left = c.in_ok-left.left in
    let joined = next_of_piece at count piece rest next c.split_at.ensures.back c.split_at-in-loop-rest.ensures.front in
    let within : at + count ≤ length piece = omega (arith, c.min-count.ensures, ap length c.split_at.ensures.back, length-drop at piece, far.within) in
    let cut = rw c.in-Some.is at (c.in_ok-left.ensures.value (octets ++ take at piece) (far.fed octets fed)) in
    let done = done_cut old now new octets piece next at count left (value_view value) far within joined fed cut in
    subst (λ w. IsFed old new octets piece w c.saturating_sub.result) (sym c.in-Some.is) (subst (λ n. IsDone (shape_of old) octets piece (value_view value) n × IsFresh new) (sym c.saturating_sub.ensures) done)

pub loop-rest-preserved : goal.loop-rest-preserved
loop-rest-preserved c =
    let old = c.args.self.now in
    let now = c.loop-rest.self in
    let new = c.take_cut.new.self in
    let piece = c.args.piece.now in
    let at = c.loop-rest.at in
    let far = c.loop-rest.invariant.0 in
    let count = c.min-count.result in
    let rest = c.split_at.result.1.now in
    let next = c.split_at-in-loop-rest.result.0.now in
    let joined = next_of_piece at count piece rest next c.split_at.ensures.back c.split_at-in-loop-rest.ensures.front in
    let within : at + count ≤ length piece = omega (arith, c.min-count.ensures, ap length c.split_at.ensures.back, length-drop at piece, far.within) in
    (fed_so_far old now new piece next at count far c.in_ok-left.ensures.going_on within joined (λ before h. rw c.in-None.is at (c.in_ok-left.ensures.value before h)), c.in-None.is)

pub returns-in_err-left-clause-never : goal.returns-in_err-left-clause-never
returns-in_err-left-clause-never c =
    let piece = c.args.piece.now in
    let at = c.loop-rest.at in
    let count = c.min-count.result in
    let rest = c.split_at.result.1.now in
    let next = c.split_at-in-loop-rest.result.0.now in
    let joined = next_of_piece at count piece rest next c.split_at.ensures.back c.split_at-in-loop-rest.ensures.front in
    final_passed c.from_residual.result _ _ c.from_residual.ensures.1
    (λ final octets more fed h. never_cut c.args.self.now c.loop-rest.self octets piece next more at count c.loop-rest.invariant.0 joined fed (c.in_err-left.ensures.never final) h)

pub returns-clause-value : goal.returns-clause-value
returns-clause-value c = λ octets fed.
    let now = c.loop-rest.self in
    let piece = c.args.piece.now in
    let at = c.loop-rest.at in
    let far = c.loop-rest.invariant.0 in
    rest_is_fed c.args.self.now now c.take_rest.new.self octets piece c.split_at-2.result.1.now at c.in_ok-used.used c.take_rest.new.whole far c.split_at-2.ensures.back fed
    (c.in_ok-used.ensures.value (octets ++ take at piece) (far.fed octets fed))

pub returns-in_err-used-clause-never : goal.returns-in_err-used-clause-never
returns-in_err-used-clause-never c =
    final_passed c.from_residual-in_err-used.result _ _ c.from_residual-in_err-used.ensures.1
    (λ final octets more fed h. never_rest c.args.self.now c.loop-rest.self octets c.args.piece.now c.split_at-2.result.1.now more c.loop-rest.at c.loop-rest.invariant.0 c.split_at-2.ensures.back fed (c.in_err-used.ensures.never final) h)
