use Rattle.std.proofs.Common.{rules, ◌≡◌, [], length, refl, sym, subst, arith, ◌∙◌}
use Rattle.std.specs.Io.KnownBytes.{Consumes}
use Rattle.engine.specs.AnyReader.{read_rule}
use Rattle.octets.proofs.ResultLemmas.{IfErr-from}
use Rattle.engine.specs.Stream.{IsStopped, OfStream}
use Rattle.engine.proofs.FeedingLemmas.{none_begun, empty_is}
use Rattle.engine.proofs.CallLemmas.{starts, goes_on, stops, source_fails, has_given, too_long, ends_early, ends}
use Rattle.engine.proofs.passing.pass_all.Goals as goal

pub loop-piece-init : goal.loop-piece-init
loop-piece-init g c =
    let rule = read_rule c.args.reader.now in
    let shape = g.P.Put.shape c.args.writer.now in
    record {
      copies = refl;
      same_rule = refl;
      stands = starts _ rule shape (g.P.Put.stands c.args.writer.now) _ _ (record { stands = c.requires.fresh; none = none_begun rule shape });
      source = c.requires.source;
      sink = c.requires.sink;
      few = omega arith;
      within = omega arith;
    }

pub returns-in-Err-clause-stopped : goal.returns-in-Err-clause-stopped
returns-in-Err-clause-stopped g c = source_fails _ _ _ _ _ _ _ _ _ _ _ c.loop-piece.invariant.stands c.in-Err.ensures.unmoved

pub returns-in-Err-clause-given : goal.returns-in-Err-clause-given
returns-in-Err-clause-given g c = λ _. has_given _ _ _ _ _ _ _ _ _ _ _ c.loop-piece.invariant.stands c.in-Err.ensures.unmoved

pub returns-in-Ok-finish-clause-done : goal.returns-in-Ok-finish-clause-done
returns-in-Ok-finish-clause-done g c =
    let size : length c.octets-octets.result.now ≡ 0 = search rules in
    let none : c.read_from.new.self ≡ [] = sym c.octets-octets.ensures ∙ empty_is c.octets-octets.result.now size in
    let gives = subst (Consumes (g.S.Source.left c.loop-piece.source) (g.S.Source.left c.read_from.new.source)) none c.in-Ok.ensures.given in
    ends _ _ _ _ _ _ _ _ _ _ _ c.loop-piece.invariant.stands gives (c.in-Ok.ensures.end none)
    (λ old unfinished. c.in-Ok-finish.ensures (g.P.Put.shape c.args.writer.now) old unfinished.stands) c.loop-piece.invariant.within

pub returns-in-Err-finish-clause-stopped : goal.returns-in-Err-finish-clause-stopped
returns-in-Err-finish-clause-stopped g c =
    let shape = g.P.Put.shape c.args.writer.now in
    let s = c.loop-piece.invariant.stands in
    let size : length c.octets-octets.result.now ≡ 0 = search rules in
    let none : c.read_from.new.self ≡ [] = sym c.octets-octets.ensures ∙ empty_is c.octets-octets.result.now size in
    let gives = subst (Consumes (g.S.Source.left c.loop-piece.source) (g.S.Source.left c.read_from.new.source)) none c.in-Ok.ensures.given in
    let cut = (c.in-Err-finish.ensures shape s.rest s.stands.stands).0 in
    subst (λ refusal. OfStream (g.S.Source.left c.args.source.now) (g.K.Sink.taken c.args.sink.now) (g.K.Sink.taken c.loop-piece.sink)
    (IsStopped (g.P.Put.stands c.args.writer.now) (read_rule c.args.reader.now) shape c.loop-piece.done refusal)) (sym cut)
    (ends_early _ _ _ _ _ _ _ _ _ _ _ s gives (c.in-Ok.ensures.end none) (λ old unfinished. ((c.in-Err-finish.ensures shape old unfinished.stands).1, unfinished.none)))

pub returns-then-octets-total-clause-stopped : goal.returns-then-octets-total-clause-stopped
returns-then-octets-total-clause-stopped g c =
    let gives = subst (Consumes (g.S.Source.left c.loop-piece.source) (g.S.Source.left c.read_from.new.source)) (sym c.octets-octets.ensures) c.in-Ok.ensures.given in
    too_long _ _ _ _ _ _ _ _ _ _ _ c.octets-octets.result.now c.loop-piece.invariant.stands gives (omega (arith, c.if-octets-total.true, c.loop-piece.invariant.within))

pub loop-piece-preserved : goal.loop-piece-preserved
loop-piece-preserved g c =
    let gives = subst (Consumes (g.S.Source.left c.loop-piece.source) (g.S.Source.left c.read_from.new.source)) (sym c.octets-octets.ensures) c.in-Ok.ensures.given in
    record {
      copies = c.in_ok-done.ensures.copies ∙ c.loop-piece.invariant.copies;
      same_rule = c.in_ok-done.ensures.passed.same_rule ∙ c.loop-piece.invariant.same_rule;
      stands = goes_on _ _ _ _ _ _ _ _ _ _ _ _ _ _ _ c.octets-octets.result.now c.loop-piece.invariant.stands gives refl (rw c.loop-piece.invariant.same_rule at c.in_ok-done.ensures.passed.passed);
      source = c.in-Ok.ensures.count;
      sink = c.in_ok-done.ensures.sink;
      few = omega (arith, c.in_ok-done.ensures.passed.few, c.loop-piece.invariant.few);
      within = omega (arith, c.if-octets-total.false, c.loop-piece.invariant.within);
    }

pub returns-in_err-done-clause-stopped : goal.returns-in_err-done-clause-stopped
returns-in_err-done-clause-stopped g c = IfErr-from c.from_residual.result _ _ c.from_residual.ensures.1 (λ stopped same.
    let gives = subst (Consumes (g.S.Source.left c.loop-piece.source) (g.S.Source.left c.read_from.new.source)) (sym c.octets-octets.ensures) c.in-Ok.ensures.given in
    rw same (stops _ _ _ _ _ _ _ _ _ _ _ _ _ _ c.octets-octets.result.now c.loop-piece.invariant.stands gives (rw c.loop-piece.invariant.same_rule at c.in_err-done.ensures.stopped.stopped)))

pub returns-in_err-done-clause-numbers : goal.returns-in_err-done-clause-numbers
returns-in_err-done-clause-numbers g c = IfErr-from c.from_residual.result _ _ c.from_residual.ensures.1 (λ stopped same.
    rw same (rw c.loop-piece.invariant.same_rule at c.in_err-done.ensures.stopped.numbers))

pub pass-requires : goal.pass-requires
pass-requires g c =
    let so_far = c.loop-piece.invariant in
    record {
      stands = (so_far.stands.rest, rw (sym so_far.same_rule) at so_far.stands.stands);
      copied = λ copies v octets accepted. c.requires.copied (rw so_far.copies at copies) v octets (rw so_far.same_rule at accepted);
      sink = so_far.sink;
      room = omega (arith, so_far.few, so_far.within, c.if-octets-total.false);
    }
