use Rattle.std.proofs.Common.{◌≡◌, ◌≢◌, ◌<◌, ◌+◌, ◌-◌, ◌∙◌, length, take, drop, Ok, arith, subst}
use Rattle.octets.proofs.ResultLemmas.{IfErr-from}
use Rattle.types.specs.declared.refusal.Refusal.TheVariants.{StreamTooLong}
use Rattle.octets.specs.Front.{HasFront}
use Rattle.cutting.specs.Inside.{Completes, EndsNever, GoesOn}
use Rattle.cutting.specs.Steps.{TakesHead}
use Rattle.cutting.proofs.ReadLemmas.{behind}
use Rattle.cutting.proofs.StateLemmas.{goes_on, moved_ends, moved_on, never_on, piece_none, piece_passed, turn_moved, turn_none, turn_within}
use Rattle.cutting.proofs.ends.Ends.take.Goals as goal

pub returns-in_err-used-clause-never : goal.returns-in_err-used-clause-never
returns-in_err-used-clause-never c =
    let old = c.args.self.now in
    let ends = c.loop-used.self in
    let piece = c.args.piece.now in
    let at = c.loop-used.at in
    let said = c.in_err-used.ensures in
    IfErr-from c.from_residual.result _ (λ refusal. refusal ≢ StreamTooLong → EndsNever old piece) c.from_residual.ensures.1
    (λ e is other. never_on old ends piece at c.loop-used.invariant.before c.loop-used.invariant.goes (behind (EndsNever ends) piece at (said.1 (λ long. other (is ∙ long)))))

pub returns-in-None-clause-begun : goal.returns-in-None-clause-begun
returns-in-None-clause-begun c =
    let ends = c.loop-used.self in
    let new = c.take_head.new.self in
    let piece = c.args.piece.now in
    let at = c.loop-used.at in
    let said = subst (λ f. TakesHead ends new (take (length piece - at) (drop at piece)) (Ok f)) c.in-None.is c.in_ok-used.ensures in
    goes_on c.args.self.now ends new piece at c.loop-used.invariant.goes (behind (GoesOn ends new) piece at said.1)

pub returns-then-self-gt0-clause-begun : goal.returns-then-self-gt0-clause-begun
returns-then-self-gt0-clause-begun c =
    let ends = c.loop-used.self in
    let mid = c.take_head.new.self in
    let piece = c.args.piece.now in
    let at = c.loop-used.at in
    let said = subst (λ f. TakesHead ends mid (take (length piece - at) (drop at piece)) (Ok f)) c.in-Some.is c.in_ok-used.ensures in
    piece_passed c.args.self.now ends mid c.pass.new.self piece at c.in-Some.used c.in_ok-at.field-0 c.loop-used.invariant.within c.loop-used.invariant.before c.loop-used.invariant.goes said c.in_ok-at.ensures.passed c.if-self-gt0.true

pub returns-then-self-eq0-clause-value : goal.returns-then-self-eq0-clause-value
returns-then-self-eq0-clause-value c =
    let ends = c.loop-used.self in
    let mid = c.take_head.new.self in
    let new = c.pass.new.self in
    let piece = c.args.piece.now in
    let at = c.loop-used.at in
    let used = c.in-Some.used in
    let passed = c.in_ok-at.field-0 in
    let said = subst (λ f. TakesHead ends mid (take (length piece - at) (drop at piece)) (Ok f)) c.in-Some.is c.in_ok-used.ensures in
    let left : new.left ≡ 0 = omega arith in
    let moved = turn_moved c.args.self.now ends mid new piece at used passed c.loop-used.invariant.within c.loop-used.invariant.before c.loop-used.invariant.goes said c.in_ok-at.ensures.passed in
    moved_ends c.args.self.now new (take (at + used + passed) piece) moved left c.if-self-eq0.true

pub loop-used-preserved : goal.loop-used-preserved
loop-used-preserved c =
    let ends = c.loop-used.self in
    let mid = c.take_head.new.self in
    let new = c.pass.new.self in
    let piece = c.args.piece.now in
    let at = c.loop-used.at in
    let used = c.in-Some.used in
    let passed = c.in_ok-at.field-0 in
    let said = subst (λ f. TakesHead ends mid (take (length piece - at) (drop at piece)) (Ok f)) c.in-Some.is c.in_ok-used.ensures in
    let some : 0 < new.left + new.open = omega arith in
    let moved = turn_moved c.args.self.now ends mid new piece at used passed c.loop-used.invariant.within c.loop-used.invariant.before c.loop-used.invariant.goes said c.in_ok-at.ensures.passed in
    record {
      within = turn_within ends mid new piece at used passed c.loop-used.invariant.within said c.in_ok-at.ensures.passed;
      before = moved.none_before;
      inside = λ _. some;
      counted = omega (arith, c.loop-used.invariant.counted, said.3, c.in_ok-at.ensures.passed.counted, c.in_ok-at.ensures.passed.same.1);
      goes = moved_on c.args.self.now new (take (at + used + passed) piece) moved some;
    }

pub returns-in-None-clause-none : goal.returns-in-None-clause-none
returns-in-None-clause-none c =
    let ends = c.loop-used.self in
    let new = c.take_head.new.self in
    let piece = c.args.piece.now in
    let at = c.loop-used.at in
    let said = subst (λ f. TakesHead ends new (take (length piece - at) (drop at piece)) (Ok f)) c.in-None.is c.in_ok-used.ensures in
    turn_none c.args.self.now ends new piece at c.loop-used.invariant.before c.loop-used.invariant.goes (behind (λ x. HasFront (Completes ends) x → ⊥) piece at said.2)

pub returns-then-self-gt0-clause-none : goal.returns-then-self-gt0-clause-none
returns-then-self-gt0-clause-none c =
    let ends = c.loop-used.self in
    let mid = c.take_head.new.self in
    let piece = c.args.piece.now in
    let at = c.loop-used.at in
    let said = subst (λ f. TakesHead ends mid (take (length piece - at) (drop at piece)) (Ok f)) c.in-Some.is c.in_ok-used.ensures in
    piece_none c.args.self.now ends mid c.pass.new.self piece at c.in-Some.used c.in_ok-at.field-0 c.loop-used.invariant.within c.loop-used.invariant.before c.loop-used.invariant.goes said c.in_ok-at.ensures.passed c.if-self-gt0.true
