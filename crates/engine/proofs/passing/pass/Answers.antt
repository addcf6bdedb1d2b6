use Rattle.std.proofs.Common.{rules, ◌≡◌, ◌-◌, ◌∙◌, ap, arith, length, length-drop, refl, sym}
use Rattle.std.proofs.lemmas.List.{length-take-le, take_all, take_rest}
use Rattle.octets.proofs.ResultLemmas.{IfErr-from}
use Rattle.engine.proofs.BatchLemmas.{front_and_left, front_further, front_none, left_further, left_whole, not_passed_on, passed_none, passed_on, passed_whole}
use Rattle.engine.proofs.passing.pass.Goals as goal

pub loop-rest-init : goal.loop-rest-init
loop-rest-init g c = record {
  copies = refl;
  joined = left_whole c.args.piece.now;
  within = omega arith;
  passed = passed_none _ _ _ _ _ _ (front_none c.args.piece.now);
  sink = c.requires.sink;
}

pub loop-rest-preserved : goal.loop-rest-preserved
loop-rest-preserved g c =
    let piece = c.args.piece.now in
    let left = c.loop-rest.rest.now in
    let used = c.in_ok-used.used in
    let so_far = c.loop-rest.invariant in
    let batch = c.in_ok-used.ensures in
    let back = take_rest left used in
    record {
      copies = batch.copies ∙ so_far.copies;
      joined = left_further piece left _ used so_far.joined so_far.within batch.there back;
      within = omega (arith, so_far.within, ap length back, length-drop used left);
      passed = passed_on _ _ _ _ _ _ _ _ _ _ _ _ _ _ (front_further piece left _ used so_far.joined so_far.within batch.there back) so_far.passed batch.passed;
      sink = batch.sink;
    }

pub loop-rest-smaller : goal.loop-rest-smaller
loop-rest-smaller g c =
    let left = c.loop-rest.rest.now in
    let used = c.in_ok-used.used in
    omega (arith, c.in_ok-used.ensures.some (search rules), c.in_ok-used.ensures.there, ap length (take_rest left used), length-drop used left)

pub pass_batch-requires : goal.pass_batch-requires
pass_batch-requires g c =
    let so_far = c.loop-rest.invariant in
    let p = so_far.passed.passed c.requires.stands.0 c.requires.stands.1 in
    let piece = c.args.piece.now in
    let taken = length piece - length c.loop-rest.rest.now in
    record {
      stands = (p.rest, rw (sym so_far.passed.same_rule) at p.stands);
      copied = λ copies v octets accepted. c.requires.copied (rw so_far.copies at copies) v octets (rw so_far.passed.same_rule at accepted);
      sink = so_far.sink;
      room = omega (arith, c.requires.room, so_far.passed.few, so_far.within, length-take-le taken piece (omega arith));
    }

pub returns-in_err-used-clause-stopped : goal.returns-in_err-used-clause-stopped
returns-in_err-used-clause-stopped g c = IfErr-from c.from_residual.result _ _ c.from_residual.ensures.1 (λ stopped same.
    let so_far = c.loop-rest.invariant in
    rw same (not_passed_on _ _ _ _ _ _ _ _ _ _ _ _ _ _ _ (front_and_left c.args.piece.now c.loop-rest.rest.now so_far.joined) so_far.passed c.in_err-used.ensures.stopped))

pub returns-clause-passed : goal.returns-clause-passed
returns-clause-passed g c =
    let piece = c.args.piece.now in
    let left = c.loop-rest.rest.now in
    let none : length left ≡ 0 = search rules in
    passed_whole _ _ _ _ _ _ _ _ _ _ (take_all (length piece - length left) piece (omega (arith, none))) c.loop-rest.invariant.passed
