use Rattle.std.proofs.Common.{rules, ◌∙◌, ℕ, Vec, Global, ap, sym, subst, arith}
use Rattle.notation.specs.Waiting.{Extends}
use Rattle.notation.proofs.WaitingLemmas.{release_told, release_more, released_all, extends_more}
use Rattle.notation.proofs.ordering.release.Goals as goal
use Rattle.notation.proofs.ordering.release.Goals.{then-release_one+in_ok-push, else-release_one}

pub loop-user-preserved : goal.loop-user-preserved
loop-user-preserved c = record {
  waiting = λ left h.
      elim c.if-release_one.branch [
        | then-release_one+in_ok-push w ↦ release_told left c.args.users.now c.loop-user.waiting.items c.loop-user.ready.items c.loop-user.user-index c.release_one.new.waiting.items c.release_one.result (omega arith) c.release_one.ensures.waiting c.release_one.ensures.last w.if-release_one.true c.if-release_one.ready.items
            (ap (λ (v : Vec ℕ Global). v.items) w.ready-is ∙ w.in_ok-push.ensures.items) (c.loop-user.invariant.waiting left h)
        | else-release_one w ↦ release_more left c.args.users.now c.loop-user.waiting.items c.loop-user.ready.items c.loop-user.user-index c.release_one.new.waiting.items c.release_one.result (omega arith) c.release_one.ensures.waiting c.release_one.ensures.last w.if-release_one.false c.if-release_one.ready.items
            (ap (λ (v : Vec ℕ Global). v.items) w.ready-is) (c.loop-user.invariant.waiting left h)
      ];
  length = search rules;
  ready = elim c.if-release_one.branch [
    | then-release_one+in_ok-push w ↦ extends_more c.args.ready.now.items c.loop-user.ready.items c.if-release_one.ready.items _ (ap (λ (v : Vec ℕ Global). v.items) w.ready-is ∙ w.in_ok-push.ensures.items) c.loop-user.invariant.ready
    | else-release_one w ↦ subst (Extends c.args.ready.now.items) (sym (ap (λ (v : Vec ℕ Global). v.items) w.ready-is)) c.loop-user.invariant.ready
  ];
}

pub returns-clause-waiting : goal.returns-clause-waiting
returns-clause-waiting c = λ left h. released_all left c.args.users.now c.loop-user.waiting.items c.loop-user.ready.items c.loop-user.user-index (omega arith) (c.loop-user.invariant.waiting left h)
