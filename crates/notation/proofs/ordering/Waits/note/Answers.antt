use Rattle.std.proofs.Common.{◌∙◌, arith}
use Rattle.notation.specs.Waiting.{times}
use Rattle.notation.specs.Ordering.{users_at}
use Rattle.notation.proofs.PlaceLemmas.{noted_others, noted_own}
use Rattle.notation.proofs.ordering.Waits.note.Goals as goal

pub loop-place-preserved : goal.loop-place-preserved
loop-place-preserved c =
    let e = c.in_ok-add_user.ensures in
    let inv = c.loop-place.invariant in
    record {
      waiting = inv.waiting;
      long = e.long ∙ inv.long;
      others = λ place other ne. noted_others c.args.user _ c.loop-place.self.users.items c.add_user.new.users.items e.others e.own e.long place other ne ∙ inv.others place other ne;
      own = λ place below. noted_own c.args.user c.args.used.now c.loop-place.place-index _ c.loop-place.self.users.items c.add_user.new.users.items (λ p. times c.args.user (users_at c.args.self.now.users.items p)) (omega arith) e.others e.own
          (λ p less. inv.own p (let long = inv.long in omega (arith, long, less))) place (let long = inv.long in omega (arith, long, below));
    }
