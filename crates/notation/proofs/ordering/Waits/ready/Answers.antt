use Rattle.std.proofs.Common.{◌∙◌, ℕ, Vec, Global, ap, sym, List, get_or}
use Rattle.notation.proofs.WaitingLemmas.{ready_none, ready_more, ready_other}
use Rattle.notation.proofs.ordering.Waits.ready.Goals as goal
use Rattle.notation.proofs.ordering.Waits.ready.Goals.{then-waiting-eq0+in_ok-push, else-waiting-eq0}

pub loop-place-init : goal.loop-place-init
loop-place-init c = ready_none c.args.self.now.waiting.items c.new-ready.result.items c.new-ready.ensures.items

pub loop-place-preserved : goal.loop-place-preserved
loop-place-preserved c =
    elim c.if-waiting-eq0.branch [
      | then-waiting-eq0+in_ok-push w ↦ ready_more c.args.self.now.waiting.items c.loop-place.ready.items c.loop-place.place c.if-waiting-eq0.ready.items (sym (ap (λ (xs : List ℕ). get_or xs c.loop-place.place 0) c.deref-waiting-items.ensures.value) ∙ w.if-waiting-eq0.true) (ap (λ (v : Vec ℕ Global). v.items) w.ready-is ∙ w.in_ok-push.ensures.items) c.loop-place.invariant
      | else-waiting-eq0 w ↦ ready_other c.args.self.now.waiting.items c.loop-place.ready.items c.loop-place.place c.if-waiting-eq0.ready.items (λ none. w.if-waiting-eq0.false (ap (λ (xs : List ℕ). get_or xs c.loop-place.place 0) c.deref-waiting-items.ensures.value ∙ none)) (ap (λ (v : Vec ℕ Global). v.items) w.ready-is) c.loop-place.invariant
    ]
