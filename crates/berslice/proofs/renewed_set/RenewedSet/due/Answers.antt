use Rattle.std.proofs.Common.{refl, sym, ap, ◌∙◌, subst, subst₂, arith}
use Rattle.types.specs.View.{ty_view}
use Rattle.encoding_parts.specs.HeldParts.{come_view}
use Rattle.encoding_parts.proofs.SetComponentLemmas.{members_in_slots, vacant_below}
use Rattle.berslice.specs.RenewedSet.{HasLeft, IsEmptied, IsNext}
use Rattle.berslice.proofs.RenewedSetLemmas.{next_first, next_last, next_anywhere, next_emptied}
use Rattle.berslice.proofs.renewed_set.RenewedSet.due.Goals as goal
use Rattle.berslice.proofs.renewed_set.RenewedSet.due.Goals.{then-self+in_default+in_default-at+in_default-due_ahead, else-self}

pub overflow_add-self-2 : goal.overflow_add-self-2
overflow_add-self-2 c =
    let s = c.if-self.self.set_components in
    omega (arith, vacant_below (come_view s) c.in-Ok.place (ty_view c.in-Ok.ty.now) c.in-Ok.ensures.value.0, members_in_slots s.fields.now s.slots.items, s.slots.ok.0, s.slots.ok.1, s.slots.small)

pub returns-in-Some-clause-next : goal.returns-in-Some-clause-next
returns-in-Some-clause-next c =
    let due = c.in-Some.due in
    let same = c.in-Some.ensures.same in
    next_last c.args.self.now due.place (ty_view due.ty.now) c.requires (omega (arith, c.if-self.true)) same.0 (λ f at. ap ty_view (same.1 f at))

pub returns-in-Some-at-clause-next : goal.returns-in-Some-at-clause-next
returns-in-Some-at-clause-next c =
    let due = c.in-Some-at.due in
    let same = c.in-Some-at.ensures.same in
    next_first c.args.self.now due.place (ty_view due.ty.now) c.requires (omega (arith, c.if-self.true)) same.0 (λ f at. ap ty_view (same.1 f at))

pub returns-clause-next : goal.returns-clause-next
returns-clause-next c =
    let old = c.args.self.now in
    let mid = c.if-self.self in
    let all : IsEmptied old.stop old mid × HasLeft old mid c.in-Ok.place = elim c.if-self.branch [
      | then-self+in_default+in_default-at+in_default-due_ahead w ↦ subst (λ s. IsEmptied old.stop old s × HasLeft old s c.in-Ok.place) (sym w.self-is) (w.in_default-due_ahead.ensures.next, λ passed. absurd (cc (passed, w.in_default-due_ahead.ensures.passed)))
      | else-self w ↦ subst (λ s. IsEmptied old.stop old s × HasLeft old s c.in-Ok.place) (sym w.self-is) (record { first = omega (arith, w.if-self.false, c.requires.range); stop = refl; roomy = c.requires; fields = refl; kept = refl }, λ passed. (passed, λ place from to other. (from, to)))
    ] in
    let found = next_anywhere mid c.in-Ok.place (ty_view c.in-Ok.ty.now) (all.0.first ∙ sym all.0.stop) c.in-Ok.ensures.value.0 in
    let next = next_emptied old.stop old mid mid c.in-Ok.place (ty_view c.in-Ok.ty.now) all.1 all.0 found in
    let same = c.of-2.ensures.same in
    subst₂ (IsNext old _) (sym same.0) (ap ty_view (sym same.1)) (record { vacant = next.vacant; fields = next.fields; there = next.there; put = next.put; left = next.left })
