use Rattle.std.proofs.Common.{rules, ◌≡◌, ◌-◌, ◌∙◌, Some, ap, arith, drop, length, length-drop, subst}
use Rattle.std.proofs.lemmas.List.{length_push}
use Rattle.octets.specs.Rule.{ber}
use Rattle.octets.proofs.ResultLemmas.{IfErr-from}
use Rattle.engine.specs.AnyReader.{read_rule}
use Rattle.engine.specs.Passing.{AreAdded, Awaits}
use Rattle.engine.proofs.BatchLemmas.{added_all, added_more, added_with_leaves, awaits_next, first_conforms, first_some, left_further}
use Rattle.engine.proofs.batch.Batch.add_read.Goals as goal
use Rattle.engine.proofs.batch.Batch.add_read.Goals.{then-rest-behind+else-not-is_whole+else-not-reads_ber+in_default-leaf_tag, else-rest-behind}

pub returns-in_err-add-clause-refused : goal.returns-in_err-add-clause-refused
returns-in_err-add-clause-refused g c = IfErr-from c.from_residual.result _ _ c.from_residual.ensures.1 (λ refusal same.
    let so_far = c.loop-slot.invariant in
    rw same (record {
      rest = c.loop-slot.rest.now;
      gathered = λ stream awaits. rw c.in_err-add.ensures.octets (rw c.in_err-add.ensures.lengths (rw c.in-Some.is at (so_far.gathered stream awaits)));
      few = omega (arith, so_far.few, ap length c.in_err-add.ensures.lengths);
      refused = c.in_err-add.ensures.refused;
    }))

pub returns-then-not-is_whole-clause-added : goal.returns-then-not-is_whole-clause-added
returns-then-not-is_whole-clause-added g c =
    let so_far = c.loop-slot.invariant in
    let none : length c.args.behind.now - length c.loop-slot.rest.now ≡ 0 = omega (arith, c.if-rest-behind.true) in
    subst (AreAdded (read_rule c.args.reader.now) (g.P.Put.shape c.args.writer.now) (g.P.Put.stands c.args.writer.now) _ c.args.behind.now _ _ _ _) none
    (added_all _ _ _ _ c.in-Some.value c.args.behind.now c.loop-slot.rest.now _ _ _ _ _ _ so_far.joined so_far.within so_far.few (rw c.in-Some.is at so_far.gathered) c.in_ok-add.ensures.added)

pub returns-in-Some-leaf_tag-clause-added : goal.returns-in-Some-leaf_tag-clause-added
returns-in-Some-leaf_tag-clause-added g c =
    let rule = read_rule c.args.reader.now in
    let shape = g.P.Put.shape c.args.writer.now in
    let Stands = g.P.Put.stands c.args.writer.now in
    let behind = c.args.behind.now in
    let before = c.loop-slot.self in
    let so_far = c.loop-slot.invariant in
    let by_ber : rule ≡ ber = search rules in
    let none : length behind - length c.loop-slot.rest.now ≡ 0 = omega (arith, c.if-rest-behind.true) in
    let whole : c.loop-slot.rest.now ≡ behind = so_far.joined ∙ ap (λ n. drop n behind) none in
    added_with_leaves rule shape Stands _ c.in-Some.value behind _ before.octets.items _ _ _ before.lengths.items _ _ _ by_ber (omega (arith, so_far.few, ap length whole))
    (λ stream awaits. subst (λ left. Awaits rule shape Stands stream (Some c.in-Some.value) left before.octets.items before.lengths.items) whole ((rw c.in-Some.is at so_far.gathered) stream awaits))
    c.in_ok-add.ensures.added c.add_leaves.ensures.added

pub returns-then-last-rest-clause-added : goal.returns-then-last-rest-clause-added
returns-then-last-rest-clause-added g c =
    let so_far = c.loop-slot.invariant in
    added_all _ _ _ _ c.in-Some.value c.args.behind.now c.loop-slot.rest.now _ _ _ _ _ _ so_far.joined so_far.within so_far.few (rw c.in-Some.is at so_far.gathered) c.in_ok-add.ensures.added

pub returns-in_default-read_next-clause-added : goal.returns-in_default-read_next-clause-added
returns-in_default-read_next-clause-added g c =
    let so_far = c.loop-slot.invariant in
    added_all _ _ _ _ c.in-Some.value c.args.behind.now c.loop-slot.rest.now _ _ _ _ _ _ so_far.joined so_far.within so_far.few (rw c.in-Some.is at so_far.gathered) c.in_ok-add.ensures.added

pub loop-slot-smaller : goal.loop-slot-smaller
loop-slot-smaller g c =
    let used = c.in-Some-read_next.used in
    let first = c.in-Some-read_next.ensures.first in
    omega (arith, first_some _ _ _ used first, first.there, ap length c.split_at.ensures.back, length-drop used c.loop-slot.rest.now)

pub loop-slot-preserved : goal.loop-slot-preserved
loop-slot-preserved g c =
    let rule = read_rule c.args.reader.now in
    let shape = g.P.Put.shape c.args.writer.now in
    let Stands = g.P.Put.stands c.args.writer.now in
    let left = c.loop-slot.rest.now in
    let used = c.in-Some-read_next.used in
    let so_far = c.loop-slot.invariant in
    let added = c.in_ok-add.ensures.added in
    let first = c.in-Some-read_next.ensures.first in
    let some = first_some shape _ left used first in
    let back = c.split_at.ensures.back in
    let by_ber : rule ≡ ber = elim c.if-rest-behind.branch [
      | then-rest-behind+else-not-is_whole+else-not-reads_ber+in_default-leaf_tag w ↦ search rules
      | else-rest-behind w ↦ so_far.by_ber (omega (arith, so_far.within, w.if-rest-behind.false))
    ] in
    record {
      copies = c.in_ok-add.ensures.copies ∙ so_far.copies;
      conforms = first_conforms shape _ left used first;
      written = λ h. rw c.split_at.ensures.front (c.in-Some-read_next.ensures.written h).stands;
      gathered = λ stream awaits. rw by_ber (rw back (awaits_next shape Stands stream left _ _ _ used first
          (rw by_ber at (added_more rule shape Stands stream left _ _ _ _ c.in-Some.value added (rw c.in-Some.is at (so_far.gathered stream awaits))))));
      by_ber = λ _. by_ber;
      joined = left_further c.args.behind.now left _ used so_far.joined so_far.within first.there back;
      within = omega (arith, so_far.within, ap length back, length-drop used left);
      few = omega (arith, ap length added.lengths_are, length_push c.loop-slot.self.lengths.items (length added.part), so_far.few, some, first.there, ap length back, length-drop used left);
    }
