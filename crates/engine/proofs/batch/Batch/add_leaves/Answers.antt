use Rattle.std.proofs.Common.{refl, ap, arith, ◌∙◌, take, Some, length, length-drop, subst}
use Rattle.std.proofs.lemmas.List.{length_push, take_rest}
use Rattle.octets.specs.Rule.{ber}
use Rattle.types.specs.Encoding.{IsAccepted}
use Rattle.types.specs.View.{value_view}
use Rattle.engine.proofs.BatchLemmas.{added_next, first_some, leaves_added, left_further, left_whole}
use Rattle.engine.proofs.batch.Batch.add_leaves.Goals as goal

pub loop-tag-init : goal.loop-tag-init
loop-tag-init g c = record { copies = refl; gathered = λ stream h. h; joined = left_whole c.args.octets.now; within = omega arith; few = omega arith }

pub returns-in_default-clause-added : goal.returns-in_default-clause-added
returns-in_default-clause-added g c =
    let so_far = c.loop-tag.invariant in
    leaves_added (g.P.Put.shape c.args.writer.now) (g.P.Put.stands c.args.writer.now) c.args.octets.now c.loop-tag.rest.now _ _ _ _ so_far.joined so_far.within so_far.few so_far.gathered

pub returns-in-Err-clause-added : goal.returns-in-Err-clause-added
returns-in-Err-clause-added g c =
    let so_far = c.loop-tag.invariant in
    rw c.in-Err.ensures.octets (rw c.in-Err.ensures.lengths
    (leaves_added (g.P.Put.shape c.args.writer.now) (g.P.Put.stands c.args.writer.now) c.args.octets.now c.loop-tag.rest.now _ _ _ _ so_far.joined so_far.within so_far.few so_far.gathered))

pub returns-clause-added : goal.returns-clause-added
returns-clause-added g c =
    let so_far = c.loop-tag.invariant in
    leaves_added (g.P.Put.shape c.args.writer.now) (g.P.Put.stands c.args.writer.now) c.args.octets.now c.loop-tag.rest.now _ _ _ _ so_far.joined so_far.within so_far.few so_far.gathered

pub loop-tag-preserved : goal.loop-tag-preserved
loop-tag-preserved g c =
    let shape = g.P.Put.shape c.args.writer.now in
    let Stands = g.P.Put.stands c.args.writer.now in
    let left = c.loop-tag.rest.now in
    let used = c.in-Some.used in
    let value = c.read_leaf_into.new.value in
    let so_far = c.loop-tag.invariant in
    let there = c.in-Some.ensures.there in
    let added = c.in-Ok.ensures.added in
    let read = subst (λ s. IsAccepted ber s (value_view value) (take used left)) c.ty.ensures c.in-Some.ensures.value in
    let some = first_some shape (Some value) left used (record { there = there; read = read }) in
    let rest_is = take_rest left used in
    record {
      copies = c.add.ensures.copies ∙ so_far.copies;
      gathered = λ stream h. added_next shape Stands stream left _ _ _ _ _ value used there rest_is read added (so_far.gathered stream h);
      joined = left_further c.args.octets.now left _ used so_far.joined so_far.within there rest_is;
      within = omega (arith, so_far.within, ap length rest_is, length-drop used left);
      few = omega (arith, ap length added.lengths_are, length_push c.loop-tag.self.lengths.items (length added.part), so_far.few, some, there, ap length rest_is, length-drop used left);
    }
