use Rattle.std.proofs.Common.{rules, refl, ◌-◌, ◌∙◌, ◌≡◌, ap, subst, arith}
use Rattle.std.proofs.lemmas.List.{length-set}
use Rattle.encoding_parts.proofs.SlotLemmas.{none_of}
use Rattle.berslice.specs.RenewedSet.{held_slots, without}
use Rattle.berslice.proofs.RenewedSetLemmas.{emptied_first}
use Rattle.berslice.proofs.renewed_set.RenewedSet.empty_up_to.Goals as goal

pub loop-place-preserved : goal.loop-place-preserved
loop-place-preserved c =
    let slots = c.loop-place.self.set_components.slots.items in
    let i = c.loop-place.place in
    let so_far = c.loop-place.invariant in (
      emptied_first i c.loop-place.self.stop slots (omega (arith, c.loop-place-test.true, so_far.2, c.requires.2)) ∙ so_far.0,
      omega (arith, length-set slots i none_of, so_far.1),
      so_far.2,
      so_far.3,
      omega (arith, c.loop-place-test.true),
    )

pub returns : goal.returns
returns c =
    let s = c.loop-place.self in
    let so_far = c.loop-place.invariant in
    let at : c.loop-place.place ≡ c.args.end = omega (arith, c.loop-place-test.false, so_far.4) in
    record {
      first = refl;
      stop = so_far.2;
      roomy = record { fields = search (rules, so_far.2, so_far.3, c.requires.0.fields); slots = so_far.1; range = omega (arith, so_far.2, c.requires.2) };
      fields = ap (λ f. f.now) so_far.3;
      kept = subst (λ n. without n (s.stop - n) s.set_components.slots.items ≡ held_slots c.args.self.now) at so_far.0;
    }
