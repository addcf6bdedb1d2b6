use Rattle.std.proofs.Common.{◌≡◌, ℕ, length, min, ap, ◌∙◌, arith, refl}
use Rattle.std.specs.Slice.Iter.{chunks_rest}
use Rattle.builtin_types.proofs.PackedLemmas.{packed_more, not_packed}
use Rattle.builtin_types.proofs.digits.octets_of.Goals as goal

pub returns-in_default-clause-none : goal.returns-in_default-clause-none
returns-in_default-clause-none c = λ none.
    let step = c.in-Some.ensures.steps.1 in
    let two = c.loop-two.invariant.0 in
    let long : length c.in-Some.two.now ≡ min 2 (length (chunks_rest c.loop-two.two-iterator)) = step.1 ∙ ap (λ (n : ℕ). min n (length (chunks_rest c.loop-two.two-iterator))) two in
    not_packed c.args.digits.now (chunks_rest c.loop-two.two-iterator) c.loop-two.octets.items c.in-Some.two.now (chunks_rest c.next.new.self) c.loop-two.invariant.1 step.0
    (c.in_default.ensures.none refl (omega (arith, long, step.2)) (omega (arith, long)))

pub loop-two-preserved : goal.loop-two-preserved
loop-two-preserved c =
    let step = c.in-Some.ensures.steps.1 in
    let two = c.loop-two.invariant.0 in (
      c.in-Some.ensures.steps.0 ∙ two,
      packed_more c.args.digits.now (chunks_rest c.loop-two.two-iterator) c.loop-two.octets.items c.in-Some.two.now (chunks_rest c.next.new.self) c.push.new.self.items c.in-Some-octet_of.octet c.loop-two.invariant.1 step.0
          (step.1 ∙ ap (λ (n : ℕ). min n (length (chunks_rest c.loop-two.two-iterator))) two) step.2 c.in-Some-octet_of.ensures.value c.in_ok-push.ensures.items,
    )
