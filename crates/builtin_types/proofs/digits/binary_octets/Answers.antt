use Rattle.std.proofs.Common.{◌≡◌, ℕ, List, length, min, sym, ap, ◌∙◌, subst, arith, refl, rules}
use Rattle.std.specs.Slice.Iter.{chunks_rest, chunks_size}
use Rattle.builtin_types.proofs.BinaryLemmas.{AreOctetsSoFar, no_octets, octet_more, not_octets}
use Rattle.builtin_types.proofs.digits.binary_octets.Goals as goal

pub loop-eight-init : goal.loop-eight-init
loop-eight-init c =
    let same = c.into_iter-eight-iterator.ensures.into_iter_gives in
    let whole : chunks_rest c.into_iter-eight-iterator.result ≡ c.args.digits.now = ap chunks_rest same ∙ c.chunks-eight-items.ensures.rest in (
      ap chunks_size same ∙ c.chunks-eight-items.ensures.size,
      subst (λ (rest : List ℕ). AreOctetsSoFar c.args.digits.now rest c.new-octets.result.items) (sym whole) (subst (λ (octets : List ℕ). AreOctetsSoFar c.args.digits.now c.args.digits.now octets) (sym c.new-octets.ensures.items) (no_octets c.args.digits.now)),
    )

pub returns-in_default-clause-none : goal.returns-in_default-clause-none
returns-in_default-clause-none c = λ none.
    not_octets c.args.digits.now (chunks_rest c.loop-eight.eight-iterator) c.loop-eight.octets.items c.in-Some.eight.now (chunks_rest c.next.new.self) c.loop-eight.invariant.1 c.in-Some.ensures.steps.1.0 (c.in_default.ensures.none refl)

pub loop-eight-preserved : goal.loop-eight-preserved
loop-eight-preserved c =
    let step = c.in-Some.ensures.steps.1 in
    let eight = c.loop-eight.invariant.0 in
    let long : length c.in-Some.eight.now ≡ min 8 (length (chunks_rest c.loop-eight.eight-iterator)) = step.1 ∙ ap (λ (n : ℕ). min n (length (chunks_rest c.loop-eight.eight-iterator))) eight in (
      c.in-Some.ensures.steps.0 ∙ eight,
      octet_more c.args.digits.now (chunks_rest c.loop-eight.eight-iterator) c.loop-eight.octets.items c.in-Some.eight.now (chunks_rest c.next.new.self) c.push.new.self.items c.in-Some-binary_octet.octet (search rules) c.loop-eight.invariant.1
          step.0 long step.2 (c.in-Some-binary_octet.ensures.value (omega (arith, long))) c.in_ok-push.ensures.items,
    )
