use Rattle.std.proofs.Common.{rules, ◌≡◌, ◌∙◌, ℕ, List, refl, sym, ap, subst}
use Rattle.std.specs.Iterator.Adapters.{rev_source}
use Rattle.std.specs.Slice.Iter.{iter_rest}
use Rattle.builtin_types.proofs.BinaryLemmas.{AreBitsSoFar, none_of_bits, bit_more, not_a_bit}
use Rattle.builtin_types.proofs.digits.binary_octet.Goals as goal

pub loop-digit-init : goal.loop-digit-init
loop-digit-init c =
    let whole : iter_rest (rev_source c.into_iter-digit-iterator.result) ≡ c.args.digits.now =
    ap (λ r. iter_rest (rev_source r)) c.into_iter-digit-iterator.ensures.into_iter_gives ∙ ap iter_rest c.rev-digit-items.ensures.source ∙ c.iter.ensures.rest in
    (tt, tt, subst (λ (rest : List ℕ). AreBitsSoFar c.args.digits.now rest 0) (sym whole) (none_of_bits c.args.digits.now))

pub loop-digit-preserved : goal.loop-digit-preserved
loop-digit-preserved c = (
  tt,
  tt,
  bit_more c.args.digits.now (iter_rest (rev_source c.loop-digit.digit-iterator)) (iter_rest (rev_source c.next.new.self)) c.in-Some.digit.now c.loop-digit.octet c.in_ok-octet.field-0 (search rules) c.in-Some.ensures.steps
      c.in_ok-octet.ensures.value c.loop-digit.invariant.2,
)

pub returns-in_err-octet-clause-none : goal.returns-in_err-octet-clause-none
returns-in_err-octet-clause-none c = λ none.
    not_a_bit c.args.digits.now (iter_rest (rev_source c.loop-digit.digit-iterator)) (iter_rest (rev_source c.next.new.self)) c.in-Some.digit.now c.loop-digit.octet c.in-Some.ensures.steps (c.in_err-octet.ensures.none refl)
    c.loop-digit.invariant.2
