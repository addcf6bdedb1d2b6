use Rattle.std.proofs.Common.{IsTrue, map, length, sym, ◌∙◌}
use Rattle.std.proofs.lemmas.List.{length-map}
use Rattle.std.proofs.lemmas.Bool.{false≢true}
use Rattle.syntax.specs.Tree.{named_bits}
use Rattle.syntax.specs.View.{bit}
use Rattle.notation.specs.Size.{HaveSize}
use Rattle.notation.specs.Refused.{NeverHasType}
use Rattle.notation.specs.Weighed.{Weighs}
use Rattle.notation.proofs.SizeLemmas.{size-named_bits}
use Rattle.notation.proofs.WeighedLemmas.{weighs_just, weighs_unless}
use Rattle.notation.proofs.WeighingLemmas.{never-bit_count, never-great_bit, never-equal_bits, never-equal_bit_numbers}
use Rattle.notation.proofs.weighing.weight_of_bits.Goals as goal
use Rattle.notation.proofs.weighing.weight_of_bits.Goals.{then-is_length_within, else-is_length_within}

pub returns-clause-weight : goal.returns-clause-weight
returns-clause-weight c = λ m.
    let bits = map bit c.args.bits.now in
    let Have = HaveSize m (named_bits bits) in
    let Never = NeverHasType m (named_bits bits) in
    let own : Weighs Have Never c.with_node-weight.result = weighs_just Have Never c.with_node-weight.result 1 0 c.with_node-weight.ensures.nodes c.with_node-weight.ensures.levels c.with_node-weight.ensures.cause (size-named_bits m bits) in
    let beyond : (IsTrue c.if-is_length_within.within → ⊥) → Never =
    λ out.
    elim c.if-is_length_within.branch [
      | then-is_length_within w ↦ never-great_bit m c.args.bits.now (λ within. out (w.within-is ∙ w.are_bits_within-within.ensures.1 within))
      | else-is_length_within w ↦ never-bit_count m bits (length c.args.bits.now) (sym (length-map c.args.bits.now bit)) (λ some. false≢true (sym w.if-is_length_within.false ∙ c.is_length_within.ensures.1 some))
    ] in
    weighs_unless Have Never c.unless-2.result c.unless-3.result c.in_ok-bit_numbers_differ.field-0 c.unless-3.ensures.kept c.unless-3.ensures.refused (λ out. never-equal_bit_numbers m c.args.bits.now (λ differ. out (c.in_ok-bit_numbers_differ.ensures.1 differ)))
    (weighs_unless Have Never c.unless.result c.unless-2.result c.in_ok-named_bits_differ.field-0 c.unless-2.ensures.kept c.unless-2.ensures.refused (λ out. never-equal_bits m bits (λ differ. out (c.in_ok-named_bits_differ.ensures.1 differ)))
    (weighs_unless Have Never c.with_node-weight.result c.unless.result c.if-is_length_within.within c.unless.ensures.kept c.unless.ensures.refused beyond own))
