use Rattle.std.proofs.Common.{IsTrue, map, length, sym, ◌∙◌}
use Rattle.std.proofs.lemmas.List.{length-map}
use Rattle.std.proofs.lemmas.Bool.{false≢true}
use Rattle.syntax.specs.Tree.{enumerated}
use Rattle.syntax.specs.View.{entry}
use Rattle.notation.specs.Size.{HaveSize}
use Rattle.notation.specs.Refused.{NeverHasType}
use Rattle.notation.specs.Weighed.{Weighs}
use Rattle.notation.proofs.SizeLemmas.{size-enumerated}
use Rattle.notation.proofs.WeighedLemmas.{weighs_just, weighs_unless}
use Rattle.notation.proofs.WeighingLemmas.{never-item_count, never-great_number, never-equal_items, never-equal_numbers}
use Rattle.notation.proofs.weighing.weight_of_items.Goals as goal
use Rattle.notation.proofs.weighing.weight_of_items.Goals.{then-is_length_within, else-is_length_within}

pub returns-clause-weight : goal.returns-clause-weight
returns-clause-weight c = λ m.
    let entries = map entry c.args.items.now in
    let Have = HaveSize m (enumerated entries) in
    let Never = NeverHasType m (enumerated entries) in
    let own : Weighs Have Never c.with_node-weight.result = weighs_just Have Never c.with_node-weight.result 1 0 c.with_node-weight.ensures.nodes c.with_node-weight.ensures.levels c.with_node-weight.ensures.cause (size-enumerated m entries) in
    let beyond : (IsTrue c.if-is_length_within.within → ⊥) → Never =
    λ out.
    elim c.if-is_length_within.branch [
      | then-is_length_within w ↦ never-great_number m entries (λ within. out (w.within-is ∙ w.are_numbers_within-within.ensures.1 within))
      | else-is_length_within w ↦ never-item_count m entries (length c.args.items.now) (sym (length-map c.args.items.now entry)) (λ some. false≢true (sym w.if-is_length_within.false ∙ c.is_length_within.ensures.1 some))
    ] in
    weighs_unless Have Never c.unless-2.result c.unless-3.result c.in_ok-numbers_differ.field-0 c.unless-3.ensures.kept c.unless-3.ensures.refused (λ out. never-equal_numbers m entries (λ differ. out (c.in_ok-numbers_differ.ensures.differ differ)))
    (weighs_unless Have Never c.unless.result c.unless-2.result c.in_ok-items_differ.field-0 c.unless-2.ensures.kept c.unless-2.ensures.refused (λ out. never-equal_items m entries (λ differ. out (c.in_ok-items_differ.ensures.1 differ)))
    (weighs_unless Have Never c.with_node-weight.result c.unless.result c.if-is_length_within.within c.unless.ensures.kept c.unless.ensures.refused beyond own))
