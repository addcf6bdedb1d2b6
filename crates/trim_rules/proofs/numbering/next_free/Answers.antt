use Rattle.std.proofs.Common.{◌≤◌, ℕ, Contains, arith, below_more}
use Rattle.strings.proofs.AlphabetLemmas.{contains}
use Rattle.trim_rules.proofs.numbering.next_free.Goals as goal

pub loop-number-preserved : goal.loop-number-preserved
loop-number-preserved c =
    let answer = contains c.args.used.now c.loop-number.number-counter c.contains.result c.contains.ensures.value in
    let here : Contains c.args.used.now c.loop-number.number-counter = grind (arith, answer) in
    λ k below. below_more (λ (j : ℕ). c.args.from ≤ j → Contains c.args.used.now j) c.loop-number.number-counter c.loop-number.invariant (λ _. here) k (omega arith)

pub returns-else-not-contains-clause-none : goal.returns-else-not-contains-clause-none
returns-else-not-contains-clause-none c =
    let answer = contains c.args.used.now c.loop-number.number-counter c.contains.result c.contains.ensures.value in
    let here : Contains c.args.used.now c.loop-number.number-counter = grind (arith, answer) in
    λ number from_here within fits. below_more (λ (j : ℕ). c.args.from ≤ j → Contains c.args.used.now j) c.loop-number.number-counter c.loop-number.invariant (λ _. here) number (omega arith) from_here
