use Rattle.std.proofs.Common.{◌≡◌, ℕ, ◌+◌, ◌<◌, ◌≤◌, List, sym, ◌∙◌, subst, arith, true, inl, inr}
use Rattle.std.proofs.lemmas.Bool.{cases_lt}
use Rattle.lexis.specs.Spelling.{goes_on}
use Rattle.lexis.proofs.name.word_octets.Goals as goal

one-more : (x : List ℕ) (n : ℕ) → ((i : ℕ) → 1 ≤ i → i < n → goes_on x i ≡ true) → goes_on x n ≡ true → (i : ℕ) → 1 ≤ i → i < n + 1 → goes_on x i ≡ true
one-more x n below here i h l = elim (cases_lt i n) [
  | inl near ↦ below i h near
  | inr far ↦ let same : n ≡ i = omega arith in subst (λ j. goes_on x j ≡ true) same here
]

pub loop-count-preserved : goal.loop-count-preserved
loop-count-preserved c = record {
  some = omega arith;
  within = omega arith;
  value = one-more c.args.octets.now c.loop-count.count c.loop-count.invariant.value (sym c.goes_on.ensures.value ∙ c.loop-count-test.true);
}
