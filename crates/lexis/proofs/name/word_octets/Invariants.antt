use Rattle.std.proofs.Common.{◌≡◌, ℕ, ◌-◌, ◌<◌, ◌≤◌, length, true}
use Rattle.lexis.specs.Spelling.{goes_on}
use Rattle.lexis.proofs.name.word_octets.Given as goal

abbrev pub invariant-loop-count : goal.invariant-loop-count
invariant-loop-count l = record {
  some : 1 ≤ l.count;
  within : l.count ≤ length l.octets;
  value : (i : ℕ) → 1 ≤ i → i < l.count → goes_on l.octets i ≡ true;
}

abbrev pub decreases-loop-count : goal.decreases-loop-count
decreases-loop-count l = length l.octets - l.count
