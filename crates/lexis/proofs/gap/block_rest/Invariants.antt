use Rattle.std.proofs.Common.{◌-◌, ◌≤◌, length}
use Rattle.lexis.proofs.GapLemmas.{IsInside}
use Rattle.lexis.proofs.gap.block_rest.Given as goal

abbrev pub invariant-loop-count : goal.invariant-loop-count
invariant-loop-count l = record {
  within : l.count ≤ length l.octets;
  counted : l.open ≤ l.count;
  inside : IsInside l.octets l.count l.open;
}

abbrev pub decreases-loop-count : goal.decreases-loop-count
decreases-loop-count l = length l.octets - l.count
