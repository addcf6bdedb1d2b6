use Rattle.std.proofs.Common.{◌-◌, ◌≤◌, length}
use Rattle.lexis.proofs.ScanLemmas.{IsScanned}
use Rattle.lexis.proofs.scanning.tokens.Given as goal

abbrev pub invariant-next : goal.invariant-next
invariant-next l = record {
  within : l.at ≤ length l.text;
  scanned : IsScanned l.text l.found.items l.at;
}

abbrev pub decreases-next : goal.decreases-next
decreases-next l = length l.text - l.at
