use Rattle.std.proofs.Common.{◌≡◌, ℕ, ◌-◌, ◌<◌, ◌≤◌, length, drop, get_or, false}
use Rattle.std.specs.Prelude.{codes}
use Rattle.lexis.specs.Octets.{is_line_end, begins}
use Rattle.lexis.proofs.gap.line_rest.Given as goal

abbrev pub invariant-loop-count : goal.invariant-loop-count
invariant-loop-count l = record {
  within : l.count ≤ length l.octets;
  line_goes_on : (i : ℕ) → i < l.count → is_line_end (get_or l.octets i 0) ≡ false;
  no_hyphens : (i : ℕ) → i < l.count → begins (codes "--") (drop i l.octets) ≡ false;
}

abbrev pub decreases-loop-count : goal.decreases-loop-count
decreases-loop-count l = length l.octets - l.count
