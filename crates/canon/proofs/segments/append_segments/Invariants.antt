use Rattle.std.proofs.Common.{◌≡◌, ◌≤◌, ◌++◌, ℕ, List, length}
use Rattle.canon.specs.Segments.{AreSegmentsOf}
use Rattle.canon.proofs.segments.append_segments.Given as goal

-- what completes the rest completes the whole
abbrev pub invariant-loop-rest : goal.invariant-loop-rest
invariant-loop-rest l = record {
  some : 1 ≤ length l.rest;
  written : (written : List ℕ) × (l.out.items ≡ l.initial.out.items ++ written) × ((tail : List ℕ) → AreSegmentsOf l.segment l.whole l.lead l.rest tail → AreSegmentsOf l.segment l.whole l.lead l.octets (written ++ tail));
}

abbrev pub decreases-loop-rest : goal.decreases-loop-rest
decreases-loop-rest l = length l.rest
