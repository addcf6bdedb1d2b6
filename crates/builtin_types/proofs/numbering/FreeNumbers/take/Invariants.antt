use Rattle.std.proofs.Common.{◌≡◌, ◌≤ℤ◌, ◌-◌, length}
use Rattle.std.specs.List.Sorted.{IsSorted}
use Rattle.std.specs.Ordering.{int_cmp}
use Rattle.builtin_types.specs.Written.{IsPassed, farthest}
use Rattle.builtin_types.proofs.FreeLemmas.{IsUnderWay}
use Rattle.builtin_types.proofs.numbering.FreeNumbers.take.Given as goal

abbrev pub invariant-loop-self : goal.invariant-loop-self
invariant-loop-self l =
    (l.self.written.now ≡ l.fn.self.written.now)
    × (IsSorted int_cmp l.fn.self.written.now → IsPassed l.fn.self.written.now l.fn.self.passed l.fn.self.next → IsUnderWay l.fn.self.written.now l.fn.self.next l.self.passed l.self.next)
    × (farthest l.self.written.now l.self.passed l.self.next ≤ℤ farthest l.fn.self.written.now l.fn.self.passed l.fn.self.next)

abbrev pub decreases-loop-self : goal.decreases-loop-self
decreases-loop-self l = length l.self.written.now - l.self.passed
