use Rattle.std.proofs.Common.{◌≡◌, ◌≤◌, ◌+◌, ◌-◌, ℕ, List, drop, length}
use Rattle.octets.specs.Rule.{ber}
use Rattle.engine.specs.Passing.{Gathers}
use Rattle.engine.proofs.batch.Batch.add_leaves.Given as goal

abbrev pub invariant-loop-tag : goal.invariant-loop-tag
invariant-loop-tag g l = record {
  copies : l.self.copies ≡ l.initial.self.copies;
  gathered : (stream : List ℕ) → Gathers ber (g.P.Put.shape l.writer) (g.P.Put.stands l.writer) stream l.initial.rest l.initial.self.octets.items l.initial.self.lengths.items
      → Gathers ber (g.P.Put.shape l.writer) (g.P.Put.stands l.writer) stream l.rest l.self.octets.items l.self.lengths.items;
  joined : l.rest ≡ drop (length l.initial.rest - length l.rest) l.initial.rest;
  within : length l.rest ≤ length l.initial.rest;
  few : length l.self.lengths.items + length l.rest ≤ length l.initial.self.lengths.items + length l.initial.rest;
}

abbrev pub decreases-loop-tag : goal.decreases-loop-tag
decreases-loop-tag g l = length l.rest
