use Rattle.std.proofs.Common.{◌≡◌, ◌≤◌, ◌+◌, ◌-◌, ◌++◌, ℕ, List, drop, length}
use Rattle.engine.specs.AnyReader.{read_rule, StandsBy}
use Rattle.engine.specs.Feeding.{IsUnfinished}
use Rattle.engine.specs.Passing.{Gathers}
use Rattle.engine.proofs.batch.Batch.gather.Given as goal

abbrev pub invariant-loop-rest : goal.invariant-loop-rest
invariant-loop-rest g l = record {
  copies : l.self.copies ≡ l.initial.self.copies;
  same_rule : read_rule l.reader ≡ read_rule l.initial.reader;
  gathers : (old : List ℕ) → IsUnfinished (StandsBy (g.P.Put.shape l.writer) l.initial.reader) (read_rule l.initial.reader) (g.P.Put.shape l.writer) old
      → (now : List ℕ) × IsUnfinished (StandsBy (g.P.Put.shape l.writer) l.reader) (read_rule l.initial.reader) (g.P.Put.shape l.writer) now
      × Gathers (read_rule l.initial.reader) (g.P.Put.shape l.writer) (g.P.Put.stands l.writer) (old ++ l.initial.rest) (now ++ l.rest) l.self.octets.items l.self.lengths.items;
  joined : l.rest ≡ drop (length l.initial.rest - length l.rest) l.initial.rest;
  few : length l.self.lengths.items + length l.rest ≤ length l.initial.rest;
}

abbrev pub decreases-loop-rest : goal.decreases-loop-rest
decreases-loop-rest g l = length l.rest
