use Rattle.std.proofs.Common.{◌≡◌, ◌≤◌, ◌<◌, ◌+◌, ◌-◌, ℕ, List, drop, length}
use Rattle.std.specs.Prelude.{IsTrue, MatchOption}
use Rattle.octets.specs.Rule.{ber}
use Rattle.types.specs.Conforms.{Conforms}
use Rattle.types.specs.View.{value_view}
use Rattle.engine.specs.AnyReader.{read_rule}
use Rattle.engine.specs.Passing.{Awaits}
use Rattle.engine.proofs.batch.Batch.add_read.Given as goal

abbrev pub invariant-loop-slot : goal.invariant-loop-slot
invariant-loop-slot g l = record {
  copies : l.self.copies ≡ l.initial.self.copies;
  conforms : MatchOption l.slot ⊥ (λ value. Conforms (g.P.Put.shape l.writer) (value_view value));
  written : IsTrue l.as_written → MatchOption l.slot ⊥ (λ value. g.P.Put.stands l.writer (value_view value) l.last);
  gathered : (stream : List ℕ) → Awaits (read_rule l.reader) (g.P.Put.shape l.writer) (g.P.Put.stands l.writer) stream l.initial.slot l.initial.rest l.initial.self.octets.items l.initial.self.lengths.items
      → Awaits (read_rule l.reader) (g.P.Put.shape l.writer) (g.P.Put.stands l.writer) stream l.slot l.rest l.self.octets.items l.self.lengths.items;
  by_ber : length l.rest < length l.initial.rest → read_rule l.reader ≡ ber;
  joined : l.rest ≡ drop (length l.initial.rest - length l.rest) l.initial.rest;
  within : length l.rest ≤ length l.initial.rest;
  few : length l.self.lengths.items + length l.rest ≤ length l.initial.self.lengths.items + length l.initial.rest;
}

abbrev pub decreases-loop-slot : goal.decreases-loop-slot
decreases-loop-slot g l = length l.rest
