use Rattle.std.proofs.Common.{◌≡◌, ◌≤◌, ◌-◌}
use Rattle.engine.specs.AnyReader.{read_rule, StandsBy}
use Rattle.engine.specs.Feeding.{IsUnfinished}
use Rattle.engine.specs.Passing.{StandsAfter}
use Rattle.engine.specs.Stream.{most_streamed}
use Rattle.engine.proofs.passing.pass_all.Given as goal

abbrev pub invariant-loop-piece : goal.invariant-loop-piece
invariant-loop-piece g l = record {
  copies : l.batch.copies ≡ l.initial.batch.copies;
  same_rule : read_rule l.reader ≡ read_rule l.initial.reader;
  stands : StandsAfter (IsUnfinished (StandsBy (g.P.Put.shape l.writer) l.reader) (read_rule l.initial.reader) (g.P.Put.shape l.writer)) (read_rule l.initial.reader) (g.P.Put.shape l.writer) (g.P.Put.stands l.writer)
      l.done l.total (g.S.Source.left l.initial.source) (g.S.Source.left l.source) (g.K.Sink.taken l.initial.sink) (g.K.Sink.taken l.sink);
  source : g.S.Source.failures l.source ≡ 0;
  sink : g.K.Sink.failures l.sink ≡ 0;
  few : l.done ≤ l.total;
  within : l.total ≤ most_streamed;
}

abbrev pub decreases-loop-piece : goal.decreases-loop-piece
decreases-loop-piece g l = most_streamed - l.total
