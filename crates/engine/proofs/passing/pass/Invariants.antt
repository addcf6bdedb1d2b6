use Rattle.std.proofs.Common.{◌≡◌, ◌≤◌, ◌-◌, drop, length, take}
use Rattle.engine.specs.Passing.{HasPassed}
use Rattle.engine.proofs.passing.pass.Given as goal

abbrev pub invariant-loop-rest : goal.invariant-loop-rest
invariant-loop-rest g l = record {
  copies : l.batch.copies ≡ l.initial.batch.copies;
  joined : l.rest ≡ drop (length l.initial.rest - length l.rest) l.initial.rest;
  within : length l.rest ≤ length l.initial.rest;
  passed : HasPassed (g.P.Put.shape l.writer) (g.P.Put.stands l.writer) l.initial.reader l.reader l.initial.now l.now
      (take (length l.initial.rest - length l.rest) l.initial.rest) (g.K.Sink.taken l.initial.sink) (g.K.Sink.taken l.sink);
  sink : g.K.Sink.failures l.sink ≡ 0;
}

abbrev pub decreases-loop-rest : goal.decreases-loop-rest
decreases-loop-rest g l = length l.rest
