use Rattle.std.proofs.Common.{◌≡◌, ◌≤◌, ◌-◌, length, take}
use Rattle.std.specs.Io.KnownBytes.{Appends}
use Rattle.devices.proofs.writing.write_all.Given as goal

abbrev pub invariant-loop-at : goal.invariant-loop-at
invariant-loop-at g l = record {
  within : l.at ≤ length l.octets;
  taken : Appends (g.K.Sink.taken l.initial.sink) (g.K.Sink.taken l.sink) (take l.at l.octets);
  quiet : g.K.Sink.failures l.sink ≡ 0;
}

abbrev pub decreases-loop-at : goal.decreases-loop-at
decreases-loop-at g l = length l.octets - l.at
