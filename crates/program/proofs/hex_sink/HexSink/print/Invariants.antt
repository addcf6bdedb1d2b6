use Rattle.std.proofs.Common.{◌≡◌, ◌≤◌, ◌-◌, false, length}
use Rattle.program.proofs.hex_sink.HexSink.print.Given as goal

abbrev pub invariant-loop-at : goal.invariant-loop-at
invariant-loop-at g l = record {
  failed : l.self.failed ≡ false;
  within : 2 ≤ l.at → l.at ≤ length l.digits;
}

abbrev pub decreases-loop-at : goal.decreases-loop-at
decreases-loop-at g l = 2 - l.at
