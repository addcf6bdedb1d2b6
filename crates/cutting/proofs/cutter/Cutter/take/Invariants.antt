use Rattle.std.proofs.Common.{◌≡◌, ◌≤◌, ◌+◌, length, take, IfSome, ◌-◌}
use Rattle.std.specs.Io.KnownBytes.{Appends}
use Rattle.cutting.specs.Inside.{came}
use Rattle.cutting.specs.Streams.{Passes, AreEndedBetween}
use Rattle.cutting.proofs.cutter.Cutter.take.Given as goal

abbrev pub invariant-loop-at : goal.invariant-loop-at
invariant-loop-at g l = record {
  ordered : l.from ≤ l.at;
  within : l.at ≤ length l.piece;
  taken : Appends (g.K.Outputs.taken l.initial.self.outputs) (g.K.Outputs.taken l.self.outputs) (take l.from l.piece);
  between : IfSome (g.K.Outputs.taken l.initial.self.outputs) (λ all. AreEndedBetween l.initial.self.ends l.piece (length all) (g.K.Outputs.cuts l.initial.self.outputs) (g.K.Outputs.cuts l.self.outputs));
  passed : Passes l.initial.self.ends l.self.ends (take l.at l.piece);
  counted : came l.self.ends ≡ came l.initial.self.ends + l.at;
  least : l.self.least ≡ l.initial.self.least;
}

abbrev pub decreases-loop-at : goal.decreases-loop-at
decreases-loop-at g l = length l.piece - l.at
