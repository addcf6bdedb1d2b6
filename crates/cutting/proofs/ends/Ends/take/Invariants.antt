use Rattle.std.proofs.Common.{◌≡◌, ◌≤◌, ◌<◌, ◌+◌, ◌-◌, length, take}
use Rattle.cutting.specs.Inside.{came, GoesOn}
use Rattle.cutting.specs.Steps.{EndsNotBefore}
use Rattle.cutting.proofs.ends.Ends.take.Given as goal

abbrev pub invariant-loop-used : goal.invariant-loop-used
invariant-loop-used l = record {
  within : l.at ≤ length l.piece;
  before : EndsNotBefore l.initial.self (take l.at l.piece);
  inside : 0 < l.at → 0 < l.self.left + l.self.open;
  counted : came l.self ≡ came l.initial.self + l.at;
  goes : GoesOn l.initial.self l.self (take l.at l.piece);
}

abbrev pub decreases-loop-used : goal.decreases-loop-used
decreases-loop-used l = length l.piece - l.at
