use Rattle.std.proofs.Common.{◌≡◌, ◌+◌, ◌++◌, take}
use Rattle.cutting.proofs.ends.Ends.take_cut_head.Given as goal

abbrev pub invariant-loop-place : goal.invariant-loop-place
invariant-loop-place l = record {
  left : l.self.left ≡ 0;
  same : l.self.open ≡ l.initial.self.open;
  passed : l.self.passed ≡ l.initial.self.passed;
  count : l.self.count ≡ l.initial.self.count + l.place;
  held : take l.self.count l.self.head ≡ take l.initial.self.count l.initial.self.head ++ take l.place l.octets;
}
