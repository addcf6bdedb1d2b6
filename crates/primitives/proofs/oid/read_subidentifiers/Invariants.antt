use Rattle.std.proofs.Common.{◌≡◌, length, ◌-◌, ◌+◌, ◌≤◌}
use Rattle.octets.specs.Front.{Appends}
use Rattle.primitives.proofs.OidLemmas.{AreRead}
use Rattle.primitives.proofs.oid.read_subidentifiers.Given as goal

abbrev pub invariant-loop-start : goal.invariant-loop-start
invariant-loop-start l = record {
  read : Appends (AreRead l.contents l.start) l.fn.arcs.items l.arcs.items;
  within : length l.arcs.items ≤ l.most;
  few : length l.arcs.items ≤ length l.fn.arcs.items + l.start;
  room : l.arcs.cap ≡ l.fn.arcs.cap;
}

abbrev pub decreases-loop-start : goal.decreases-loop-start
decreases-loop-start l = length l.contents - l.start
