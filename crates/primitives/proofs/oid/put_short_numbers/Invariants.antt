use Rattle.std.proofs.Common.{◌≡◌, ◌+◌, ◌≤◌, ◌<◌, ◌^◌, length}
use Rattle.octets.specs.Front.{Appends}
use Rattle.primitives.proofs.BegunLemmas.{AreBegun}
use Rattle.primitives.proofs.oid.put_short_numbers.Given as goal

abbrev pub invariant-loop-octet : goal.invariant-loop-octet
invariant-loop-octet l = record {
  read : Appends (λ numbers. AreBegun l.octets l.octet-index numbers l.begun) l.fn.numbers.items l.numbers.items;
  small : l.begun < 2 ^ 21;
  few : length l.numbers.items ≤ length l.fn.numbers.items + l.octet-index;
  room : l.numbers.cap ≡ l.fn.numbers.cap;
}
