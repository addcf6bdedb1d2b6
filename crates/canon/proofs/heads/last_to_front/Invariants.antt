use Rattle.std.proofs.Common.{◌≡◌, ◌-◌, ◌++◌, length, take, drop}
use Rattle.canon.proofs.heads.last_to_front.Given as goal

abbrev pub invariant-loop-done : goal.invariant-loop-done
invariant-loop-done l =
    let left = length l.initial.octets - l.done in
    l.octets ≡ drop left l.initial.octets ++ take left l.initial.octets
