use Rattle.std.proofs.Common.{◌<◌, ◌^◌}
use Rattle.primitives.proofs.SubidentifierLemmas.{IsBegun}
use Rattle.primitives.proofs.subidentifier.read_long_subidentifier.Given as goal

abbrev pub invariant-loop-i : goal.invariant-loop-i
invariant-loop-i l = record { begun : IsBegun l.octets l.i l.number; within : l.number < 2 ^ 128 }
