use Rattle.std.proofs.Common.{◌≡◌, ◌++◌, take, codes, decimal, string_bytes, flat_map}
use Rattle.texts.proofs.leaf.put_arcs.Given as goal

abbrev pub invariant-loop-arc : goal.invariant-loop-arc
invariant-loop-arc l = string_bytes l.out ≡ string_bytes l.initial.out ++ flat_map (λ other. codes "." ++ decimal other) (take l.arc-index l.others)
