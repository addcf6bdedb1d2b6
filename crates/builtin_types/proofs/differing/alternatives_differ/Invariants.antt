use Rattle.std.proofs.Common.{map, take}
use Rattle.syntax.specs.View.{alternative}
use Rattle.builtin_types.specs.Names.{AreEntered}
use Rattle.builtin_types.proofs.differing.alternatives_differ.Given as goal

abbrev pub invariant-loop-alternative : goal.invariant-loop-alternative
invariant-loop-alternative l = AreEntered (map (λ k. k.now) l.names.keys) (map (λ c. c.0) (map alternative (take l.alternative-index l.alternatives)))
