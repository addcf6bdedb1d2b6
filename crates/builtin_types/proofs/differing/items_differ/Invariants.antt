use Rattle.std.proofs.Common.{map, take}
use Rattle.syntax.specs.View.{entry}
use Rattle.builtin_types.specs.Names.{AreEntered}
use Rattle.builtin_types.proofs.differing.items_differ.Given as goal

abbrev pub invariant-loop-item : goal.invariant-loop-item
invariant-loop-item l = AreEntered (map (λ k. k.now) l.names.keys) (map (λ c. c.0) (map entry (take l.item-index l.items)))
