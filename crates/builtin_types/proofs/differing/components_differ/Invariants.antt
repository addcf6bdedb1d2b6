use Rattle.std.proofs.Common.{map, take}
use Rattle.syntax.specs.View.{component}
use Rattle.builtin_types.specs.Names.{AreEntered}
use Rattle.builtin_types.proofs.differing.components_differ.Given as goal

abbrev pub invariant-loop-component : goal.invariant-loop-component
invariant-loop-component l = AreEntered (map (λ k. k.now) l.names.keys) (map (λ c. c.0) (map component (take l.component-index l.components)))
