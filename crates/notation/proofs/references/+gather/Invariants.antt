use Rattle.std.proofs.Common.{◌≡◌, ◌++◌, map, take}
use Rattle.syntax.specs.View.{component, alternative, components_of, alternatives_of}
use Rattle.notation.specs.References.{names_in_components, names_in_alternatives}
use Rattle.notation.proofs.references.+gather.Given as goal

abbrev pub invariant-loop-alternative : goal.invariant-loop-alternative
invariant-loop-alternative l =
    map (λ n. n.now) l.names.items ≡ map (λ n. n.now) l.fn.names.items ++ names_in_alternatives (alternatives_of (map alternative (take l.alternative-index l.alternative-items)))

abbrev pub invariant-loop-component : goal.invariant-loop-component
invariant-loop-component l =
    map (λ n. n.now) l.names.items ≡ map (λ n. n.now) l.fn.names.items ++ names_in_components (components_of (map component (take l.component-index l.component-items)))
