use Rattle.std.proofs.Common.{◌≡◌, map, take}
use Rattle.std.specs.List.{filter_map}
use Rattle.syntax.specs.View.{tree}
use Rattle.notation.specs.Known.{IsScope}
use Rattle.notation.specs.Settled.{place_in}
use Rattle.notation.proofs.scope.Scope.places_of.Given as goal

abbrev pub invariant-loop-name : goal.invariant-loop-name
invariant-loop-name l = IsScope l.self.module.now l.self → l.places.items ≡ filter_map (place_in (tree l.self.module.now)) (map (λ n. n.now) (take l.name-index l.name-items))
