use Rattle.std.proofs.Common.{◌+◌, ◌*◌, map, take}
use Rattle.types.specs.View.{field_view, alternative_view}
use Rattle.syntax.specs.declared.tree.Group.{Group}
use Rattle.syntax.specs.Tree.{list, choice}
use Rattle.syntax.specs.View.{tree, component, alternative, components_of, alternatives_of}
use Rattle.notation.specs.Apart.{CanMake}
use Rattle.notation.specs.Parts.{AreComponents, AreAlternatives}
use Rattle.notation.proofs.scope.Scope.+expanding.Given as goal

abbrev pub decreases-expand : goal.decreases-expand
decreases-expand l = 3 * l.depth

abbrev pub decreases-explicit : goal.decreases-explicit
decreases-explicit l = 3 * l.depth + 1

abbrev pub decreases-of : goal.decreases-of
decreases-of l = 3 * l.depth + 1

abbrev pub decreases-part : goal.decreases-part
decreases-part l = 3 * l.depth + 1

abbrev pub decreases-fields : goal.decreases-fields
decreases-fields l = 3 * l.depth + 2

abbrev pub decreases-choice : goal.decreases-choice
decreases-choice l = 3 * l.depth + 2

abbrev pub invariant-fields-loop-place : goal.invariant-fields-loop-place
invariant-fields-loop-place l =
    (group : Group) → CanMake l.self.module.now l.self (list group (components_of (map component l.components))) → AreComponents (tree l.self.module.now) l.automatic 0 (map component (take l.place l.components)) (map field_view l.fields.items)

abbrev pub invariant-choice-loop-place : goal.invariant-choice-loop-place
invariant-choice-loop-place l =
    CanMake l.self.module.now l.self (choice (alternatives_of (map alternative l.alternatives))) → AreAlternatives (tree l.self.module.now) l.automatic 0 (map alternative (take l.place l.alternatives)) (map alternative_view l.found.items)
