use Rattle.std.proofs.Common.{◌≡◌, None, map, take}
use Rattle.syntax.specs.declared.tree.Group.{Group}
use Rattle.syntax.specs.Tree.{list, choice}
use Rattle.syntax.specs.View.{tree, component, alternative, components_of, alternatives_of}
use Rattle.notation.specs.Known.{IsScope}
use Rattle.notation.specs.Weighed.{CanWeigh, IsComponentsWeight, IsAlternativesWeight}
use Rattle.notation.specs.Apart.{ComponentsHaveNamesApart, AlternativesHaveNamesApart, IsTold}
use Rattle.notation.proofs.scope.Scope.+weighing.Given as goal

abbrev pub invariant-weight_of_list-loop-component : goal.invariant-weight_of_list-loop-component
invariant-weight_of_list-loop-component l = record {
  weighs : (group : Group) → CanWeigh l.self.module.now l.self (list group (components_of (map component l.components))) → IsComponentsWeight (tree l.self.module.now) l.automatic (map component (take l.component-index l.components)) l.weight;
  apart : IsScope l.self.module.now l.self → l.weight.cause ≡ None → ComponentsHaveNamesApart (IsTold l.self) (components_of (map component (take l.component-index l.components)));
}

abbrev pub invariant-weight_of_choice-loop-alternative :
    goal.invariant-weight_of_choice-loop-alternative
invariant-weight_of_choice-loop-alternative l = record {
  weighs : CanWeigh l.self.module.now l.self (choice (alternatives_of (map alternative l.alternatives))) → IsAlternativesWeight (tree l.self.module.now) l.automatic (map alternative (take l.alternative-index l.alternatives)) l.weight;
  apart : IsScope l.self.module.now l.self → l.weight.cause ≡ None → AlternativesHaveNamesApart (IsTold l.self) (alternatives_of (map alternative (take l.alternative-index l.alternatives)));
}
