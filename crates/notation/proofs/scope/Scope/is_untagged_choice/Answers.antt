use Rattle.syntax.specs.View.{form, tree}
use Rattle.notation.proofs.RootLemmas.{named_tells}
use Rattle.notation.proofs.scope.Scope.is_untagged_choice.Goals as goal

pub returns-in_ok-seen_of-in-Some-clause-tells : goal.returns-in_ok-seen_of-in-Some-clause-tells
returns-in_ok-seen_of-in-Some-clause-tells c = λ s.
    let root = c.in_ok-seen_of-in-Some.field-0.root in
    named_tells (tree c.args.self.now.module.now) (form c.args.expr.now) c.in-Some.name.now (form root.expr.now) root.tag c.is_untagged_choice.result c.in-Some.ensures.some (c.in_ok-seen_of-in-Some.ensures.leads s) c.is_untagged_choice.ensures
