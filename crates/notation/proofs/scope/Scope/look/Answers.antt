use Rattle.std.proofs.Common.{◌≡◌, sym, subst}
use Rattle.syntax.specs.Tree.{Form}
use Rattle.syntax.specs.View.{form, tree}
use Rattle.notation.specs.Weighed.{IsWeight, CanWeigh}
use Rattle.notation.proofs.LimitedLemmas.{body_is}
use Rattle.notation.proofs.scope.Scope.look.Goals as goal

pub returns-clause-weighed : goal.returns-clause-weighed
returns-clause-weighed c = λ a at can.
    let m = c.args.self.now.module.now in
    let is : form c.in-Some.body.now ≡ a.1 = body_is (form c.in-Some.body.now) _ a c.in-Some.ensures at in
    c.limited.ensures.means (tree m) a.1 (subst (λ (f : Form). IsWeight (tree m) f c.in_ok-weight.weight) is (c.in_ok-weight.ensures.weight (subst (CanWeigh m c.args.self.now) (sym is) can)))
