use Rattle.std.proofs.Common.{◌≡◌, ◌∙◌, ap, sym, subst, refl, Bool, List, ℕ, Option, None, Some, string_bytes}
use Rattle.std.specs.Option.{option_or}
use Rattle.octets.specs.declared.tag.Tag.{Tag}
use Rattle.syntax.specs.declared.tree.Expr.{Expr}
use Rattle.syntax.specs.Tree.{Form, tagged, reference}
use Rattle.syntax.specs.View.{form, tree}
use Rattle.notation.specs.Under.{IsRoot, IsExplicitAt, IsImplicitAt}
use Rattle.notation.specs.Known.{LeadsTo, TellsExplicit}
use Rattle.notation.proofs.FormLemmas.{form-Tagged, form-Reference}
use Rattle.notation.proofs.RootLemmas.{itself, under_more}
use Rattle.notation.proofs.ScopeLemmas.{tag_told}
use Rattle.notation.specs.Settled.{NamesTold, MeansNothing}
use Rattle.notation.proofs.SettledLemmas.{tag_unknown}
use Rattle.notation.proofs.scope.Scope.+root_of.Goals as goal

pub returns-then-branch-clause-leads : goal.returns-then-branch-clause-leads
returns-then-branch-clause-leads t c = λ s.
    let m = tree c.args.self.now.module.now in
    let prefix = c.in-Tagged.prefix in
    let inner = c.in-Tagged.inner in
    let is : form c.args.expr.now ≡ tagged prefix (form inner.value) = ap form c.in-Tagged.is ∙ form-Tagged prefix inner in
    let told : IsExplicitAt m prefix (form c.deref.result.now) = subst (λ (b : Bool). TellsExplicit b m prefix (form c.deref.result.now)) c.if-branch.true (c.in_ok-is_explicit-in-Tagged.ensures.tells s prefix refl) in
    let here : IsExplicitAt m prefix (form inner.value) = subst (λ (e : Expr). IsExplicitAt m prefix (form e)) c.deref.ensures told in
    subst (λ (f : Form). IsRoot m c.args.outer f c.args.outer f) (sym is) (itself m c.args.outer (tagged prefix (form inner.value)) here)

pub returns-else-branch-clause-leads : goal.returns-else-branch-clause-leads
returns-else-branch-clause-leads t c =
    let m = c.args.self.now.module.now in
    let prefix = c.in-Tagged.prefix in
    let inner = c.in-Tagged.inner in
    let is : form c.args.expr.now ≡ tagged prefix (form inner.value) = ap form c.in-Tagged.is ∙ form-Tagged prefix inner in
    let here : form c.args.expr.now ≡ tagged prefix (form c.deref-in-Tagged.result.now) = is ∙ ap (λ (e : Expr). tagged prefix (form e)) (sym c.deref-in-Tagged.ensures) in
    let same : c.deref.result.now ≡ c.deref-in-Tagged.result.now = c.deref.ensures ∙ sym c.deref-in-Tagged.ensures in
    tag_told m c.args.self.now c.args.outer c.or.result prefix (form c.deref-in-Tagged.result.now) (form c.args.expr.now) c.root_of.result
    (c.or.ensures ∙ ap (λ (own : Tag). option_or c.args.outer (Some own)) c.tag_of.ensures) here
    (λ s. subst (λ (e : Expr). IsImplicitAt (tree m) prefix (form e)) same
    (subst (λ (b : Bool). TellsExplicit b (tree m) prefix (form c.deref.result.now)) c.if-branch.false (c.in_ok-is_explicit-in-Tagged.ensures.tells s prefix refl)))
    c.root_of.ensures.leads

pub returns-in_ok-root-in-Reference-clause-leads : goal.returns-in_ok-root-in-Reference-clause-leads
returns-in_ok-root-in-Reference-clause-leads t c = λ s.
    let m = tree c.args.self.now.module.now in
    let name = c.in-Reference.name in
    let root = c.in_ok-root-in-Reference.field-0.root in
    let is : form c.args.expr.now ≡ reference (string_bytes name) = ap form c.in-Reference.is ∙ form-Reference name in
    let leads : IsRoot m None (reference (string_bytes name)) root.tag (form root.expr.now) =
    subst (λ (n : List ℕ). LeadsTo m None (reference n) root) c.deref-in-Reference.ensures (c.in_ok-root-in-Reference.ensures.leads s) in
    let more = under_more m c.args.outer root.tag (reference (string_bytes name)) (form root.expr.now) leads in
    subst (λ (f : Form). IsRoot m c.args.outer f c.or-in-Reference.result (form root.expr.now)) (sym is)
    (subst (λ (tag : Option Tag). IsRoot m c.args.outer (reference (string_bytes name)) tag (form root.expr.now)) (sym c.or-in-Reference.ensures) more)

pub returns-in_err-is_explicit-in-Tagged-clause-unknown :
    goal.returns-in_err-is_explicit-in-Tagged-clause-unknown
returns-in_err-is_explicit-in-Tagged-clause-unknown t c = λ none s told.
    let m = tree c.args.self.now.module.now in
    let seen = c.args.self.now.seen.items in
    let prefix = c.in-Tagged.prefix in
    let inner = c.in-Tagged.inner in
    let is : form c.args.expr.now ≡ tagged prefix (form inner.value) = ap form c.in-Tagged.is ∙ form-Tagged prefix inner in
    let within : NamesTold m seen (form inner.value) = subst (NamesTold m seen) is told in
    let here : NamesTold m seen (form c.deref.result.now) = subst (λ (e : Expr). NamesTold m seen (form e)) (sym c.deref.ensures) within in
    let nothing : MeansNothing m (form c.deref.result.now) = c.in_err-is_explicit-in-Tagged.ensures.unknown refl s here in
    tag_unknown m prefix (form inner.value) (form c.args.expr.now) is (subst (λ (e : Expr). MeansNothing m (form e)) c.deref.ensures nothing)

pub returns-else-branch-clause-unknown : goal.returns-else-branch-clause-unknown
returns-else-branch-clause-unknown t c = λ none s told.
    let m = tree c.args.self.now.module.now in
    let seen = c.args.self.now.seen.items in
    let prefix = c.in-Tagged.prefix in
    let inner = c.in-Tagged.inner in
    let is : form c.args.expr.now ≡ tagged prefix (form inner.value) = ap form c.in-Tagged.is ∙ form-Tagged prefix inner in
    let within : NamesTold m seen (form inner.value) = subst (NamesTold m seen) is told in
    let here : NamesTold m seen (form c.deref-in-Tagged.result.now) = subst (λ (e : Expr). NamesTold m seen (form e)) (sym c.deref-in-Tagged.ensures) within in
    let nothing : MeansNothing m (form c.deref-in-Tagged.result.now) = c.root_of.ensures.unknown none s here in
    tag_unknown m prefix (form inner.value) (form c.args.expr.now) is (subst (λ (e : Expr). MeansNothing m (form e)) c.deref-in-Tagged.ensures nothing)
