use Rattle.std.proofs.Common.{◌≡◌, ◌∙◌, None, ap, sym, subst}
use Rattle.std.proofs.lemmas.Bool.{leb-false, leb-true, false_from_ne_true}
use Rattle.syntax.specs.Tree.{tagged}
use Rattle.syntax.specs.View.{form}
use Rattle.notation.specs.Known.{IsOuterWithin}
use Rattle.notation.specs.Under.{IsAtRoot}
use Rattle.notation.specs.Refused.{HasNoType}
use Rattle.notation.proofs.FormLemmas.{form-Tagged}
use Rattle.notation.proofs.LimitLemmas.{no_type-great_prefix}
use Rattle.notation.proofs.root.is_own_tag_within.Goals as goal

pub returns-in-Tagged-clause-refused : goal.returns-in-Tagged-clause-refused
returns-in-Tagged-clause-refused c = λ m at over.
    let prefix = c.in-Tagged.prefix in
    let inner = c.in-Tagged.field-1 in
    let is : form c.args.expr.now ≡ tagged prefix (form inner.value) = ap form c.in-Tagged.is ∙ form-Tagged prefix inner in
    subst (HasNoType m None) (sym is) (no_type-great_prefix m prefix (form inner.value) (subst (IsAtRoot m) is at) (leb-false prefix.number 268_435_455 (false_from_ne_true _ over)))

pub returns-in-Tagged-clause-within : goal.returns-in-Tagged-clause-within
returns-in-Tagged-clause-within c = λ under.
    let prefix = c.in-Tagged.prefix in
    let inner = c.in-Tagged.field-1 in
    let is : form c.args.expr.now ≡ tagged prefix (form inner.value) = ap form c.in-Tagged.is ∙ form-Tagged prefix inner in
    subst (IsOuterWithin None) (sym is) (leb-true prefix.number 268_435_455 under)
