use Rattle.std.proofs.Common.{◌∙◌, sym, subst}
use Rattle.types.specs.declared.ty.Ty.{Ty}
use Rattle.types.specs.View.{ty_view}
use Rattle.syntax.specs.View.{form, tree}
use Rattle.octets.proofs.ResultLemmas.{IfOk-map, IfErr-from, IfErr-map}
use Rattle.notation.specs.Under.{MeansUnder}
use Rattle.notation.proofs.ApartLemmas.{unless_none}
use Rattle.notation.proofs.RefusingLemmas.{no_cause, no_some, weight_refused, made_refused, judged_refused}
use Rattle.notation.proofs.scope.Scope.type_of.Goals as goal

pub returns-in-Some-clause-never : goal.returns-in-Some-clause-never
returns-in-Some-clause-never c = λ not s f leads weighs.
    let m = tree c.args.self.now.module.now in
    weight_refused m f c.args.seen.root c.args.seen.weight c.unless-weight.result c.is_tag_within.result leads (c.is_tag_within.ensures.refused m) c.unless-weight.ensures.kept c.unless-weight.ensures.refused (λ none. no_cause c.in-Some.cause (sym c.in-Some.is ∙ none)) weighs

pub returns-clause-value : goal.returns-clause-value
returns-clause-value c = IfOk-map c.well_typed.result _ _ (λ ty same s.
    let none = unless_none c.args.seen.weight c.unless-weight.result c.is_tag_within.result c.unless-weight.ensures.kept c.unless-weight.ensures.refused (no_some c.unless-weight.result.cause c.in_default.not-Some) in
    let m = tree c.args.self.now.module.now in
    subst (λ (t : Ty). MeansUnder m c.args.seen.root.tag (form c.args.seen.root.expr.now) (ty_view t)) (sym same) (c.in_ok-ty.ensures.value (s none))) c.well_typed.ensures.value

pub returns-in_err-ty-clause-never : goal.returns-in_err-ty-clause-never
returns-in_err-ty-clause-never c = IfErr-from c.from_residual.result _ _ c.from_residual.ensures.1 (λ stop same not s f leads weighs.
    let none = unless_none c.args.seen.weight c.unless-weight.result c.is_tag_within.result c.unless-weight.ensures.kept c.unless-weight.ensures.refused (no_some c.unless-weight.result.cause c.in_default.not-Some) in
    made_refused (tree c.args.self.now.module.now) f c.args.seen.root leads (c.in_err-ty.ensures.never (λ e. not (same ∙ e)) (s none)))

pub returns-clause-never : goal.returns-clause-never
returns-clause-never c = IfErr-map c.well_typed.result _ _ (λ stop bad not s f leads weighs.
    let none = unless_none c.args.seen.weight c.unless-weight.result c.is_tag_within.result c.unless-weight.ensures.kept c.unless-weight.ensures.refused (no_some c.unless-weight.result.cause c.in_default.not-Some) in
    let can = s none in
    judged_refused (tree c.args.self.now.module.now) f c.args.seen.root (ty_view c.in_ok-ty.ty) can.settled.known.differ leads (c.in_ok-ty.ensures.value can) bad) c.well_typed.ensures.refused
