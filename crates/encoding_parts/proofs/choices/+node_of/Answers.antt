use Rattle.types.specs.View.{ty_view, alternatives_view}
use Rattle.encoding_parts.specs.Parts.{IsNodeFor}
use Rattle.std.specs.Prelude.{MatchOption}
use Rattle.std.proofs.Common.{sym, subst}
use Rattle.encoding_parts.proofs.ChoiceLemmas.{leads_on, node_tag_of, choice_leads}
use Rattle.encoding_parts.proofs.choices.+node_of.Goals as goal

pub returns-in_err-alternative : goal.returns-in_err-alternative
returns-in_err-alternative t c =
    let xs = c.deref.result.now in
    let tag = c.args.tag in
    subst (λ found. MatchOption found ((node : _) → IsNodeFor tag (ty_view c.args.ty.now) node → ⊥) (λ node. IsNodeFor tag (ty_view c.args.ty.now) (ty_view node.now))) (sym c.from_residual.ensures)
    (λ node h. c.in_err-alternative.ensures (node_tag_of tag (alternatives_view xs) node ((choice_leads c.args.ty.now c.in-Choice.alternatives xs tag node c.in-Choice.is c.deref.ensures.value).1 h)))

pub returns : goal.returns
returns t c =
    let xs = c.deref.result.now in
    let tag = c.args.tag in
    let at = c.in_ok-alternative.ensures in
    leads_on c.node_of.result tag xs c.in_ok-alternative.field-0-0 c.in_ok-alternative.alternative.now at.0 at.1 at.2 c.node_of.ensures (ty_view c.args.ty.now)
    (λ node. (choice_leads c.args.ty.now c.in-Choice.alternatives xs tag node c.in-Choice.is c.deref.ensures.value).0)
