use Rattle.std.proofs.Common.{◌∙◌, List, ◌∷◌, sym, ap, subst}
use Rattle.std.proofs.lemmas.List.{drop_all}
use Rattle.types.specs.declared.ty.Alternative.{Alternative}
use Rattle.types.specs.Shape.{Shape}
use Rattle.types.specs.FirstTags.{first_tags, tags_of_alternatives}
use Rattle.types.specs.Order.{IsLeast}
use Rattle.types.specs.View.{ty_view, alternatives_view}
use Rattle.types.proofs.ViewLemmas.{ty-Choice}
use Rattle.judging.proofs.LeastLemmas.{alone_is_least, least_step}
use Rattle.judging.proofs.order.+least.Goals as goal

pub least_of-loop-alternative-init : goal.least_of-loop-alternative-init
least_of-loop-alternative-init t c = λ r h. h

pub least_of-loop-alternative-preserved : goal.least_of-loop-alternative-preserved
least_of-loop-alternative-preserved t c =
    λ r h. c.loop-alternative.invariant r (least_step c.args.alternatives.now c.loop-alternative.alternative-index c.alternative-item.result c.loop-alternative.least c.least_of_type-least.result r c.loop-alternative-test.true c.alternative-item.is c.least_of_type-least.ensures h)

pub least_of-returns : goal.least_of-returns
least_of-returns t c =
    let least = c.loop-alternative.least in
    c.loop-alternative.invariant least (subst (λ (l : List Alternative). IsLeast (least ∷ tags_of_alternatives (alternatives_view l)) least) (sym (drop_all c.loop-alternative.alternative-index c.args.alternatives.now c.loop-alternative-test.false)) (alone_is_least least))

pub least_of_type-returns : goal.least_of_type-returns
least_of_type-returns t c =
    let is = ap ty_view c.in-Choice.is ∙ ty-Choice c.in-Choice.alternatives in
    subst (λ (s : Shape). IsLeast (c.args.tag ∷ first_tags s) c.least_of.result) (sym is) (subst (λ (xs : List Alternative). IsLeast (c.args.tag ∷ tags_of_alternatives (alternatives_view xs)) c.least_of.result) c.deref.ensures.value c.least_of.ensures)
