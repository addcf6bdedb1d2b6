use Rattle.std.proofs.Common.{inl, inr, sym, ◌∙◌, arith}
use Rattle.std.proofs.lemmas.Bool.{leb-true, leb-false, le-leb, false_from_ne_true}
use Rattle.notation.proofs.LimitedLemmas.{weighs_limited}
use Rattle.notation.proofs.settling.limited.Goals.{then-weight-le-MAX_NODES, else-weight-le-MAX_NODES}
use Rattle.notation.proofs.settling.limited.Goals as goal

pub returns : goal.returns
returns c =
    let fits = c.if-weight-le-MAX_NODES.fits in
    let levels = c.args.weight.levels in
    record {
      means = λ m form h. weighs_limited m form c.args.weight c.unless.result fits c.unless.ensures.kept c.unless.ensures.refused (λ lost. elim c.if-weight-le-MAX_NODES.branch [
        | then-weight-le-MAX_NODES w ↦ inr (leb-false levels 60 (sym w.fits-is ∙ false_from_ne_true fits lost))
        | else-weight-le-MAX_NODES w ↦ (let many = w.if-weight-le-MAX_NODES.false in inl (omega (arith, many)))
      ]) h;
      within = λ none. let fit = c.unless.ensures.refused none in elim c.if-weight-le-MAX_NODES.branch [
        | then-weight-le-MAX_NODES w ↦ (c.unless.ensures.kept fit, w.if-weight-le-MAX_NODES.true, leb-true levels 60 (sym w.fits-is ∙ fit))
        | else-weight-le-MAX_NODES w ↦ (let many = w.if-weight-le-MAX_NODES.false in let few = leb-true c.args.weight.nodes 4_096 (sym w.fits-is ∙ fit) in absurd (omega (arith, many, few)))
      ];
      kept = λ few low. c.unless.ensures.kept (elim c.if-weight-le-MAX_NODES.branch [
        | then-weight-le-MAX_NODES w ↦ w.fits-is ∙ le-leb levels 60 low
        | else-weight-le-MAX_NODES w ↦ (let many = w.if-weight-le-MAX_NODES.false in absurd (omega (arith, many, few)))
      ]);
    }
