use Rattle.std.proofs.Common.{◌∷◌, [], ◌++◌, ◌∙◌, ap, sym, subst, append_assoc, take, get_or, ℕ, List}
use Rattle.std.proofs.lemmas.List.{take_more}
use Rattle.primitives.specs.Oid.{AreSubidentifiers}
use Rattle.primitives.proofs.OidLemmas.{AreSubidentifiers-none, AreSubidentifiers-snoc}
use Rattle.primitives.proofs.oid.try_put_subidentifiers.Goals as goal

pub loop-number-init : goal.loop-number-init
loop-number-init c =
    let put = c.in_ok-put_base_128.ensures.appended in
    (put.0, put.1, AreSubidentifiers-snoc [] [] c.args.first put.0 AreSubidentifiers-none put.2)

pub loop-number-preserved : goal.loop-number-preserved
loop-number-preserved c =
    let put = c.in_ok-put_base_128-2.ensures.appended in
    let before = c.loop-number.invariant in
    let i = c.loop-number.number-index in
    let others : List ℕ = c.args.others.now in
    let more = take_more others i 0 c.loop-number-test.true in
    let all = AreSubidentifiers-snoc (c.args.first ∷ take i others) before.0 (get_or others i 0) put.0 before.2 put.2 in (
      before.0 ++ put.0,
      put.1 ∙ (ap (λ t. t ++ put.0) before.1 ∙ append_assoc c.args.out.now.items before.0 put.0),
      subst (λ t. AreSubidentifiers (c.args.first ∷ t) (before.0 ++ put.0)) (sym more) all,
    )
