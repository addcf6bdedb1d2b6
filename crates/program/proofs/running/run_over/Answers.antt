use Rattle.std.proofs.Common.{rules, ◌≡◌, ℕ, List, inr, refl, sym, subst, take, true}
use Rattle.std.specs.Prelude.{IfSome}
use Rattle.std.proofs.lemmas.Result.{IfErr-weaker, IfOk-weaker, err_from_is_err_and}
use Rattle.types.specs.View.{ty_view}
use Rattle.engine.specs.Rule.{rule_of}
use Rattle.convert.specs.HexText.{IsHexText}
use Rattle.program.proofs.RunLemmas.{fault_stopped, text_done, text_stopped}
use Rattle.program.proofs.running.run_over.Goals as goal

pub returns-in_err-octets-clause-stopped : goal.returns-in_err-octets-clause-stopped
returns-in_err-octets-clause-stopped g c =
    let input = g.R.Read.remaining c.args.input.now in
    let text = c.as_slice.result.now in
    let is : IfSome input (λ all. text ≡ take 4194305 all) = subst (λ (t : List ℕ). IfSome input (λ all. t ≡ take 4194305 all)) (sym c.as_slice.ensures.value) c.in_ok-text.ensures.text in
    let is_hex : c.args.line.now.hex ≡ true = search rules in
    let p = err_from_is_err_and c.from_residual-in_err-octets.result c.from_residual-in_err-octets.ensures.1 in
    rw (p.1, p.2) (text_stopped c.args.task (rule_of c.args.line.now.from) (ty_view c.args.ty.now) (g.W.Write.contents c.args.out.now) _ input text is _
    c.args.line.now.hex c.in_err-octets.field-0.0 is_hex c.in_err-octets.ensures.none c.in_err-octets.ensures.too_long.0 c.in_err-octets.ensures.too_long.1 refl)

pub returns-clause-done : goal.returns-clause-done
returns-clause-done g c =
    let input = g.R.Read.remaining c.args.input.now in
    let text = c.as_slice.result.now in
    let is : IfSome input (λ all. text ≡ take 4194305 all) = subst (λ (t : List ℕ). IfSome input (λ all. t ≡ take 4194305 all)) (sym c.as_slice.ensures.value) c.in_ok-text.ensures.text in
    let is_hex : c.args.line.now.hex ≡ true = search rules in
    let octets_are : c.in_ok-octets.octets.items ≡ c.new-source.result = search rules in
    let spelt : IsHexText c.new-source.result text = subst (λ (o : List ℕ). IsHexText o text) octets_are c.in_ok-octets.ensures.value in
    IfOk-weaker c.perform-2.result _ _ (λ u done. text_done c.args.task (rule_of c.args.line.now.from) (ty_view c.args.ty.now) (g.W.Write.contents c.args.out.now) _ input text is
    c.args.line.now.hex c.new-source.result is_hex (λ more. cc (c.in_ok-octets.ensures.too_long.1 more)) spelt done) c.perform-2.ensures.done

pub returns-clause-stopped : goal.returns-clause-stopped
returns-clause-stopped g c =
    let input = g.R.Read.remaining c.args.input.now in
    let text = c.as_slice.result.now in
    let is : IfSome input (λ all. text ≡ take 4194305 all) = subst (λ (t : List ℕ). IfSome input (λ all. t ≡ take 4194305 all)) (sym c.as_slice.ensures.value) c.in_ok-text.ensures.text in
    let is_hex : c.args.line.now.hex ≡ true = search rules in
    let octets_are : c.in_ok-octets.octets.items ≡ c.new-source.result = search rules in
    let spelt : IsHexText c.new-source.result text = subst (λ (o : List ℕ). IsHexText o text) octets_are c.in_ok-octets.ensures.value in
    IfErr-weaker c.perform-2.result _ _ (λ f stopped. inr (fault_stopped c.args.task (rule_of c.args.line.now.from) (ty_view c.args.ty.now) (g.W.Write.contents c.args.out.now) _ input text is
    c.args.line.now.hex c.new-source.result f is_hex (λ more. cc (c.in_ok-octets.ensures.too_long.1 more)) spelt stopped)) c.perform-2.ensures.stopped
