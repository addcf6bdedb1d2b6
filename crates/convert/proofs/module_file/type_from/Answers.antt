use Rattle.std.proofs.Common.{◌≡◌, arith, subst, sym}
use Rattle.std.proofs.lemmas.Result.{IfErr-weaker, IfOk-weaker, err_from_is_err_and}
use Rattle.octets.proofs.ResultLemmas.{IfErr-from}
use Rattle.syntax.specs.View.{tree}
use Rattle.convert.specs.ModuleFile.{IsAtFront}
use Rattle.convert.proofs.ModuleFileLemmas.{meant, none_meant}
use Rattle.convert.proofs.module_file.type_from.Goals as goal

pub returns-in_err-text-clause-refused : goal.returns-in_err-text-clause-refused
returns-in_err-text-clause-refused c =
    let p = err_from_is_err_and c.from_residual.result c.from_residual.ensures.1 in
    rw (p.1, p.2) (λ other_than_memory type means. absurd (c.in_err-text.ensures.refused means.tree means.file))

pub returns-in_err-module-clause-refused : goal.returns-in_err-module-clause-refused
returns-in_err-module-clause-refused c =
    let p = err_from_is_err_and c.from_residual-in_err-module.result c.from_residual-in_err-module.ensures.1 in
    rw (p.1, p.2) (λ other_than_memory type means.
    absurd (none_meant c.args.octets.now c.in_ok-text.text.now c.args.name.now c.in_ok-text.ensures.text (c.in_err-module.ensures.refused other_than_memory) type means))

pub returns-clause-only : goal.returns-clause-only
returns-clause-only c =
    let here = meant c.args.octets.now c.in_ok-text.text.now c.args.name.now (tree c.in_ok-module.module) c.in_ok-text.ensures.text c.in_ok-module.ensures.only in
    IfOk-weaker c.resolve.result _ _ (λ ty only other means. only other (here other means)) c.resolve.ensures.only

pub returns-clause-refused : goal.returns-clause-refused
returns-clause-refused c =
    let here = meant c.args.octets.now c.in_ok-text.text.now c.args.name.now (tree c.in_ok-module.module) c.in_ok-text.ensures.text c.in_ok-module.ensures.only in
    IfErr-weaker c.resolve.result _ _ (λ fault refused other_than_memory type means. refused other_than_memory type (here type means)) c.resolve.ensures.refused

pub returns-clause-cycle : goal.returns-clause-cycle
returns-clause-cycle c =
    let here = meant c.args.octets.now c.in_ok-text.text.now c.args.name.now (tree c.in_ok-module.module) c.in_ok-text.ensures.text c.in_ok-module.ensures.only in
    IfErr-weaker c.resolve.result _ _ (λ fault refused cycle type means. refused cycle type (here type means)) c.resolve.ensures.cycle

pub returns-in_err-text-clause-too_long : goal.returns-in_err-text-clause-too_long
returns-in_err-text-clause-too_long c = λ long.
    IfErr-from c.from_residual.result _ _ c.from_residual.ensures.1 (λ fault same. subst (IsAtFront 31) (sym same) (c.in_err-text.ensures.too_long long))

pub returns-in_err-text-clause-front : goal.returns-in_err-text-clause-front
returns-in_err-text-clause-front c = λ within no_text.
    IfErr-from c.from_residual.result _ _ c.from_residual.ensures.1 (λ fault same. subst (IsAtFront 21) (sym same) (c.in_err-text.ensures.front within))

pub returns-in_err-module-clause-too_long : goal.returns-in_err-module-clause-too_long
returns-in_err-module-clause-too_long c = λ long. absurd (omega (arith, long, c.in_ok-text.ensures.within))

pub returns-in_err-module-clause-front : goal.returns-in_err-module-clause-front
returns-in_err-module-clause-front c = λ within no_text. absurd (no_text c.in_ok-text.ensures.utf8)

pub returns-clause-too_long : goal.returns-clause-too_long
returns-clause-too_long c = λ long. absurd (omega (arith, long, c.in_ok-text.ensures.within))

pub returns-clause-front : goal.returns-clause-front
returns-clause-front c = λ within no_text. absurd (no_text c.in_ok-text.ensures.utf8)
