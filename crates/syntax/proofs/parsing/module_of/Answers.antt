use Rattle.std.proofs.Common.{length, subst, arith}
use Rattle.std.proofs.lemmas.Result.{err_from_is_err_and}
use Rattle.lexis.specs.declared.lexeme.Lexeme.TheVariants.{Number}
use Rattle.syntax.specs.declared.terminal.Terminal.{Terminal}
use Rattle.syntax.specs.View.{tree}
use Rattle.syntax.specs.Reading.{IsRefusal, signs_from}
use Rattle.syntax.proofs.Steps.{signs_more, signs_end, signs_long}
use Rattle.syntax.proofs.ModuleReading.{module-some, only_module, no_module}
use Rattle.syntax.proofs.parsing.module_of.Goals as goal

pub returns-in_err-module-clause-refused : goal.returns-in_err-module-clause-refused
unfolding signs_from
returns-in_err-module-clause-refused c =
    let p = err_from_is_err_and c.from_residual.result c.from_residual.ensures.1 in
    let ts = c.args.terminals.now in
    rw p.1 (λ stopped other h fits. no_module (length ts) (signs_from 0 ts) (signs_long ts) (c.in_err-module.ensures (subst IsRefusal p.2 stopped)) other h fits)

pub returns-then-next-terminals-clause-refused : goal.returns-then-next-terminals-clause-refused
unfolding signs_from
returns-then-next-terminals-clause-refused c = λ _ other h fits.
    let ts = c.args.terminals.now in
    let over = (only_module (length ts) (signs_from 0 ts) (tree c.in_ok-module.module) (signs_from c.in_ok-module.next ts) (signs_long ts) c.in_ok-module.ensures other h fits).1 in
    let last : Terminal = record { lexeme = Number 0; line = 0; column = 0 } in
    let more = signs_more c.in_ok-module.next ts last c.if-next-terminals.true in
    cc (over, more)

pub returns-clause-value : goal.returns-clause-value
unfolding signs_from
returns-clause-value c =
    let ts = c.args.terminals.now in
    module-some (length ts) (signs_from 0 ts) (tree c.in_ok-module.module, signs_from c.in_ok-module.next ts) c.in_ok-module.ensures (signs_end c.in_ok-module.next ts (omega arith))

pub returns-clause-only : goal.returns-clause-only
unfolding signs_from
returns-clause-only c = λ other h fits.
    let ts = c.args.terminals.now in
    (only_module (length ts) (signs_from 0 ts) (tree c.in_ok-module.module) (signs_from c.in_ok-module.next ts) (signs_long ts) c.in_ok-module.ensures other h fits).0
