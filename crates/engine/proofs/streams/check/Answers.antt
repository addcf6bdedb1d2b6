use Rattle.std.proofs.Common.{◌≡◌, [], None, IfOk, IfErr, subst}
use Rattle.std.specs.Prelude.{IfSome}
use Rattle.types.specs.View.{ty_view}
use Rattle.engine.specs.AnyReader.{read_rule}
use Rattle.engine.specs.Stream.{IsChecked, IsCheckStopped}
use Rattle.engine.proofs.CallLemmas.{all_checked, all_check_stopped}
use Rattle.engine.proofs.streams.check.Goals as goal

pub returns-clause-checked : goal.returns-clause-checked
returns-clause-checked g c =
    subst (λ rule. IfOk c.pass_all.result (λ done. IfSome (g.S.Source.left c.args.source.now) (IsChecked rule (ty_view c.args.ty.now) done)))
    c.new-reader.ensures.rule (all_checked (λ _ octets. octets ≡ []) (read_rule c.new-reader.result) (ty_view c.args.ty.now) c.pass_all.result (g.S.Source.left c.args.source.now) None None c.pass_all.ensures.done)

pub returns-clause-stopped : goal.returns-clause-stopped
returns-clause-stopped g c =
    subst (λ rule. IfErr c.pass_all.result (λ stopped. IfSome (g.S.Source.left c.args.source.now) (IsCheckStopped rule (ty_view c.args.ty.now) stopped.done stopped.refusal)))
    c.new-reader.ensures.rule (all_check_stopped (λ _ octets. octets ≡ []) (read_rule c.new-reader.result) (ty_view c.args.ty.now) c.pass_all.result (g.S.Source.left c.args.source.now) None None c.pass_all.ensures.stopped)
