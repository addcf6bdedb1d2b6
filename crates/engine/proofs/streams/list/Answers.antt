use Rattle.std.proofs.Common.{IfOk, subst}
use Rattle.types.specs.View.{ty_view}
use Rattle.texts.specs.Shown.{IsShown}
use Rattle.engine.specs.AnyReader.{read_rule}
use Rattle.engine.specs.Stream.{OfStream, IsListed}
use Rattle.engine.proofs.CallLemmas.{all_listed}
use Rattle.engine.proofs.streams.list.Goals as goal

pub returns-clause-listed : goal.returns-clause-listed
returns-clause-listed g c =
    let call = c.pass_all in
    subst (λ rule. IfOk call.result (λ done. OfStream (g.S.Source.left c.args.source.now) (g.K.Sink.taken c.args.sink.now) (g.K.Sink.taken call.new.sink) (IsListed (IsShown (ty_view c.args.ty.now)) rule (ty_view c.args.ty.now) done)))
    c.new-reader.ensures.rule (all_listed (IsShown (ty_view c.args.ty.now)) (read_rule c.new-reader.result) (ty_view c.args.ty.now) call.result _ _ _ call.ensures.done)
