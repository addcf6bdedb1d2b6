use Rattle.std.proofs.Common.{IfOk, subst}
use Rattle.types.specs.View.{ty_view}
use Rattle.engine.specs.AnyReader.{read_rule}
use Rattle.engine.specs.Rule.{canonical_rule_of}
use Rattle.engine.specs.Stream.{OfStream, IsConverted}
use Rattle.engine.proofs.CallLemmas.{all_converted}
use Rattle.engine.proofs.streams.convert.Goals as goal

pub returns-clause-converted : goal.returns-clause-converted
returns-clause-converted g c =
    let call = c.pass_all in
    subst (λ rule. IfOk call.result (λ done. OfStream (g.S.Source.left c.args.source.now) (g.K.Sink.taken c.args.sink.now) (g.K.Sink.taken call.new.sink) (IsConverted rule (canonical_rule_of c.args.to) (ty_view c.args.ty.now) done)))
    c.new-reader.ensures.rule (all_converted (read_rule c.new-reader.result) c.args.to (ty_view c.args.ty.now) call.result _ _ _ c.new-reader.ensures.well_formed call.ensures.done)
