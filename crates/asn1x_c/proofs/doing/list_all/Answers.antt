use Rattle.std.proofs.Common.{rules, ◌∙◌, Some, ap}
use Rattle.octets.proofs.ResultLemmas.{IfErr-map}
use Rattle.types.specs.View.{ty_view}
use Rattle.texts.specs.Shown.{IsShown}
use Rattle.engine.specs.Refusal.{IsOfListing}
use Rattle.engine.specs.Rule.{rule_of}
use Rattle.engine.specs.Stream.{IsLine, IsStopped}
use Rattle.asn1x_c.proofs.DoneLemmas.{in_memory, stopped_by}
use Rattle.asn1x_c.proofs.doing.list_all.Goals as goal

pub returns : goal.returns
returns c =
    let octets = c.args.octets.now in
    let from = rule_of c.args.from in
    let shape = ty_view c.args.ty.now in
    let Stands = IsLine (IsShown shape) in
    let written = c.as_slice.result.now in
    let call = c.list-outcome in
    record {
      written = written;
      put = search rules;
      listed = search rules;
      stopped = stopped_by (IsOfListing from) (λ done refusal. IsStopped Stands from shape done refusal octets written) call.result _ _ c.of.ensures
          (IfErr-map call.result _ _ (λ s. in_memory _ _ _ octets written (IsStopped Stands from shape s.done s.refusal)
          (ap Some c.new-source.ensures) (c.new-sink.ensures.taken ∙ ap Some c.new.ensures.items) c.as_slice.ensures) call.ensures.stopped)
          call.ensures.numbers call.ensures.source;
    }
