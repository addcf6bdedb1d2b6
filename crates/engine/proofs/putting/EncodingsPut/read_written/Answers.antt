use Rattle.octets.proofs.RuleLemmas.{rule_is_canonical}
use Rattle.types.specs.View.{ty_view}
use Rattle.engine.specs.Rule.{canonical_rule_of}
use Rattle.engine.proofs.StrictReaderLemmas.{strict_is_written}
use Rattle.engine.proofs.putting.EncodingsPut.read_written.Goals as goal

pub returns-in-Ok : goal.returns-in-Ok
returns-in-Ok c =
    let writer = c.args.self.now in
    let read = c.in-Ok.ensures.value in
    strict_is_written (canonical_rule_of writer.to) (ty_view writer.ty.now) c.read_into.new.slot c.args.octets.now c.in-Ok.used c.read_into.ensures.well_formed (rule_is_canonical writer.to) read.0 read.1
