use Rattle.std.proofs.Common.{Err, ◌<◌, ◌++◌, [], arith, length, take, refl, sym, ap, subst}
use Rattle.std.proofs.lemmas.List.{length-take-le}
use Rattle.std.specs.Io.KnownBytes.{Appends}
use Rattle.devices.specs.Parts.{IsWholeCount}
use Rattle.engine.specs.AnyReader.{read_rule}
use Rattle.engine.proofs.PassingLemmas.{writes_all, writes_cut, gathering_leaves_source, gathering_converts}
use Rattle.engine.proofs.BatchLemmas.{gathers_anyway}
use Rattle.engine.proofs.passing.pass_batch.Goals as goal

pub returns-in-Err-clause-stopped : goal.returns-in-Err-clause-stopped
returns-in-Err-clause-stopped g c =
    let rule = read_rule c.args.reader.now in
    let shape = g.P.Put.shape c.args.writer.now in
    let Stands = g.P.Put.stands c.args.writer.now in
    let octets = c.gather-gathered.new.self.octets.items in
    let lengths = c.gather-gathered.new.self.lengths.items in
    let at = c.in-Err.at in
    let count = c.whole_parts-count.result in
    let whole : IsWholeCount lengths at count = subst (λ l. IsWholeCount l at count) c.as_slice-lengths.ensures.value c.whole_parts-count.ensures in
    let part : at < length octets = subst (λ l. at < length l) c.as_slice.ensures.value c.in-Err.ensures.some_left in
    record {
      stopped = λ old unfinished.
          let h = gathers_anyway c.gather-gathered.result rule shape Stands _ _ old c.args.piece.now octets lengths c.gather-gathered.ensures.gathered c.gather-gathered.ensures.refused unfinished in
          let w = writes_cut rule shape Stands (old ++ c.args.piece.now) h.0 octets lengths at count h.1 whole part in
          record {
            rest = w.rest;
            written = take at octets;
            part = w.part;
            count = count;
            counted = refl;
            takes = subst (λ l. Appends (g.K.Sink.taken c.args.sink.now) (g.K.Sink.taken c.write_all.new.sink) (take at l)) c.as_slice.ensures.value c.in-Err.ensures.part;
            writes = w.writes;
            stops = w.stops;
          };
      source = refl;
      long = λ e. absurd (cc e);
      numbers = tt;
    }

pub returns-in-Ok-gathered-clause-passed : goal.returns-in-Ok-gathered-clause-passed
returns-in-Ok-gathered-clause-passed g c =
    let octets = c.gather-gathered.new.self.octets.items in
    record {
      same_rule = c.in-Ok-gathered.ensures.rule_stays;
      passed = λ old unfinished.
          let n = c.in-Ok-gathered.ensures.gathered old unfinished in
          record {
            rest = n.rest;
            written = octets;
            count = length c.as_slice-lengths.result.now;
            counted = refl;
            takes = subst (Appends (g.K.Sink.taken c.args.sink.now) (g.K.Sink.taken c.write_all.new.sink)) c.as_slice.ensures.value c.in-Ok.ensures.written;
            writes = writes_all (read_rule c.args.reader.now) (g.P.Put.shape c.args.writer.now) (g.P.Put.stands c.args.writer.now) _ n.rest octets _ _ n.gathers (ap length (sym c.as_slice-lengths.ensures.value));
            stands = n.stands;
          };
      few = omega (arith, c.in-Ok-gathered.ensures.few, length-take-le c.in-Ok-gathered.used c.args.piece.now c.in-Ok-gathered.ensures.there, ap length (sym c.as_slice-lengths.ensures.value));
    }

pub returns-in-Err-gathered-clause-stopped : goal.returns-in-Err-gathered-clause-stopped
returns-in-Err-gathered-clause-stopped g c =
    let octets = c.gather-gathered.new.self.octets.items in
    record {
      stopped = λ old unfinished.
          let n = c.in-Err-gathered.ensures.refused old unfinished in
          record {
            rest = n.rest;
            written = octets;
            part = [];
            count = length c.as_slice-lengths.result.now;
            counted = refl;
            takes = subst (Appends (g.K.Sink.taken c.args.sink.now) (g.K.Sink.taken c.write_all.new.sink)) c.as_slice.ensures.value c.in-Ok.ensures.written;
            writes = writes_all (read_rule c.args.reader.now) (g.P.Put.shape c.args.writer.now) (g.P.Put.stands c.args.writer.now) _ n.rest octets _ _ n.gathers (ap length (sym c.as_slice-lengths.ensures.value));
            stops = n.stops;
          };
      source = gathering_leaves_source _ _ c.in-Err-gathered.ensures.numbers;
      long = λ e. c.in-Err-gathered.ensures.long (ap Err e);
      numbers = gathering_converts _ _ c.in-Err-gathered.ensures.numbers;
    }
