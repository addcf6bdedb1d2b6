use Rattle.std.proofs.Common.{◌≡◌, ◌-◌}
use Rattle.types.specs.View.{ty_view}
use Rattle.engine.specs.AnyReader.{read_rule, StandsBy}
use Rattle.engine.specs.Stream.{most_streamed}
use Rattle.value_stream.specs.Next.{HasBegun}
use Rattle.value_stream.specs.Unread.{unread, IsWithin}
use Rattle.value_stream.proofs.reading.Reading.next.Given as goal

abbrev pub invariant-loop-self : goal.invariant-loop-self
invariant-loop-self g l = record {
  type : l.self.ty ≡ l.initial.self.ty;
  same_rule : read_rule l.self.reader ≡ read_rule l.initial.self.reader;
  begun : HasBegun (StandsBy (ty_view l.initial.self.ty.now) l.self.reader) (read_rule l.initial.self.reader) (ty_view l.initial.self.ty.now) l.initial.self.read l.self.read
      (unread l.initial.self.at l.initial.self.piece (g.S.Source.left l.initial.self.source)) (unread l.self.at l.self.piece (g.S.Source.left l.self.source));
  source : g.S.Source.failures l.self.source ≡ 0;
  within : IsWithin l.self.at l.self.piece l.self.read;
}

abbrev pub decreases-loop-self : goal.decreases-loop-self
decreases-loop-self g l = most_streamed - l.self.read
