use Rattle.std.proofs.Common.{inr, ◌+◌, ◌++◌, length, arith, Err, refl, ap}
use Rattle.std.proofs.lemmas.List.{length-reverse}
use Rattle.encoding_parts.specs.declared.segments.Segments.{Segments}
use Rattle.encoding_parts.proofs.EndLemmas.{segment_above}
use Rattle.encoding_parts.proofs.SegmentsLemmas.{first_of, sound_end, taken_end}
use Rattle.encoding_parts.proofs.segments.Segments.step.Goals as goal

pub returns-in-Ok-Some-clause-passed : goal.returns-in-Ok-Some-clause-passed
returns-in-Ok-Some-clause-passed c =
    let old = c.args.self.now in
    let used = c.in-Ok-Some.used in
    let new : Segments = record { frames = c.close.new.frames; levels = old.levels; taken = old.taken + used; joined = old.joined } in
    let found = rw c.in-Ok-Some.field-0-is at c.in-Ok-Some.ensures.value in
    let left = c.close.ensures c.args.frame c.requires.top.0 c.requires.top.1 in
    record {
      taken = taken_end c.args.kind old new c.args.frame c.requires.top.0 c.args.octets.now used refl c.requires.top.1 left refl refl found.0 found.1;
      sound = sound_end c.args.kind old new c.args.frame c.requires.top.0 c.args.octets.now used refl c.requires.top.1 left refl refl found.0 found.1 c.requires.sound;
      smaller = omega (arith, ap length c.requires.top.1, ap length left, length-reverse old.frames.items, length-reverse c.close.new.frames.items);
    }

pub returns-in-Err-clause-refused : goal.returns-in-Err-clause-refused
returns-in-Err-clause-refused c =
    let octets = c.args.octets.now in
    let s = c.args.self.now in
    let said = c.in-Err.ensures in
    record {
      truncated = λ is h. said.truncated (ap Err is) (segment_above c.args.kind c.args.frame s.taken octets (first_of c.args.kind s c.args.frame octets c.requires.top h));
      cut = λ is. inr (inr (said.cut (ap Err is)));
      never = λ final more h. said.never final more (segment_above c.args.kind c.args.frame s.taken (octets ++ more) (first_of c.args.kind s c.args.frame (octets ++ more) c.requires.top h));
      numbers = said.numbers;
    }
