use Rattle.std.proofs.Common.{rules, inl, inr, ◌+◌, Err, refl, sym, ap, subst}
use Rattle.encoding_parts.specs.declared.segments.Segments.{Segments}
use Rattle.encoding_parts.specs.Cut.{IsCutInside}
use Rattle.encoding_parts.specs.Refuses.{Refuses}
use Rattle.encoding_parts.specs.Segments.{CanComplete, Passes}
use Rattle.encoding_parts.proofs.JoinedLemmas.{whole_held}
use Rattle.encoding_parts.proofs.RefusesLemmas.{passed_on, refused_for_good, refused_for_memory}
use Rattle.encoding_parts.proofs.SegmentsLemmas.{piece_next, taken_primitive}
use Rattle.encoding_parts.proofs.segments.Segments.join.Goals as goal

pub returns-in_err-join : goal.returns-in_err-join
returns-in_err-join c =
    let due = c.requires.due.1 in
    let octets = c.args.octets.now in
    let said = c.in_err-join.ensures in
    let refused = passed_on c.from_residual.result _ _ _ _ c.from_residual.ensures.1 (elim said.numbers [
      | inl contents ↦ subst (Refuses (CanComplete c.args.kind c.args.self.now) (IsCutInside c.args.kind c.args.self.now c.args.frame) octets) (sym contents)
          (refused_for_good _ _ _ _ tt tt (λ more h.
          let found = piece_next c.args.kind c.args.self.now c.args.frame c.requires.due.0 c.args.end octets c.args.contents.now more due.top due.tagged (due.no_end more)
          c.requires.place.primitive h in
          said.none (ap Err contents) found.0 found.1))
      | inr memory ↦ subst (Refuses (CanComplete c.args.kind c.args.self.now) (IsCutInside c.args.kind c.args.self.now c.args.frame) octets) (sym memory) (refused_for_memory _ _ _)
    ]) in
    record { passed = search rules; refused = refused; unchanged = search rules; frames = search rules }

pub returns : goal.returns
returns c =
    let due = c.requires.due.1 in
    let old = c.args.self.now in
    let octets = c.args.octets.now in
    let end = c.args.end in
    let new : Segments = record { frames = old.frames; levels = old.levels; taken = old.taken + end; joined = c.join.new.self } in
    let passed : Passes c.args.kind old new octets end = record {
      taken = taken_primitive c.args.kind old new c.args.frame due.top.0 octets c.args.contents.now end refl due.top.1 due.top.1 refl
          c.requires.place.there c.requires.place.fits (whole_held c.args.kind old.joined.octets.items old.joined.unused due.whole)
          c.requires.place.primitive c.in_ok-join.ensures.joined c.in_ok-join.ensures.light;
      sound = search rules;
      smaller = search rules;
    } in
    record { passed = passed; refused = tt; unchanged = search rules; frames = refl }
