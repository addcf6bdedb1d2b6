use Rattle.std.proofs.Common.{rules, ◌≡◌, ℕ, List, inl, [], ◌++◌, false, Err, sym, ap, subst, append-nil}
use Rattle.encoding_parts.specs.Head.{IsTagWithin, IsPrimitiveWithin}
use Rattle.encoding_parts.specs.Joined.{segment_of}
use Rattle.encoding_parts.specs.Segments.{CanComplete, IsSegmentDue}
use Rattle.encoding_parts.proofs.CutLemmas.{segment_primitive}
use Rattle.encoding_parts.proofs.RefusesLemmas.{passed_on, refused_for_good}
use Rattle.encoding_parts.proofs.SegmentsLemmas.{tag_of_next, tag_of_next_whole, whole_of_next, primitive_next}
use Rattle.encoding_parts.proofs.RunLemmas.{run_passes}
use Rattle.encoding_parts.proofs.segments.Segments.segment.Goals as goal

pub returns-in_err-constructed-clause-refused : goal.returns-in_err-constructed-clause-refused
returns-in_err-constructed-clause-refused c =
    let s = c.args.self.now in
    let octets = c.args.octets.now in
    let said = c.in_err-constructed.ensures in
    let due : (x : List ℕ) → IsTagWithin (segment_of c.args.kind) c.args.frame.end s.taken x → IsTagWithin c.segment_tag.result c.args.frame.end s.taken x =
    λ x. subst (λ t. IsTagWithin t c.args.frame.end s.taken x) (sym c.segment_tag.ensures) in
    passed_on c.from_residual-in_err-constructed.result _ _ _ _ c.from_residual-in_err-constructed.ensures.1 (record {
      truncated = λ is h. said.truncated (ap Err is) (due octets (tag_of_next_whole c.args.kind s c.args.frame octets c.requires.top c.requires.no_end h));
      cut = λ is. inl (said.cut (ap Err is));
      never = λ final more h. said.never final more (due (octets ++ more) (tag_of_next c.args.kind s c.args.frame (octets ++ more) c.requires.top (c.requires.no_end more) h));
      numbers = said.numbers;
    })

pub returns-then-self-ne0-clause-refused : goal.returns-then-self-ne0-clause-refused
returns-then-self-ne0-clause-refused c = refused_for_good _ _ _ _ tt tt (λ more h.
    c.if-self-ne0.true (whole_of_next c.args.kind c.args.self.now c.args.frame (c.args.octets.now ++ more) c.requires.top c.requires.sound.held (c.requires.no_end more) h))

pub returns-in_err-start-clause-refused : goal.returns-in_err-start-clause-refused
returns-in_err-start-clause-refused c =
    let i = c.in_ok-constructed.identifier in
    let due : IsSegmentDue c.args.kind c.args.self.now c.args.frame c.args.octets.now false i = search rules in
    let s = c.args.self.now in
    let octets = c.args.octets.now in
    let tag = segment_of c.args.kind in
    let said = c.in_err-start.ensures in
    let next : (more : List ℕ) → CanComplete c.args.kind s (octets ++ more) → IsPrimitiveWithin tag c.args.frame.end s.taken (octets ++ more) =
    λ more. primitive_next c.args.kind s c.args.frame i octets more due.top due.tagged (due.no_end more) in
    passed_on c.from_residual-in_err-start.result _ _ _ _ c.from_residual-in_err-start.ensures.1 (record {
      truncated = λ is h.
          let whole : octets ++ [] ≡ octets = append-nil octets in
          said.truncated (ap Err is) tag due.tagged.tagged
          (subst (IsPrimitiveWithin tag c.args.frame.end s.taken) whole (next [] (subst (CanComplete c.args.kind s) (sym whole) h)));
      cut = λ is. segment_primitive c.args.kind s c.args.frame i octets due.top due.sound due.whole due.tagged (said.cut (ap Err is));
      never = λ final more h. said.never final more tag due.tagged.tagged (next more h);
      numbers = said.numbers;
    })

pub join-requires-clause-due : goal.join-requires-clause-due
join-requires-clause-due c = (
  1,
  record { top = c.requires.top; sound = c.requires.sound; no_end = c.requires.no_end; whole = c.in-Some.ensures.whole; tagged = c.in-Some.ensures.tagged },
)

pub join-requires-clause-place : goal.join-requires-clause-place
join-requires-clause-place c = c.in-Some.ensures.place

pub returns-in-Some-clause-passed : goal.returns-in-Some-clause-passed
returns-in-Some-clause-passed c =
    run_passes c.args.kind c.args.self.now c.join.new.self c.join_run.new.self c.args.octets.now c.in_ok-used.used c.join_run.result c.in_ok-used.ensures.passed c.join_run.ensures.run
