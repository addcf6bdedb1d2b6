use Rattle.std.proofs.Common.{◌≡◌, ℕ, List, ◌+◌, ◌-◌, ◌≤◌, [], ◌∷◌, ◌++◌, length, take, drop, true, Err, refl, sym, ◌∙◌, ap, subst, arith, append-nil, add_assoc}
use Rattle.std.proofs.lemmas.List.{take_rest, length-drop, length-reverse}
use Rattle.encoding_parts.specs.Completing.{Opens}
use Rattle.encoding_parts.specs.Head.{IsExtentWithin}
use Rattle.encoding_parts.specs.Segments.{CanComplete}
use Rattle.encoding_parts.specs.Joined.{segment_of}
use Rattle.encoding_parts.specs.declared.segments.Segments.{Segments}
use Rattle.encoding_parts.proofs.JoinedLemmas.{whole_held}
use Rattle.encoding_parts.proofs.SegmentsLemmas.{IsSegmentOpened, constructed_next, smaller_opening, sound_opening, taken_opening}
use Rattle.encoding_parts.proofs.ReadingLemmas.{opening_read}
use Rattle.encoding_parts.proofs.RefusesLemmas.{passed_on, refused_for_good}
use Rattle.encoding_parts.specs.Cut.{IsLengthCut}
use Rattle.encoding_parts.proofs.CutLemmas.{segment_constructed}
use Rattle.encoding_parts.proofs.segments.Segments.constructed.Goals as goal

pub returns-then-len-self-clause-refused : goal.returns-then-len-self-clause-refused
returns-then-len-self-clause-refused c = refused_for_good _ _ _ _ tt tt (λ more h.
    let next = constructed_next c.args.kind c.args.self.now c.args.frame c.args.identifier c.args.octets.now more c.requires.due.top c.requires.due.tagged (c.requires.due.no_end more) h in
    omega (arith, next.0, ap length c.requires.due.top.1, length-reverse c.args.self.now.frames.items, c.len.ensures, c.if-len-self.true))

pub returns-in_err-used-clause-refused : goal.returns-in_err-used-clause-refused
returns-in_err-used-clause-refused c =
    let i = c.args.identifier in
    let octets = c.args.octets.now in
    let s = c.args.self.now in
    let end = c.args.frame.end in
    let at = s.taken + i in
    let said = c.in_err-used.ensures in
    let all : take (length octets - i) (drop i octets) ≡ drop i octets = take_rest octets i in
    let next : (more : List ℕ) → CanComplete c.args.kind s (octets ++ more) → IsExtentWithin true end at (drop i octets ++ more) =
    λ more h. (constructed_next c.args.kind s c.args.frame i octets more c.requires.due.top c.requires.due.tagged (c.requires.due.no_end more) h).1 in
    passed_on c.from_residual.result _ _ _ _ c.from_residual.ensures.1 (record {
      truncated = λ is h.
          subst (λ x. IsExtentWithin true end at x → ⊥) all (said.truncated (ap Err is))
          (subst (IsExtentWithin true end at) (append-nil (drop i octets)) (next [] (subst (CanComplete c.args.kind s) (sym (append-nil octets)) h)));
      cut = λ is.
          segment_constructed c.args.kind s c.args.frame i octets c.requires.due.whole (omega (arith, c.len.ensures, c.if-len-self.false)) c.requires.due.tagged
          (subst (IsLengthCut end at) all (said.cut (ap Err is)));
      never = λ final more h. subst (λ x. IsExtentWithin true end at (x ++ more) → ⊥) all (said.never final more) (next more h);
      numbers = said.numbers;
    })

-- what was opened
abbrev opened_by : goal.After-self-1 → Segments
opened_by c = record { frames = c.open.new.frames; levels = c.args.self.now.levels; taken = c.args.self.now.taken + c.args.identifier + c.in_ok-used.used; joined = c.args.self.now.joined }

opened : (c : goal.After-self-1) → IsSegmentOpened c.args.kind c.args.self.now (opened_by c) c.args.frame c.in_ok-used.opened c.requires.due.top.0 c.args.octets.now (c.args.identifier + c.in_ok-used.used)
opened c =
    let i = c.args.identifier in
    let octets = c.args.octets.now in
    let old = c.args.self.now in
    let used = c.in_ok-used.used in
    let g = c.in_ok-used.opened in
    let all : take (length octets - i) (drop i octets) ≡ drop i octets = take_rest octets i in
    let there : used ≤ length (drop i octets) = subst (λ x. used ≤ length x) all c.in_ok-used.ensures.value.0 in
    let form : Opens c.args.frame.end (old.taken + i) g (take used (drop i octets)) = subst (λ x. Opens c.args.frame.end (old.taken + i) g (take used x)) all c.in_ok-used.ensures.value.1 in
    let left : length (drop i octets) ≡ length octets - i = length-drop i octets in
    record {
      deepest = refl;
      before = c.requires.due.top.1;
      after = c.in-Ok.ensures ∙ ap (λ x. g ∷ x) c.requires.due.top.1;
      place = add_assoc old.taken i used;
      string = refl;
      there = omega (arith, there, left, c.requires.due.tagged.there);
      deep = omega (arith, ap length c.requires.due.top.1, length-reverse old.frames.items, c.len.ensures, c.if-len-self.false);
      whole = whole_held c.args.kind old.joined.octets.items old.joined.unused c.requires.due.whole;
      opening = opening_read (segment_of c.args.kind) c.args.frame.end old.taken i used g octets c.requires.due.tagged.there c.requires.due.tagged.tagged form;
    }

pub returns-in-Ok-clause-passed : goal.returns-in-Ok-clause-passed
returns-in-Ok-clause-passed c = record {
  taken = taken_opening c.args.kind c.args.self.now (opened_by c) c.args.frame c.in_ok-used.opened c.requires.due.top.0 c.args.octets.now (c.args.identifier + c.in_ok-used.used) (opened c);
  sound = sound_opening c.args.kind c.args.self.now (opened_by c) c.args.frame c.in_ok-used.opened c.requires.due.top.0 c.args.octets.now (c.args.identifier + c.in_ok-used.used) (opened c) c.requires.due.sound;
  smaller = smaller_opening c.args.kind c.args.self.now (opened_by c) c.args.frame c.in_ok-used.opened c.requires.due.top.0 c.args.octets.now (c.args.identifier + c.in_ok-used.used) (opened c);
}
