-- Lemmas on primitive segments that are taken in a run.
use Rattle.std.proofs.Common.{◌≡◌, ◌+◌, ◌-◌, ◌≤◌, ℕ, List, ◌∷◌, ◌++◌, length, take, drop, refl, sym, ap, ◌∙◌, subst, arith, append-nil, append_assoc, length-append, length-drop, length-take-le, take-add, drop-drop, All}
use Rattle.std.specs.Prelude.{slice_range}
use Rattle.std.proofs.lemmas.List.{take_rest}
use Rattle.std.proofs.lemmas.List.Elements.{All-head}
use Rattle.encoding_parts.specs.declared.frame.Frame.{Frame}
use Rattle.encoding_parts.specs.declared.joined.Joined.{Joined}
use Rattle.encoding_parts.specs.declared.joined.SegmentKind.{SegmentKind}
use Rattle.encoding_parts.specs.declared.segments.Segments.{Segments}
use Rattle.encoding_parts.specs.Joined.{AreHeld, HoldsSame, IsJoined, string_held, string_of}
use Rattle.encoding_parts.specs.Segments.{stack, Completion, StandsBehind, IsRun, IsShortSegment, IsSound, IsTaken, IsTop, IsWithin, Passes}
use Rattle.encoding_parts.proofs.JoinedLemmas.{whole_held}
use Rattle.encoding_parts.proofs.SegmentsLemmas.{from_stack, stands_by, taken_primitive, to_stack}

same_string : (kind : SegmentKind) (old new : Joined) → HoldsSame old new → string_of kind new ≡ string_of kind old
same_string kind old new same = ap (λ o. string_held kind o new.unused) same.octets ∙ ap (string_held kind old.octets.items) same.unused

-- none of the octets were taken
pub none_taken : (kind : SegmentKind) (s : Segments) (joined : Joined) (octets : List ℕ) → HoldsSame s.joined joined → IsTaken kind s (record { frames = s.frames; levels = s.levels; taken = s.taken; joined = joined }) octets 0
none_taken kind s joined octets same =
    let new : Segments = record { frames = s.frames; levels = s.levels; taken = s.taken; joined = joined } in
    let string = same_string kind s.joined joined same in
    record {
      there = omega arith;
      place = omega arith;
      deepest = refl;
      light = omega (arith, ap length same.octets);
      alike = λ more. record {
        forth = λ total rest h. to_stack kind new s.levels (stack s.frames.items) s.taken (string_of kind s.joined) more total rest refl refl refl string h;
        back = λ total rest h. from_stack kind new s.levels (stack s.frames.items) s.taken (string_of kind s.joined) more total rest refl refl refl string h;
      };
      stands = λ levels first place passed deep at h.
          stands_by kind new levels first place (stack s.frames.items) (string_of kind s.joined) (passed ++ take 0 octets) refl string (subst (StandsBehind kind levels first place s) (sym (append-nil passed)) h);
    }

-- some were taken, and then some of those behind them
pub more_taken : (kind : SegmentKind) (old mid new : Segments) (octets : List ℕ) (at used : ℕ) → IsTaken kind old mid octets at → IsTaken kind mid new (drop at octets) used → IsTaken kind old new octets (at + used)
more_taken kind old mid new octets at used h k =
    let first = take at octets in
    let second = take used (drop at octets) in
    let both : take (at + used) octets ≡ first ++ second = take-add at used octets in
    record {
      there = omega (arith, h.there, k.there, length-drop at octets);
      place = omega (arith, h.place, k.place);
      deepest = k.deepest ∙ h.deepest;
      light = omega (arith, h.light, k.light);
      alike = λ more.
          let is : take (at + used) octets ++ more ≡ first ++ (second ++ more) = ap (λ x. x ++ more) both ∙ append_assoc first second more in
          record {
            forth = λ total rest c. (k.alike more).forth total rest ((h.alike (second ++ more)).forth total rest (subst (λ o. Completion kind old o total rest) is c));
            back = λ total rest c. subst (λ o. Completion kind old o total rest) (sym is) ((h.alike (second ++ more)).back total rest ((k.alike more).back total rest c));
          };
      stands = λ levels outer place passed deep from s.
          let there : mid.taken ≡ place + length (passed ++ first) = omega (arith, h.place, from, length-append passed first, length-take-le at octets h.there) in
          let is : (passed ++ first) ++ second ≡ passed ++ take (at + used) octets = append_assoc passed first second ∙ ap (λ x. passed ++ x) (sym both) in
          subst (StandsBehind kind levels outer place new) is (k.stands levels outer place (passed ++ first) (h.deepest ∙ deep) there (h.stands levels outer place passed deep from s));
    }

-- a run of no segments
pub empty_run : (kind : SegmentKind) (s : Segments) (octets : List ℕ) → IsSound kind s → IsRun kind s s octets 0
empty_run kind s octets sound = record {
  taken = none_taken kind s s.joined octets (record { octets = refl; unused = refl });
  sound = sound;
  frames = refl;
}

-- a run behind which no other segment could be joined
pub run_kept : (kind : SegmentKind) (old mid : Segments) (joined : Joined) (octets : List ℕ) (at : ℕ) → IsRun kind old mid octets at → HoldsSame mid.joined joined
    → IsRun kind old (record { frames = mid.frames; levels = mid.levels; taken = mid.taken; joined = joined }) octets at
run_kept kind old mid joined octets at run same =
    let new : Segments = record { frames = mid.frames; levels = mid.levels; taken = mid.taken; joined = joined } in
    let none : at + 0 ≡ at = omega arith in
    record {
      taken = subst (IsTaken kind old new octets) none (more_taken kind old mid new octets at 0 run.taken (none_taken kind mid joined (drop at octets) same));
      sound = record {
        within = run.sound.within;
        few = run.sound.few;
        place = run.sound.place;
        held = subst (λ o. AreHeld kind o joined.unused) (sym same.octets) (subst (AreHeld kind mid.joined.octets.items) (sym same.unused) run.sound.held);
      };
      frames = run.frames;
    }

-- the contents octets of a segment behind a run
contents_behind : (at used : ℕ) (octets : List ℕ) → slice_range (drop at octets) 2 used ≡ slice_range octets (at + 2) (at + used)
contents_behind at used octets =
    let count : used - 2 ≡ (at + used) - (at + 2) = omega arith in
    ap (take (used - 2)) (drop-drop 2 at octets) ∙ ap (λ n. take n (drop (at + 2) octets)) count

-- a run, and a segment more
pub longer_run : (kind : SegmentKind) (old mid : Segments) (joined : Joined) (f : Frame) (octets : List ℕ) (at used : ℕ) → IsTop f old.frames.items → IsRun kind old mid octets at → IsShortSegment kind mid f (take (length octets - at) (drop at octets)) used
    → IsJoined kind mid.joined joined (slice_range octets (at + 2) (at + used)) → length joined.octets.items ≤ length mid.joined.octets.items + length (slice_range octets (at + 2) (at + used))
    → IsRun kind old (record { frames = mid.frames; levels = mid.levels; taken = mid.taken + used; joined = joined }) octets (at + used)
longer_run kind old mid joined f octets at used top run short' joins light =
    let short : IsShortSegment kind mid f (drop at octets) used = subst (λ o. IsShortSegment kind mid f o used) (take_rest octets at) short' in
    let new : Segments = record { frames = mid.frames; levels = mid.levels; taken = mid.taken + used; joined = joined } in
    let contents = slice_range (drop at octets) 2 used in
    let is = sym (contents_behind at used octets) in
    let opened : stack mid.frames.items ≡ f ∷ top.0 = ap stack run.frames ∙ top.1 in
    let outer : IsWithin f = All-head IsWithin f top.0 (subst (All IsWithin) opened run.sound.within) in
    let limit = outer.end in
    record {
      taken = more_taken kind old mid new octets at used run.taken
          (taken_primitive kind mid new f top.0 (drop at octets) contents used refl opened opened refl short.place.there short.place.fits (whole_held kind mid.joined.octets.items mid.joined.unused short.whole) short.place.primitive
          (subst (IsJoined kind mid.joined joined) is joins) (subst (λ c. length joined.octets.items ≤ length mid.joined.octets.items + length c) is light));
      sound = record {
        within = run.sound.within;
        few = run.sound.few;
        place = omega (arith, short.place.fits, limit);
        held = joins.held;
      };
      frames = run.frames;
    }

-- what a run leaves of the octets
pub run_there : (kind : SegmentKind) (old mid : Segments) (f : Frame) (octets : List ℕ) (at used : ℕ) → IsRun kind old mid octets at → IsShortSegment kind mid f (take (length octets - at) (drop at octets)) used → at + used ≤ length octets
run_there kind old mid f octets at used run short =
    let behind = subst (λ o. IsShortSegment kind mid f o used) (take_rest octets at) short in
    omega (arith, run.taken.there, behind.place.there, length-drop at octets)

-- a segment, and a run behind it
pub run_passes : (kind : SegmentKind) (old mid new : Segments) (octets : List ℕ) (used more : ℕ) → Passes kind old mid octets used → IsRun kind mid new (take (length octets - used) (drop used octets)) more → Passes kind old new octets (used + more)
run_passes kind old mid new octets used more h run' =
    let run = subst (λ o. IsRun kind mid new o more) (take_rest octets used) run' in
    record {
      taken = more_taken kind old mid new octets used more h.taken run.taken;
      sound = run.sound;
      smaller = omega (arith, h.smaller, ap length run.frames);
    }
