-- Lemmas on one step of reading a constructed string.
use Rattle.std.proofs.Common.{◌≡◌, ◌⊎◌, inl, inr, ◌+◌, ◌<◌, ◌≤◌, ℕ, true, false, List, [], ◌∷◌, ◌++◌, length, take, drop, refl, sym, ap, ◌∙◌, subst, arith, append-nil, All}
use Rattle.std.proofs.lemmas.List.{length-take-le, length-reverse}
use Rattle.std.proofs.lemmas.List.Elements.{All-cons, All-head, All-tail}
use Rattle.octets.specs.declared.TheConstants.{MAX_ENCODING}
use Rattle.octets.specs.Rule.{ber}
use Rattle.types.specs.Form.{IsPrimitive}
use Rattle.types.proofs.FormLemmas.{definite_unique, length-definite}
use Rattle.types.proofs.NestingLemmas.{IsAboveZero, definite_above}
use Rattle.encoding_parts.specs.declared.frame.Frame.{Frame}
use Rattle.encoding_parts.specs.declared.joined.Joined.{Joined}
use Rattle.encoding_parts.specs.declared.joined.SegmentKind.{SegmentKind}
use Rattle.encoding_parts.specs.declared.segments.Segments.{Segments}
use Rattle.encoding_parts.specs.Completing.{Completes, IsEndOf, IsOpening}
use Rattle.encoding_parts.specs.Head.{IsReadTag, IsTagWithin, IsExtentWithin, IsPrimitiveWithin}
use Rattle.encoding_parts.specs.Joined.{Element, segment_of, HoldsPiece, IsWholePiece, string_of, IsHeld, IsJoined}
use Rattle.encoding_parts.specs.Passed.{StandsIn}
use Rattle.encoding_parts.specs.Segments.{stack, CompletesBy, Completion, CanComplete, StandsBehind, IsTaken, IsTop, IsSound, IsWithin, EndsAt}
use Rattle.octets.proofs.FrontLemmas.{front_of_more}
use Rattle.encoding_parts.proofs.JoinedLemmas.{kept_segment, one_piece, unused_whole}
use Rattle.encoding_parts.proofs.PassedLemmas.{stands_end, stands_opening, stands_primitive}
use Rattle.encoding_parts.proofs.StepLemmas.{after_end, after_primitive, after_opening, begun, begun_constructed, begun_primitive, end_alone, ends_or_begins, opening_above, opening_fits, opening_some, opens_below, opens_room}

by_stack : (kind : SegmentKind) (s : Segments) (frames : List Frame) (octets : List ℕ) (total : List (Element kind)) (rest : List ℕ) → stack s.frames.items ≡ frames → Completion kind s octets total rest → CompletesBy kind s.levels frames s.taken (string_of kind s.joined) octets total rest
by_stack kind s frames octets total rest same h = subst (λ x. CompletesBy kind s.levels x s.taken (string_of kind s.joined) octets total rest) same h

pub to_stack : (kind : SegmentKind) (s : Segments) (levels : ℕ) (frames : List Frame) (taken : ℕ) (string : List (Element kind)) (octets : List ℕ) (total : List (Element kind)) (rest : List ℕ) → s.levels ≡ levels → stack s.frames.items ≡ frames → s.taken ≡ taken → string_of kind s.joined ≡ string
    → CompletesBy kind levels frames taken string octets total rest → Completion kind s octets total rest
to_stack kind s levels frames taken string octets total rest deep same place is h =
    subst (λ x. CompletesBy kind x (stack s.frames.items) s.taken (string_of kind s.joined) octets total rest) (sym deep)
    (subst (λ x. CompletesBy kind levels x s.taken (string_of kind s.joined) octets total rest) (sym same)
    (subst (λ x. CompletesBy kind levels frames x (string_of kind s.joined) octets total rest) (sym place)
    (subst (λ x. CompletesBy kind levels frames taken x octets total rest) (sym is) h)))

pub from_stack : (kind : SegmentKind) (s : Segments) (levels : ℕ) (frames : List Frame) (taken : ℕ) (string : List (Element kind)) (octets : List ℕ) (total : List (Element kind)) (rest : List ℕ) → s.levels ≡ levels → stack s.frames.items ≡ frames → s.taken ≡ taken → string_of kind s.joined ≡ string
    → Completion kind s octets total rest → CompletesBy kind levels frames taken string octets total rest
from_stack kind s levels frames taken string octets total rest deep same place is h =
    subst (λ x. CompletesBy kind levels frames taken x octets total rest) is
    (subst (λ x. CompletesBy kind levels frames x (string_of kind s.joined) octets total rest) place
    (subst (λ x. CompletesBy kind levels x s.taken (string_of kind s.joined) octets total rest) same
    (subst (λ x. CompletesBy kind x (stack s.frames.items) s.taken (string_of kind s.joined) octets total rest) deep h)))

-- where it stands, by what is open
pub stands_by : (kind : SegmentKind) (s : Segments) (levels : ℕ) (first : Frame) (place : ℕ) (frames : List Frame) (string : List (Element kind)) (passed : List ℕ) → stack s.frames.items ≡ frames → string_of kind s.joined ≡ string
    → StandsIn kind levels first place frames string passed → StandsBehind kind levels first place s passed
stands_by kind s levels first place frames string passed same is h =
    subst (λ x. StandsIn kind levels first place x (string_of kind s.joined) passed) (sym same) (subst (λ x. StandsIn kind levels first place frames x passed) (sym is) h)

stands_with : (kind : SegmentKind) (s : Segments) (levels : ℕ) (first : Frame) (place : ℕ) (frames : List Frame) (passed : List ℕ) → stack s.frames.items ≡ frames → StandsBehind kind levels first place s passed → StandsIn kind levels first place frames (string_of kind s.joined) passed
stands_with kind s levels first place frames passed same h = subst (λ x. StandsIn kind levels first place x (string_of kind s.joined) passed) same h

-- how many octets stand at the front
front_size : (used : ℕ) (octets : List ℕ) (taken : ℕ) → used ≤ length octets → taken + used ≡ taken + length (take used octets)
front_size used octets taken there = ap (λ n. taken + n) (sym (length-take-le used octets there))

pub taken_end : (kind : SegmentKind) (old new : Segments) (f : Frame) (fs : List Frame) (octets : List ℕ) (used : ℕ) → new.levels ≡ old.levels → stack old.frames.items ≡ f ∷ fs → stack new.frames.items ≡ fs → new.taken ≡ old.taken + used → new.joined ≡ old.joined
    → used ≤ length octets → IsEndOf f old.taken (take used octets) → IsTaken kind old new octets used
taken_end kind old new f fs octets used deepest top top' place string there e =
    let place' : new.taken ≡ old.taken + length (take used octets) = place ∙ front_size used octets old.taken there in
    let string' : string_of kind new.joined ≡ string_of kind old.joined = ap (string_of kind) string in
    let part = take used octets in
    record {
      there = there;
      place = place;
      deepest = deepest;
      light = omega (arith, ap (λ (j : Joined). length j.octets.items) string);
      alike = λ more. record {
        forth = λ total rest h.
            to_stack kind new old.levels fs (old.taken + length part) (string_of kind old.joined) more total rest deepest top' place' string'
            (after_end (segment_of kind) (HoldsPiece kind) (IsWholePiece kind) old.levels (one_piece kind) (kept_segment kind) f fs old.taken (string_of kind old.joined) total (part ++ more) rest part more e refl
            (by_stack kind old (f ∷ fs) (part ++ more) total rest top h));
        back = λ total rest h.
            subst (λ x. CompletesBy kind old.levels x old.taken (string_of kind old.joined) (part ++ more) total rest) (sym top)
            (Completes.ends part more (old.taken + length part) e refl refl
            (from_stack kind new old.levels fs (old.taken + length part) (string_of kind old.joined) more total rest deepest top' place' string' h));
      };
      stands = λ levels first place passed deep at h.
          stands_by kind new levels first place fs (string_of kind old.joined) (passed ++ part) top' string'
          (stands_end kind levels first place f fs (string_of kind old.joined) passed part (stands_with kind old levels first place (f ∷ fs) passed top h) (subst (λ n. IsEndOf f n part) at e));
    }

-- it stays sound
pub sound_end : (kind : SegmentKind) (old new : Segments) (f : Frame) (fs : List Frame) (octets : List ℕ) (used : ℕ) → new.levels ≡ old.levels → stack old.frames.items ≡ f ∷ fs → stack new.frames.items ≡ fs → new.taken ≡ old.taken + used → new.joined ≡ old.joined
    → used ≤ length octets → IsEndOf f old.taken (take used octets) → IsSound kind old → IsSound kind new
sound_end kind old new f fs octets used deepest top top' place string there e h =
    let size : length (take used octets) ≡ used = length-take-le used octets there in
    let within : All IsWithin (f ∷ fs) = subst (All IsWithin) top h.within in
    let first : IsWithin f = All-head IsWithin f fs within in
    record {
      within = subst (All IsWithin) (sym top') (All-tail IsWithin f fs within);
      few = omega (arith, h.few, deepest, length-reverse old.frames.items, length-reverse new.frames.items, ap length top, ap length top');
      place = omega (arith, end_fits f old.taken (take used octets) e first, size, place);
      held = subst (IsHeld kind) (sym string) h.held;
    }
  where
    end_fits : (f : Frame) (taken : ℕ) (mark : List ℕ) → IsEndOf f taken mark → IsWithin f → taken + length mark ≤ MAX_ENCODING
    end_fits f taken mark (inl e) w = omega (arith, e.there, ap length e.none, w.end)
    end_fits f taken mark (inr e) w = let room = w.room e.indefinite in omega (arith, e.fits, ap length e.zeros, room)

-- a constructed segment opens
pub record IsSegmentOpened (kind : SegmentKind) (old new : Segments) (f g : Frame) (fs : List Frame) (octets : List ℕ) (used : ℕ) : Type 0 where
  pub deepest : new.levels ≡ old.levels
  pub before : stack old.frames.items ≡ f ∷ fs
  pub after : stack new.frames.items ≡ g ∷ f ∷ fs
  pub place : new.taken ≡ old.taken + used
  pub string : new.joined ≡ old.joined
  pub there : used ≤ length octets
  pub deep : length (f ∷ fs) < old.levels
  pub whole : IsWholePiece kind (string_of kind old.joined)
  pub opening : IsOpening (segment_of kind) f.end old.taken g (take used octets)

pub sound_opening : (kind : SegmentKind) (old new : Segments) (f g : Frame) (fs : List Frame) (octets : List ℕ) (used : ℕ) → IsSegmentOpened kind old new f g fs octets used → IsSound kind old → IsSound kind new
sound_opening kind old new f g fs octets used k h =
    let size : length (take used octets) ≡ used = length-take-le used octets k.there in
    let within : All IsWithin (f ∷ fs) = subst (All IsWithin) k.before h.within in
    let outer : IsWithin f = All-head IsWithin f fs within in
    let limit = outer.end in
    let o = k.opening in
    let at = old.taken + length o.identifier in
    let below = opens_below f.end at g o.size o.form in
    let first : IsWithin g = record {
      end = omega (arith, below, limit);
      room = λ marked. let room = opens_room f.end at g o.size o.form marked in omega (arith, room, limit);
    } in
    record {
      within = subst (All IsWithin) (sym k.after) (All-cons IsWithin g (f ∷ fs) first within);
      few = omega (arith, k.deep, k.deepest, length-reverse new.frames.items, ap length k.after);
      place = omega (arith, opening_fits (segment_of kind) f.end old.taken g (take used octets) o, size, k.place, limit);
      held = subst (IsHeld kind) (sym k.string) h.held;
    }

pub smaller_opening : (kind : SegmentKind) (old new : Segments) (f g : Frame) (fs : List Frame) (octets : List ℕ) (used : ℕ) → IsSegmentOpened kind old new f g fs octets used → length new.frames.items < length old.frames.items + used
smaller_opening kind old new f g fs octets used k =
    let size : length (take used octets) ≡ used = length-take-le used octets k.there in
    omega (arith, opening_some (segment_of kind) f.end old.taken g (take used octets) k.opening, size, length-reverse old.frames.items, length-reverse new.frames.items, ap length k.before, ap length k.after)

-- nothing ends where a part begins
no_end : (f : Frame) (taken : ℕ) (part more : List ℕ) → IsAboveZero part → taken + length part ≤ f.end → EndsAt f taken (part ++ more) → ⊥
no_end f taken part more above fits e = end_alone f taken e.mark part e.others more e.ends above fits (sym e.parts)

pub taken_primitive : (kind : SegmentKind) (old new : Segments) (f : Frame) (fs : List Frame) (octets contents : List ℕ) (used : ℕ) → new.levels ≡ old.levels → stack old.frames.items ≡ f ∷ fs → stack new.frames.items ≡ f ∷ fs → new.taken ≡ old.taken + used
    → used ≤ length octets → old.taken + used ≤ f.end → IsWholePiece kind (string_of kind old.joined) → IsPrimitive ber (segment_of kind) contents (take used octets) → IsJoined kind old.joined new.joined contents
    → length new.joined.octets.items ≤ length old.joined.octets.items + length contents → IsTaken kind old new octets used
taken_primitive kind old new f fs octets contents used deepest top top' place there fits whole p j light =
    let part = take used octets in
    let size : length part ≡ used = length-take-le used octets there in
    let place' : new.taken ≡ old.taken + length part = place ∙ front_size used octets old.taken there in
    let fits' : old.taken + length part ≤ f.end = omega (arith, fits, size) in
    let above = definite_above (segment_of kind) false contents part (kept_segment kind) p in
    let sizes = length-definite ber (segment_of kind) false contents part p in
    record {
      there = there;
      place = place;
      deepest = deepest;
      light = omega (arith, light, sizes, size);
      alike = λ more. record {
        forth = λ total rest h.
            to_stack kind new old.levels (f ∷ fs) (old.taken + length part) (string_of kind old.joined ++ j.piece) more total rest deepest top' place' j.joined
            (after_primitive (segment_of kind) (HoldsPiece kind) (IsWholePiece kind) old.levels (one_piece kind) (kept_segment kind) f fs old.taken (string_of kind old.joined) total j.piece (part ++ more) rest contents part more
            (no_end f old.taken part more above fits') p j.holds refl (by_stack kind old (f ∷ fs) (part ++ more) total rest top h));
        back = λ total rest h.
            subst (λ x. CompletesBy kind old.levels x old.taken (string_of kind old.joined) (part ++ more) total rest) (sym top)
            (Completes.segment j.piece (string_of kind old.joined ++ j.piece) part more (old.taken + length part) whole
            (record { contents = contents; holds = j.holds; primitive = p; fits = fits' })
            refl refl refl
            (from_stack kind new old.levels (f ∷ fs) (old.taken + length part) (string_of kind old.joined ++ j.piece) more total rest deepest top' place' j.joined h));
      };
      stands = λ levels first place passed deep at h.
          stands_by kind new levels first place (f ∷ fs) (string_of kind old.joined ++ j.piece) (passed ++ part) top' j.joined
          (stands_primitive kind levels first place f fs (string_of kind old.joined) j.piece passed contents part (stands_with kind old levels first place (f ∷ fs) passed top h) whole j.holds p (omega (arith, at, fits')));
    }

pub taken_opening : (kind : SegmentKind) (old new : Segments) (f g : Frame) (fs : List Frame) (octets : List ℕ) (used : ℕ) → IsSegmentOpened kind old new f g fs octets used → IsTaken kind old new octets used
taken_opening kind old new f g fs octets used k =
    let part = take used octets in
    let place' : new.taken ≡ old.taken + length part = k.place ∙ front_size used octets old.taken k.there in
    let string' : string_of kind new.joined ≡ string_of kind old.joined = ap (string_of kind) k.string in
    let above = opening_above (segment_of kind) f.end old.taken g part (kept_segment kind) k.opening in
    let fits = opening_fits (segment_of kind) f.end old.taken g part k.opening in
    record {
      there = k.there;
      place = k.place;
      deepest = k.deepest;
      light = omega (arith, ap (λ (j : Joined). length j.octets.items) k.string);
      alike = λ more. record {
        forth = λ total rest h.
            to_stack kind new old.levels (g ∷ f ∷ fs) (old.taken + length part) (string_of kind old.joined) more total rest k.deepest k.after place' string'
            (after_opening (segment_of kind) (HoldsPiece kind) (IsWholePiece kind) old.levels (one_piece kind) (kept_segment kind) f g fs old.taken (string_of kind old.joined) total (part ++ more) rest part more
            (no_end f old.taken part more above fits) k.opening refl (by_stack kind old (f ∷ fs) (part ++ more) total rest k.before h));
        back = λ total rest h.
            subst (λ x. CompletesBy kind old.levels x old.taken (string_of kind old.joined) (part ++ more) total rest) (sym k.before)
            (Completes.opens g part more (old.taken + length part) k.whole k.deep k.opening
            refl refl
            (from_stack kind new old.levels (g ∷ f ∷ fs) (old.taken + length part) (string_of kind old.joined) more total rest k.deepest k.after place' string' h));
      };
      stands = λ levels first place passed deep at h.
          stands_by kind new levels first place (g ∷ f ∷ fs) (string_of kind old.joined) (passed ++ part) k.after string'
          (stands_opening kind levels first place f g fs (string_of kind old.joined) passed part (stands_with kind old levels first place (f ∷ fs) passed k.before h) k.whole
          (subst (λ n. length (f ∷ fs) < n) deep k.deep) (subst (λ n. IsOpening (segment_of kind) f.end n g part) at k.opening));
    }

-- what completes the string ends the innermost open encoding, or begins a segment
pub first_of : (kind : SegmentKind) (s : Segments) (f : Frame) (octets : List ℕ) → IsTop f s.frames.items → CanComplete kind s octets → EndsAt f s.taken octets ⊎ IsTagWithin (segment_of kind) f.end s.taken octets
first_of kind s f octets top h =
    ends_or_begins (segment_of kind) (HoldsPiece kind) (IsWholePiece kind) s.levels (one_piece kind) (kept_segment kind) f top.0 s.taken (string_of kind s.joined) h.0 octets h.1 (by_stack kind s (f ∷ top.0) octets h.0 h.1 top.1 h.2)

pub tag_of_next : (kind : SegmentKind) (s : Segments) (f : Frame) (octets : List ℕ) → IsTop f s.frames.items → (EndsAt f s.taken octets → ⊥) → CanComplete kind s octets → IsTagWithin (segment_of kind) f.end s.taken octets
tag_of_next kind s f octets top absent h = elim (first_of kind s f octets top h) [ inl e ↦ absurd (absent e) | inr t ↦ t ]

-- nothing but ends may follow a segment with unused bits
pub whole_of_next : (kind : SegmentKind) (s : Segments) (f : Frame) (octets : List ℕ) → IsTop f s.frames.items → IsHeld kind s.joined → (EndsAt f s.taken octets → ⊥) → CanComplete kind s octets → s.joined.unused ≡ 0
whole_of_next kind s f octets top held absent h =
    elim (begun (segment_of kind) (HoldsPiece kind) (IsWholePiece kind) s.levels (one_piece kind) (kept_segment kind) f top.0 s.taken (string_of kind s.joined) h.0 octets h.1 absent (by_stack kind s (f ∷ top.0) octets h.0 h.1 top.1 h.2)) [
      | inl b ↦ unused_whole kind s.joined.octets.items s.joined.unused held b.whole
      | inr b ↦ unused_whole kind s.joined.octets.items s.joined.unused held b.whole
    ]

pub constructed_next : (kind : SegmentKind) (s : Segments) (f : Frame) (i : ℕ) (octets more : List ℕ) → (top : IsTop f s.frames.items) → IsReadTag (segment_of kind) f.end s.taken octets true i → (EndsAt f s.taken (octets ++ more) → ⊥) → CanComplete kind s (octets ++ more)
    → (length (f ∷ top.0) < s.levels) × IsExtentWithin true f.end (s.taken + i) (drop i octets ++ more)
constructed_next kind s f i octets more top read absent h =
    begun_constructed (segment_of kind) (HoldsPiece kind) (IsWholePiece kind) s.levels (one_piece kind) (kept_segment kind) f top.0 s.taken i (string_of kind s.joined) h.0 octets more h.1 read.there read.tagged absent (by_stack kind s (f ∷ top.0) (octets ++ more) h.0 h.1 top.1 h.2)

pub primitive_next : (kind : SegmentKind) (s : Segments) (f : Frame) (i : ℕ) (octets more : List ℕ) → (top : IsTop f s.frames.items) → IsReadTag (segment_of kind) f.end s.taken octets false i → (EndsAt f s.taken (octets ++ more) → ⊥) → CanComplete kind s (octets ++ more)
    → IsPrimitiveWithin (segment_of kind) f.end s.taken (octets ++ more)
primitive_next kind s f i octets more top read absent h =
    let b = begun_primitive (segment_of kind) (HoldsPiece kind) (IsWholePiece kind) s.levels (one_piece kind) (kept_segment kind) f top.0 s.taken i (string_of kind s.joined) h.0 octets more h.1 read.tagged absent (by_stack kind s (f ∷ top.0) (octets ++ more) h.0 h.1 top.1 h.2) in
    record { contents = b.segment.contents; part = b.part; rest = b.others; primitive = b.segment.primitive; fits = b.segment.fits; parts = b.is }

-- the contents octets that were read hold a piece
pub piece_next : (kind : SegmentKind) (s : Segments) (f : Frame) (i used : ℕ) (octets contents more : List ℕ) → (top : IsTop f s.frames.items) → IsReadTag (segment_of kind) f.end s.taken octets false i → (EndsAt f s.taken (octets ++ more) → ⊥)
    → IsPrimitive ber (segment_of kind) contents (take used octets) → CanComplete kind s (octets ++ more) → (piece : List (Element kind)) × HoldsPiece kind piece contents
piece_next kind s f i used octets contents more top read absent p h =
    let b = begun_primitive (segment_of kind) (HoldsPiece kind) (IsWholePiece kind) s.levels (one_piece kind) (kept_segment kind) f top.0 s.taken i (string_of kind s.joined) h.0 octets more h.1 read.tagged absent (by_stack kind s (f ∷ top.0) (octets ++ more) h.0 h.1 top.1 h.2) in
    let same = definite_unique ber ber (segment_of kind) (segment_of kind) false false contents b.segment.contents (take used octets) b.part (drop used octets ++ more) b.others p b.segment.primitive (sym (front_of_more used octets more) ∙ b.is) in
    (b.piece, subst (HoldsPiece kind b.piece) (sym same.contents) b.segment.holds)

pub tag_of_next_whole : (kind : SegmentKind) (s : Segments) (f : Frame) (octets : List ℕ) → IsTop f s.frames.items → ((more : List ℕ) → EndsAt f s.taken (octets ++ more) → ⊥) → CanComplete kind s octets → IsTagWithin (segment_of kind) f.end s.taken octets
tag_of_next_whole kind s f octets top absent h = tag_of_next kind s f octets top (λ e. absent [] (subst (EndsAt f s.taken) (sym (append-nil octets)) e)) h
