-- Lemmas on what completes a constructed string: it is the segments that are still to come, level by
-- level.
use Rattle.std.proofs.Common.{◌≡◌, ◌≢◌, inl, inr, ◌+◌, ◌-◌, ◌≤◌, ℕ, suc, true, false, List, [], ◌∷◌, ◌++◌, length, refl, sym, ap, ap₂, ◌∙◌, subst, arith, append_assoc, append-nil, length-append}
use Rattle.std.specs.List.{AllByRecursion, concat}
use Rattle.octets.specs.declared.tag.Tag.{Tag}
use Rattle.octets.specs.Identifier.{IsIdentifier}
use Rattle.octets.specs.Length.{IsLength}
use Rattle.octets.specs.Rule.{ber}
use Rattle.types.specs.Form.{IsConstructed}
use Rattle.types.specs.FirstTags.{IsUsable}
use Rattle.types.specs.Depth.{IsNested}
use Rattle.types.specs.Strings.{AreSegments}
use Rattle.types.proofs.FormLemmas.{length-definite}
use Rattle.types.proofs.NestingLemmas.{IsAboveZero, definite_above, constructed_above}
use Rattle.encoding_parts.specs.declared.frame.Frame.{Frame}
use Rattle.encoding_parts.specs.Completing.{Completes, IsEndOf, Opens, IsOpening}
use Rattle.encoding_parts.proofs.DepthLemmas.{nested_primitive, nested_constructed, SegmentsWithin}

pub not_empty : (a b : List ℕ) → IsAboveZero a → a ++ b ≢ []
not_empty a b h same = let begins : (h.first ∷ h.others) ++ b ≡ [] = ap (λ x. x ++ b) (sym h.is) ∙ same in cc

-- the identifier and length octets of a constructed encoding, what is within and its end
pub record IsFramed (tag : Tag) (end taken : ℕ) (contents octets : List ℕ) : Type 0 where
  pub opened : Frame
  pub head : List ℕ
  pub mark : List ℕ
  pub opening : IsOpening tag end taken opened head
  pub ends : IsEndOf opened (taken + length head + length contents) mark
  pub fits : taken + length head + length contents ≤ opened.end
  pub joined : octets ≡ head ++ (contents ++ mark)

pub framed : (tag : Tag) (end taken : ℕ) (contents octets : List ℕ) → IsConstructed ber tag contents octets → taken + length octets ≤ end → IsFramed tag end taken contents octets
framed tag end taken contents octets (inl h) fits =
    let head = h.identifier ++ h.size in
    let heads : length head ≡ length h.identifier + length h.size = length-append h.identifier h.size in
    let size = length-definite ber tag true contents octets h in
    record {
      opened = record { definite = true; end = taken + length h.identifier + length h.size + length contents };
      head = head;
      mark = [];
      opening = record {
        identifier = h.identifier;
        size = h.size;
        tagged = h.tagged;
        joined = refl;
        form = inl (record { contents = length contents; sized = h.sized; definite = refl; ends = refl; fits = omega arith });
      };
      ends = inl (record { definite = refl; none = refl; there = omega arith });
      fits = omega arith;
      joined = h.joined ∙ (sym (append_assoc h.identifier h.size contents) ∙ ap (λ x. h.identifier ++ h.size ++ x) (sym (append-nil contents)));
    }
framed tag end taken contents octets (inr h) fits =
    let head = h.identifier ++ (128 ∷ []) in
    let heads : length head ≡ length h.identifier + 1 = length-append h.identifier (128 ∷ []) in
    let size : length octets ≡ length h.identifier + (1 + (length contents + 2)) = ap length h.joined ∙ (length-append h.identifier (128 ∷ (contents ++ (0 ∷ 0 ∷ []))) ∙ omega (arith, length-append contents (0 ∷ 0 ∷ []))) in
    record {
      opened = record { definite = false; end = end - 2 };
      head = head;
      mark = 0 ∷ 0 ∷ [];
      opening = record {
        identifier = h.identifier;
        size = 128 ∷ [];
        tagged = h.tagged;
        joined = refl;
        form = inr (record { mark = refl; indefinite = refl; ends = omega arith; fits = omega arith });
      };
      ends = inr (record { indefinite = refl; zeros = refl; fits = omega arith });
      fits = omega arith;
      joined = h.joined ∙ sym (append_assoc h.identifier (128 ∷ []) (contents ++ (0 ∷ 0 ∷ [])));
    }

-- and the other way round
form_of_frame : (tag : Tag) (end taken after : ℕ) (opened : Frame) (identifier size contents mark : List ℕ) → IsIdentifier tag true identifier → Opens end (taken + length identifier) opened size → IsEndOf opened after mark
    → after ≡ taken + (length identifier + length size) + length contents → IsConstructed ber tag contents (identifier ++ size ++ (contents ++ mark))
form_of_frame tag end taken after opened identifier size contents mark h (inl f) (inl e) place =
    let count : f.contents ≡ length contents = omega (arith, f.ends, e.there) in
    inl (record {
      identifier = identifier;
      size = size;
      tagged = h;
      sized = subst (λ n. IsLength n size) count f.sized;
      joined = append_assoc identifier size (contents ++ mark) ∙ ap (λ x. identifier ++ (size ++ x)) (ap (λ x. contents ++ x) e.none ∙ append-nil contents);
    })
form_of_frame tag end taken after opened identifier size contents mark h (inl f) (inr e) place = let no : true ≡ false = sym f.definite ∙ e.indefinite in cc
form_of_frame tag end taken after opened identifier size contents mark h (inr f) (inl e) place = let no : true ≡ false = sym e.definite ∙ f.indefinite in cc
form_of_frame tag end taken after opened identifier size contents mark h (inr f) (inr e) place =
    inr (record {
      identifier = identifier;
      tagged = h;
      joined = ap₂ (λ x y. identifier ++ x ++ (contents ++ y)) f.mark e.zeros ∙ append_assoc identifier (128 ∷ []) (contents ++ (0 ∷ 0 ∷ []));
    })

pub constructed_of_frame : (tag : Tag) (end taken after : ℕ) (opened : Frame) (head contents mark : List ℕ) → IsOpening tag end taken opened head → IsEndOf opened after mark → after ≡ taken + length head + length contents
    → IsConstructed ber tag contents (head ++ (contents ++ mark))
constructed_of_frame tag end taken after opened head contents mark h e place =
    subst (λ x. IsConstructed ber tag contents (x ++ (contents ++ mark))) (sym h.joined)
    (form_of_frame tag end taken after opened h.identifier h.size contents mark h.tagged h.form e (omega (arith, place, ap length h.joined, length-append h.identifier h.size)))

module _ {A : Type 0} (inner : Tag) (Holds : List A → List ℕ → Type 0) (Whole : List A → Type 0) (levels : ℕ) (kept : IsUsable inner)
    (joins : (a b : List A) → Whole a → Whole b → Whole (a ++ b)) (parts : (a b : List A) → Whole a → Whole (a ++ b) → Whole b) where
  -- segments, and then what completes the string
  pub completes_segments : (n : ℕ) (p : List A) (c : List ℕ) → SegmentsWithin inner Holds Whole n p c
      → (frame : Frame) (frames : List Frame) (taken after : ℕ) (string joined total : List A) (octets others rest : List ℕ)
      → length (frame ∷ frames) + n ≡ levels → (c ≢ [] → Whole string) → after ≡ taken + length c → after ≤ frame.end → joined ≡ string ++ p → octets ≡ c ++ others
      → Completes inner Holds Whole levels (frame ∷ frames) after joined others total rest → Completes inner Holds Whole levels (frame ∷ frames) taken string octets total rest
  completes_segments n p c SegmentsWithin.none frame frames taken after string joined total octets others rest deep gate place fits join is h =
      let place' : after ≡ taken = omega (arith, place) in
      let join' : joined ≡ string = join ∙ append-nil string in
      subst (λ t. Completes inner Holds Whole levels (frame ∷ frames) t string octets total rest) place'
      (subst (λ s. Completes inner Holds Whole levels (frame ∷ frames) after s octets total rest) join'
      (subst (λ o. Completes inner Holds Whole levels (frame ∷ frames) after joined o total rest) (sym is) h))
  completes_segments n p c (SegmentsWithin.primitive {others = q} {rest = d} piece contents b holds w k f) frame frames taken after string joined total octets others rest deep gate place fits join is h =
      let above = definite_above inner false contents b kept w in
      let whole : Whole string = gate (not_empty b d above) in
      let size : length (b ++ d) ≡ length b + length d = length-append b d in
      Completes.segment piece (string ++ piece) b (d ++ others) (taken + length b) whole
      (record { contents = contents; holds = holds; primitive = w; fits = omega arith })
      (is ∙ append_assoc b d others) refl refl
      (completes_segments n q d k frame frames (taken + length b) after (string ++ piece) joined total (d ++ others) others rest deep
      (λ more. joins string piece whole (f more)) (omega arith) fits (join ∙ sym (append_assoc string piece q)) refl h)
  completes_segments n p c (SegmentsWithin.constructed {others = q} {rest = d} m piece contents b depth inside w k f) frame frames taken after string joined total octets others rest deep gate place fits join is h =
      let above = constructed_above inner contents b kept w in
      let whole : Whole string = gate (not_empty b d above) in
      let size : length (b ++ d) ≡ length b + length d = length-append b d in
      let fr = framed inner frame.end taken contents b w (omega arith) in
      let length_b : length b ≡ length fr.head + (length contents + length fr.mark) = ap length fr.joined ∙ (length-append fr.head (contents ++ fr.mark) ∙ ap (λ x. length fr.head + x) (length-append contents fr.mark)) in
      let after_b = taken + length fr.head + length contents + length fr.mark in
      let tail : Completes inner Holds Whole levels (frame ∷ frames) after_b (string ++ piece) (d ++ others) total rest =
      completes_segments n q d k frame frames after_b after (string ++ piece) joined total (d ++ others) others rest deep
      (λ more. joins string piece whole (f more)) (omega arith) fits (join ∙ sym (append_assoc string piece q)) refl h in
      let ending : Completes inner Holds Whole levels (fr.opened ∷ frame ∷ frames) (taken + length fr.head + length contents) (string ++ piece) (fr.mark ++ (d ++ others)) total rest =
      Completes.ends fr.mark (d ++ others) after_b fr.ends refl refl tail in
      Completes.opens fr.opened fr.head (contents ++ (fr.mark ++ (d ++ others))) (taken + length fr.head) whole (omega arith) fr.opening
      (is ∙ (append_assoc b d others ∙ (ap (λ x. x ++ (d ++ others)) fr.joined ∙ (append_assoc fr.head (contents ++ fr.mark) (d ++ others) ∙ ap (λ x. fr.head ++ x) (append_assoc contents fr.mark (d ++ others))))))
      refl
      (completes_segments m piece contents inside fr.opened (frame ∷ frames) (taken + length fr.head) (taken + length fr.head + length contents) string (string ++ piece) total (contents ++ (fr.mark ++ (d ++ others))) (fr.mark ++ (d ++ others)) rest
      (omega arith) (λ more. whole) refl fr.fits refl refl ending)

  -- what stands in one open encoding, its end, and what follows
  pub record IsLevel (Next : ℕ → List A → List ℕ → Type 0) (n : ℕ) (frame : Frame) (taken : ℕ) (string : List A) (octets : List ℕ) : Type 0 where
    pub piece : List A
    pub encodings : List (List ℕ)
    pub segments : AreSegments inner Holds Whole piece (concat encodings)
    pub each : AllByRecursion (IsNested n) encodings
    pub gate : concat encodings ≢ [] → Whole string
    pub mark : List ℕ
    pub others : List ℕ
    pub ends : IsEndOf frame (taken + length (concat encodings)) mark
    pub is : octets ≡ concat encodings ++ (mark ++ others)
    pub after : ℕ
    pub place : after ≡ taken + length (concat encodings) + length mark
    pub joined : List A
    pub join : joined ≡ string ++ piece
    pub next : Next after joined others

  abbrev pub Unwound : (total : List A) (rest : List ℕ) → List Frame → ℕ → List A → List ℕ → Type 0
  Unwound total rest [] taken string octets = (total ≡ string) × (octets ≡ rest)
  Unwound total rest (frame ∷ frames) taken string octets = IsLevel (Unwound total rest frames) (levels - length (frame ∷ frames)) frame taken string octets

  pub unwind : (frames : List Frame) (taken : ℕ) (string total : List A) (octets rest : List ℕ) → Completes inner Holds Whole levels frames taken string octets total rest → Unwound total rest frames taken string octets
  unwind frames taken string total octets rest (Completes.complete same is) = (same, is)
  unwind frames taken string total octets rest (Completes.ends {frame = f} {frames = fs} mark others after e is place k) =
      record {
        piece = [];
        encodings = [];
        segments = AreSegments.none;
        each = tt;
        gate = λ more. absurd (more refl);
        mark = mark;
        others = others;
        ends = subst (λ t. IsEndOf f t mark) (omega arith) e;
        is = is;
        after = after;
        place = omega (arith, place);
        joined = string;
        join = sym (append-nil string);
        next = unwind fs after string total others rest k;
      }
  unwind frames taken string total octets rest (Completes.segment {frame = f} {frames = fs} piece joined part others after whole s is place join k) =
      let l = unwind (f ∷ fs) after joined total others rest k in
      let c = concat l.encodings in
      let size : length (part ++ c) ≡ length part + length c = length-append part c in
      record {
        piece = piece ++ l.piece;
        encodings = part ∷ l.encodings;
        segments = AreSegments.primitive piece s.contents part s.holds s.primitive l.segments (λ more. parts string piece whole (subst Whole join (l.gate more)));
        each = (nested_primitive (levels - length (f ∷ fs)) part record { tag = inner; usable = kept; contents = s.contents; whole = s.primitive }, l.each);
        gate = λ more. whole;
        mark = l.mark;
        others = l.others;
        ends = subst (λ t. IsEndOf f t l.mark) (omega (arith, place)) l.ends;
        is = is ∙ (ap (λ x. part ++ x) l.is ∙ sym (append_assoc part c (l.mark ++ l.others)));
        after = l.after;
        place = omega (arith, place, l.place);
        joined = l.joined;
        join = l.join ∙ (ap (λ x. x ++ l.piece) join ∙ append_assoc string piece l.piece);
        next = l.next;
      }
  unwind frames taken string total octets rest (Completes.opens {frame = f} {frames = fs} opened part others after whole deep opening is place k) =
      let i = unwind (opened ∷ f ∷ fs) after string total others rest k in
      let o = i.next in
      let c = concat i.encodings in
      let d = concat o.encodings in
      let segment = part ++ (c ++ i.mark) in
      let w : IsConstructed ber inner c segment = constructed_of_frame inner f.end taken (after + length c) opened part c i.mark opening i.ends (omega (arith, place)) in
      let level : levels - length (f ∷ fs) ≡ suc (levels - length (opened ∷ f ∷ fs)) = omega (arith, deep) in
      let nested : IsNested (suc (levels - length (opened ∷ f ∷ fs))) segment = nested_constructed (levels - length (opened ∷ f ∷ fs)) segment record { tag = inner; usable = kept; parts = i.encodings; each = i.each; whole = w } in
      let size : length segment ≡ length part + (length c + length i.mark) = length-append part (c ++ i.mark) ∙ ap (λ x. length part + x) (length-append c i.mark) in
      let sizes : length (segment ++ d) ≡ length segment + length d = length-append segment d in
      record {
        piece = i.piece ++ o.piece;
        encodings = segment ∷ o.encodings;
        segments = AreSegments.constructed i.piece c segment i.segments w o.segments (λ more. parts string i.piece whole (subst Whole i.join (o.gate more)));
        each = (subst (λ n. IsNested n segment) (sym level) nested, o.each);
        gate = λ more. whole;
        mark = o.mark;
        others = o.others;
        ends = subst (λ t. IsEndOf f t o.mark) (omega (arith, place, i.place)) o.ends;
        is = is ∙ (ap (λ x. part ++ x) (i.is ∙ ap (λ x. c ++ (i.mark ++ x)) o.is) ∙ simp append_assoc);
        after = o.after;
        place = omega (arith, place, i.place, o.place);
        joined = o.joined;
        join = o.join ∙ (ap (λ x. x ++ o.piece) i.join ∙ append_assoc string i.piece o.piece);
        next = o.next;
      }
