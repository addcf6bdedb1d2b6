-- Lemmas on where a constructed string stands: each step keeps it, and what completes the open encodings
-- completes the string from its front.
use Rattle.std.proofs.Common.{◌≡◌, ◌≢◌, inl, inr, ◌+◌, ◌-◌, ◌<◌, ◌≤◌, ℕ, suc, false, List, [], ◌∷◌, ◌++◌, length, refl, sym, ap, ap₂, ◌∙◌, subst, arith, append_assoc, append-nil, length-append}
use Rattle.std.specs.List.{AllByRecursion, concat}
use Rattle.octets.specs.Rule.{ber}
use Rattle.types.specs.Depth.{IsNested}
use Rattle.types.specs.Form.{IsPrimitive, IsConstructed}
use Rattle.types.specs.Strings.{AreSegments}
use Rattle.types.proofs.NestingLemmas.{definite_above, constructed_above}
use Rattle.encoding_parts.specs.declared.frame.Frame.{Frame}
use Rattle.encoding_parts.specs.declared.joined.SegmentKind.{SegmentKind}
use Rattle.encoding_parts.specs.Completing.{Completes, IsEndOf, Opens, IsOpening}
use Rattle.encoding_parts.specs.Joined.{Element, segment_of, HoldsPiece, IsWholePiece}
use Rattle.encoding_parts.specs.Passed.{AreNestedSegments, StandsIn}
use Rattle.encoding_parts.specs.Segments.{CompletesBy}
use Rattle.encoding_parts.proofs.CompletingLemmas.{completes_segments, constructed_of_frame, not_empty}
use Rattle.encoding_parts.proofs.DepthLemmas.{SegmentsWithin, match_parts, nested_constructed, nested_primitive}
use Rattle.encoding_parts.proofs.JoinedLemmas.{empty_whole, joins_whole, kept_segment, parts_whole}
use Rattle.encoding_parts.proofs.WithinLemmas.{end_within}

abbrev Pieces : (kind : SegmentKind) → List (Element kind) → List ℕ → Type 0
Pieces kind piece octets = AreSegments (segment_of kind) (HoldsPiece kind) (IsWholePiece kind) piece octets

-- no octets hold no piece
none_held : (kind : SegmentKind) (p : List (Element kind)) (c : List ℕ) → Pieces kind p c → c ≡ [] → p ≡ []
none_held kind p c AreSegments.none empty = refl
none_held kind p c (AreSegments.primitive {rest = d} piece contents b h w others f) empty = absurd (not_empty b d (definite_above (segment_of kind) false contents b (kept_segment kind) w) empty)
none_held kind p c (AreSegments.constructed {rest = d} piece contents b h w others f) empty = absurd (not_empty b d (constructed_above (segment_of kind) contents b (kept_segment kind) w) empty)

-- the first segment is whole where all are
first_whole : (kind : SegmentKind) (piece others : List (Element kind)) (rest : List ℕ) → Pieces kind others rest → (rest ≢ [] → IsWholePiece kind piece) → IsWholePiece kind (piece ++ others) → IsWholePiece kind piece
first_whole kind piece others [] k f whole = subst (IsWholePiece kind) (ap (λ x. piece ++ x) (none_held kind others [] k refl) ∙ append-nil piece) whole
first_whole kind piece others (x ∷ rest) k f whole = f (λ same. cc same)

-- segments, and more of them
append_segments : (kind : SegmentKind) (p q : List (Element kind)) (c d : List ℕ) → Pieces kind p c → IsWholePiece kind p → Pieces kind q d → Pieces kind (p ++ q) (c ++ d)
append_segments kind p q c d AreSegments.none whole more = more
append_segments kind p q c d (AreSegments.primitive {others = s} {rest = r} piece contents b h w others f) whole more =
    let first = first_whole kind piece s r others f whole in
    let rest = append_segments kind s q r d others (parts_whole kind piece s first whole) more in
    subst (λ x. Pieces kind x ((b ++ r) ++ d)) (sym (append_assoc piece s q))
    (subst (λ x. Pieces kind (piece ++ (s ++ q)) x) (sym (append_assoc b r d)) (AreSegments.primitive piece contents b h w rest (λ some. first)))
append_segments kind p q c d (AreSegments.constructed {others = s} {rest = r} piece contents b h w others f) whole more =
    let first = first_whole kind piece s r others f whole in
    let rest = append_segments kind s q r d others (parts_whole kind piece s first whole) more in
    subst (λ x. Pieces kind x ((b ++ r) ++ d)) (sym (append_assoc piece s q))
    (subst (λ x. Pieces kind (piece ++ (s ++ q)) x) (sym (append_assoc b r d)) (AreSegments.constructed piece contents b h w rest (λ some. first)))

concat_append : (xs ys : List (List ℕ)) → concat (xs ++ ys) ≡ concat xs ++ concat ys
concat_append [] ys = refl
concat_append (x ∷ xs) ys = ap (λ z. x ++ z) (concat_append xs ys) ∙ sym (append_assoc x (concat xs) (concat ys))

each_append : (n : ℕ) (xs ys : List (List ℕ)) → AllByRecursion (IsNested n) xs → AllByRecursion (IsNested n) ys → AllByRecursion (IsNested n) (xs ++ ys)
each_append n [] ys h k = k
each_append n (x ∷ xs) ys h k = (h.0, each_append n xs ys h.1 k)

join_segments : (kind : SegmentKind) (n : ℕ) (p q : List (Element kind)) (c d : List ℕ) → AreNestedSegments kind n p c → IsWholePiece kind p → AreNestedSegments kind n q d → AreNestedSegments kind n (p ++ q) (c ++ d)
join_segments kind n p q c d h whole k = record {
  encodings = h.encodings ++ k.encodings;
  are = ap₂ (λ x y. x ++ y) h.are k.are ∙ sym (concat_append h.encodings k.encodings);
  each = each_append n h.encodings k.encodings h.each k.each;
  segments = append_segments kind p q c d h.segments whole k.segments;
}

no_segments : (kind : SegmentKind) (n : ℕ) → AreNestedSegments kind n [] []
no_segments kind n = record { encodings = []; are = refl; each = tt; segments = AreSegments.none }

-- nothing has come behind the length octets
pub stands_first : (kind : SegmentKind) (levels : ℕ) (frame : Frame) (place : ℕ) → place ≤ frame.end → StandsIn kind levels frame place (frame ∷ []) [] []
stands_first kind levels frame place fits = record { same = refl; fits = omega (arith, fits); segments = no_segments kind (levels - length (frame ∷ [])) }

-- one of them
one_primitive : (kind : SegmentKind) (n : ℕ) (piece : List (Element kind)) (contents part : List ℕ) → HoldsPiece kind piece contents → IsPrimitive ber (segment_of kind) contents part → AreNestedSegments kind n piece part
one_primitive kind n piece contents part h w = record {
  encodings = part ∷ [];
  are = sym (append-nil part);
  each = (nested_primitive n part record { tag = segment_of kind; usable = kept_segment kind; contents = contents; whole = w }, tt);
  segments = subst (λ x. Pieces kind x part) (append-nil piece) (subst (λ x. Pieces kind (piece ++ []) x) (append-nil part) (AreSegments.primitive piece contents part h w AreSegments.none (λ some. absurd (some refl))));
}

one_constructed : (kind : SegmentKind) (n m : ℕ) (piece : List (Element kind)) (contents part : List ℕ) → n ≡ suc m → AreNestedSegments kind m piece contents → IsConstructed ber (segment_of kind) contents part → AreNestedSegments kind n piece part
one_constructed kind n m piece contents part level h w =
    let inside : IsConstructed ber (segment_of kind) (concat h.encodings) part = subst (λ x. IsConstructed ber (segment_of kind) x part) h.are w in
    let nested : IsNested (suc m) part = nested_constructed m part record { tag = segment_of kind; usable = kept_segment kind; parts = h.encodings; each = h.each; whole = inside } in
    record {
      encodings = part ∷ [];
      are = sym (append-nil part);
      each = (subst (λ x. IsNested x part) (sym level) nested, tt);
      segments = subst (λ x. Pieces kind x part) (append-nil piece) (subst (λ x. Pieces kind (piece ++ []) x) (append-nil part) (AreSegments.constructed piece contents part h.segments w AreSegments.none (λ some. absurd (some refl))));
    }

-- more segments have come in the innermost open encoding
stands_more : (kind : SegmentKind) (levels : ℕ) (first : Frame) (place : ℕ) (f : Frame) (fs : List Frame) (string q : List (Element kind)) (passed part : List ℕ) → StandsIn kind levels first place (f ∷ fs) string passed → IsWholePiece kind string
    → AreNestedSegments kind (levels - length (f ∷ fs)) q part → place + length passed + length part ≤ f.end → StandsIn kind levels first place (f ∷ fs) (string ++ q) (passed ++ part)
stands_more kind levels first place f [] string q passed part h whole k fits = record {
  same = h.same;
  fits = omega (arith, fits, length-append passed part);
  segments = join_segments kind (levels - length (f ∷ [])) string q passed part h.segments whole k;
}
stands_more kind levels first place f (o ∷ os) string q passed part h whole k fits = record {
  before = h.before;
  head = h.head;
  contents = h.contents ++ part;
  earlier = h.earlier;
  piece = h.piece ++ q;
  joined = ap (λ x. x ++ part) h.joined ∙ (append_assoc h.before (h.head ++ h.contents) part ∙ ap (λ x. h.before ++ x) (append_assoc h.head h.contents part));
  is = ap (λ x. x ++ q) h.is ∙ append_assoc h.earlier h.piece q;
  behind = h.behind;
  whole = h.whole;
  nested = h.nested;
  opening = h.opening;
  fits = omega (arith, fits, length-append passed part);
  segments = join_segments kind (levels - length (f ∷ (o ∷ os))) h.piece q h.contents part h.segments (parts_whole kind h.earlier h.piece h.whole (subst (IsWholePiece kind) h.is whole)) k;
}

pub stands_primitive : (kind : SegmentKind) (levels : ℕ) (first : Frame) (place : ℕ) (f : Frame) (fs : List Frame) (string piece : List (Element kind)) (passed contents part : List ℕ) → StandsIn kind levels first place (f ∷ fs) string passed → IsWholePiece kind string
    → HoldsPiece kind piece contents → IsPrimitive ber (segment_of kind) contents part → place + length passed + length part ≤ f.end → StandsIn kind levels first place (f ∷ fs) (string ++ piece) (passed ++ part)
stands_primitive kind levels first place f fs string piece passed contents part h whole holds w fits =
    stands_more kind levels first place f fs string piece passed part h whole (one_primitive kind (levels - length (f ∷ fs)) piece contents part holds w) fits

pub opens_within : (end taken : ℕ) (g : Frame) (size : List ℕ) → Opens end taken g size → taken + length size ≤ g.end
opens_within end taken g size (inl h) = omega (arith, h.ends)
opens_within end taken g size (inr h) = omega (arith, h.fits, ap length h.mark)

-- a constructed segment opens
pub stands_opening : (kind : SegmentKind) (levels : ℕ) (first : Frame) (place : ℕ) (f g : Frame) (fs : List Frame) (string : List (Element kind)) (passed part : List ℕ) → StandsIn kind levels first place (f ∷ fs) string passed → IsWholePiece kind string
    → length (f ∷ fs) < levels → IsOpening (segment_of kind) f.end (place + length passed) g part → StandsIn kind levels first place (g ∷ (f ∷ fs)) string (passed ++ part)
stands_opening kind levels first place f g fs string passed part h whole deep opening = record {
  before = passed;
  head = part;
  contents = [];
  earlier = string;
  piece = [];
  joined = ap (λ x. passed ++ x) (sym (append-nil part));
  is = sym (append-nil string);
  behind = h;
  whole = whole;
  nested = deep;
  opening = opening;
  fits = omega (arith, opens_within f.end (place + length passed + length opening.identifier) g opening.size opening.form, length-append passed part, ap length opening.joined, length-append opening.identifier opening.size);
  segments = no_segments kind (levels - length (g ∷ (f ∷ fs)));
}

-- the innermost open encoding ends
pub stands_end : (kind : SegmentKind) (levels : ℕ) (first : Frame) (place : ℕ) (f : Frame) (fs : List Frame) (string : List (Element kind)) (passed mark : List ℕ) → StandsIn kind levels first place (f ∷ fs) string passed → IsEndOf f (place + length passed) mark
    → StandsIn kind levels first place fs string (passed ++ mark)
stands_end kind levels first place f [] string passed mark h e = record {
  contents = passed;
  mark = mark;
  joined = refl;
  ends = subst (λ x. IsEndOf x (place + length passed) mark) h.same e;
  segments = h.segments;
}
stands_end kind levels first place f (o ∷ os) string passed mark h e =
    let part = h.head ++ (h.contents ++ mark) in
    let size : length passed ≡ length h.before + (length h.head + length h.contents) = ap length h.joined ∙ (length-append h.before (h.head ++ h.contents) ∙ ap (λ n. length h.before + n) (length-append h.head h.contents)) in
    let sizes : length part ≡ length h.head + (length h.contents + length mark) = length-append h.head (h.contents ++ mark) ∙ ap (λ n. length h.head + n) (length-append h.contents mark) in
    let w : IsConstructed ber (segment_of kind) h.contents part = constructed_of_frame (segment_of kind) o.end (place + length h.before) (place + length passed) f h.head h.contents mark h.opening e (omega (arith, size)) in
    let level : levels - length (o ∷ os) ≡ suc (levels - length (f ∷ (o ∷ os))) = omega (arith, h.nested) in
    let one = one_constructed kind (levels - length (o ∷ os)) (levels - length (f ∷ (o ∷ os))) h.piece h.contents part level h.segments w in
    let within = end_within o.end (place + length h.before + length h.opening.identifier) (place + length passed) f h.opening.size mark h.opening.form e in
    let all : h.before ++ part ≡ passed ++ mark = sym (ap (λ x. x ++ mark) h.joined ∙ (append_assoc h.before (h.head ++ h.contents) mark ∙ ap (λ x. h.before ++ x) (append_assoc h.head h.contents mark))) in
    subst (λ x. StandsIn kind levels first place (o ∷ os) x (passed ++ mark)) (sym h.is)
    (subst (λ x. StandsIn kind levels first place (o ∷ os) (h.earlier ++ h.piece) x) all
    (stands_more kind levels first place o os h.earlier h.piece h.before part h.behind h.whole one (omega (arith, within, size, sizes))))

-- the segments, by how deep they nest
segments_within : (kind : SegmentKind) (n : ℕ) (piece : List (Element kind)) (octets : List ℕ) → AreNestedSegments kind n piece octets → SegmentsWithin (segment_of kind) (HoldsPiece kind) (IsWholePiece kind) n piece octets
segments_within kind n piece octets h =
    (match_parts (segment_of kind) (HoldsPiece kind) (IsWholePiece kind) (kept_segment kind) n piece octets h.encodings [] [] h.segments h.each tt tt (ap (λ x. x ++ []) h.are)).within

-- what completes the string from where it stands completes it from its front
pub stands_back : (kind : SegmentKind) (levels : ℕ) (first : Frame) (place : ℕ) (frames : List Frame) (string total : List (Element kind)) (passed more rest : List ℕ) → 1 ≤ levels → StandsIn kind levels first place frames string passed
    → CompletesBy kind levels frames (place + length passed) string more total rest → CompletesBy kind levels (first ∷ []) place [] (passed ++ more) total rest
stands_back kind levels first place [] string total passed more rest deep h k =
    let c = h.contents in
    let ending : CompletesBy kind levels (first ∷ []) (place + length c) string (h.mark ++ more) total rest =
    Completes.ends h.mark more (place + length passed) h.ends refl (omega (arith, ap length h.joined, length-append c h.mark)) k in
    completes_segments (segment_of kind) (HoldsPiece kind) (IsWholePiece kind) levels (kept_segment kind) (joins_whole kind) (parts_whole kind) (levels - length (first ∷ [])) string c (segments_within kind (levels - length (first ∷ [])) string c h.segments) first [] place (place + length c) [] string total (passed ++ more) (h.mark ++ more) rest
    (omega (arith, deep)) (λ some. empty_whole kind) refl (end_fits first (place + length c) h.mark h.ends) refl (ap (λ x. x ++ more) h.joined ∙ append_assoc c h.mark more) ending
  where
    end_fits : (f : Frame) (taken : ℕ) (mark : List ℕ) → IsEndOf f taken mark → taken ≤ f.end
    end_fits f taken mark (inl e) = omega (arith, e.there)
    end_fits f taken mark (inr e) = e.fits
stands_back kind levels first place (f ∷ []) string total passed more rest deep h k =
    subst (λ x. CompletesBy kind levels (x ∷ []) place [] (passed ++ more) total rest) h.same
    (completes_segments (segment_of kind) (HoldsPiece kind) (IsWholePiece kind) levels (kept_segment kind) (joins_whole kind) (parts_whole kind) (levels - length (f ∷ [])) string passed (segments_within kind (levels - length (f ∷ [])) string passed h.segments) f [] place (place + length passed) [] string total (passed ++ more) more rest
    (omega (arith, deep)) (λ some. empty_whole kind) refl h.fits refl refl k)
stands_back kind levels first place (f ∷ (o ∷ os)) string total passed more rest deep h k =
    let n = levels - length (f ∷ (o ∷ os)) in
    let at = place + length h.before in
    let size : length passed ≡ length h.before + (length h.head + length h.contents) = ap length h.joined ∙ (length-append h.before (h.head ++ h.contents) ∙ ap (λ x. length h.before + x) (length-append h.head h.contents)) in
    let inside : CompletesBy kind levels (f ∷ (o ∷ os)) (at + length h.head) h.earlier (h.contents ++ more) total rest =
    completes_segments (segment_of kind) (HoldsPiece kind) (IsWholePiece kind) levels (kept_segment kind) (joins_whole kind) (parts_whole kind) n h.piece h.contents (segments_within kind n h.piece h.contents h.segments) f (o ∷ os) (at + length h.head) (place + length passed) h.earlier string total (h.contents ++ more) more rest
    (omega (arith, h.nested)) (λ some. h.whole) (omega (arith, size)) h.fits h.is refl k in
    let opened : CompletesBy kind levels (o ∷ os) at h.earlier (h.head ++ (h.contents ++ more)) total rest =
    Completes.opens f h.head (h.contents ++ more) (at + length h.head) h.whole h.nested h.opening refl refl inside in
    subst (λ x. CompletesBy kind levels (first ∷ []) place [] x total rest) (sym (ap (λ x. x ++ more) h.joined ∙ (append_assoc h.before (h.head ++ h.contents) more ∙ ap (λ x. h.before ++ x) (append_assoc h.head h.contents more))))
    (stands_back kind levels first place (o ∷ os) h.earlier total h.before (h.head ++ (h.contents ++ more)) rest deep h.behind opened)
