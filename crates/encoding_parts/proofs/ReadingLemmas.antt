-- Lemmas on reading a constructed string from its identifier octets on.
use Rattle.std.proofs.Common.{◌≡◌, ◌+◌, ◌<◌, ◌≤◌, ℕ, true, List, [], ◌∷◌, ◌++◌, length, take, drop, refl, sym, ap, ap₂, ◌∙◌, subst, arith, append_assoc, append-nil, length-append, All}
use Rattle.std.proofs.Math.Seq.{take-add}
use Rattle.std.proofs.lemmas.List.{take-append-le, drop-append-le, length-take-le, length-drop, length-reverse}
use Rattle.std.proofs.lemmas.List.Elements.{All-cons, All-nil}
use Rattle.octets.specs.declared.TheConstants.{MAX_ENCODING}
use Rattle.octets.specs.declared.tag.Tag.{Tag}
use Rattle.octets.specs.Front.{HasFront}
use Rattle.octets.specs.Identifier.{IsIdentifier}
use Rattle.types.specs.Conforms.{Conforms}
use Rattle.types.specs.Leaf.{tag_of}
use Rattle.types.specs.Shape.{Shape, Val}
use Rattle.types.specs.FirstTags.{IsUsable}
use Rattle.encoding_parts.specs.declared.frame.Frame.{Frame}
use Rattle.encoding_parts.specs.declared.joined.SegmentKind.{SegmentKind}
use Rattle.encoding_parts.specs.declared.joined.SegmentKind.TheVariants.{Bits, Octets}
use Rattle.encoding_parts.specs.declared.segments.Segments.{Segments}
use Rattle.encoding_parts.specs.Completing.{Completes, Opens, IsOpening}
use Rattle.encoding_parts.specs.Head.{IsExtentWithin, IsReadTag}
use Rattle.encoding_parts.specs.Joined.{Element, string_of, string_held, AreHeld, IsHeld, IsStringOf, string_shape, string_value}
use Rattle.encoding_parts.specs.Passed.{StandsIn}
use Rattle.encoding_parts.specs.Segments.{stack, CompletesBy, Completion, CanComplete, StandsBehind, IsOpened, IsTaken, IsWithin, IsPassed, IsBegun}
use Rattle.encoding_parts.specs.Parts.{IsPartOf, IsPartWithin}
use Rattle.octets.proofs.FrontLemmas.{front_of_more, whole_front}
use Rattle.encoding_parts.proofs.StepLemmas.{opening_unique, extent_of_opening, opening_fits, opening_some, opens_below, opens_room}
use Rattle.encoding_parts.proofs.PassedLemmas.{opens_within, stands_back, stands_first}
use Rattle.encoding_parts.proofs.SegmentsLemmas.{to_stack, from_stack}
use Rattle.encoding_parts.proofs.WithinLemmas.{completed, front_of_string, part_of_string}

-- identifier octets and length octets that were read, together
pub opening_read : (tag : Tag) (end taken i used : ℕ) (g : Frame) (octets : List ℕ) → i ≤ length octets → IsIdentifier tag true (take i octets) → Opens end (taken + i) g (take used (drop i octets)) → IsOpening tag end taken g (take (i + used) octets)
opening_read tag end taken i used g octets there id o =
    let size : length (take i octets) ≡ i = length-take-le i octets there in
    record {
      identifier = take i octets;
      size = take used (drop i octets);
      tagged = id;
      joined = take-add i used octets;
      form = subst (λ n. Opens end (taken + n) g (take used (drop i octets))) (sym size) o;
    }

pub string_empty : (kind : SegmentKind) (octets : List ℕ) (unused : ℕ) → octets ≡ [] → unused ≡ 0 → string_held kind octets unused ≡ []
string_empty Bits octets unused none zero = ap₂ (λ o u. string_held Bits o u) none zero
string_empty Octets octets unused none zero = none

empty_held : (kind : SegmentKind) (octets : List ℕ) (unused : ℕ) → octets ≡ [] → unused ≡ 0 → AreHeld kind octets unused
empty_held Bits octets unused none zero = record { unused_bits = record { at_most_7 = omega (arith, zero); none = λ empty. zero }; below_256 = subst (All (λ o. o < 256)) (sym none) (All-nil (λ o. o < 256)) }
empty_held Octets octets unused none zero = record { no_bits = zero; below_256 = subst (All (λ o. o < 256)) (sym none) (All-nil (λ o. o < 256)) }

pub conforms_held : (kind : SegmentKind) (tag : Tag) (octets : List ℕ) (unused : ℕ) → AreHeld kind octets unused → Conforms (string_shape tag kind) (string_value kind (string_held kind octets unused))
conforms_held Bits tag octets unused h = tt
conforms_held Octets tag octets unused h = h.below_256

in_more : (tag : Tag) (i : ℕ) (octets more : List ℕ) → i ≤ length octets → IsIdentifier tag true (take i octets) → IsIdentifier tag true (take i (octets ++ more))
in_more tag i octets more there id = subst (IsIdentifier tag true) (sym (take-append-le i octets more there)) id

-- behind the identifier octets of a constructed string stand its length octets
pub extent_of_string : (levels : ℕ) (kind : SegmentKind) (tag : Tag) (end taken i : ℕ) (octets more : List ℕ) → i ≤ length octets → IsIdentifier tag true (take i octets) → HasFront (IsPartWithin levels (string_shape tag kind) end taken) (octets ++ more)
    → IsExtentWithin true end (taken + i) (drop i octets ++ more)
extent_of_string levels kind tag end taken i octets more there id f =
    let c = completed levels kind tag end taken i (octets ++ more) (in_more tag i octets more there id) f in
    extent_of_opening tag end taken i c.opened c.head octets more c.others there id c.opening c.parts

-- what is known of an encoding of the value whose octets these are
pub record IsReadPart (levels : ℕ) (type : Shape) (value : Val) (end taken : ℕ) (octets : List ℕ) : Type 0 where
  pub fits : taken + length octets ≤ end
  pub part : IsPartOf levels type value octets

-- what stands at a place of a front
pub take_behind : (i n : ℕ) (passed more : List ℕ) → i + n ≤ length passed → take n (drop i (passed ++ more)) ≡ take n (drop i passed)
take_behind i n passed more there =
    ap (take n) (drop-append-le i passed more (omega (arith, there))) ∙ take-append-le n (drop i passed) more (omega (arith, there, length-drop i passed))

none_behind : (n : ℕ) (passed : List ℕ) → length passed ≡ n → drop n passed ≡ []
none_behind n passed size = nothing (drop n passed) (omega (arith, length-drop n passed, size))
  where
    nothing : (xs : List ℕ) → length xs ≡ 0 → xs ≡ []
    nothing [] h = refl
    nothing (x ∷ xs) h = absurd (omega (arith, h))

empty_of : (kind : SegmentKind) (levels : ℕ) (frame : Frame) (place : ℕ) (s : Segments) → IsOpened levels frame place s → string_of kind s.joined ≡ []
empty_of kind levels frame place s o = string_empty kind s.joined.octets.items s.joined.unused o.octets o.unused

-- only what opens the string has come
pub passed_opened : (kind : SegmentKind) (levels end taken i size : ℕ) (frame : Frame) (s : Segments) (passed : List ℕ) → 1 ≤ levels → length passed ≡ i + size → Opens end (taken + i) frame (take size (drop i passed)) → IsOpened levels frame (taken + (i + size)) s
    → IsPassed kind levels end taken i s passed
passed_opened kind levels end taken i size frame s passed deep count opens o =
    let start = i + size in
    let none : (more : List ℕ) → drop start passed ++ more ≡ more = λ more. ap (λ x. x ++ more) (none_behind start passed count) in
    let empty = empty_of kind levels frame (taken + start) s o in
    record {
      size = size;
      frame = frame;
      there = omega (arith, count);
      nested = deep;
      deepest = o.deepest;
      opens = opens;
      place = o.place ∙ ap (λ n. taken + n) (sym count);
      light = omega (arith, ap length o.octets);
      forth = λ more total rest h.
          to_stack kind s levels (frame ∷ []) (taken + start) [] more total rest o.deepest o.frames o.place empty
          (subst (λ x. CompletesBy kind levels (frame ∷ []) (taken + start) [] x total rest) (none more) h);
      stands =
          subst (λ x. StandsIn kind levels frame (taken + start) x (string_of kind s.joined) (drop start passed)) (sym o.frames)
          (subst (λ x. StandsIn kind levels frame (taken + start) (frame ∷ []) x (drop start passed)) (sym empty)
          (subst (λ x. StandsIn kind levels frame (taken + start) (frame ∷ []) [] x) (sym (none_behind start passed count))
          (stands_first kind levels frame (taken + start) (omega (arith, opens_within end (taken + i) frame (take size (drop i passed)) opens, count, length-take-le size (drop i passed) (omega (arith, count, length-drop i passed)))))));
    }

pub begun_opened : (shape : Shape) (kind : SegmentKind) (levels end taken i size : ℕ) (frame : Frame) (octets : List ℕ) (s : Segments) → IsStringOf kind shape → 1 ≤ levels → end ≤ MAX_ENCODING → IsReadTag (tag_of shape) end taken octets true i
    → size ≤ length (drop i octets) → Opens end (taken + i) frame (take size (drop i octets)) → IsOpened levels frame (taken + (i + size)) s → IsBegun shape end taken i levels octets kind s (i + size)
begun_opened shape kind levels end taken i size frame octets s of deep limit read there opens o =
    let used = i + size in
    let passed = take used octets in
    let whole : used ≤ length octets = omega (arith, there, length-drop i octets, read.there) in
    let count : length passed ≡ used = length-take-le used octets whole in
    let opening = opening_read (tag_of shape) end taken i size frame octets read.there read.tagged opens in
    let same : take size (drop i octets) ≡ take size (drop i passed) = ap (λ x. take size (drop i x)) (whole_front used octets) ∙ take_behind i size passed (drop used octets) (omega (arith, count)) in
    let one : length s.frames.items ≡ 1 = omega (arith, length-reverse s.frames.items, ap length o.frames) in
    let below = opens_below end (taken + i) frame (take size (drop i octets)) opens in
    let first : IsWithin frame = record {
      end = omega (arith, below, limit);
      room = λ marked. let room = opens_room end (taken + i) frame (take size (drop i octets)) opens marked in omega (arith, room, limit);
    } in
    record {
      of = of;
      there = whole;
      some = omega (arith, opening_some (tag_of shape) end taken frame passed opening, count);
      heads = omega arith;
      deepest = o.deepest;
      frames = one;
      sound = record {
        within = subst (All IsWithin) (sym o.frames) (All-cons IsWithin frame [] first (All-nil IsWithin));
        few = omega (arith, one, o.deepest, deep);
        place = omega (arith, o.place, opening_fits (tag_of shape) end taken frame passed opening, count, limit);
        held = empty_held kind s.joined.octets.items s.joined.unused o.octets o.unused;
      };
      passed = passed_opened kind levels end taken i size frame s passed deep count (subst (Opens end (taken + i) frame) same opens) o;
    }

-- and then some that were taken
pub passed_more : (kind : SegmentKind) (levels end taken i : ℕ) (old new : Segments) (passed octets : List ℕ) (used : ℕ) → IsPassed kind levels end taken i old passed → IsTaken kind old new octets used → IsPassed kind levels end taken i new (passed ++ take used octets)
passed_more kind levels end taken i old new passed octets used b k =
    let part = take used octets in
    let start = i + b.size in
    let size : length part ≡ used = length-take-le used octets k.there in
    let count : length (passed ++ part) ≡ length passed + used = length-append passed part ∙ ap (λ n. length passed + n) size in
    let behind : (more : List ℕ) → drop start (passed ++ part) ++ more ≡ drop start passed ++ (part ++ more) = λ more. ap (λ x. x ++ more) (drop-append-le start passed part b.there) ∙ append_assoc (drop start passed) part more in
    record {
      size = b.size;
      frame = b.frame;
      there = omega (arith, b.there, count);
      nested = b.nested;
      deepest = k.deepest ∙ b.deepest;
      opens = subst (Opens end (taken + i) b.frame) (sym (take_behind i b.size passed part b.there)) b.opens;
      place = omega (arith, k.place, b.place, count);
      light = omega (arith, k.light, b.light, count);
      forth = λ more total rest h.
          (k.alike more).forth total rest (b.forth (part ++ more) total rest (subst (λ x. CompletesBy kind levels (b.frame ∷ []) (taken + start) [] x total rest) (behind more) h));
      stands =
          subst (λ x. StandsBehind kind levels b.frame (taken + start) new x) (sym (drop-append-le start passed part b.there))
          (k.stands levels b.frame (taken + start) (drop start passed) b.deepest (omega (arith, b.place, b.there, length-drop start passed)) b.stands);
    }

-- what completes what is open completes the string behind its length octets
passed_back : (kind : SegmentKind) (levels end taken i : ℕ) (s : Segments) (passed : List ℕ) (b : IsPassed kind levels end taken i s passed) (more : List ℕ) (total : List (Element kind)) (rest : List ℕ) → Completion kind s more total rest
    → CompletesBy kind levels (b.frame ∷ []) (taken + (i + b.size)) [] (drop (i + b.size) passed ++ more) total rest
passed_back kind levels end taken i s passed b more total rest h =
    let start = i + b.size in
    let place : s.taken ≡ taken + start + length (drop start passed) = omega (arith, b.place, b.there, length-drop start passed) in
    stands_back kind levels b.frame (taken + start) (stack s.frames.items) (string_of kind s.joined) total (drop start passed) more rest b.nested b.stands
    (from_stack kind s levels (stack s.frames.items) (taken + start + length (drop start passed)) (string_of kind s.joined) more total rest b.deepest refl place refl h)

-- what completes the encoding completes the string
pub passed_completes : (levels : ℕ) (kind : SegmentKind) (tag : Tag) (end taken i : ℕ) (s : Segments) (passed more : List ℕ) → i ≤ length passed → IsIdentifier tag true (take i passed) → IsPassed kind levels end taken i s passed
    → HasFront (IsPartWithin levels (string_shape tag kind) end taken) (passed ++ more) → CanComplete kind s more
passed_completes levels kind tag end taken i s passed more there id b f =
    let start = i + b.size in
    let frame = b.frame in
    let c = completed levels kind tag end taken i (passed ++ more) (in_more tag i passed more there id) f in
    let opening = opening_read tag end taken i b.size frame passed there id b.opens in
    let same = opening_unique tag end taken frame c.opened (take start passed) c.head (drop start passed ++ more) c.others opening c.opening (sym (front_of_more start passed more) ∙ c.parts) in
    let size : length (take start passed) ≡ start = length-take-le start passed b.there in
    let k : CompletesBy kind levels (frame ∷ []) (taken + start) [] (drop start passed ++ more) c.total c.rest =
    subst (λ n. CompletesBy kind levels (frame ∷ []) (taken + n) [] (drop start passed ++ more) c.total c.rest) size
    (subst (λ x. CompletesBy kind levels (frame ∷ []) (taken + length (take start passed)) [] x c.total c.rest) (sym same.rest)
    (subst (λ x. CompletesBy kind levels (frame ∷ []) (taken + length x) [] c.others c.total c.rest) (sym same.octets)
    (subst (λ x. CompletesBy kind levels (x ∷ []) (taken + length c.head) [] c.others c.total c.rest) (sym same.frame) c.completes))) in
    (c.total, c.rest, b.forth more c.total c.rest k)

-- a constructed string that has ended
pub passed_read : (levels : ℕ) (kind : SegmentKind) (tag : Tag) (end taken i : ℕ) (s : Segments) (passed : List ℕ) → IsUsable tag → i ≤ length passed → IsIdentifier tag true (take i passed) → IsPassed kind levels end taken i s passed
    → stack s.frames.items ≡ [] → IsHeld kind s.joined → IsReadPart levels (string_shape tag kind) (string_value kind (string_of kind s.joined)) end taken passed
passed_read levels kind tag end taken i s passed kept there id b done held =
    let start = i + b.size in
    let others = drop start passed ++ [] in
    let total = string_of kind s.joined in
    let opening = opening_read tag end taken i b.size b.frame passed there id b.opens in
    let finished : Completion kind s [] total [] = to_stack kind s s.levels [] s.taken total [] total [] refl done refl refl (Completes.complete refl refl) in
    let size : length (take start passed) ≡ start = length-take-le start passed b.there in
    let h : CompletesBy kind levels (b.frame ∷ []) (taken + length (take start passed)) [] others total [] =
    subst (λ n. CompletesBy kind levels (b.frame ∷ []) (taken + n) [] others total []) (sym size) (passed_back kind levels end taken i s passed b [] total [] finished) in
    let f = front_of_string levels kind tag end taken b.frame (take start passed) (passed ++ []) others total [] b.nested kept opening (front_of_more start passed []) h in
    let same : f.front ≡ passed = sym (append-nil f.front) ∙ (sym f.parts ∙ append-nil passed) in
    record {
      fits = subst (λ x. taken + length x ≤ end) same f.fits;
      part = subst (IsPartOf levels (string_shape tag kind) (string_value kind total)) same (part_of_string levels kind tag end taken (passed ++ []) total [] (conforms_held kind tag s.joined.octets.items s.joined.unused held) f);
    }
