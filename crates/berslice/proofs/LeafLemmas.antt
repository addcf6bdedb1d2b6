-- Lemmas on encodings of types without parts.
use Rattle.std.proofs.Common.{◌≡◌, ◌+◌, ◌-◌, ◌<◌, ◌≤◌, ℕ, Bool, true, false, IsTrue, List, [], Option, Some, IfSome, Result, Ok, Err, IfOk, length, take, drop, refl, sym, ap, ◌∙◌, subst, arith}
use Rattle.std.specs.Prelude.{slice_range}
use Rattle.std.specs.Bool.{then_some}
use Rattle.std.specs.Result.{result_ok}
use Rattle.std.proofs.Math.Seq.{take-add}
use Rattle.std.proofs.lemmas.List.{length-drop, length-take-le, take-append-le, take-take, take_rest}
use Rattle.octets.specs.declared.tag.Tag.{Tag}
use Rattle.octets.specs.Identifier.{IsIdentifier}
use Rattle.octets.specs.Rule.{ber}
use Rattle.octets.proofs.FrontLemmas.{whole_front}
use Rattle.types.specs.declared.value.Value.{Value}
use Rattle.types.specs.Conforms.{Conforms}
use Rattle.types.specs.FirstTags.{IsUsable}
use Rattle.types.specs.Form.{IsPrimitive}
use Rattle.types.specs.Leaf.{tag_of, IsLeaf}
use Rattle.types.specs.Shape.{Shape, Val}
use Rattle.types.specs.View.{value_view}
use Rattle.encoding_parts.specs.declared.joined.SegmentKind.{SegmentKind}
use Rattle.encoding_parts.specs.declared.segments.Segments.{Segments}
use Rattle.encoding_parts.specs.Contents.{HoldsValue}
use Rattle.encoding_parts.specs.Joined.{value_of}
use Rattle.encoding_parts.specs.Parts.{IsGoodType, IsPartOf}
use Rattle.encoding_parts.specs.Segments.{stack, IsBegun, IsPassed, IsSound, IsTaken}
use Rattle.encoding_parts.specs.Head.{IsShortPrimitive}
use Rattle.encoding_parts.proofs.HeadLemmas.{IsPrimitive-from_parts}
use Rattle.encoding_parts.proofs.ReadingLemmas.{passed_more, passed_read}
use Rattle.encoding_parts.proofs.TypedLemmas.{part_of_joined}
use Rattle.encoding_parts.proofs.WithinLemmas.{part_of_contents, usable_tag}
use Rattle.berslice.specs.Heads.{IsPrimitiveAt}
use Rattle.berslice.proofs.HeadLemmas.{octet_at, short_length}
use Rattle.berslice.specs.Reading.{IsRead}

-- a primitive encoding with two octets before its contents octets
pub short_at : (tag : Tag) (octets : List ℕ) (stop : ℕ) → IsShortPrimitive tag (length octets) octets stop → IsPrimitiveAt tag octets (slice_range octets 2 stop) stop
short_at tag octets stop short =
    let n = short.contents in
    let tagged : IsIdentifier tag false (take 1 octets) = subst (IsIdentifier tag false) (sym (octet_at 0 octets (omega (arith, short.counted, short.there)))) short.tagged in
    let sized = short_length n 1 octets (omega (arith, short.counted, short.there)) (omega (arith, short.low, short.sized)) short.sized in
    let whole : IsPrimitive ber tag (slice_range octets 2 (2 + n)) (take (2 + n) octets) = IsPrimitive-from_parts tag 1 1 n octets tagged sized (omega (arith, short.counted, short.there)) in
    record {
      there = short.there;
      whole = subst (λ m. IsPrimitive ber tag (slice_range octets 2 m) (take m octets)) (sym short.counted) whole;
    }

-- what the contents octets hold is what they encode
pub part_held : (levels : ℕ) (type : Shape) (contents octets : List ℕ) (v : Val) → IsUsable (tag_of type) → HoldsValue ber type v contents → IsPrimitive ber (tag_of type) contents octets → IsPartOf levels type v octets
part_held levels type contents octets v usable held primitive = part_of_contents levels type v contents octets usable held.0 held.1 primitive

-- a leaf whose contents octets its value was made of, where it was made
pub leaf_filled : (levels : ℕ) (type : Shape) (tag : Tag) (contents octets : List ℕ) (value : Value) (used : ℕ) (made : Bool) (answer : Option ℕ) → IsLeaf type → tag_of type ≡ tag → IsGoodType type → IsPrimitiveAt tag octets contents used
    → (IsTrue made → HoldsValue ber type (value_view value) contents) → answer ≡ then_some made used → IfSome answer (λ n. IsRead levels type octets value n)
leaf_filled levels type tag contents octets value used false answer leaf same good at held is = subst (λ a. IfSome a (λ n. IsRead levels type octets value n)) (sym is) tt
leaf_filled levels type tag contents octets value used true answer leaf same good at held is =
    let front = take used octets in
    let whole = subst (λ (t : Tag). IsPrimitive ber t contents front) (sym same) at.whole in
    let read : IsRead levels type octets value used = (at.there, part_held levels type contents front (value_view value) (usable_tag type leaf good) (held refl) whole) in
    subst (λ a. IfSome a (λ n. IsRead levels type octets value n)) (sym is) read

-- so many octets of a constructed string have been taken, of which so many had been at first
pub record IsTakenSoFar (kind : SegmentKind) (old new : Segments) (octets : List ℕ) (start at : ℕ) : Type 0 where
  pub there : at ≤ length octets
  pub sound : IsSound kind new
  pub passed : (levels end identifier : ℕ) → IsPassed kind levels end 0 identifier old (take start octets) → IsPassed kind levels end 0 identifier new (take at octets)

pub none_taken : (kind : SegmentKind) (old : Segments) (octets : List ℕ) (start : ℕ) → start ≤ length octets → IsSound kind old → IsTakenSoFar kind old old octets start start
none_taken kind old octets start there sound = record { there = there; sound = sound; passed = λ levels end identifier h. h }

-- what was taken behind some octets
pub taken_behind : (kind : SegmentKind) (old new : Segments) (octets : List ℕ) (at used : ℕ) → IsTaken kind old new (take (length octets - at) (drop at octets)) used → IsTaken kind old new (drop at octets) used
taken_behind kind old new octets at used h = subst (λ o. IsTaken kind old new o used) (take_rest octets at) h

-- and then some that were taken
pub more_taken : (kind : SegmentKind) (old mid new : Segments) (octets : List ℕ) (start at used : ℕ) → IsTakenSoFar kind old mid octets start at → IsTaken kind mid new (take (length octets - at) (drop at octets)) used → IsSound kind new → IsTakenSoFar kind old new octets start (at + used)
more_taken kind old mid new octets start at used h taken sound =
    let behind = taken_behind kind mid new octets at used taken in
    record {
      there = omega (arith, h.there, behind.there, length-drop at octets);
      sound = sound;
      passed = λ levels end identifier begun.
          subst (IsPassed kind levels end 0 identifier new) (sym (take-add at used octets)) (passed_more kind levels end 0 identifier mid new (take at octets) (drop at octets) used (h.passed levels end identifier begun) behind);
    }

-- an end, or octets of a segment, bring the last end nearer
pub nearer : (kind : SegmentKind) (mid new : Segments) (octets : List ℕ) (at used : ℕ) → at ≤ length octets → IsTaken kind mid new (take (length octets - at) (drop at octets)) used → length new.frames.items < length mid.frames.items + used
    → length new.frames.items + (length octets - (at + used)) < length mid.frames.items + (length octets - at)
nearer kind mid new octets at used there taken smaller =
    let behind = taken_behind kind mid new octets at used taken in
    omega (arith, there, behind.there, length-drop at octets, smaller)

-- a constructed string whose last end has come was read
pub string_read : (levels : ℕ) (type : Shape) (kind : SegmentKind) (end i start used : ℕ) (octets : List ℕ) (first last : Segments) (v : Val) → IsLeaf type → IsGoodType type → IsIdentifier (tag_of type) true (take i octets) → IsBegun type end 0 i levels octets kind first start
    → IsPassed kind levels end 0 i last (take used octets) → IsSound kind last → last.frames.items ≡ [] → v ≡ value_of type last.joined → Conforms type v → IsPartOf levels type v (take used octets)
string_read levels type kind end i start used octets first last v leaf good id begun passed sound closed is conforms =
    let front = take used octets in
    let there : i ≤ length front = omega (arith, passed.there) in
    let same : take i octets ≡ take i front = ap (take i) (whole_front used octets) ∙ take-append-le i front (drop used octets) there in
    let read = passed_read levels kind (tag_of type) end 0 i last front (usable_tag type leaf good) there (subst (IsIdentifier (tag_of type) true) same id) passed (ap stack closed) sound.held in
    part_of_joined levels kind type last.joined v front begun.of is conforms read.part

-- what was read at the front of a front
pub front_read : (levels : ℕ) (type : Shape) (octets : List ℕ) (value : Value) (n used : ℕ) → n ≤ length octets → IsRead levels type (take n octets) value used → IsRead levels type octets value used
front_read levels type octets value n used there h =
    let size = length-take-le n octets there in
    (omega (arith, h.0, size, there), subst (λ o. IsPartOf levels type (value_view value) o) (take-take used n octets (omega (arith, h.0, size))) h.1)

-- what `ok` returns is what was answered
pub ok_held : {A E : Type 0} (r : Result A E) (P : A → Type 0) (x : A) → IfOk r P → result_ok r ≡ Some x → P x
ok_held (Ok y) P x h is = subst P (cc is) h
ok_held (Err e) P x h is = absurd (cc is)
