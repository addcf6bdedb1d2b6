use Rattle.std.proofs.Common.{◌≡◌, inl, inr, ◌++◌, true, false, Err, length, take, drop, sym, ◌∙◌, ap, subst, arith}
use Rattle.std.proofs.lemmas.List.{length-take-le, length-drop}
use Rattle.octets.specs.Length.{IsShortestLength}
use Rattle.encoding_parts.specs.Cut.{IsIdentifierCut}
use Rattle.encoding_parts.specs.Head.{IsTagWithin}
use Rattle.encoding_parts.specs.Joined.{segment_of}
use Rattle.strict.specs.Segments.{HasSomeSegments}
use Rattle.strict.proofs.BarsLemmas.{refused_of, refused_for_good, refused_by, refused_through}
use Rattle.strict.proofs.HeadLemmas.{tagged_so, tag_of_definite, form_of_definite, behind_identifier}
use Rattle.strict.proofs.PlaceLemmas.{its_size, place_of}
use Rattle.strict.proofs.SegmentLemmas.{first_segment, definite_of_first}
use Rattle.strict.proofs.segments.read_segment_place.Goals as goal

pub returns-in_err-constructed-clause-refused : goal.returns-in_err-constructed-clause-refused
returns-in_err-constructed-clause-refused c =
    let octets = c.args.octets.now in
    let kind = c.args.kind in
    let room = c.args.room in
    let tag = segment_of kind in
    let P = IsTagWithin c.segment_tag.result room 0 in
    let why = c.in_err-constructed.ensures in
    refused_through c.from_residual.result c.from_residual.ensures.1
    (refused_by (refused_of P (IsIdentifierCut room 0) octets (λ same. why.truncated (ap Err same)) (λ same. why.cut (ap Err same)) why.never why.numbers)
    (λ more h.
    let f = (first_segment kind c.args.full room h.0 (octets ++ more) (c.requires.no_end more) h.1).1 in
    subst (λ t. IsTagWithin t room 0 (octets ++ more)) (sym c.segment_tag.ensures) (tag_of_definite tag false room (octets ++ more) (definite_of_first kind room h.0 (octets ++ more) f)))
    (λ k. omega (arith, k.fits)))

pub returns-then-unused-ne0-clause-refused : goal.returns-then-unused-ne0-clause-refused
returns-then-unused-ne0-clause-refused c = refused_for_good (tt, tt) (λ more h.
    let octets = c.args.octets.now in
    let f = first_segment c.args.kind c.args.full c.args.room h.0 (octets ++ more) (c.requires.no_end more) h.1 in
    absurd (omega (arith, c.if-unused-ne0.true, c.requires.whole f.0)))

pub returns-then-constructed-clause-refused : goal.returns-then-constructed-clause-refused
returns-then-constructed-clause-refused c =
    let octets = c.args.octets.now in
    let kind = c.args.kind in
    let room = c.args.room in
    refused_for_good {Q = HasSomeSegments kind c.args.full room} (tt, tt) (λ more h.
    let f = first_segment kind c.args.full room h.0 (octets ++ more) (c.requires.no_end more) h.1 in
    elim c.then-constructed.either [
      | inl on ↦
          let read = tagged_so c.segment_tag.result (segment_of kind) room c.in_ok-constructed.identifier octets c.in_ok-constructed.constructed true c.segment_tag.ensures on c.in_ok-constructed.ensures.value in
          let no : true ≡ false = form_of_definite (segment_of kind) true false room c.in_ok-constructed.identifier octets more read.tagged (definite_of_first kind room h.0 (octets ++ more) f.1) in
          absurd cc
      | inr off ↦ let no : true ≡ false = sym f.0 ∙ off.1 in absurd cc
    ])

pub returns-in_err-size-clause-refused : goal.returns-in_err-size-clause-refused
returns-in_err-size-clause-refused c =
    let octets = c.args.octets.now in
    let kind = c.args.kind in
    let room = c.args.room in
    let i = c.in_ok-constructed.identifier in
    let read = tagged_so c.segment_tag.result (segment_of kind) room i octets c.in_ok-constructed.constructed false c.segment_tag.ensures c.if-constructed.false c.in_ok-constructed.ensures.value in
    refused_through c.from_residual-in_err-size.result c.from_residual-in_err-size.ensures.1
    (refused_by c.in_err-size.ensures.refused (λ more h.
    let f = (first_segment kind c.args.full room h.0 (octets ++ more) (c.requires.no_end more) h.1).1 in
    (behind_identifier (segment_of kind) false room i octets more read.there read.tagged (definite_of_first kind room h.0 (octets ++ more) f)).extent)
    (λ k. omega (arith, k.fits, length-drop i octets, read.there)))

pub returns-then-not-is_shortest-clause-refused : goal.returns-then-not-is_shortest-clause-refused
returns-then-not-is_shortest-clause-refused c = refused_for_good (tt, tt) (λ more h.
    let octets = c.args.octets.now in
    let kind = c.args.kind in
    let room = c.args.room in
    let i = c.in_ok-constructed.identifier in
    let n = c.in_ok-size.size in
    let used = c.in_ok-size.used in
    let sized = c.in_ok-size.ensures.value in
    let read = tagged_so c.segment_tag.result (segment_of kind) room i octets c.in_ok-constructed.constructed false c.segment_tag.ensures c.if-constructed.false c.in_ok-constructed.ensures.value in
    let f = (first_segment kind c.args.full room h.0 (octets ++ more) (c.requires.no_end more) h.1).1 in
    let k = its_size (segment_of kind) room i n used octets more read.there read.tagged sized (definite_of_first kind room h.0 (octets ++ more) f) in
    elim c.then-not-is_shortest.either [
      | inl off ↦
          let told : true ≡ false = sym ((c.is_shortest.ensures (take used (drop i octets)) sized.sized (length-take-le used (drop i octets) sized.there)).1 k.shortest) ∙ off in
          absurd cc
      | inr long ↦ absurd (omega (arith, long.1, f.short, k.count))
    ])

pub returns-then-size-octets-clause-refused : goal.returns-then-size-octets-clause-refused
returns-then-size-octets-clause-refused c = record {
  bars = λ more none h.
      let octets = c.args.octets.now in
      let kind = c.args.kind in
      let room = c.args.room in
      let i = c.in_ok-constructed.identifier in
      let read = tagged_so c.segment_tag.result (segment_of kind) room i octets c.in_ok-constructed.constructed false c.segment_tag.ensures c.if-constructed.false c.in_ok-constructed.ensures.value in
      let f = (first_segment kind c.args.full room h.0 (octets ++ more) (c.requires.no_end more) h.1).1 in
      let k = its_size (segment_of kind) room i c.in_ok-size.size c.in_ok-size.used octets more read.there read.tagged c.in_ok-size.ensures.value (definite_of_first kind room h.0 (octets ++ more) f) in
      absurd (omega (arith, k.enough, ap length none, c.if-size-octets.true));
  cut = λ same. let read = c.in_ok-size.ensures.value in omega (arith, c.if-size-octets.true, read.fits);
  numbers = tt;
}

pub returns-clause-place : goal.returns-clause-place
returns-clause-place c =
    let octets = c.args.octets.now in
    let kind = c.args.kind in
    let room = c.args.room in
    let i = c.in_ok-constructed.identifier in
    let n = c.in_ok-size.size in
    let used = c.in_ok-size.used in
    let sized = c.in_ok-size.ensures.value in
    let read = tagged_so c.segment_tag.result (segment_of kind) room i octets c.in_ok-constructed.constructed false c.segment_tag.ensures c.if-constructed.false c.in_ok-constructed.ensures.value in
    let s : IsShortestLength n (take used (drop i octets)) = (c.is_shortest.ensures (take used (drop i octets)) sized.sized (length-take-le used (drop i octets) sized.there)).0 c.if-not-is_shortest.false in
    place_of (segment_of kind) room i n used octets read.there read.tagged sized s (omega (arith, c.if-size-octets.false, read.there, sized.there, length-drop i octets))
