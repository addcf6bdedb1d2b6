use Rattle.std.proofs.Common.{◌≡◌, ◌++◌, true, false, length, take, drop, sym, ◌∙◌, ap, subst, arith, inl, inr, rules}
use Rattle.std.proofs.lemmas.List.{length-take-le, length-drop, take-append-drop}
use Rattle.types.specs.Leaf.{tag_of}
use Rattle.types.specs.View.{ty_view}
use Rattle.encoding_parts.specs.Lengths.{CanHaveLength}
use Rattle.octets.specs.Length.{IsShortestLength}
use Rattle.strict.specs.Leaf.{IsWhole}
use Rattle.strict.proofs.BarsLemmas.{refused_for_good, refused_by, refused_named}
use Rattle.strict.proofs.HeadLemmas.{behind_identifier}
use Rattle.strict.proofs.LeafLemmas.{definite_of_primitive}
use Rattle.strict.proofs.PlaceLemmas.{its_size, place_of, can_of_primitive}
use Rattle.strict.proofs.leaf.read_place.Goals as goal
use Rattle.strict.proofs.leaf.read_place.Goals.{then-not-is_shortest-via-then-not-is_shortest, then-not-is_shortest-via-else-not-is_shortest+then-is_to_be_cut}

pub returns-in-Err-clause-refused : goal.returns-in-Err-clause-refused
returns-in-Err-clause-refused c =
    let octets = c.args.octets.now in
    let type = ty_view c.args.ty.now in
    let room = c.args.room in
    let i = c.args.identifier in
    let read = c.requires.tagged in
    refused_named c.why.ensures
    (refused_by c.in-Err.ensures.refused (λ more h. (behind_identifier (tag_of type) false room i octets more read.there read.tagged (definite_of_primitive c.args.rule type room (octets ++ more) h)).extent) (λ k. inl k))

pub returns-then-not-can_have_length-clause-refused : goal.returns-then-not-can_have_length-clause-refused
returns-then-not-can_have_length-clause-refused c = record {
  bars = λ more may h.
      let octets = c.args.octets.now in
      let type = ty_view c.args.ty.now in
      let room = c.args.room in
      let n = c.in-Ok.read.0 in
      let d = definite_of_primitive c.args.rule type room (octets ++ more) h in
      let k = its_size (tag_of type) room c.args.identifier n c.in-Ok.read.1 octets more c.requires.tagged.there c.requires.tagged.tagged c.in-Ok.ensures.value d in
      let can : CanHaveLength type n = subst (CanHaveLength type) k.count (can_of_primitive c.args.rule type room (octets ++ more) c.requires.leaf h) in
      let told : false ≡ true = sym c.if-not-can_have_length.true ∙ c.can_have_length.ensures.1 can in
      absurd cc;
  cut = search rules;
  numbers = search rules;
}

pub returns-then-not-is_shortest-clause-refused : goal.returns-then-not-is_shortest-clause-refused
returns-then-not-is_shortest-clause-refused c = refused_for_good (tt, tt) (λ more h.
    let octets = c.args.octets.now in
    let type = ty_view c.args.ty.now in
    let room = c.args.room in
    let i = c.args.identifier in
    let n = c.in-Ok.read.0 in
    let used = c.in-Ok.read.1 in
    let read = c.in-Ok.ensures.value in
    let d = definite_of_primitive c.args.rule type room (octets ++ more) h in
    let k = its_size (tag_of type) room i n used octets more c.requires.tagged.there c.requires.tagged.tagged read d in
    elim c.then-not-is_shortest.branch [
      | then-not-is_shortest-via-then-not-is_shortest w ↦
          let told : true ≡ false = sym ((c.is_shortest.ensures (take used (drop i octets)) read.sized (length-take-le used (drop i octets) read.there)).1 k.shortest) ∙ w.if-not-is_shortest.true in
          absurd cc
      | then-not-is_shortest-via-else-not-is_shortest+then-is_to_be_cut w ↦
          let whole : IsWhole c.args.rule type n = subst (IsWhole c.args.rule type) k.count h.encoding.whole in
          let told : true ≡ false = sym w.if-is_to_be_cut.true ∙ w.is_to_be_cut.ensures.1 whole in
          absurd cc
    ])

pub returns-then-size-octets-clause-refused : goal.returns-then-size-octets-clause-refused
returns-then-size-octets-clause-refused c = record {
  bars = λ more none h.
      let octets = c.args.octets.now in
      let type = ty_view c.args.ty.now in
      let room = c.args.room in
      let d = definite_of_primitive c.args.rule type room (octets ++ more) h in
      let k = its_size (tag_of type) room c.args.identifier c.in-Ok.read.0 c.in-Ok.read.1 octets more c.requires.tagged.there c.requires.tagged.tagged c.in-Ok.ensures.value d in
      absurd (omega (arith, k.enough, ap length none, c.if-size-octets.true));
  cut = λ same.
      let octets = c.args.octets.now in
      let type = ty_view c.args.ty.now in
      let i = c.args.identifier in
      let n = c.in-Ok.read.0 in
      let used = c.in-Ok.read.1 in
      let read = c.in-Ok.ensures.value in
      let behind = drop i octets in
      let size = length-take-le used behind read.there in
      let s : IsShortestLength n (take used behind) = (c.is_shortest.ensures (take used behind) read.sized size).0 c.if-not-is_shortest.false in
      inr record {
        contents = n;
        can = c.can_have_length.ensures.0 c.if-not-can_have_length.false;
        whole = c.is_to_be_cut.ensures.0 c.if-is_to_be_cut.false;
        begun = record {
          cut = record {
            size = take used behind;
            some = drop used behind;
            sized = read.sized;
            joined = sym (take-append-drop used behind);
            fewer = omega (arith, c.if-size-octets.true, length-drop i octets, length-drop used behind);
            fits = omega (arith, read.fits, size);
          };
          shortest = s;
        };
      };
  numbers = tt;
}

pub returns-clause-place : goal.returns-clause-place
returns-clause-place c =
    let octets = c.args.octets.now in
    let type = ty_view c.args.ty.now in
    let i = c.args.identifier in
    let n = c.in-Ok.read.0 in
    let used = c.in-Ok.read.1 in
    let read = c.in-Ok.ensures.value in
    let there = c.requires.tagged.there in
    let s : IsShortestLength n (take used (drop i octets)) = (c.is_shortest.ensures (take used (drop i octets)) read.sized (length-take-le used (drop i octets) read.there)).0 c.if-not-is_shortest.false in
    place_of (tag_of type) c.args.room i n used octets there c.requires.tagged.tagged read s (omega (arith, c.if-size-octets.false, there, read.there, length-drop i octets))
