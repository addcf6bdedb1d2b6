-- Lemmas on where the contents octets of primitive encodings stand.
use Rattle.std.proofs.Common.{◌≡◌, ℕ, ◌+◌, ◌-◌, ◌≤◌, List, ◌++◌, false, length, take, drop, sym, ◌∙◌, ap, subst, arith, slice_range, length-append}
use Rattle.std.proofs.Math.Seq.{take-add}
use Rattle.std.proofs.lemmas.List.{length-take-le, length-drop, drop-drop}
use Rattle.octets.specs.declared.canonical.Canonical.{Canonical}
use Rattle.octets.specs.declared.tag.Tag.{Tag}
use Rattle.octets.specs.Identifier.{IsIdentifier}
use Rattle.octets.specs.Length.{IsShortestLength}
use Rattle.octets.specs.Rule.{ber, der, rule_of}
use Rattle.octets.proofs.FrontLemmas.{same_front, front_of_more}
use Rattle.types.specs.declared.value.Value.{Value}
use Rattle.types.specs.Shape.{Shape, Val}
use Rattle.types.specs.Conforms.{Conforms}
use Rattle.types.specs.Form.{IsDefinite}
use Rattle.types.specs.Leaf.{tag_of, IsLeaf}
use Rattle.types.specs.View.{value_view}
use Rattle.encoding_parts.specs.Contents.{HoldsContents}
use Rattle.encoding_parts.specs.Head.{IsReadDefinite}
use Rattle.encoding_parts.specs.Lengths.{CanHaveLength}
use Rattle.encoding_parts.proofs.ContentsLengthLemmas.{simple_length, string_length}
use Rattle.strict.specs.Head.{HasDefinite, IsDefiniteAt}
use Rattle.strict.specs.Leaf.{IsWhole, HasPrimitive, IsPlace}
use Rattle.strict.specs.Reading.{IsRead}
use Rattle.strict.proofs.HeadLemmas.{behind_identifier, its_length, shortest_of, definite_at}
use Rattle.strict.proofs.LeafLemmas.{definite_of_primitive, primitive_encodes}
use Rattle.strict.proofs.ContentsLemmas.{contents_by_ber}

-- the contents octets behind what was read
pub place_at : (tag : Tag) (room start size : ℕ) (octets : List ℕ) → IsDefiniteAt tag false room octets start size → start + size ≤ length octets → IsPlace tag room octets start (start + size)
place_at tag room start size octets h there =
    let behind = drop start octets in
    let contents = slice_range octets start (start + size) in
    let exact : contents ≡ take size behind = ap (λ n. take n behind) (omega arith) in
    let many : length (take size behind) ≡ size = length-take-le size behind (omega (arith, there, length-drop start octets)) in
    let joined : take start octets ++ contents ≡ take (start + size) octets = ap (λ x. take start octets ++ x) exact ∙ sym (take-add start size octets) in
    record {
      ordered = omega arith;
      there = there;
      fits = h.fits;
      primitive = subst (IsDefinite der tag false contents) joined (h.makes contents (ap length exact ∙ many));
      only = λ more k.
          let only = h.only more k in
          let same = same_front (take size behind) k.contents (drop size behind ++ more) k.rest (many ∙ sym only.0) (sym (front_of_more size behind more) ∙ only.1) in
          (sym same.0 ∙ sym exact, ap (λ x. x ++ more) (sym (drop-drop size start octets)) ∙ same.1);
    }

-- a length that was read is that of what can stand there, and the shortest
pub record IsItsSize (tag : Tag) (room i n used : ℕ) (octets more : List ℕ) (h : HasDefinite tag false room (octets ++ more)) : Type 0 where
  pub count : length h.contents ≡ n
  pub shortest : IsShortestLength n (take used (drop i octets))
  pub enough : i + used + n ≤ length octets + length more

pub its_size : (tag : Tag) (room i n used : ℕ) (octets more : List ℕ) → i ≤ length octets → IsIdentifier tag false (take i octets) → IsReadDefinite room i (drop i octets) n used → (h : HasDefinite tag false room (octets ++ more)) → IsItsSize tag room i n used octets more h
its_size tag room i n used octets more there id read h =
    let b = behind_identifier tag false room i octets more there id h in
    let l = its_length n used (drop i octets) more h.whole.size h.contents h.rest read.sized h.whole.sized b.parts in
    let long = ap length l.rest_is in
    record {
      count = l.count;
      shortest = shortest_of n used (drop i octets) more h.whole.size h.contents h.rest l h.whole.sized;
      enough = omega (arith, there, read.there, l.count, long, length-append (drop used (drop i octets)) more, length-append h.contents h.rest, length-drop i octets, length-drop used (drop i octets));
    }

-- where the contents octets stand, all of which are there
pub place_of : (tag : Tag) (room i n used : ℕ) (octets : List ℕ) → i ≤ length octets → IsIdentifier tag false (take i octets) → IsReadDefinite room i (drop i octets) n used → IsShortestLength n (take used (drop i octets)) → i + used + n ≤ length octets
    → IsPlace tag room octets (i + used) (i + used + n)
place_of tag room i n used octets there id read s enough = place_at tag room (i + used) n octets (definite_at tag false i used n room octets there id read.there s read.fits) enough

-- as many contents octets as the type can have
length_of_contents : (type : Shape) (v : Val) (contents : List ℕ) → IsLeaf type → Conforms type v → HoldsContents ber type v contents → CanHaveLength type (length contents)
length_of_contents (Shape.simple tag type) v contents leaf conforms h = simple_length type h.value contents (subst (Conforms (Shape.simple tag type)) h.is conforms) h.spelt
length_of_contents (Shape.string tag type) v contents leaf conforms h = string_length type h.value contents (subst (Conforms (Shape.string tag type)) h.is conforms) h.spelt
length_of_contents type v contents leaf conforms h = absurd leaf

pub can_of_primitive : (rule : Canonical) (type : Shape) (room : ℕ) (octets : List ℕ) → IsLeaf type → (h : HasPrimitive rule type room octets) → CanHaveLength type (length h.encoding.contents)
can_of_primitive rule type room octets leaf h = length_of_contents type h.value h.encoding.contents leaf h.encoding.conforms (contents_by_ber type h.value h.encoding.contents h.encoding.holds)

-- the value of the contents octets was read
pub leaf_read : (rule : Canonical) (type : Shape) (room start stop : ℕ) (octets : List ℕ) (value : Value) → IsLeaf type → IsPlace (tag_of type) room octets start stop → ((size : ℕ) → stop ≡ start + size → IsWhole rule type size)
    → Conforms type (value_view value) → HoldsContents der type (value_view value) (slice_range octets start stop) → IsRead (rule_of rule) type room octets value stop
leaf_read rule type room start stop octets value leaf place whole conforms holds =
    let contents = slice_range octets start stop in
    let count : length contents ≡ stop - start = length-take-le (stop - start) (drop start octets) (omega (arith, place.there, length-drop start octets)) in (
      place.there,
      place.fits,
      primitive_encodes rule type (value_view value) (take stop octets) leaf record {
        contents = contents;
        conforms = conforms;
        holds = holds;
        whole = whole (length contents) (omega (arith, count, place.ordered));
        primitive = place.primitive;
      },
    )

-- the contents octets are those of what can stand at the front
pub held_of_primitive : (rule : Canonical) (type : Shape) (room start stop : ℕ) (octets more : List ℕ) → IsPlace (tag_of type) room octets start stop → (h : HasPrimitive rule type room (octets ++ more))
    → Conforms type h.value × HoldsContents der type h.value (slice_range octets start stop)
held_of_primitive rule type room start stop octets more place h =
    let only = place.only more (definite_of_primitive rule type room (octets ++ more) h) in
    (h.encoding.conforms, subst (HoldsContents der type h.value) only.0 h.encoding.holds)
