-- Lemmas on where the open encodings stand, and what is known of them, after a step.
use Rattle.std.proofs.Common.{◌≡◌, inl, inr, ◌+◌, ◌<◌, ◌≤◌, ℕ, suc, false, List, [], ◌∷◌, ◌++◌, length, refl, sym, ap, ◌∙◌, subst, arith, append_assoc, append-nil, length-append}
use Rattle.octets.specs.declared.TheConstants.{MAX_ENCODING}
use Rattle.octets.specs.declared.tag.Tag.{Tag}
use Rattle.octets.specs.Rule.{ber}
use Rattle.types.specs.Shape.{Val, Shape}
use Rattle.types.specs.Encoding.{IsAccepted, most_nested}
use Rattle.encoding_parts.specs.declared.frame.Frame.{Frame}
use Rattle.encoding_parts.specs.Completing.{IsEndOf, IsOpening}
use Rattle.encoding_parts.specs.Parts.{IsPartOf, IsNodeFor, ArePartsOf, AreNone, IsGoodType, IsValueOf, IsWrapped}
use Rattle.berreader.specs.Stack.{Layer, with_which}
use Rattle.berreader.specs.Nest.{StandsAt, IsDueInside, IsDueNext, IsComeInside, AreSound, AreInside, levels_inside, levels_left, end_inside}
use Rattle.encoding_parts.proofs.ChoiceLemmas.{node_good, node_own}
use Rattle.encoding_parts.proofs.CompletingLemmas.{constructed_of_frame}
use Rattle.berreader.proofs.PartsDueLemmas.{due_good}
use Rattle.encoding_parts.proofs.PartsOpenLemmas.{none_holds, parts_good}
use Rattle.encoding_parts.proofs.PartsPutLemmas.{put_holds, put_good, put_parts_of}
use Rattle.encoding_parts.proofs.PartsValueLemmas.{value_encodes}

-- which part is open changes nothing of what has come
pub stands_which : (shape : Shape) (layers : List Layer) (which : ℕ) (octets : List ℕ) → StandsAt shape layers octets → StandsAt shape (with_which layers which) octets
stands_which shape [] which octets h = h
stands_which shape (layer ∷ others) which octets h = record {
  before = h.before;
  head = h.head;
  contents = h.contents;
  joined = h.joined;
  behind = h.behind;
  due = h.due;
  node = h.node;
  chosen = h.chosen;
  parts = h.parts;
  opening = h.opening;
  holds = h.holds;
  nested = h.nested;
}

-- an encoding has been opened
pub stands_opened : (shape : Shape) (layers : List Layer) (layer : Layer) (node : Shape) (before head : List ℕ) → StandsAt shape layers before → IsDueInside shape layers layer.type → IsNodeFor layer.tag layer.type node → ArePartsOf node layer.parts → AreNone layer.parts
    → IsOpening layer.tag (end_inside layers) (length before) layer.frame head → length layers < most_nested → StandsAt shape (layer ∷ layers) (before ++ head)
stands_opened shape layers layer node before head h due chosen of none opening deep = record {
  before = before;
  head = head;
  contents = [];
  joined = ap (λ x. before ++ x) (sym (append-nil head));
  behind = h;
  due = due;
  node = node;
  chosen = chosen;
  parts = of;
  opening = opening;
  holds = none_holds (levels_inside layers) layer.parts none;
  nested = deep;
}

-- a value has come
pub stands_come : (shape : Shape) (layers new : List Layer) (type node : Shape) (tag : Tag) (v : Val) (before part : List ℕ) → StandsAt shape layers before → IsDueInside shape layers type → IsNodeFor tag type node → IsPartOf (levels_left layers) node v part → IsComeInside layers type tag v new
    → StandsAt shape new (before ++ part)
stands_come shape [] new type node tag v before part h due chosen p come = absurd come
stands_come shape (layer ∷ others) new type node tag v before part h due chosen p come =
    let levels : levels_left (layer ∷ others) ≡ levels_inside others = omega arith in
    let whole : IsPartOf (levels_inside others) type come.wrapped part = subst (λ n. IsPartOf n type come.wrapped part) levels record { encoding = come.wraps node part chosen p.encoding; depth = p.depth } in
    subst (λ x. StandsAt shape x (before ++ part)) (sym come.is) record {
      before = h.before;
      head = h.head;
      contents = h.contents ++ part;
      joined = ap (λ x. x ++ part) h.joined ∙ (append_assoc h.before (h.head ++ h.contents) part ∙ ap (λ x. h.before ++ x) (append_assoc h.head h.contents part));
      behind = h.behind;
      due = h.due;
      node = h.node;
      chosen = h.chosen;
      parts = put_parts_of h.node layer.parts come.parts layer.which come.wrapped h.parts come.put;
      opening = h.opening;
      holds = put_holds (levels_inside others) layer.parts come.parts layer.which type come.wrapped h.contents part h.holds due whole come.put;
      nested = h.nested;
    }

-- an encoding that has ended, behind what the others hold
pub record IsClosed (shape : Shape) (layer : Layer) (others : List Layer) (v : Val) (octets : List ℕ) : Type 0 where
  pub before : List ℕ
  pub part : List ℕ
  pub joined : octets ≡ before ++ part
  pub behind : StandsAt shape others before
  pub due : IsDueInside shape others layer.type
  pub node : Shape
  pub chosen : IsNodeFor layer.tag layer.type node
  pub encodes : IsPartOf (levels_left others) node v part

pub stands_closed : (shape : Shape) (layer : Layer) (others : List Layer) (v : Val) (taken : ℕ) (octets mark : List ℕ) → StandsAt shape (layer ∷ others) octets → length octets ≡ taken → IsGoodType layer.type → IsEndOf layer.frame taken mark → IsValueOf layer.parts v → IsClosed shape layer others v (octets ++ mark)
stands_closed shape layer others v taken octets mark h count good e is =
    let size : length octets ≡ length h.before + (length h.head + length h.contents) = ap length h.joined ∙ (length-append h.before (h.head ++ h.contents) ∙ ap (λ n. length h.before + n) (length-append h.head h.contents)) in
    let whole = constructed_of_frame layer.tag (end_inside others) (length h.before) taken layer.frame h.head h.contents mark h.opening e (omega (arith, size, count)) in
    let levels : suc (levels_inside others) ≡ levels_left others = omega (arith, h.nested) in
    let part = h.head ++ (h.contents ++ mark) in
    record {
      before = h.before;
      part = part;
      joined = ap (λ x. x ++ mark) h.joined ∙ (append_assoc h.before (h.head ++ h.contents) mark ∙ ap (λ x. h.before ++ x) (append_assoc h.head h.contents mark));
      behind = h.behind;
      due = h.due;
      node = h.node;
      chosen = h.chosen;
      encodes = subst (λ n. IsPartOf n h.node v part) levels (value_encodes (levels_inside others) h.node layer.parts layer.tag v h.contents part h.parts h.holds is (node_good layer.tag layer.type h.node h.chosen good) (node_own layer.tag layer.type h.node h.chosen) whole);
    }

-- the value is whole
pub whole_accepted : (shape node : Shape) (tag : Tag) (v wrapped : Val) (octets : List ℕ) → IsNodeFor tag shape node → IsPartOf (levels_left []) node v octets → IsWrapped shape tag v wrapped → length octets ≤ MAX_ENCODING → IsAccepted ber shape wrapped octets
whole_accepted shape node tag v wrapped octets chosen p wraps size = record { encoding = wraps node octets chosen p.encoding; depth = p.depth; size = size }

-- what is known stays known
pub sound_which : (layers : List Layer) (which : ℕ) → AreSound layers → AreSound (with_which layers which)
sound_which [] which h = h
sound_which (layer ∷ others) which h = (record { type = h.0.type; parts = h.0.parts; within = h.0.within }, h.1)

pub inside_which : (shape : Shape) (layers : List Layer) (which : ℕ) → AreInside shape layers → AreInside shape (with_which layers which)
inside_which shape [] which h = h
inside_which shape (layer ∷ others) which h = (record { due = h.0.due; definite = h.0.definite; indefinite = h.0.indefinite }, h.1)

pub end_which : (layers : List Layer) (which : ℕ) → end_inside (with_which layers which) ≡ end_inside layers
end_which [] which = refl
end_which (layer ∷ others) which = refl

pub due_which : (shape : Shape) (layers : List Layer) (which : ℕ) (type : Shape) → IsDueNext shape layers which type → IsDueInside shape (with_which layers which) type
due_which shape [] which type h = h
due_which shape (layer ∷ others) which type h = h

pub good_next : (shape : Shape) (layers : List Layer) (which : ℕ) (type : Shape) → IsGoodType shape → AreSound layers → IsDueNext shape layers which type → IsGoodType type
good_next shape [] which type good sound h = subst IsGoodType h good
good_next shape (layer ∷ others) which type good sound h = due_good layer.parts which type sound.0.parts h

pub end_within : (layers : List Layer) → AreSound layers → end_inside layers ≤ MAX_ENCODING
end_within [] h = omega arith
end_within (layer ∷ others) h = h.0.within

pub sound_opened : (layers : List Layer) (layer : Layer) (node : Shape) → AreSound layers → IsGoodType layer.type → IsNodeFor layer.tag layer.type node → ArePartsOf node layer.parts → AreNone layer.parts → layer.frame.end ≤ end_inside layers → AreSound (layer ∷ layers)
sound_opened layers layer node h good chosen of none below =
    let within = end_within layers h in
    (record { type = good; parts = parts_good node layer.parts (node_good layer.tag layer.type node chosen good) of none; within = omega (arith, below, within) }, h)

pub sound_come : (layers new : List Layer) (type : Shape) (tag : Tag) (v : Val) → AreSound layers → IsComeInside layers type tag v new → AreSound new
sound_come [] new type tag v h come = absurd come
sound_come (layer ∷ others) new type tag v h come =
    subst AreSound (sym come.is) (record { type = h.0.type; parts = put_good layer.parts come.parts layer.which come.wrapped h.0.parts come.put; within = h.0.within }, h.1)

pub inside_come : (shape : Shape) (layers new : List Layer) (type : Shape) (tag : Tag) (v : Val) → AreInside shape layers → IsComeInside layers type tag v new → AreInside shape new
inside_come shape [] new type tag v h come = absurd come
inside_come shape (layer ∷ others) new type tag v h come = subst (AreInside shape) (sym come.is) (record { due = h.0.due; definite = h.0.definite; indefinite = h.0.indefinite }, h.1)

pub count_come : (layers new : List Layer) (type : Shape) (tag : Tag) (v : Val) → IsComeInside layers type tag v new → length new ≡ length layers
count_come [] new type tag v come = absurd come
count_come (layer ∷ others) new type tag v come = ap length come.is

-- where an encoding has ended
pub ends_room : (end taken : ℕ) (frame : Frame) (mark : List ℕ) → frame.end ≤ end → (frame.definite ≡ false → frame.end + 2 ≤ end) → IsEndOf frame taken mark → taken + length mark ≤ end
ends_room end taken frame mark below room (inl e) = omega (arith, ap length e.none, e.there, below)
ends_room end taken frame mark below room (inr e) = let more = room e.indefinite in omega (arith, ap length e.zeros, e.fits, more)
