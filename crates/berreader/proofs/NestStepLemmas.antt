-- Lemmas on the steps of a nest.
use Rattle.std.proofs.Common.{◌≡◌, ◌+◌, ◌<◌, ◌≤◌, ℕ, Bool, true, List, [], ◌∷◌, ◌++◌, Option, None, Some, Result, Ok, Err, IfOk, OnOk, length, take, drop, refl, sym, ap, ◌∙◌, subst, arith, append_assoc, append-nil, length-append, Contains}
use Rattle.std.specs.List.{AllByRecursion}
use Rattle.std.specs.Prelude.{reverse}
use Rattle.std.proofs.lemmas.List.{length-take-le, length-drop}
use Rattle.octets.specs.declared.TheConstants.{MAX_ENCODING, MAX_TAG_NUMBER}
use Rattle.octets.specs.declared.tag.Tag.{Tag}
use Rattle.octets.specs.Front.{HasFront}
use Rattle.octets.specs.Identifier.{IsIdentifier}
use Rattle.octets.proofs.FrontLemmas.{front_of_more}
use Rattle.types.specs.declared.value.Value.{Value}
use Rattle.types.specs.Shape.{Val, Shape}
use Rattle.types.specs.View.{ty_view, value_view}
use Rattle.types.specs.FirstTags.{first_tags}
use Rattle.types.specs.Leaf.{tag_of, IsLeaf}
use Rattle.types.specs.Order.{BeginsWith}
use Rattle.types.specs.WellFormed.{nodes_of, IsNodeWithin}
use Rattle.types.specs.Encoding.{most_nested}
use Rattle.encoding_parts.specs.declared.frame.Frame.{Frame}
use Rattle.berreader.specs.declared.nest.Nest.{Nest}
use Rattle.berreader.specs.declared.nest.Next.{Next}
use Rattle.berreader.specs.declared.stack.Open.{Open}
use Rattle.berreader.specs.declared.stack.Stack.{Stack}
use Rattle.encoding_parts.specs.declared.held_parts.HeldParts.{HeldParts}
use Rattle.encoding_parts.specs.Completing.{IsEndOf, Opens, IsOpening}
use Rattle.encoding_parts.specs.Head.{IsReadTag, IsTagWithin}
use Rattle.encoding_parts.specs.HeldParts.{parts_view, IsNode}
use Rattle.encoding_parts.specs.Parts.{Parts, IsPartOf, IsNodeFor, ArePartsOf, AreNone, IsPut, IsGoodType, IsValueOf, IsPartWithin, IsWrapped}
use Rattle.berreader.specs.Stack.{Layer, layers_from, layers_of, with_which, IsCounted}
use Rattle.berreader.specs.Nest.{CanFollow, CanComplete, StandsAt, CanFinish, HasTaken, IsTaken, IsWhole, IsStep, IsSoundNest, IsReadNext, IsNext, IsDueInside, IsComeInside, HasCome, IsLast, IsCome, IsPlaced, EndsInside, IsEndInside, IsInside, AreInside, AreSound, levels_inside, levels_left, end_inside}
use Rattle.encoding_parts.specs.Segments.{EndsAt}
use Rattle.encoding_parts.proofs.ChoiceLemmas.{begins_node, node_good, node_own}
use Rattle.berreader.proofs.PartsBeginLemmas.{part_above, part_begins}
use Rattle.berreader.proofs.PartsForthLemmas.{fill_end}
use Rattle.encoding_parts.proofs.ReadingLemmas.{opening_read}
use Rattle.encoding_parts.proofs.StepLemmas.{identifier_some, opening_fits, opens_below, opens_room}
use Rattle.berreader.proofs.NestLemmas.{IsSomeNext, IsOpenNext, next_part, next_of, next_node, begins_more, front_of_next, open_next, own_tag, HasOwnTag, after_open, after_part, after_come, at_end, length_which}
use Rattle.berreader.proofs.NestBackLemmas.{stands_which, stands_opened, stands_come, stands_closed, whole_accepted, ends_room, sound_which, inside_which, end_which, due_which, good_next, end_within, sound_opened, sound_come, inside_come, count_come}

pub node_is_node : (tag : Tag) (node : Shape) → HasOwnTag tag node → IsNode node
node_is_node tag (Shape.simple own type) h = tt
node_is_node tag (Shape.string own type) h = tt
node_is_node tag (Shape.sequence own components) h = tt
node_is_node tag (Shape.set own components) h = tt
node_is_node tag (Shape.sequence_of own type) h = tt
node_is_node tag (Shape.set_of own type) h = tt
node_is_node tag (Shape.choice alternatives) h = absurd h
node_is_node tag (Shape.explicit own type) h = tt

own_within : (tag : Tag) (node : Shape) → HasOwnTag tag node → AllByRecursion IsNodeWithin (nodes_of node) → tag.number ≤ MAX_TAG_NUMBER
own_within tag (Shape.simple own type) h g = subst (λ (t : Tag). t.number ≤ MAX_TAG_NUMBER) h g.0.0
own_within tag (Shape.string own type) h g = subst (λ (t : Tag). t.number ≤ MAX_TAG_NUMBER) h g.0.0
own_within tag (Shape.sequence own components) h g = subst (λ (t : Tag). t.number ≤ MAX_TAG_NUMBER) h g.0.0
own_within tag (Shape.set own components) h g = subst (λ (t : Tag). t.number ≤ MAX_TAG_NUMBER) h g.0.0
own_within tag (Shape.sequence_of own type) h g = subst (λ (t : Tag). t.number ≤ MAX_TAG_NUMBER) h g.0
own_within tag (Shape.set_of own type) h g = subst (λ (t : Tag). t.number ≤ MAX_TAG_NUMBER) h g.0
own_within tag (Shape.choice alternatives) h g = absurd h
own_within tag (Shape.explicit own type) h g = subst (λ (t : Tag). t.number ≤ MAX_TAG_NUMBER) h g.0

first_within : (tag : Tag) (type : Shape) → IsGoodType type → Contains (first_tags type) tag → tag.number ≤ MAX_TAG_NUMBER
first_within tag type good has =
    let n = begins_node tag type has in
    own_within tag n.0 (own_tag tag type n.0 n.1) (node_good tag type n.0 n.1 good).within

-- identifier octets stand next
pub record IsTagNext (shape : Shape) (layers : List Layer) (taken : ℕ) (octets : List ℕ) : Type 0 where
  pub some : IsSomeNext shape layers taken octets
  pub tag : Tag
  pub has : Contains (first_tags some.type) tag
  pub below : tag.number ≤ MAX_TAG_NUMBER
  pub within : IsTagWithin tag (end_inside layers) taken octets
  pub begins : BeginsWith tag octets

pub tag_next : (nest : Nest) (octets : List ℕ) → IsSoundNest nest → (EndsInside (layers_of nest.layers) nest.taken octets → ⊥) → CanFinish nest octets → IsTagNext (ty_view nest.ty.now) (layers_of nest.layers) nest.taken octets
tag_next nest octets sound absent h =
    let shape = ty_view nest.ty.now in
    let layers = layers_of nest.layers in
    let s = next_part shape layers nest.taken octets absent h in
    let n = s.next in
    let first = part_begins (levels_left layers) s.type n.part n.first in
    let b = first.2 in
    let size : length n.part ≡ length b.identifier + length b.rest = ap length b.joined ∙ length-append b.identifier b.rest in
    record {
      some = s;
      tag = first.0;
      has = first.1;
      below = first_within first.0 s.type (good_next shape layers s.which s.type sound.type sound.sound s.due) first.1;
      within = record {
        constructed = b.constructed;
        identifier = b.identifier;
        rest = b.rest ++ n.rest;
        tagged = b.tagged;
        fits = omega (arith, n.fits, size);
        parts = n.joined ∙ (ap (λ x. x ++ n.rest) b.joined ∙ append_assoc b.identifier b.rest n.rest);
      };
      begins = begins_more first.0 n.part n.rest octets n.joined b;
    }

pub read_begins : (tag : Tag) (end taken i : ℕ) (constructed : Bool) (octets more : List ℕ) → IsReadTag tag end taken octets constructed i → BeginsWith tag (octets ++ more)
read_begins tag end taken i constructed octets more h = record { constructed = constructed; identifier = take i octets; rest = drop i octets ++ more; tagged = h.tagged; joined = front_of_more i octets more }

-- what was read is what comes next
pub node_next : (nest : Nest) (octets more : List ℕ) (next : Next) → IsSoundNest nest → (EndsInside (layers_of nest.layers) nest.taken (octets ++ more) → ⊥) → IsReadNext nest octets next → CanFinish nest (octets ++ more)
    → IsNext (layers_of nest.layers) next.which (ty_view next.node.now) nest.taken (octets ++ more)
node_next nest octets more next sound absent read h =
    let shape = ty_view nest.ty.now in
    let layers = layers_of nest.layers in
    let type = ty_view next.ty.now in
    let begins = read_begins next.tag (end_inside layers) nest.taken next.identifier next.constructed octets more read.read in
    let n = next_of shape layers next.which type next.tag nest.taken (octets ++ more) sound.sound read.due read.begins begins (next_part shape layers nest.taken (octets ++ more) absent h) in
    next_node layers next.which type (ty_view next.node.now) next.tag nest.taken (octets ++ more) (good_next shape layers next.which type sound.type sound.sound read.due) read.node begins n

pub part_next : (nest : Nest) (octets more : List ℕ) (next : Next) (end levels : ℕ) → IsSoundNest nest → (EndsInside (layers_of nest.layers) nest.taken (octets ++ more) → ⊥) → IsReadNext nest octets next → end ≡ end_inside (layers_of nest.layers)
    → levels ≡ levels_left (layers_of nest.layers) → CanFinish nest (octets ++ more) → HasFront (IsPartWithin levels (ty_view next.node.now) end nest.taken) (octets ++ more)
part_next nest octets more next end levels sound absent read ends deep h =
    let layers = layers_of nest.layers in
    let node = ty_view next.node.now in
    let n = node_next nest octets more next sound absent read h in
    subst (λ k. HasFront (IsPartWithin k node end nest.taken) (octets ++ more)) (sym deep)
    (subst (λ e. HasFront (IsPartWithin (levels_left layers) node e nest.taken) (octets ++ more)) (sym ends) (front_of_next layers next.which node nest.taken (octets ++ more) n))

pub part_next_whole : (nest : Nest) (octets : List ℕ) (next : Next) (end levels : ℕ) → IsSoundNest nest → (EndsInside (layers_of nest.layers) nest.taken (octets ++ []) → ⊥) → IsReadNext nest octets next → end ≡ end_inside (layers_of nest.layers)
    → levels ≡ levels_left (layers_of nest.layers) → CanFinish nest octets → HasFront (IsPartWithin levels (ty_view next.node.now) end nest.taken) octets
part_next_whole nest octets next end levels sound absent read ends deep h =
    subst (HasFront (IsPartWithin levels (ty_view next.node.now) end nest.taken)) (append-nil octets)
    (part_next nest octets [] next end levels sound absent read ends deep (subst (CanFinish nest) (sym (append-nil octets)) h))

pub opens_next : (nest : Nest) (octets more : List ℕ) (next : Next) → IsSoundNest nest → (EndsInside (layers_of nest.layers) nest.taken (octets ++ more) → ⊥) → IsReadNext nest octets next → (IsLeaf (ty_view next.node.now) → ⊥) → CanFinish nest (octets ++ more)
    → IsOpenNext (layers_of nest.layers) next.tag nest.taken (octets ++ more)
opens_next nest octets more next sound absent read parts h =
    open_next (layers_of nest.layers) next.which (ty_view next.ty.now) (ty_view next.node.now) next.tag nest.taken (octets ++ more) read.node parts (node_next nest octets more next sound absent read h)

-- an encoding opens
pub record IsOpenedBy (old new : Nest) (octets : List ℕ) (next : Next) (frame : Frame) (parts : Parts) (size : ℕ) : Type 0 where
  pub sound : IsSoundNest old
  pub no_end : (more : List ℕ) → EndsInside (layers_of old.layers) old.taken (octets ++ more) → ⊥
  pub read : IsReadNext old octets next
  pub deep : length (layers_of old.layers) < most_nested
  pub constructed : next.constructed ≡ true
  pub of : ArePartsOf (ty_view next.node.now) parts
  pub none : AreNone parts
  pub there : size ≤ length (drop next.identifier octets)
  pub form : Opens (end_inside (layers_of old.layers)) (old.taken + next.identifier) frame (take size (drop next.identifier octets))
  pub type : ty_view new.ty.now ≡ ty_view old.ty.now
  pub taken : new.taken ≡ old.taken + next.identifier + size
  pub layers : layers_of new.layers ≡ record { frame = frame; tag = next.tag; type = ty_view next.ty.now; parts = parts; which = 0 } ∷ with_which (layers_of old.layers) next.which
  pub counted : IsCounted new.layers

whole_there : (i size : ℕ) (octets : List ℕ) → i ≤ length octets → size ≤ length (drop i octets) → i + size ≤ length octets
whole_there i size octets a b = omega (arith, a, b, length-drop i octets)

opening_of : (old new : Nest) (octets : List ℕ) (next : Next) (frame : Frame) (parts : Parts) (size : ℕ) → IsOpenedBy old new octets next frame parts size → IsOpening next.tag (end_inside (layers_of old.layers)) old.taken frame (take (next.identifier + size) octets)
opening_of old new octets next frame parts size h =
    opening_read next.tag (end_inside (layers_of old.layers)) old.taken next.identifier size frame octets h.read.read.there (subst (λ b. IsIdentifier next.tag b (take next.identifier octets)) h.constructed h.read.read.tagged) h.form

pub taken_opening : (old new : Nest) (octets : List ℕ) (next : Next) (frame : Frame) (parts : Parts) (size : ℕ) → IsOpenedBy old new octets next frame parts size → IsTaken old new octets (next.identifier + size)
taken_opening old new octets next frame parts size h =
    let shape = ty_view old.ty.now in
    let layers = layers_of old.layers in
    let inside = with_which layers next.which in
    let node = ty_view next.node.now in
    let type = ty_view next.ty.now in
    let used = next.identifier + size in
    let head = take used octets in
    let layer : Layer = record { frame = frame; tag = next.tag; type = type; parts = parts; which = 0 } in
    let there : used ≤ length octets = whole_there next.identifier size octets h.read.read.there h.there in
    let heads : length head ≡ used = length-take-le used octets there in
    let opening = opening_of old new octets next frame parts size h in
    let good = good_next shape layers next.which type h.sound.type h.sound.sound h.read.due in
    let some = identifier_some next.tag next.constructed (take next.identifier octets) h.read.read.tagged in
    let identifiers : length (take next.identifier octets) ≡ next.identifier = length-take-le next.identifier octets h.read.read.there in
    record {
      there = there;
      type = h.type;
      forth = λ more f.
          let n = node_next old octets more next h.sound (h.no_end more) h.read f in
          let place : old.taken + length head ≡ new.taken = omega (arith, h.taken, heads) in
          subst (λ s. CanComplete s (layers_of new.layers) new.taken (drop used octets ++ more)) (sym h.type)
          (subst (λ l. CanComplete shape l new.taken (drop used octets ++ more)) (sym h.layers)
          (subst (λ t. CanComplete shape (layer ∷ inside) t (drop used octets ++ more)) place
          (after_open layers next.which node parts next.tag frame old.taken (octets ++ more) head (drop used octets ++ more) h.of h.none (node_good next.tag type node h.read.node good) (node_own next.tag type node h.read.node) opening (front_of_more used octets more) n)));
      back = λ before t.
          let place : old.taken ≡ length before = sym t.count in
          let opening_before : IsOpening next.tag (end_inside inside) (length before) frame head =
          subst (λ e. IsOpening next.tag e (length before) frame head) (sym (end_which layers next.which)) (subst (λ x. IsOpening next.tag (end_inside layers) x frame head) place opening) in
          record {
            count = length-append before head ∙ omega (arith, heads, t.count, h.taken);
            stands =
                subst (λ s. StandsAt s (layers_of new.layers) (before ++ head)) (sym h.type)
                (subst (λ l. StandsAt shape l (before ++ head)) (sym h.layers)
                (stands_opened shape inside layer node before head (stands_which shape layers next.which before t.stands) (due_which shape layers next.which type h.read.due) h.read.node h.of h.none opening_before (omega (arith, length_which layers next.which, h.deep))));
          };
      smaller = omega (arith, ap length h.layers, length_which layers next.which, some, identifiers);
    }

pub sound_opening : (old new : Nest) (octets : List ℕ) (next : Next) (frame : Frame) (parts : Parts) (size : ℕ) → IsOpenedBy old new octets next frame parts size → IsSoundNest new
sound_opening old new octets next frame parts size h =
    let shape = ty_view old.ty.now in
    let layers = layers_of old.layers in
    let inside = with_which layers next.which in
    let node = ty_view next.node.now in
    let type = ty_view next.ty.now in
    let used = next.identifier + size in
    let head = take used octets in
    let layer : Layer = record { frame = frame; tag = next.tag; type = type; parts = parts; which = 0 } in
    let there : used ≤ length octets = whole_there next.identifier size octets h.read.read.there h.there in
    let heads : length head ≡ used = length-take-le used octets there in
    let good = good_next shape layers next.which type h.sound.type h.sound.sound h.read.due in
    let same : end_inside inside ≡ end_inside layers = end_which layers next.which in
    let length_part = take size (drop next.identifier octets) in
    let below = opens_below (end_inside layers) (old.taken + next.identifier) frame length_part h.form in
    let below' : frame.end ≤ end_inside inside = omega (arith, below, same) in
    let fits = opening_fits next.tag (end_inside layers) old.taken frame head (opening_of old new octets next frame parts size h) in
    let limit = end_within layers h.sound.sound in
    let inner : IsInside shape layer inside = record {
      due = due_which shape layers next.which type h.read.due;
      definite = below';
      indefinite = λ marked. let room = opens_room (end_inside layers) (old.taken + next.identifier) frame length_part h.form marked in omega (arith, room, same);
    } in
    record {
      type = subst IsGoodType (sym h.type) h.sound.type;
      sound = subst AreSound (sym h.layers) (sound_opened inside layer node (sound_which layers next.which h.sound.sound) good h.read.node h.of h.none below');
      inside = subst (λ s. AreInside s (layers_of new.layers)) (sym h.type) (subst (AreInside shape) (sym h.layers) (inner, inside_which shape layers next.which h.sound.inside));
      counted = h.counted;
      depth = omega (arith, ap length h.layers, length_which layers next.which, h.deep);
      place = omega (arith, h.taken, fits, heads, limit);
    }

-- a value is ready to be put
pub record IsBehind (shape : Shape) (layers : List Layer) (type : Shape) (tag : Tag) (v : Val) (octets : List ℕ) : Type 0 where
  pub before : List ℕ
  pub part : List ℕ
  pub joined : octets ≡ before ++ part
  pub stands : StandsAt shape layers before
  pub node : Shape
  pub chosen : IsNodeFor tag type node
  pub encodes : IsPartOf (levels_left layers) node v part

pub record IsReady (old mid : Nest) (octets : List ℕ) (type : Shape) (tag : Tag) (v : Val) (used : ℕ) : Type 0 where
  pub there : used ≤ length octets
  pub type_is : ty_view mid.ty.now ≡ ty_view old.ty.now
  pub taken : mid.taken ≡ old.taken
  pub room : old.taken + used ≤ MAX_ENCODING
  pub due : IsDueInside (ty_view old.ty.now) (layers_of mid.layers) type
  pub forth : (more : List ℕ) → CanFinish old (octets ++ more) → CanFollow (layers_of mid.layers) (old.taken + used) (drop used octets ++ more)
  pub back : (before : List ℕ) → HasTaken old before → IsBehind (ty_view old.ty.now) (layers_of mid.layers) type tag v (before ++ take used octets)
  pub smaller : length (layers_of mid.layers) < length (layers_of old.layers) + (used + used)

taken_come : (old mid new : Nest) (octets : List ℕ) (type : Shape) (tag : Tag) (v : Val) (used n : ℕ) → IsReady old mid octets type tag v used → HasCome mid new type tag v used n → IsTaken old new octets used
taken_come old mid new octets type tag v used n r h =
    let shape = ty_view old.ty.now in
    let same : ty_view new.ty.now ≡ shape = h.type_is ∙ r.type_is in
    let place : old.taken + used ≡ new.taken = omega (arith, h.taken, r.taken) in
    let heads : length (take used octets) ≡ used = length-take-le used octets r.there in
    record {
      there = r.there;
      type = same;
      forth = λ more f.
          subst (λ s. CanComplete s (layers_of new.layers) new.taken (drop used octets ++ more)) (sym same)
          (subst (λ t. CanComplete shape (layers_of new.layers) t (drop used octets ++ more)) place
          (after_come shape (layers_of mid.layers) (layers_of new.layers) type tag v (old.taken + used) (drop used octets ++ more) h.come (r.forth more f)));
      back = λ before t.
          let b = r.back before t in
          record {
            count = length-append before (take used octets) ∙ omega (arith, heads, t.count, place);
            stands =
                subst (λ s. StandsAt s (layers_of new.layers) (before ++ take used octets)) (sym same)
                (subst (StandsAt shape (layers_of new.layers)) (sym b.joined)
                (stands_come shape (layers_of mid.layers) (layers_of new.layers) type b.node tag v b.before b.part b.stands r.due b.chosen b.encodes h.come));
          };
      smaller = omega (arith, count_come (layers_of mid.layers) (layers_of new.layers) type tag v h.come, r.smaller);
    }

whole_come : (old mid new : Nest) (octets : List ℕ) (type : Shape) (tag : Tag) (v w : Val) (used n : ℕ) → IsReady old mid octets type tag v used → IsLast mid new type tag v w used n → IsWhole old new octets w used
whole_come old mid new octets type tag v w used n r h =
    let shape = ty_view old.ty.now in
    let heads : length (take used octets) ≡ used = length-take-le used octets r.there in
    let due : shape ≡ type = subst (λ l. IsDueInside shape l type) h.before r.due in
    record {
      there = r.there;
      type = h.type_is ∙ r.type_is;
      accepted = λ before t.
          let b = r.back before t in
          let none : b.before ≡ [] = subst (λ l. StandsAt shape l b.before) h.before b.stands in
          let all : b.part ≡ before ++ take used octets = sym (b.joined ∙ ap (λ x. x ++ b.part) none) in
          let part : IsPartOf (levels_left []) b.node v (before ++ take used octets) = subst (IsPartOf (levels_left []) b.node v) all (subst (λ l. IsPartOf (levels_left l) b.node v b.part) h.before b.encodes) in
          whole_accepted shape b.node tag v w (before ++ take used octets) (subst (λ s. IsNodeFor tag s b.node) (sym due) b.chosen) part (subst (λ s. IsWrapped s tag v w) (sym due) h.wraps)
          (omega (arith, length-append before (take used octets), heads, t.count, r.room));
      layers = h.layers;
      taken = h.taken;
    }

pub step_come : (old mid new : Nest) (octets : List ℕ) (type : Shape) (tag : Tag) (v : Val) (used : ℕ) (whole : Option Value) (n : ℕ) → IsReady old mid octets type tag v used → IsCome mid new type tag v used whole n → IsStep old new octets whole n
step_come old mid new octets type tag v used None n r h = subst (IsTaken old new octets) (sym h.used_is) (taken_come old mid new octets type tag v used n r h)
step_come old mid new octets type tag v used (Some value) n r h = subst (IsWhole old new octets (value_view value)) (sym h.used_is) (whole_come old mid new octets type tag v (value_view value) used n r h)

pub sound_come_nest : (mid new : Nest) (type : Shape) (tag : Tag) (v : Val) (used : ℕ) (whole : Option Value) (n : ℕ) → IsSoundNest mid → mid.taken + used ≤ MAX_ENCODING → IsCounted new.layers → IsCome mid new type tag v used whole n → IsSoundNest new
sound_come_nest mid new type tag v used None n sound room counted h = record {
  type = subst IsGoodType (sym h.type_is) sound.type;
  sound = sound_come (layers_of mid.layers) (layers_of new.layers) type tag v sound.sound h.come;
  inside = subst (λ s. AreInside s (layers_of new.layers)) (sym h.type_is) (inside_come (ty_view mid.ty.now) (layers_of mid.layers) (layers_of new.layers) type tag v sound.inside h.come);
  counted = counted;
  depth = omega (arith, count_come (layers_of mid.layers) (layers_of new.layers) type tag v h.come, sound.depth);
  place = omega (arith, h.taken, room);
}
sound_come_nest mid new type tag v used (Some value) n sound room counted h = record {
  type = subst IsGoodType (sym h.type_is) sound.type;
  sound = subst AreSound (sym h.layers) tt;
  inside = subst (AreInside (ty_view new.ty.now)) (sym h.layers) tt;
  counted = counted;
  depth = omega (arith, ap length h.layers);
  place = omega (arith, h.taken);
}

-- the value was put into the innermost
pub come_top : (old : Stack) (top : Open) (held : HeldParts) (type : Shape) (tag : Tag) (v w : Val) → old.top ≡ Some top → IsWrapped type tag v w → IsPut (parts_view top.held_parts) top.which w (parts_view held)
    → IsComeInside (layers_of old) type tag v (layers_of (record { top = Some (record { frame = top.frame; tag = top.tag; ty = top.ty; held_parts = held; which = top.which }); outer = old.outer }))
come_top old top held type tag v w is wraps put =
    let new : Open = record { frame = top.frame; tag = top.tag; ty = top.ty; held_parts = held; which = top.which } in
    let come : IsComeInside (layers_from (Some top ∷ reverse old.outer.items)) type tag v (layers_from (Some new ∷ reverse old.outer.items)) = record { wrapped = w; wraps = wraps; parts = parts_view held; put = put; is = refl } in
    subst (λ t. IsComeInside (layers_from (t ∷ reverse old.outer.items)) type tag v (layers_from (Some new ∷ reverse old.outer.items))) (sym is) come

-- a value was put, and it is one of the type
pub placed : {E : Type 0} (old new : Nest) (type : Shape) (tag : Tag) (v w : Val) (used : ℕ) (whole : Option Value) (r : Result ℕ E) → IsWrapped type tag v w → IfOk r (λ n. (t : Shape) (g : Tag) (u : Val) → IsWrapped t g u w → IsCome old new t g u used whole n)
    → (IsCounted old.layers → OnOk r (IsCounted new.layers)) → IfOk r (IsPlaced old new type tag v used whole)
placed old new type tag v w used whole (Ok n) wraps come counted = record { come = come type tag v wraps; counted = counted }
placed old new type tag v w used whole (Err e) wraps come counted = tt

-- an encoding has ended
pub record IsPopped (old mid : Nest) (layer : Layer) : Type 0 where
  pub sound : IsSoundNest old
  pub layers : layers_of old.layers ≡ layer ∷ layers_of mid.layers
  pub type : ty_view mid.ty.now ≡ ty_view old.ty.now
  pub taken : mid.taken ≡ old.taken
  pub counted : IsCounted mid.layers

pub sound_popped : (old mid : Nest) (layer : Layer) → IsPopped old mid layer → IsSoundNest mid
sound_popped old mid layer h = record {
  type = subst IsGoodType (sym h.type) h.sound.type;
  sound = (subst AreSound h.layers h.sound.sound).1;
  inside = subst (λ s. AreInside s (layers_of mid.layers)) (sym h.type) (subst (AreInside (ty_view old.ty.now)) h.layers h.sound.inside).1;
  counted = h.counted;
  depth = omega (arith, ap length h.layers, h.sound.depth);
  place = omega (arith, h.taken, h.sound.place);
}

pub room_popped : (old mid : Nest) (layer : Layer) (octets : List ℕ) (used : ℕ) → IsPopped old mid layer → used ≤ length octets → IsEndInside (layers_of old.layers) old.taken (take used octets) → old.taken + used ≤ MAX_ENCODING
room_popped old mid layer octets used h there e =
    let shape = ty_view old.ty.now in
    let others = layers_of mid.layers in
    let ends : IsEndOf layer.frame old.taken (take used octets) = subst (λ l. IsEndInside l old.taken (take used octets)) h.layers e in
    let inside = (subst (AreInside shape) h.layers h.sound.inside).0 in
    let sound = (subst AreSound h.layers h.sound.sound).1 in
    let below = ends_room (end_inside others) old.taken layer.frame (take used octets) inside.definite inside.indefinite ends in
    let limit = end_within others sound in
    let marks = length-take-le used octets there in
    omega (arith, below, limit, marks)

pub ready_popped : (old mid : Nest) (layer : Layer) (octets : List ℕ) (v : Val) (used : ℕ) → IsPopped old mid layer → IsValueOf layer.parts v → used ≤ length octets → IsEndInside (layers_of old.layers) old.taken (take used octets) → IsReady old mid octets layer.type layer.tag v used
ready_popped old mid layer octets v used h value there e =
    let shape = ty_view old.ty.now in
    let others = layers_of mid.layers in
    let mark = take used octets in
    let ends : IsEndOf layer.frame old.taken mark = subst (λ l. IsEndInside l old.taken mark) h.layers e in
    let inside = (subst (AreInside shape) h.layers h.sound.inside).0 in
    let sound = (subst AreSound h.layers h.sound.sound).0 in
    let marks : length mark ≡ used = length-take-le used octets there in
    record {
      there = there;
      type_is = h.type;
      taken = h.taken;
      room = room_popped old mid layer octets used h there e;
      due = inside.due;
      forth = λ more f.
          let a = at_end shape layer others old.taken (octets ++ more) mark (drop used octets ++ more) ends (front_of_more used octets more) (subst (λ l. CanComplete shape l old.taken (octets ++ more)) h.layers f) in
          subst (λ n. CanFollow others (old.taken + n) (drop used octets ++ more)) marks a.follow;
      back = λ before t.
          let k = stands_closed shape layer others v old.taken before mark (subst (λ l. StandsAt shape l before) h.layers t.stands) t.count sound.type ends value in
          record { before = k.before; part = k.part; joined = k.joined; stands = k.behind; node = k.node; chosen = k.chosen; encodes = k.encodes };
      smaller = omega (arith, ap length h.layers);
    }

-- at its end an open encoding is not without a value
abbrev pub value_ended : (old mid : Nest) (layer : Layer) (octets : List ℕ) → IsPopped old mid layer → EndsInside (layers_of old.layers) old.taken octets → CanFinish old octets → ((v : Val) → IsValueOf layer.parts v → ⊥) → ⊥
value_ended old mid layer octets h e f =
    let shape = ty_view old.ty.now in
    let others = layers_of mid.layers in
    let ends : EndsAt layer.frame old.taken octets = subst (λ l. EndsInside l old.taken octets) h.layers e in
    let a = at_end shape layer others old.taken octets ends.mark ends.others ends.ends ends.parts (subst (λ l. CanComplete shape l old.taken octets) h.layers f) in
    fill_end (levels_inside others) layer.parts a.filled

pub ends_of : (layers : List Layer) (taken : ℕ) (octets mark rest : List ℕ) → IsEndInside layers taken mark → octets ≡ mark ++ rest → EndsInside layers taken octets
ends_of [] taken octets mark rest e is = absurd e
ends_of (layer ∷ others) taken octets mark rest e is = record { mark = mark; others = rest; ends = e; parts = is }

-- a part without parts has come
pub record IsNoted (old mid : Nest) (which : ℕ) : Type 0 where
  pub sound : IsSoundNest old
  pub layers : layers_of mid.layers ≡ with_which (layers_of old.layers) which
  pub type : ty_view mid.ty.now ≡ ty_view old.ty.now
  pub taken : mid.taken ≡ old.taken
  pub counted : IsCounted mid.layers

pub sound_noted : (old mid : Nest) (which : ℕ) → IsNoted old mid which → IsSoundNest mid
sound_noted old mid which h = record {
  type = subst IsGoodType (sym h.type) h.sound.type;
  sound = subst AreSound (sym h.layers) (sound_which (layers_of old.layers) which h.sound.sound);
  inside = subst (λ s. AreInside s (layers_of mid.layers)) (sym h.type) (subst (AreInside (ty_view old.ty.now)) (sym h.layers) (inside_which (ty_view old.ty.now) (layers_of old.layers) which h.sound.inside));
  counted = h.counted;
  depth = omega (arith, ap length h.layers, length_which (layers_of old.layers) which, h.sound.depth);
  place = omega (arith, h.taken, h.sound.place);
}

pub ready_noted : (old mid : Nest) (octets : List ℕ) (next : Next) (v : Val) (used : ℕ) → IsNoted old mid next.which → ((more : List ℕ) → EndsInside (layers_of old.layers) old.taken (octets ++ more) → ⊥) → IsReadNext old octets next
    → used ≤ length octets → old.taken + used ≤ end_inside (layers_of old.layers) → IsPartOf (levels_left (layers_of old.layers)) (ty_view next.node.now) v (take used octets) → IsReady old mid octets (ty_view next.ty.now) next.tag v used
ready_noted old mid octets next v used h absent read there fits p =
    let shape = ty_view old.ty.now in
    let layers = layers_of old.layers in
    let inside = with_which layers next.which in
    let node = ty_view next.node.now in
    let type = ty_view next.ty.now in
    let part = take used octets in
    let parts : length part ≡ used = length-take-le used octets there in
    let above = part_above (levels_left layers) node part record { value = v; encoding = p.encoding; depth = p.depth } in
    let levels : levels_left layers ≡ levels_left inside = omega (arith, length_which layers next.which) in
    let limit = end_within layers h.sound.sound in
    record {
      there = there;
      type_is = h.type;
      taken = h.taken;
      room = omega (arith, fits, limit);
      due = subst (λ l. IsDueInside shape l type) (sym h.layers) (due_which shape layers next.which type read.due);
      forth = λ more f.
          let n = node_next old octets more next h.sound (absent more) read f in
          subst (λ l. CanFollow l (old.taken + used) (drop used octets ++ more)) (sym h.layers)
          (subst (λ x. CanFollow inside (old.taken + x) (drop used octets ++ more)) parts
          (after_part layers next.which node node (levels_left layers) v old.taken (octets ++ more) part (drop used octets ++ more) n p (front_of_more used octets more)));
      back = λ before t. record {
        before = before;
        part = part;
        joined = refl;
        stands = subst (λ l. StandsAt shape l before) (sym h.layers) (stands_which shape layers next.which before t.stands);
        node = node;
        chosen = read.node;
        encodes = subst (λ l. IsPartOf (levels_left l) node v part) (sym h.layers) (subst (λ n. IsPartOf n node v part) levels p);
      };
      smaller = omega (arith, ap length h.layers, length_which layers next.which, ap length above.is, parts);
    }

pub leaf_own : (tag : Tag) (node : Shape) → HasOwnTag tag node → IsLeaf node → tag_of node ≡ tag
leaf_own tag (Shape.simple own type) h leaf = h
leaf_own tag (Shape.string own type) h leaf = h
leaf_own tag (Shape.sequence own components) h leaf = absurd leaf
leaf_own tag (Shape.set own components) h leaf = absurd leaf
leaf_own tag (Shape.sequence_of own type) h leaf = absurd leaf
leaf_own tag (Shape.set_of own type) h leaf = absurd leaf
leaf_own tag (Shape.choice alternatives) h leaf = absurd leaf
leaf_own tag (Shape.explicit own type) h leaf = absurd leaf
