-- Lemmas on a constructed string of which some octets have come, in the nest that it belongs to.
use Rattle.std.proofs.Common.{◌≡◌, ◌≤◌, ℕ, Bool, true, List, [], ◌∷◌, ◌++◌, Option, None, Some, length, take, drop, refl, sym, ap, ap₂, ◌∙◌, subst, arith, length-append}
use Rattle.std.proofs.lemmas.List.{length-take-le, take-append-le, take_all}
use Rattle.octets.specs.declared.tag.Tag.{Tag}
use Rattle.octets.specs.Identifier.{IsIdentifier}
use Rattle.octets.specs.Rule.{ber}
use Rattle.octets.proofs.FrontLemmas.{front_of_more, whole_front}
use Rattle.types.specs.Conforms.{Conforms}
use Rattle.types.specs.FirstTags.{IsUsable}
use Rattle.types.specs.Leaf.{tag_of, IsLeaf}
use Rattle.types.specs.declared.value.Value.{Value}
use Rattle.types.specs.Shape.{Shape, Val}
use Rattle.types.specs.View.{ty_view}
use Rattle.types.proofs.NestingLemmas.{identifier_above}
use Rattle.encoding_parts.specs.declared.joined.SegmentKind.{SegmentKind}
use Rattle.berreader.specs.declared.nest.Nest.{Nest}
use Rattle.berreader.specs.declared.nest.Next.{Next}
use Rattle.berreader.specs.declared.nest.OpenString.{OpenString}
use Rattle.encoding_parts.specs.declared.segments.Segments.{Segments}
use Rattle.encoding_parts.specs.Head.{IsReadTag}
use Rattle.encoding_parts.specs.Joined.{string_of, string_shape, string_value, value_of}
use Rattle.berreader.specs.Nest.{CanFinish, EndsInside, IsCome, IsReadNext, IsSoundNest, IsStep, end_inside, levels_left}
use Rattle.encoding_parts.specs.Parts.{IsGoodType, IsPartOf}
use Rattle.encoding_parts.specs.Segments.{stack, CanComplete, IsSound, IsTaken, IsPassed, IsBegun}
use Rattle.berreader.specs.Stack.{Layer, layers_of}
use Rattle.berreader.specs.Strings.{IsClosed, IsOpenedString, IsSoundString, IsString}
use Rattle.encoding_parts.proofs.ChoiceLemmas.{node_good}
use Rattle.encoding_parts.proofs.LeafLemmas.{conforms_of_encoding}
use Rattle.berreader.proofs.NestBackLemmas.{good_next}
use Rattle.berreader.proofs.NestLemmas.{own_tag}
use Rattle.berreader.proofs.NestStepLemmas.{IsNoted, IsReady, leaf_own, part_next, ready_noted}
use Rattle.encoding_parts.proofs.ReadingLemmas.{IsReadPart, passed_completes, passed_more, passed_read}
use Rattle.encoding_parts.proofs.StepLemmas.{end_alone}
use Rattle.encoding_parts.proofs.TypedLemmas.{part_of_joined, same_string, string_front}
use Rattle.encoding_parts.proofs.WithinLemmas.{usable_tag}

-- the identifier octets stay at the front
pub read_more : (nest : Nest) (passed more : List ℕ) (next : Next) → IsReadNext nest passed next → IsReadNext nest (passed ++ more) next
read_more nest passed more next h = record {
  read = record {
    there = omega (arith, h.read.there, length-append passed more);
    fits = h.read.fits;
    tagged = subst (IsIdentifier next.tag next.constructed) (sym (take-append-le next.identifier passed more h.read.there)) h.read.tagged;
  };
  due = h.due;
  begins = h.begins;
  node = h.node;
}

pub read_front : (nest : Nest) (octets : List ℕ) (used : ℕ) (next : Next) → next.identifier ≤ used → used ≤ length octets → IsReadNext nest octets next → IsReadNext nest (take used octets) next
read_front nest octets used next heads there h =
    let size : length (take used octets) ≡ used = length-take-le used octets there in
    let i = next.identifier in
    let same : take i octets ≡ take i (take used octets) = ap (take i) (whole_front used octets) ∙ take-append-le i (take used octets) (drop used octets) (omega (arith, heads, size)) in
    record {
      read = record { there = omega (arith, heads, size); fits = h.read.fits; tagged = subst (IsIdentifier next.tag next.constructed) same h.read.tagged };
      due = h.due;
      begins = h.begins;
      node = h.node;
    }

-- more segments have come
pub passed_on : (nest : Nest) (old new : OpenString) (passed octets : List ℕ) (used : ℕ) → IsString nest old passed → new.next ≡ old.next → new.kind ≡ old.kind → IsTaken old.kind old.segments new.segments octets used → IsString nest new (passed ++ take used octets)
passed_on nest old new passed octets used h next kind k =
    let mid : OpenString = record { next = old.next; kind = old.kind; segments = new.segments } in
    let same : mid ≡ new = ap₂ (λ n s. record { next = n; kind = s; segments = new.segments }) (sym next) (sym kind) in
    let all : IsString nest mid (passed ++ take used octets) = record {
      next = read_more nest passed (take used octets) old.next h.next;
      leaf = h.leaf;
      kind = h.kind;
      constructed = h.constructed;
      segments = passed_more old.kind (levels_left (layers_of nest.layers)) (end_inside (layers_of nest.layers)) nest.taken old.next.identifier old.segments new.segments passed octets used h.segments k;
    } in
    subst (λ s. IsString nest s (passed ++ take used octets)) same all

pub sound_on : (nest : Nest) (old new : OpenString) (octets : List ℕ) (used : ℕ) → IsSoundString nest old → new.next ≡ old.next → new.kind ≡ old.kind → IsTaken old.kind old.segments new.segments octets used → IsSound old.kind new.segments → IsSoundString nest new
sound_on nest old new octets used h next kind k sound = record {
  segments = subst (λ s. IsSound s new.segments) (sym kind) sound;
  levels = k.deepest ∙ h.levels;
  octets = h.octets ++ take used octets;
  begun = passed_on nest old new h.octets octets used h.begun next kind k;
}

-- no open encoding ends where identifier octets stand
no_end_at : (layers : List Layer) (tag : Tag) (constructed : Bool) (taken i : ℕ) (octets more : List ℕ) → IsUsable tag → IsReadTag tag (end_inside layers) taken octets constructed i → EndsInside layers taken (octets ++ more) → ⊥
no_end_at [] tag constructed taken i octets more kept read e = absurd e
no_end_at (layer ∷ others) tag constructed taken i octets more kept read e =
    let size : length (take i octets) ≡ i = length-take-le i octets read.there in
    end_alone layer.frame taken e.mark (take i octets) e.others (drop i octets ++ more) e.ends (identifier_above tag constructed (take i octets) kept read.tagged)
    (omega (arith, read.fits, size)) (sym e.parts ∙ front_of_more i octets more)

-- the type without parts that comes next
pub node_of_next : (nest : Nest) (octets : List ℕ) (next : Next) → IsSoundNest nest → IsReadNext nest octets next → IsGoodType (ty_view next.node.now)
node_of_next nest octets next sound h =
    node_good next.tag (ty_view next.ty.now) (ty_view next.node.now) h.node (good_next (ty_view nest.ty.now) (layers_of nest.layers) next.which (ty_view next.ty.now) sound.type sound.sound h.due)

pub tag_of_leaf : (nest : Nest) (octets : List ℕ) (next : Next) → IsReadNext nest octets next → IsLeaf (ty_view next.node.now) → tag_of (ty_view next.node.now) ≡ next.tag
tag_of_leaf nest octets next h leaf = leaf_own next.tag (ty_view next.node.now) (own_tag next.tag (ty_view next.ty.now) (ty_view next.node.now) h.node) leaf

pub tagged_string : (nest : Nest) (string : OpenString) (passed : List ℕ) → IsString nest string passed → IsIdentifier (tag_of (ty_view string.next.node.now)) true (take string.next.identifier passed)
tagged_string nest string passed h =
    let i = string.next.identifier in
    subst (λ t. IsIdentifier t true (take i passed)) (sym (tag_of_leaf nest passed string.next h.next h.leaf))
    (subst (λ b. IsIdentifier string.next.tag b (take i passed)) h.constructed h.next.read.tagged)

pub usable_string : (nest : Nest) (string : OpenString) (passed : List ℕ) → IsSoundNest nest → IsString nest string passed → IsUsable (tag_of (ty_view string.next.node.now))
usable_string nest string passed sound h = usable_tag (ty_view string.next.node.now) h.leaf (node_of_next nest passed string.next sound h.next)

pub no_end_string : (nest : Nest) (string : OpenString) (passed more : List ℕ) → IsSoundNest nest → IsString nest string passed → EndsInside (layers_of nest.layers) nest.taken (passed ++ more) → ⊥
no_end_string nest string passed more sound h e =
    let next = string.next in
    no_end_at (layers_of nest.layers) next.tag next.constructed nest.taken next.identifier passed more
    (subst IsUsable (tag_of_leaf nest passed next h.next h.leaf) (usable_string nest string passed sound h)) h.next.read e

-- what completes the value completes the string
pub cannot_finish : (nest : Nest) (string : OpenString) (passed octets : List ℕ) → IsSoundNest nest → IsString nest string passed → (CanComplete string.kind string.segments octets → ⊥) → CanFinish nest (passed ++ octets) → ⊥
cannot_finish nest string passed octets sound h none f =
    let layers = layers_of nest.layers in
    let next = string.next in
    let node = ty_view next.node.now in
    let front = part_next nest passed octets next (end_inside layers) (levels_left layers) sound (no_end_string nest string passed octets sound h) h.next refl refl f in
    none (passed_completes (levels_left layers) string.kind (tag_of node) (end_inside layers) nest.taken next.identifier string.segments passed octets h.next.read.there (tagged_string nest string passed h) h.segments
    (string_front (levels_left layers) string.kind node (end_inside layers) nest.taken (passed ++ octets) h.kind front))

-- a constructed string begins
pub string_opened : (nest : Nest) (octets : List ℕ) (next : Next) (kind : SegmentKind) (segments : Segments) (end levels used : ℕ) → IsReadNext nest octets next → IsLeaf (ty_view next.node.now) → next.constructed ≡ true → end ≡ end_inside (layers_of nest.layers) → levels ≡ levels_left (layers_of nest.layers)
    → IsBegun (ty_view next.node.now) end nest.taken next.identifier levels octets kind segments used → IsOpenedString nest nest octets (record { next = next; kind = kind; segments = segments }) used
string_opened nest octets next kind segments end levels used read leaf constructed ends deep b =
    let layers = layers_of nest.layers in
    let string : OpenString = record { next = next; kind = kind; segments = segments } in
    let begun : IsString nest string (take used octets) = record {
      next = read_front nest octets used next b.heads b.there read;
      leaf = leaf;
      kind = b.of;
      constructed = constructed;
      segments =
          subst (λ n. IsPassed kind n (end_inside layers) nest.taken next.identifier segments (take used octets)) deep
          (subst (λ e. IsPassed kind levels e nest.taken next.identifier segments (take used octets)) ends b.passed);
    } in
    record {
      there = b.there;
      some = b.some;
      same = refl;
      begun = begun;
      sound = record { segments = b.sound; levels = b.deepest ∙ deep; octets = take used octets; begun = begun };
      frames = b.frames;
    }

-- a string whose last end has come was read
pub string_read : (nest : Nest) (string : OpenString) (passed : List ℕ) → IsSoundNest nest → IsSound string.kind string.segments → string.segments.frames.items ≡ [] → IsString nest string passed
    → IsReadPart (levels_left (layers_of nest.layers)) (string_shape (tag_of (ty_view string.next.node.now)) string.kind) (string_value string.kind (string_of string.kind string.segments.joined)) (end_inside (layers_of nest.layers)) nest.taken passed
string_read nest string passed sound kept closed h =
    let layers = layers_of nest.layers in
    passed_read (levels_left layers) string.kind (tag_of (ty_view string.next.node.now)) (end_inside layers) nest.taken string.next.identifier string.segments passed (usable_string nest string passed sound h) h.next.read.there (tagged_string nest string passed h) h.segments
    (ap stack closed) kept.held

-- what completes the value has its value
pub conforms_string : (nest : Nest) (string : OpenString) (passed more : List ℕ) → IsSoundNest nest → IsSound string.kind string.segments → string.segments.frames.items ≡ [] → IsString nest string passed → CanFinish nest (passed ++ more)
    → Conforms (ty_view string.next.node.now) (value_of (ty_view string.next.node.now) string.segments.joined)
conforms_string nest string passed more sound kept closed h f =
    let layers = layers_of nest.layers in
    let next = string.next in
    let node = ty_view next.node.now in
    let levels = levels_left layers in
    let joined = string.segments.joined in
    let read = string_read nest string passed sound kept closed h in
    let all : passed ≡ take (length passed) passed = sym (take_all (length passed) passed (omega arith)) in
    let part = subst (IsPartOf levels (string_shape (tag_of node) string.kind) (string_value string.kind (string_of string.kind joined))) all read.part in
    let front = part_next nest passed more next (end_inside layers) levels sound (no_end_string nest string passed more sound h) h.next refl refl f in
    subst (Conforms node) (same_string levels string.kind node (end_inside layers) nest.taken joined (length passed) passed more (usable_string nest string passed sound h) h.kind part front)
    (conforms_of_encoding ber node front.2.part.value (take front.0 (passed ++ more)) h.leaf front.2.part.encoding)

-- its value is ready to be put
pub ready_string : (old mid : Nest) (string : OpenString) (passed : List ℕ) (v : Val) → IsNoted old mid string.next.which → IsSound string.kind string.segments → string.segments.frames.items ≡ [] → IsString old string passed
    → v ≡ value_of (ty_view string.next.node.now) string.segments.joined → Conforms (ty_view string.next.node.now) v → IsReady old mid passed (ty_view string.next.ty.now) string.next.tag v (length passed)
ready_string old mid string passed v noted kept closed h is conforms =
    let layers = layers_of old.layers in
    let node = ty_view string.next.node.now in
    let read = string_read old string passed noted.sound kept closed h in
    let part = part_of_joined (levels_left layers) string.kind node string.segments.joined v passed h.kind is conforms read.part in
    ready_noted old mid passed string.next v (length passed) noted (λ more. no_end_string old string passed more noted.sound h) h.next (omega arith) read.fits
    (subst (IsPartOf (levels_left layers) node v) (sym (take_all (length passed) passed (omega arith))) part)

-- its value has come with all of its octets
pub closed_come : (old mid new : Nest) (passed : List ℕ) (type : Shape) (tag : Tag) (v : Val) (whole : Option Value) (n : ℕ) → IsCome mid new type tag v (length passed) whole n → IsStep old new passed whole n → IsClosed old new passed whole n
closed_come old mid new passed type tag v None n h k = (h.used_is, k)
closed_come old mid new passed type tag v (Some value) n h k = (h.used_is, k)
