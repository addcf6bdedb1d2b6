-- The open constructed encodings, each inside the next: what completes them, and where they stand.
use Rattle.std.specs.Prelude.{◌≡◌, ◌+◌, ◌-◌, ◌<◌, ◌≤◌, ⊤, ℕ, false, List, [], ◌∷◌, ◌++◌, Option, Some, None, length, take, drop, Contains, MatchOption}
use Rattle.std.specs.List.{AllByRecursion}
use Rattle.octets.specs.declared.TheConstants.{MAX_ENCODING}
use Rattle.octets.specs.declared.tag.Tag.{Tag}
use Rattle.octets.specs.Front.{HasFront}
use Rattle.octets.specs.Rule.{ber}
use Rattle.types.specs.declared.value.Value.{Value}
use Rattle.types.specs.Shape.{Shape, Val}
use Rattle.types.specs.View.{ty_view, value_view}
use Rattle.types.specs.FirstTags.{first_tags}
use Rattle.types.specs.Encoding.{IsAccepted, most_nested}
use Rattle.encoding_parts.specs.declared.frame.Frame.{Frame}
use Rattle.berreader.specs.declared.nest.Nest.{Nest}
use Rattle.berreader.specs.declared.nest.Next.{Next}
use Rattle.encoding_parts.specs.Completing.{IsEndOf, IsOpening}
use Rattle.encoding_parts.specs.Head.{IsReadTag}
use Rattle.encoding_parts.specs.Parts.{Parts, IsPart, CanFill, once_come, IsDue, IsPut, IsNodeFor, ArePartsOf, Holds, AreGood, IsGoodType, IsPartWithin, IsWrapped}
use Rattle.encoding_parts.specs.Segments.{EndsAt}
use Rattle.berreader.specs.Stack.{Layer, layers_of, with_which, with_parts, IsCounted}

-- how many constructed encodings may nest inside this one, by how many it is inside of
abbrev pub levels_inside : List Layer → ℕ
levels_inside others = most_nested - (length others + 1)

-- the octets begin with some that complete the parts and end the encoding, and Follow goes on after them
pub record CanEnd (levels : ℕ) (parts : Parts) (frame : Frame) (Follow : ℕ → List ℕ → Type 0) (taken : ℕ) (octets : List ℕ) : Type 0 where
  pub contents : List ℕ
  pub mark : List ℕ
  pub rest : List ℕ
  pub filled : CanFill levels parts contents
  pub ends : IsEndOf frame (taken + length contents) mark
  pub joined : octets ≡ contents ++ (mark ++ rest)
  pub follow : Follow (taken + length contents + length mark) rest

-- the octets begin with some that complete these encodings, the innermost first, once what is open inside them has come
abbrev pub CanFollow : List Layer → ℕ → List ℕ → Type 0
CanFollow [] taken octets = ⊤
CanFollow (layer ∷ others) taken octets = CanEnd (levels_inside others) (once_come layer.parts layer.which) layer.frame (CanFollow others) taken octets

-- the octets begin with some that complete an encoding of the type of which these encodings are open
abbrev pub CanComplete : Shape → List Layer → ℕ → List ℕ → Type 0
CanComplete shape [] taken octets = HasFront (IsPartWithin most_nested shape MAX_ENCODING taken) octets
CanComplete shape (layer ∷ others) taken octets = CanEnd (levels_inside others) layer.parts layer.frame (CanFollow others) taken octets

-- where the encodings end that may stand inside the innermost of these
abbrev pub end_inside : List Layer → ℕ
end_inside [] = MAX_ENCODING
end_inside (layer ∷ others) = layer.frame.end

-- the type of what is open inside the innermost of these
abbrev pub IsDueInside : Shape → List Layer → Shape → Type 0
IsDueInside shape [] type = shape ≡ type
IsDueInside shape (layer ∷ others) type = IsDue layer.parts layer.which type

-- these octets are the beginning of an encoding, up to the parts that have come, behind what the others hold
pub record IsBegun (shape : Shape) (layer : Layer) (others : List Layer) (Before : List ℕ → Type 0) (octets : List ℕ) : Type 0 where
  pub before : List ℕ
  pub head : List ℕ
  pub contents : List ℕ
  pub joined : octets ≡ before ++ (head ++ contents)
  pub behind : Before before
  pub due : IsDueInside shape others layer.type
  pub node : Shape
  pub chosen : IsNodeFor layer.tag layer.type node
  pub parts : ArePartsOf node layer.parts
  pub opening : IsOpening layer.tag (end_inside others) (length before) layer.frame head
  pub holds : Holds (levels_inside others) layer.parts contents
  pub nested : length others < most_nested

-- the octets are the beginning of an encoding of the type: these encodings, the innermost first, are open, with the
-- parts that have come
abbrev pub StandsAt : Shape → List Layer → List ℕ → Type 0
StandsAt shape [] octets = octets ≡ []
StandsAt shape (layer ∷ others) octets = IsBegun shape layer others (StandsAt shape others) octets

-- each open encoding ends within the limit, and tags tell its parts apart
pub record IsSoundLayer (layer : Layer) : Type 0 where
  pub type : IsGoodType layer.type
  pub parts : AreGood layer.parts
  pub within : layer.frame.end ≤ MAX_ENCODING

abbrev pub AreSound : List Layer → Type 0
AreSound layers = AllByRecursion IsSoundLayer layers

-- how many constructed encodings may nest in a part of the innermost
abbrev pub levels_left : List Layer → ℕ
levels_left layers = most_nested - length layers

-- the innermost encoding ends at the front of the octets, by this mark
abbrev pub EndsInside : List Layer → ℕ → List ℕ → Type 0
EndsInside [] taken octets = ⊥
EndsInside (layer ∷ others) taken octets = EndsAt layer.frame taken octets

abbrev pub IsEndInside : List Layer → ℕ → List ℕ → Type 0
IsEndInside [] taken mark = ⊥
IsEndInside (layer ∷ others) taken mark = IsEndOf layer.frame taken mark

-- the innermost encoding ends by so many of the octets, or not at their front
abbrev pub IsEndHere : Nest → List ℕ → Option ℕ → Type 0
IsEndHere nest octets found = MatchOption found ((more : List ℕ) → ¬ EndsInside (layers_of nest.layers) nest.taken (octets ++ more)) (λ used. (used ≤ length octets) × IsEndInside (layers_of nest.layers) nest.taken (take used octets))

-- a part of this type may come next in the innermost, as this one
abbrev pub IsDueNext : Shape → List Layer → ℕ → Shape → Type 0
IsDueNext shape [] which type = shape ≡ type
IsDueNext shape (layer ∷ others) which type = IsDue layer.parts which type

-- and begins with the tag
pub record BeginsNext (nest : Nest) (tag : Tag) (which : ℕ) (type : Shape) : Type 0 where
  pub due : IsDueNext (ty_view nest.ty.now) (layers_of nest.layers) which type
  pub begins : Contains (first_tags type) tag

-- the octets begin with a part of this type, and then with some that complete the open encodings
pub record IsNext (layers : List Layer) (which : ℕ) (type : Shape) (taken : ℕ) (octets : List ℕ) : Type 0 where
  pub part : List ℕ
  pub rest : List ℕ
  pub joined : octets ≡ part ++ rest
  pub first : IsPart (levels_left layers) type part
  pub fits : taken + length part ≤ end_inside layers
  pub follow : CanFollow (with_which layers which) (taken + length part) rest

-- each open encoding is of the type of the part that is open in the one around it, and has room for its end
pub record IsInside (shape : Shape) (layer : Layer) (others : List Layer) : Type 0 where
  pub due : IsDueInside shape others layer.type
  pub definite : layer.frame.end ≤ end_inside others
  pub indefinite : layer.frame.definite ≡ false → layer.frame.end + 2 ≤ end_inside others

abbrev pub AreInside : Shape → List Layer → Type 0
AreInside shape [] = ⊤
AreInside shape (layer ∷ others) = IsInside shape layer others × AreInside shape others

-- what is known of a nest whatever has been taken
pub record IsSoundNest (nest : Nest) : Type 0 where
  pub type : IsGoodType (ty_view nest.ty.now)
  pub sound : AreSound (layers_of nest.layers)
  pub inside : AreInside (ty_view nest.ty.now) (layers_of nest.layers)
  pub counted : IsCounted nest.layers
  pub depth : length (layers_of nest.layers) ≤ most_nested
  pub place : nest.taken ≤ MAX_ENCODING

-- the octets begin with some that complete the value
abbrev pub CanFinish : Nest → List ℕ → Type 0
CanFinish nest octets = CanComplete (ty_view nest.ty.now) (layers_of nest.layers) nest.taken octets

-- these octets have been taken
pub record HasTaken (nest : Nest) (octets : List ℕ) : Type 0 where
  pub count : length octets ≡ nest.taken
  pub stands : StandsAt (ty_view nest.ty.now) (layers_of nest.layers) octets

-- so many of the octets were taken, and the value is not whole
pub record IsTaken (old new : Nest) (octets : List ℕ) (used : ℕ) : Type 0 where
  pub there : used ≤ length octets
  pub type : ty_view new.ty.now ≡ ty_view old.ty.now
  pub forth : (more : List ℕ) → CanFinish old (octets ++ more) → CanFinish new (drop used octets ++ more)
  pub back : (before : List ℕ) → HasTaken old before → HasTaken new (before ++ take used octets)
  pub smaller : length (layers_of new.layers) < length (layers_of old.layers) + (used + used)

-- the value is whole with so many of the octets, and nothing is open
pub record IsWhole (old new : Nest) (octets : List ℕ) (value : Val) (used : ℕ) : Type 0 where
  pub there : used ≤ length octets
  pub type : ty_view new.ty.now ≡ ty_view old.ty.now
  pub accepted : (before : List ℕ) → HasTaken old before → IsAccepted ber (ty_view old.ty.now) value (before ++ take used octets)
  pub layers : layers_of new.layers ≡ []
  pub taken : new.taken ≡ 0

-- by the value that is whole, if one is
abbrev pub IsStep : Nest → Nest → List ℕ → Option Value → ℕ → Type 0
IsStep old new octets None used = IsTaken old new octets used
IsStep old new octets (Some value) used = IsWhole old new octets (value_view value) used

-- the identifier octets of a part that may come next
pub record IsReadNext (nest : Nest) (octets : List ℕ) (next : Next) : Type 0 where
  pub read : IsReadTag next.tag (end_inside (layers_of nest.layers)) nest.taken octets next.constructed next.identifier
  pub due : IsDueNext (ty_view nest.ty.now) (layers_of nest.layers) next.which (ty_view next.ty.now)
  pub begins : Contains (first_tags (ty_view next.ty.now)) next.tag
  pub node : IsNodeFor next.tag (ty_view next.ty.now) (ty_view next.node.now)

-- they stand at the front of the octets, where no open encoding ends
pub record IsPartNext (nest : Nest) (octets : List ℕ) (next : Next) : Type 0 where
  pub sound : IsSoundNest nest
  pub no_end : (more : List ℕ) → ¬ EndsInside (layers_of nest.layers) nest.taken (octets ++ more)
  pub read : IsReadNext nest octets next

-- the value, of a node of the type, has come for the part that was open in the innermost
pub record IsComeInto (layer : Layer) (others : List Layer) (type : Shape) (tag : Tag) (value : Val) (new : List Layer) : Type 0 where
  pub wrapped : Val
  pub wraps : IsWrapped type tag value wrapped
  pub parts : Parts
  pub put : IsPut layer.parts layer.which wrapped parts
  pub is : new ≡ with_parts layer parts ∷ others

abbrev pub IsComeInside : List Layer → Shape → Tag → Val → List Layer → Type 0
IsComeInside [] type tag value new = ⊥
IsComeInside (layer ∷ others) type tag value new = IsComeInto layer others type tag value new

-- with so many octets more
pub record HasCome (old new : Nest) (type : Shape) (tag : Tag) (value : Val) (used n : ℕ) : Type 0 where
  pub used_is : n ≡ used
  pub type_is : ty_view new.ty.now ≡ ty_view old.ty.now
  pub taken : new.taken ≡ old.taken + used
  pub come : IsComeInside (layers_of old.layers) type tag value (layers_of new.layers)

-- the value was not a part of another
pub record IsLast (old new : Nest) (type : Shape) (tag : Tag) (value wrapped : Val) (used n : ℕ) : Type 0 where
  pub used_is : n ≡ used
  pub type_is : ty_view new.ty.now ≡ ty_view old.ty.now
  pub wraps : IsWrapped type tag value wrapped
  pub before : layers_of old.layers ≡ []
  pub layers : layers_of new.layers ≡ []
  pub taken : new.taken ≡ 0

abbrev pub IsCome : Nest → Nest → Shape → Tag → Val → ℕ → Option Value → ℕ → Type 0
IsCome old new type tag value used None n = HasCome old new type tag value used n
IsCome old new type tag value used (Some wrapped) n = IsLast old new type tag value (value_view wrapped) used n

-- a value of the type may come with so many octets, into the innermost or where `whole` is
pub record MayCome (nest : Nest) (type : Shape) (used : ℕ) (whole : Option Value) : Type 0 where
  pub good : IsGoodType type
  pub due : IsDueInside (ty_view nest.ty.now) (layers_of nest.layers) type
  pub room : nest.taken + used ≤ MAX_ENCODING
  pub none : whole ≡ None

-- it has come, and each open encoding has its place still
pub record IsPlaced (old new : Nest) (type : Shape) (tag : Tag) (value : Val) (used : ℕ) (whole : Option Value) (n : ℕ) : Type 0 where
  pub come : IsCome old new type tag value used whole n
  pub counted : IsCounted old.layers → IsCounted new.layers
