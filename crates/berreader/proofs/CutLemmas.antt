-- Lemmas on octets that end inside what may come next.
use Rattle.std.proofs.Common.{◌≡◌, inl, inr, ◌+◌, ◌<◌, ◌≤◌, ℕ, zero, suc, Bool, true, false, List, [], ◌∷◌, ◌++◌, Option, Some, None, length, take, drop, refl, sym, ap, ◌∙◌, subst, arith, append-nil, length-append}
use Rattle.octets.specs.declared.TheConstants.{MAX_ENCODING}
use Rattle.octets.specs.declared.tag.Class.TheVariants.{Universal}
use Rattle.octets.specs.declared.tag.Tag.{Tag}
use Rattle.octets.specs.Identifier.{IsIdentifier, IsSomeIdentifier}
use Rattle.types.specs.Leaf.{IsLeaf}
use Rattle.types.specs.Shape.{Shape}
use Rattle.types.specs.View.{ty_view}
use Rattle.encoding_parts.specs.Cut.{IsEndCut, IsIdentifierCut, IsLengthCut, IsPartCut}
use Rattle.encoding_parts.specs.Head.{IsReadTag}
use Rattle.encoding_parts.proofs.CutLemmas.{constructed_cut, end_cut_within, part_within, string_within}
use Rattle.berreader.specs.declared.cursor.Cursor.{Cursor}
use Rattle.berreader.specs.declared.nest.Nest.{Nest}
use Rattle.berreader.specs.declared.nest.Next.{Next}
use Rattle.berreader.specs.declared.nest.OpenString.{OpenString}
use Rattle.berreader.specs.Cursor.{IsSoundCursor, IsSoundIn, taken_by, taken_of}
use Rattle.berreader.specs.Cut.{IsCut, IsCutIn, IsCutNext, IsEndCutInside, IsNestCut}
use Rattle.berreader.specs.Nest.{AreInside, AreSound, IsReadNext, end_inside, levels_left}
use Rattle.berreader.specs.Stack.{Layer, layers_of}
use Rattle.berreader.specs.declared.pieces.Pieces.{Pieces}
use Rattle.berreader.specs.Feeding.{HasBeenFed, IsMore, shape_of}
use Rattle.berreader.proofs.CursorLemmas.{count_taken}

-- what is cut is a part that may come next
pub part_cut : (nest : Nest) (octets : List ℕ) (next : Next) → IsReadNext nest octets next → IsPartCut next.tag (ty_view next.node.now) (levels_left (layers_of nest.layers)) (end_inside (layers_of nest.layers)) nest.taken octets → IsNestCut nest octets
part_cut nest octets next read cut = inr (inl (record { which = next.which; type = ty_view next.ty.now; tag = next.tag; node = ty_view next.node.now; due = read.due; chosen = read.node; cut = cut }))

-- the length octets of one with parts are cut
pub opening_cut : (nest : Nest) (octets : List ℕ) (next : Next) (end : ℕ) → IsReadNext nest octets next → next.constructed ≡ true → (IsLeaf (ty_view next.node.now) → ⊥) → length (layers_of nest.layers) < 64 → end ≡ end_inside (layers_of nest.layers)
    → IsLengthCut end (nest.taken + next.identifier) (drop next.identifier octets) → IsNestCut nest octets
opening_cut nest octets next end read constructed parts few same cut =
    let outer = end_inside (layers_of nest.layers) in
    part_cut nest octets next read
    (constructed_cut next.tag (ty_view next.node.now) (levels_left (layers_of nest.layers)) outer nest.taken next.identifier octets (omega (arith, few)) (λ leaf. absurd (parts leaf))
    (subst (λ b. IsReadTag next.tag outer nest.taken octets b next.identifier) constructed read.read) (subst (λ n. IsLengthCut n (nest.taken + next.identifier) (drop next.identifier octets)) same cut))

-- the end of the innermost is cut
pub end_cut : (nest : Nest) (layer : Layer) (others : List Layer) (octets : List ℕ) → layers_of nest.layers ≡ layer ∷ others → IsEndCut layer.frame nest.taken octets → IsNestCut nest octets
end_cut nest layer others octets is cut = inr (inr (subst (λ l. IsEndCutInside l nest.taken octets) (sym is) cut))

-- nothing has come of a value
nothing : IsIdentifierCut MAX_ENCODING 0 []
nothing = record {
  begins = (1 ∷ [], record { tag = record { class = Universal; number = 1 }; constructed = false; within = omega arith; identifier = inl (record { low = omega arith; spelt = refl }) });
  none = λ h. none_of_none h.0 h.2;
  fits = omega arith;
}
  where
    no_identifier : (tag : Tag) (constructed : Bool) → IsIdentifier tag constructed [] → ⊥
    no_identifier tag constructed (inl h) = let is = h.spelt in cc
    no_identifier tag constructed (inr h) = let is = h.spelt in cc

    none_of_none : (n : ℕ) → IsSomeIdentifier (take n []) → ⊥
    none_of_none zero h = no_identifier h.tag h.constructed h.identifier
    none_of_none (suc n) h = no_identifier h.tag h.constructed h.identifier

pub none_cut : (cursor : Cursor) → cursor.string ≡ None → layers_of cursor.nest.layers ≡ [] → cursor.nest.taken ≡ 0 → IsCut cursor []
none_cut cursor string layers taken =
    let shape = ty_view cursor.nest.ty.now in
    let here : IsCutNext shape [] 0 [] = inl nothing in
    let nest : IsNestCut cursor.nest [] = subst (λ l. IsCutNext shape l cursor.nest.taken []) (sym layers) (subst (λ n. IsCutNext shape [] n []) (sym taken) here) in
    subst (λ s. IsCutIn cursor.nest s []) (sym string) nest

-- what is open ends within the limit
end_below : (layers : List Layer) → AreSound layers → end_inside layers ≤ MAX_ENCODING
end_below [] sound = omega arith
end_below (layer ∷ others) sound = omega (arith, sound.0.within)

-- so many octets are within the limit
nest_few : (shape : Shape) (layers : List Layer) (taken : ℕ) (octets : List ℕ) → AreSound layers → AreInside shape layers → IsCutNext shape layers taken octets → taken + length octets ≤ MAX_ENCODING
nest_few shape layers taken octets sound inside (inl cut) = omega (arith, cut.fits, end_below layers sound)
nest_few shape layers taken octets sound inside (inr (inl h)) = omega (arith, part_within h.tag h.node (levels_left layers) (end_inside layers) taken octets h.cut, end_below layers sound)
nest_few shape [] taken octets sound inside (inr (inr cut)) = absurd cut
nest_few shape (layer ∷ others) taken octets sound inside (inr (inr cut)) =
    end_cut_within layer.frame taken MAX_ENCODING octets (λ form. omega (arith, inside.0.indefinite form, end_below others sound.1)) cut

pub cut_few : (cursor : Cursor) (octets : List ℕ) → IsSoundCursor cursor → IsCut cursor octets → taken_of cursor + length octets ≤ MAX_ENCODING
cut_few cursor octets sound = go cursor.string sound.string
  where
    go : (string : Option OpenString) → IsSoundIn cursor.nest string → IsCutIn cursor.nest string octets → taken_by cursor.nest string + length octets ≤ MAX_ENCODING
    go None h cut = nest_few (ty_view cursor.nest.ty.now) (layers_of cursor.nest.layers) cursor.nest.taken octets sound.nest.sound sound.nest.inside cut
    go (Some string) h cut = string_within string.kind string.segments octets h.segments cut

-- so are those that have been fed
pub fed_few : (pieces : Pieces) (octets : List ℕ) → IsSoundCursor pieces.cursor → HasBeenFed pieces octets → length octets ≤ MAX_ENCODING
fed_few pieces octets sound fed =
    omega (arith, cut_few pieces.cursor pieces.pending.items sound fed.cut, count_taken pieces.cursor fed.before fed.goes_on.taken, ap length fed.joined, length-append fed.before pieces.pending.items)

-- nothing comes of an empty piece
pub none_is_more : (pieces : Pieces) (octets piece : List ℕ) → IsSoundCursor pieces.cursor → piece ≡ [] → HasBeenFed pieces octets → IsMore (shape_of pieces) pieces (octets ++ piece)
none_is_more pieces octets piece sound none fed =
    let same : octets ++ piece ≡ octets = ap (λ o. octets ++ o) none ∙ append-nil octets in
    subst (IsMore (shape_of pieces) pieces) (sym same) (record { none = fed.none; has_been_fed = fed; size = fed_few pieces octets sound fed })
