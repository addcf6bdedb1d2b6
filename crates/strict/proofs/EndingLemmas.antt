-- Lemmas on octets that end inside the encoding at their front.
use Rattle.std.proofs.Common.{◌≡◌, inl, inr, ℕ, ◌+◌, ◌-◌, ◌<◌, ◌≤◌, List, [], ◌∷◌, ◌++◌, Bool, true, false, length, take, drop, get_or, replicate, refl, sym, ◌∙◌, ap, subst, arith, append_assoc, append-nil, length-append}
use Rattle.std.proofs.lemmas.List.{length-replicate, length-take-le, length-drop, take_rest, take-append-drop}
use Rattle.octets.specs.declared.canonical.Canonical.{Canonical}
use Rattle.octets.specs.declared.canonical.Canonical.TheVariants.{Cer, Der}
use Rattle.octets.specs.declared.tag.Tag.{Tag}
use Rattle.octets.specs.Identifier.{IsIdentifier}
use Rattle.octets.specs.Length.{IsShortestLength}
use Rattle.octets.specs.Rule.{cer, der, rule_of}
use Rattle.octets.proofs.FrontLemmas.{same_front}
use Rattle.types.specs.declared.ty.Alternative.{Alternative}
use Rattle.types.specs.Leaf.{tag_of, IsLeaf}
use Rattle.types.specs.Shape.{Shape}
use Rattle.types.specs.View.{ty_view, alternatives_view}
use Rattle.encoding_parts.specs.Cut.{IsLengthCut, AreContentsCut}
use Rattle.encoding_parts.specs.Joined.{IsString}
use Rattle.encoding_parts.specs.Parts.{IsNodeFor}
use Rattle.encoding_parts.proofs.ChoiceLemmas.{lead_at}
use Rattle.strict.specs.declared.head.Inside.{Inside}
use Rattle.strict.specs.Begun.{CanBeConstructed, AreOpenContentsBegun, IsPrimitiveBegun, IsConstructedBegun, IsFormBegun, IsBehindIdentifier, IsBegun, IsConstructedCut}
use Rattle.strict.specs.Head.{AreFewer, IsOpened, mark}

-- too few behind so many are too few
pub fewer_behind : (d : Bool) (room at : ℕ) (octets : List ℕ) → at ≤ room → at ≤ length octets → AreFewer d (room - at) (take (length octets - at) (drop at octets)) → AreFewer d room octets
fewer_behind d room at octets within there h = omega (arith, h, within, there, ap length (take_rest octets at), length-drop at octets)

pub less_behind : (d : Bool) (room at : ℕ) (octets : List ℕ) → at ≤ room → at ≤ length octets → length (take (length octets - at) (drop at octets)) < room - at → AreFewer d room octets
less_behind d room at octets within there h = omega (arith, h, within, there, ap length (take_rest octets at), length-drop at octets)

contents_short : (contents room taken : ℕ) (octets : List ℕ) → AreContentsCut contents room taken octets → taken + length octets < room
contents_short contents room taken octets h = omega (arith, h.fewer, h.fits, ap length h.joined, length-append h.size h.some)

open_short : (rule : Canonical) (room taken : ℕ) (octets : List ℕ) → AreOpenContentsBegun rule room taken octets → taken + length octets < room
open_short Cer room taken octets h = h.2
open_short Der room taken octets h = contents_short h.0 room taken octets h.1.cut

primitive_short : (rule : Canonical) (node : Shape) (room taken : ℕ) (octets : List ℕ) → IsPrimitiveBegun rule node room taken octets → taken + length octets < room
primitive_short rule node room taken octets (inl h) = h.fits
primitive_short rule node room taken octets (inr h) = contents_short h.contents room taken octets h.begun.cut

constructed_short : (rule : Canonical) (room taken : ℕ) (octets : List ℕ) → IsConstructedBegun rule room taken octets → taken + length octets < room
constructed_short rule room taken octets (inl h) = h.fits
constructed_short rule room taken octets (inr h) = open_short rule room taken octets h

form_short : (rule : Canonical) (node : Shape) (constructed : Bool) (room taken : ℕ) (octets : List ℕ) → IsFormBegun rule node constructed room taken octets → taken + length octets < room
form_short rule node false room taken octets h = primitive_short rule node room taken octets h.1
form_short rule node true room taken octets h = constructed_short rule room taken octets h.1

-- octets that end inside an encoding are fewer than it can have
pub begun_short : (rule : Canonical) (type : Shape) (room : ℕ) (octets : List ℕ) → IsBegun rule type room octets → length octets < room
begun_short rule type room octets (inl h) = omega (arith, h.fits)
begun_short rule type room octets (inr h) =
    let b = h.begun in
    omega (arith, form_short rule h.node h.constructed room (length b.identifier) b.others b.behind, ap length b.joined, length-append b.identifier b.others)

-- length octets that are not complete behind those of the identifier
pub length_cut : (rule : Canonical) (tag : Tag) (room i : ℕ) (octets : List ℕ) → i ≤ length octets → IsIdentifier tag true (take i octets) → IsLengthCut room i (take (length octets - i) (drop i octets)) → IsConstructedCut rule tag room octets
length_cut rule tag room i octets there id cut = inr record {
  identifier = take i octets;
  others = drop i octets;
  tagged = id;
  joined = sym (take-append-drop i octets);
  behind = inl (subst (λ n. IsLengthCut room n (drop i octets)) (sym (length-take-le i octets there)) (subst (IsLengthCut room i) (take_rest octets i) cut));
}

-- a constructed encoding was opened, inside which there are too few
indefinite_cut : (tag : Tag) (room : ℕ) (octets : List ℕ) (inside : Inside) → IsOpened cer tag room octets inside → length (drop inside.start octets) < inside.room + 2 → IsBehindIdentifier tag true (λ taken behind. IsConstructedBegun Cer room taken behind) octets
indefinite_cut tag room octets inside h fewer =
    let first = take inside.start octets in
    let behind = drop inside.start octets in
    let end : List ℕ = 0 ∷ 0 ∷ [] in
    let made = h.makes [] record { within = omega arith; exact = λ same. let no : false ≡ true = sym h.form ∙ same in cc } in
    let id = made.identifier in
    let joined : first ++ end ≡ (id ++ (128 ∷ [])) ++ end = subst (λ d. first ++ mark d ≡ id ++ (128 ∷ end)) h.form made.joined ∙ sym (append_assoc id (128 ∷ []) end) in
    let many : length first ≡ length (id ++ (128 ∷ [])) = omega (arith, ap length joined, length-append first end, length-append (id ++ (128 ∷ [])) end) in
    let same : first ≡ id ++ (128 ∷ []) = (same_front first (id ++ (128 ∷ [])) end end many joined).0 in
    let size : length id + 1 ≡ inside.start = omega (arith, ap length same, length-append id (128 ∷ []), length-take-le inside.start octets h.there) in
    let enough : length id + length (128 ∷ behind) < room = omega (arith, fewer, size, h.fits, ap (λ d. length (mark d)) h.form) in
    record {
      identifier = id;
      others = 128 ∷ behind;
      tagged = made.tagged;
      joined = sym (take-append-drop inside.start octets) ∙ (ap (λ x. x ++ behind) same ∙ append_assoc id (128 ∷ []) behind);
      behind = inr (behind, refl, enough);
    }

definite_cut : (tag : Tag) (room : ℕ) (octets : List ℕ) (inside : Inside) → IsOpened der tag room octets inside → length (drop inside.start octets) < inside.room → IsBehindIdentifier tag true (λ taken behind. IsConstructedBegun Der room taken behind) octets
definite_cut tag room octets inside h fewer =
    let first = take inside.start octets in
    let behind = drop inside.start octets in
    let zeros : List ℕ = replicate inside.room 0 in
    let count : length zeros ≡ inside.room = length-replicate inside.room 0 in
    let made = h.makes zeros record { within = omega (arith, count); exact = λ same. count } in
    let id = made.identifier in
    let size = made.size in
    let whole : first ++ (zeros ++ []) ≡ id ++ (size ++ zeros) = subst (λ d. first ++ (zeros ++ mark d) ≡ id ++ (size ++ zeros)) h.form made.joined in
    let joined : first ++ zeros ≡ (id ++ size) ++ zeros = ap (λ x. first ++ x) (sym (append-nil zeros)) ∙ (whole ∙ sym (append_assoc id size zeros)) in
    let many : length first ≡ length (id ++ size) = omega (arith, ap length joined, length-append first zeros, length-append (id ++ size) zeros) in
    let same : first ≡ id ++ size = (same_front first (id ++ size) zeros zeros many joined).0 in
    let start : length id + length size ≡ inside.start = omega (arith, ap length same, length-append id size, length-take-le inside.start octets h.there) in
    let shortest : IsShortestLength inside.room size = subst (λ n. IsShortestLength n size) count made.sized in
    record {
      identifier = id;
      others = size ++ behind;
      tagged = made.tagged;
      joined = sym (take-append-drop inside.start octets) ∙ (ap (λ x. x ++ behind) same ∙ append_assoc id size behind);
      behind = inr (
        inside.room,
        record {
          cut = record { size = size; some = behind; sized = shortest.form; joined = refl; fewer = fewer; fits = omega (arith, start, h.fits) };
          shortest = shortest;
        },
      );
    }

pub opened_cut : (rule : Canonical) (tag : Tag) (room : ℕ) (octets : List ℕ) (inside : Inside) → IsOpened (rule_of rule) tag room octets inside → AreFewer inside.definite inside.room (take (length octets - inside.start) (drop inside.start octets)) → IsConstructedCut rule tag room octets
opened_cut Cer tag room octets inside h fewer = inr (indefinite_cut tag room octets inside h (omega (arith, fewer, ap length (take_rest octets inside.start), ap (λ d. length (mark d)) h.form)))
opened_cut Der tag room octets inside h fewer = inr (definite_cut tag room octets inside h (omega (arith, fewer, ap length (take_rest octets inside.start), ap (λ d. length (mark d)) h.form)))

-- of a type that is constructed
pub begun_constructed : (rule : Canonical) (type : Shape) (tag : Tag) (room : ℕ) (octets : List ℕ) → IsNodeFor tag type type → CanBeConstructed rule type → IsConstructedCut rule tag room octets → IsBegun rule type room octets
begun_constructed rule type tag room octets due can (inl h) = inl h
begun_constructed rule type tag room octets due can (inr h) = inr record {
  tag = tag;
  constructed = true;
  node = type;
  due = due;
  begun = record { identifier = h.identifier; others = h.others; tagged = h.tagged; joined = h.joined; behind = (can, h.behind) };
}

-- so it is begun where there are too few inside what was opened
pub begun_around : (rule : Canonical) (type : Shape) (tag : Tag) (room : ℕ) (octets : List ℕ) (inside : Inside) → IsNodeFor tag type type → CanBeConstructed rule type → IsOpened (rule_of rule) tag room octets inside
    → AreFewer inside.definite inside.room (take (length octets - inside.start) (drop inside.start octets)) → IsBegun rule type room octets
begun_around rule type tag room octets inside due can h fewer = begun_constructed rule type tag room octets due can (opened_cut rule tag room octets inside h fewer)

-- and of one without parts
leaf_due : (type : Shape) → IsLeaf type → IsNodeFor (tag_of type) type type
leaf_due (Shape.simple tag type) leaf = (refl, refl)
leaf_due (Shape.string tag type) leaf = (refl, refl)
leaf_due type leaf = absurd leaf

pub begun_primitive : (rule : Canonical) (type : Shape) (room i : ℕ) (octets : List ℕ) → IsLeaf type → i ≤ length octets → IsIdentifier (tag_of type) false (take i octets) → IsPrimitiveBegun rule type room i (drop i octets) → IsBegun rule type room octets
begun_primitive rule type room i octets leaf there id h = inr record {
  tag = tag_of type;
  constructed = false;
  node = type;
  due = leaf_due type leaf;
  begun = record {
    identifier = take i octets;
    others = drop i octets;
    tagged = id;
    joined = sym (take-append-drop i octets);
    behind = (leaf, subst (λ n. IsPrimitiveBegun rule type room n (drop i octets)) (sym (length-take-le i octets there)) h);
  };
}

string_due : (type : Shape) → IsString type → IsNodeFor (tag_of type) type type
string_due (Shape.string tag type) string = (refl, refl)
string_due type string = absurd string

string_can : (type : Shape) → IsString type → CanBeConstructed Cer type
string_can (Shape.string tag type) string = refl
string_can type string = absurd string

-- of a string that CER cuts
pub begun_string : (rule : Canonical) (type : Shape) (tag : Tag) (room : ℕ) (octets : List ℕ) → rule ≡ Cer → tag_of type ≡ tag → IsString type → IsConstructedCut Cer tag room octets → IsBegun rule type room octets
begun_string rule type tag room octets by own string h =
    subst (λ r. IsBegun r type room octets) (sym by) (begun_constructed Cer type tag room octets (subst (λ t. IsNodeFor t type type) own (string_due type string)) (string_can type string) h)

-- of a CHOICE
pub begun_chosen : (rule : Canonical) (xs : List Alternative) (which : ℕ) (a : Alternative) (room : ℕ) (octets : List ℕ) → which < length xs → a ≡ get_or xs which a → IsBegun rule (ty_view a.ty) room octets → IsBegun rule (Shape.choice (alternatives_view xs)) room octets
begun_chosen rule xs which a room octets below is (inl h) = inl h
begun_chosen rule xs which a room octets below is (inr h) = inr record { tag = h.tag; constructed = h.constructed; node = h.node; due = lead_at h.tag h.node xs which a below is h.due; begun = h.begun }
