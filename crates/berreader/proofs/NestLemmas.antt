-- Lemmas on what stands next in the innermost open encoding: a part, or its end.
use Rattle.std.proofs.Common.{◌≡◌, ◌⊎◌, inl, inr, ◌+◌, ◌-◌, ◌<◌, ◌≤◌, ℕ, zero, suc, Bool, true, false, List, [], ◌∷◌, ◌++◌, length, take, drop, refl, sym, ap, ◌∙◌, subst, arith, append_assoc, length-append, Contains}
use Rattle.std.specs.List.{concat}
use Rattle.std.proofs.lemmas.List.{append_cancel_left}
use Rattle.octets.specs.declared.tag.Tag.{Tag}
use Rattle.octets.specs.Identifier.{IsIdentifier}
use Rattle.octets.specs.Front.{HasFront}
use Rattle.octets.specs.Rule.{ber}
use Rattle.octets.proofs.FrontLemmas.{HasFront-from_parts, front_of_more, whole_front}
use Rattle.octets.proofs.IdentifierLemmas.{identifier_unique}
use Rattle.types.specs.Shape.{Val, Shape, Alternatives, no_alternative, alternative}
use Rattle.types.specs.FirstTags.{first_tags}
use Rattle.types.specs.Form.{IsConstructed}
use Rattle.types.specs.Leaf.{IsLeaf}
use Rattle.types.specs.Order.{BeginsWith}
use Rattle.types.specs.Encoding.{IsEncoding, standing, most_nested}
use Rattle.types.proofs.BeginningLemmas.{begins_once}
use Rattle.encoding_parts.specs.declared.frame.Frame.{Frame}
use Rattle.encoding_parts.specs.Completing.{IsEndOf, IsOpening}
use Rattle.encoding_parts.specs.Head.{IsReadTag, IsExtentWithin}
use Rattle.encoding_parts.specs.Parts.{Parts, IsPart, IsPartOf, CanFill, IsNodeFor, IsNodeForOneOf, ArePartsOf, AreNone, IsGoodType, IsPartWithin}
use Rattle.berreader.specs.Stack.{Layer, with_which}
use Rattle.berreader.specs.Nest.{CanEnd, CanFollow, CanComplete, levels_inside, levels_left, end_inside, EndsInside, IsDueNext, IsNext, AreSound, IsComeInside}
use Rattle.encoding_parts.proofs.ChoiceLemmas.{node_encoding}
use Rattle.encoding_parts.proofs.CompletingLemmas.{framed}
use Rattle.encoding_parts.specs.Segments.{BeginsAboveZero, EndsAt}
use Rattle.encoding_parts.proofs.DepthLemmas.{deeper}
use Rattle.encoding_parts.proofs.EndLemmas.{begins_above}
use Rattle.berreader.proofs.PartsBeginLemmas.{part_above, part_begins, parts_apart}
use Rattle.berreader.proofs.PartsDueLemmas.{due_once}
use Rattle.berreader.proofs.PartsForthLemmas.{fill_step}
use Rattle.encoding_parts.proofs.PartsOpenLemmas.{IsOpened, opens, none_at_zero}
use Rattle.encoding_parts.proofs.PartsPutLemmas.{put_fills}
use Rattle.encoding_parts.proofs.StepLemmas.{end_alone, opening_unique, extent_of_opening}

contents_fit : (f : Frame) (place : ℕ) (mark : List ℕ) → IsEndOf f place mark → place ≤ f.end
contents_fit f place mark (inl e) = omega (arith, e.there)
contents_fit f place mark (inr e) = e.fits

end_same : (f : Frame) (taken : ℕ) (a b : List ℕ) → IsEndOf f taken a → IsEndOf f taken b → a ≡ b
end_same f taken a b (inl x) (inl y) = x.none ∙ sym y.none
end_same f taken a b (inl x) (inr y) = let no : true ≡ false = sym x.definite ∙ y.indefinite in cc
end_same f taken a b (inr x) (inl y) = let no : true ≡ false = sym y.definite ∙ x.indefinite in cc
end_same f taken a b (inr x) (inr y) = x.zeros ∙ sym y.zeros

pub levels_inside_is : (layer : Layer) (others : List Layer) → levels_inside others ≡ levels_left (layer ∷ others)
levels_inside_is layer others = omega arith

-- a part stands next, of some type that is due
pub record IsSomeNext (shape : Shape) (layers : List Layer) (taken : ℕ) (octets : List ℕ) : Type 0 where
  pub which : ℕ
  pub type : Shape
  pub due : IsDueNext shape layers which type
  pub next : IsNext layers which type taken octets

pub next_part : (shape : Shape) (layers : List Layer) (taken : ℕ) (octets : List ℕ) → (EndsInside layers taken octets → ⊥) → CanComplete shape layers taken octets → IsSomeNext shape layers taken octets
next_part shape [] taken octets absent f =
    record {
      which = 0;
      type = shape;
      due = refl;
      next = record { part = take f.0 octets; rest = drop f.0 octets; joined = whole_front f.0 octets; first = f.2.part; fits = f.2.fits; follow = tt };
    }
next_part shape (layer ∷ others) taken octets absent c =
    elim (fill_step (levels_inside others) layer.parts c.contents c.filled) [
      | inl none ↦
          absurd (absent record {
            mark = c.mark;
            others = c.rest;
            ends = subst (λ n. IsEndOf layer.frame n c.mark) (omega (arith, ap length none)) c.ends;
            parts = c.joined ∙ ap (λ x. x ++ (c.mark ++ c.rest)) none;
          })
      | inr s ↦
          let sizes : length c.contents ≡ length s.part + length s.others = ap length s.joined ∙ length-append s.part s.others in
          let place : taken + length c.contents ≡ taken + length s.part + length s.others = omega (arith, sizes) in
          record {
            which = s.which;
            type = s.type;
            due = s.due;
            next = record {
              part = s.part;
              rest = s.others ++ (c.mark ++ c.rest);
              joined = c.joined ∙ (ap (λ x. x ++ (c.mark ++ c.rest)) s.joined ∙ append_assoc s.part s.others (c.mark ++ c.rest));
              first = subst (λ n. IsPart n s.type s.part) (levels_inside_is layer others) s.first;
              fits = omega (arith, contents_fit layer.frame (taken + length c.contents) c.mark c.ends, sizes);
              follow = record {
                contents = s.others;
                mark = c.mark;
                rest = c.rest;
                filled = s.rest;
                ends = subst (λ n. IsEndOf layer.frame n c.mark) place c.ends;
                joined = refl;
                follow = subst (λ n. CanFollow others (n + length c.mark) c.rest) place c.follow;
              };
            };
          }
    ]

-- an open encoding ends here, or a part comes
pub ends_or_begins : (shape : Shape) (layer : Layer) (others : List Layer) (taken : ℕ) (octets : List ℕ) → CanComplete shape (layer ∷ others) taken octets → EndsAt layer.frame taken octets ⊎ BeginsAboveZero octets
ends_or_begins shape layer others taken octets c =
    elim (fill_step (levels_inside others) layer.parts c.contents c.filled) [
      | inl none ↦
          inl record {
            mark = c.mark;
            others = c.rest;
            ends = subst (λ n. IsEndOf layer.frame n c.mark) (omega (arith, ap length none)) c.ends;
            parts = c.joined ∙ ap (λ x. x ++ (c.mark ++ c.rest)) none;
          }
      | inr s ↦
          inr (begins_above s.part (s.others ++ (c.mark ++ c.rest)) octets (c.joined ∙ (ap (λ x. x ++ (c.mark ++ c.rest)) s.joined ∙ append_assoc s.part s.others (c.mark ++ c.rest)))
          (part_above (levels_inside others) s.type s.part s.first))
    ]

-- identifier octets at the front of a front
pub begins_more : (tag : Tag) (part rest octets : List ℕ) → octets ≡ part ++ rest → BeginsWith tag part → BeginsWith tag octets
begins_more tag part rest octets is h = record {
  constructed = h.constructed;
  identifier = h.identifier;
  rest = h.rest ++ rest;
  tagged = h.tagged;
  joined = is ∙ (ap (λ x. x ++ rest) h.joined ∙ append_assoc h.identifier h.rest rest);
}

-- the part that is due by its tag
pub next_of : (shape : Shape) (layers : List Layer) (which : ℕ) (type : Shape) (tag : Tag) (taken : ℕ) (octets : List ℕ) → AreSound layers → IsDueNext shape layers which type → Contains (first_tags type) tag → BeginsWith tag octets
    → IsSomeNext shape layers taken octets → IsNext layers which type taken octets
next_of shape [] which type tag taken octets sound due has begins s =
    subst (λ t. IsNext [] which t taken octets) (sym s.due ∙ due) record { part = s.next.part; rest = s.next.rest; joined = s.next.joined; first = s.next.first; fits = s.next.fits; follow = tt }
next_of shape (layer ∷ others) which type tag taken octets sound due has begins s =
    let n = s.next in
    let first = part_begins (levels_left (layer ∷ others)) s.type n.part n.first in
    let same_tag : first.0 ≡ tag = begins_once first.0 tag octets (begins_more first.0 n.part n.rest octets n.joined first.2) begins in
    let same = due_once layer.parts s.which which s.type type tag sound.0.parts s.due due (subst (Contains (first_tags s.type)) same_tag first.1) has in
    subst (λ t. IsNext (layer ∷ others) which t taken octets) same.type record {
      part = n.part;
      rest = n.rest;
      joined = n.joined;
      first = n.first;
      fits = n.fits;
      follow = subst (λ p. CanEnd (levels_inside others) p layer.frame (CanFollow others) (taken + length n.part) n.rest) same.which n.follow;
    }

-- the part is of the alternative that begins with its tag
pub next_node : (layers : List Layer) (which : ℕ) (type node : Shape) (tag : Tag) (taken : ℕ) (octets : List ℕ) → IsGoodType type → IsNodeFor tag type node → BeginsWith tag octets → IsNext layers which type taken octets → IsNext layers which node taken octets
next_node layers which type node tag taken octets good chosen begins n =
    let first = part_begins (levels_left layers) type n.part n.first in
    let same_tag : first.0 ≡ tag = begins_once first.0 tag octets (begins_more first.0 n.part n.rest octets n.joined first.2) begins in
    let e = node_encoding tag type node n.first.value n.part good chosen (subst (λ t. BeginsWith t n.part) same_tag first.2) n.first.encoding in
    record { part = n.part; rest = n.rest; joined = n.joined; first = record { value = e.0; encoding = e.1; depth = n.first.depth }; fits = n.fits; follow = n.follow }

pub front_of_next : (layers : List Layer) (which : ℕ) (type : Shape) (taken : ℕ) (octets : List ℕ) → IsNext layers which type taken octets → HasFront (IsPartWithin (levels_left layers) type (end_inside layers) taken) octets
front_of_next layers which type taken octets n =
    HasFront-from_parts (IsPartWithin (levels_left layers) type (end_inside layers) taken) n.part n.rest octets n.joined record { part = n.first; fits = n.fits }

-- what follows a part that was read
pub after_part : (layers : List Layer) (which : ℕ) (type node : Shape) (levels : ℕ) (v : Val) (taken : ℕ) (octets part rest : List ℕ) → IsNext layers which type taken octets → IsPartOf levels node v part → octets ≡ part ++ rest
    → CanFollow (with_which layers which) (taken + length part) rest
after_part layers which type node levels v taken octets part rest n p is =
    let same = parts_apart (levels_left layers) levels type node v n.part part n.rest rest n.first p (sym n.joined ∙ is) in
    subst (λ x. CanFollow (with_which layers which) (taken + length part) x) same.rest
    (subst (λ x. CanFollow (with_which layers which) (taken + length x) n.rest) same.octets n.follow)

-- what follows a part goes on when its value has been put
pub after_come : (shape : Shape) (layers new : List Layer) (type : Shape) (tag : Tag) (v : Val) (taken : ℕ) (octets : List ℕ) → IsComeInside layers type tag v new → CanFollow layers taken octets → CanComplete shape new taken octets
after_come shape [] new type tag v taken octets h c = absurd h
after_come shape (layer ∷ others) new type tag v taken octets h c =
    subst (λ x. CanComplete shape x taken octets) (sym h.is) record {
      contents = c.contents;
      mark = c.mark;
      rest = c.rest;
      filled = put_fills (levels_inside others) layer.parts h.parts layer.which h.wrapped c.contents h.put c.filled;
      ends = c.ends;
      joined = c.joined;
      follow = c.follow;
    }

-- at its end an open encoding is whole
pub record IsEnded (layer : Layer) (others : List Layer) (taken : ℕ) (mark rest : List ℕ) : Type 0 where
  pub filled : CanFill (levels_inside others) layer.parts []
  pub follow : CanFollow others (taken + length mark) rest

pub at_end : (shape : Shape) (layer : Layer) (others : List Layer) (taken : ℕ) (octets mark rest : List ℕ) → IsEndOf layer.frame taken mark → octets ≡ mark ++ rest → CanComplete shape (layer ∷ others) taken octets → IsEnded layer others taken mark rest
at_end shape layer others taken octets mark rest e is c =
    elim (fill_step (levels_inside others) layer.parts c.contents c.filled) [
      | inl none ↦
          let size : taken + length c.contents ≡ taken = omega (arith, ap length none) in
          let same : c.mark ≡ mark = end_same layer.frame taken c.mark mark (subst (λ n. IsEndOf layer.frame n c.mark) size c.ends) e in
          let whole : mark ++ c.rest ≡ mark ++ rest = ap (λ x. x ++ c.rest) (sym same) ∙ (ap (λ x. x ++ (c.mark ++ c.rest)) (sym none) ∙ (sym c.joined ∙ is)) in
          record {
            filled = subst (CanFill (levels_inside others) layer.parts) none c.filled;
            follow = subst (CanFollow others (taken + length mark)) (append_cancel_left mark c.rest rest whole)
                (subst (λ x. CanFollow others (taken + length x) c.rest) same (subst (λ n. CanFollow others (n + length c.mark) c.rest) size c.follow));
          }
      | inr s ↦
          let sizes : length c.contents ≡ length s.part + length s.others = ap length s.joined ∙ length-append s.part s.others in
          let whole : mark ++ rest ≡ s.part ++ (s.others ++ (c.mark ++ c.rest)) = sym is ∙ (c.joined ∙ (ap (λ x. x ++ (c.mark ++ c.rest)) s.joined ∙ append_assoc s.part s.others (c.mark ++ c.rest))) in
          absurd (end_alone layer.frame taken mark s.part rest (s.others ++ (c.mark ++ c.rest)) e (part_above (levels_inside others) s.type s.part s.first)
          (omega (arith, contents_fit layer.frame (taken + length c.contents) c.mark c.ends, sizes)) whole)
    ]

-- a node other than a CHOICE has a tag of its own
abbrev pub HasOwnTag : Tag → Shape → Type 0
HasOwnTag tag (Shape.simple own type) = own ≡ tag
HasOwnTag tag (Shape.string own type) = own ≡ tag
HasOwnTag tag (Shape.sequence own components) = own ≡ tag
HasOwnTag tag (Shape.set own components) = own ≡ tag
HasOwnTag tag (Shape.sequence_of own type) = own ≡ tag
HasOwnTag tag (Shape.set_of own type) = own ≡ tag
HasOwnTag tag (Shape.choice alternatives) = ⊥
HasOwnTag tag (Shape.explicit own type) = own ≡ tag

mutual
  pub own_tag : (tag : Tag) (type node : Shape) → IsNodeFor tag type node → HasOwnTag tag node
  own_tag tag (Shape.simple own type) node h = subst (HasOwnTag tag) (sym h.1) h.0
  own_tag tag (Shape.string own type) node h = subst (HasOwnTag tag) (sym h.1) h.0
  own_tag tag (Shape.sequence own components) node h = subst (HasOwnTag tag) (sym h.1) h.0
  own_tag tag (Shape.set own components) node h = subst (HasOwnTag tag) (sym h.1) h.0
  own_tag tag (Shape.sequence_of own type) node h = subst (HasOwnTag tag) (sym h.1) h.0
  own_tag tag (Shape.set_of own type) node h = subst (HasOwnTag tag) (sym h.1) h.0
  own_tag tag (Shape.choice alternatives) node h = own_tag_of tag alternatives node h
  own_tag tag (Shape.explicit own type) node h = subst (HasOwnTag tag) (sym h.1) h.0

  own_tag_of : (tag : Tag) (alternatives : Alternatives) (node : Shape) → IsNodeForOneOf tag alternatives node → HasOwnTag tag node
  own_tag_of tag no_alternative node h = absurd h
  own_tag_of tag (alternative name type others) node (inl h) = own_tag tag type node h
  own_tag_of tag (alternative name type others) node (inr h) = own_tag_of tag others node h

-- the contents octets of a constructed encoding
record HasContents (tag : Tag) (octets : List ℕ) : Type 0 where
  contents : List ℕ
  whole : IsConstructed ber tag contents octets

contents_of_node : (tag : Tag) (node : Shape) (v : Val) (octets : List ℕ) → HasOwnTag tag node → (IsLeaf node → ⊥) → IsEncoding ber node v octets → HasContents tag octets
contents_of_node tag (Shape.simple own type) v octets same parts e = absurd (parts tt)
contents_of_node tag (Shape.string own type) v octets same parts e = absurd (parts tt)
contents_of_node tag (Shape.sequence own components) v octets same parts e = record { contents = concat (standing e.encodings); whole = subst (λ t. IsConstructed ber t (concat (standing e.encodings)) octets) same e.whole }
contents_of_node tag (Shape.set own components) v octets same parts e = record { contents = concat e.order; whole = subst (λ t. IsConstructed ber t (concat e.order) octets) same e.whole }
contents_of_node tag (Shape.sequence_of own type) v octets same parts e = record { contents = concat e.encodings; whole = subst (λ t. IsConstructed ber t (concat e.encodings) octets) same e.whole }
contents_of_node tag (Shape.set_of own type) v octets same parts e = record { contents = concat e.order; whole = subst (λ t. IsConstructed ber t (concat e.order) octets) same e.whole }
contents_of_node tag (Shape.choice alternatives) v octets same parts e = absurd same
contents_of_node tag (Shape.explicit own type) v octets same parts e = record { contents = e.inner; whole = subst (λ t. IsConstructed ber t e.inner octets) same e.whole }

-- a constructed encoding begins
pub record IsOpenNext (layers : List Layer) (tag : Tag) (taken : ℕ) (octets : List ℕ) : Type 0 where
  pub deep : length layers < most_nested
  pub frame : Frame
  pub head : List ℕ
  pub others : List ℕ
  pub opening : IsOpening tag (end_inside layers) taken frame head
  pub is : octets ≡ head ++ others

pub open_next : (layers : List Layer) (which : ℕ) (type node : Shape) (tag : Tag) (taken : ℕ) (octets : List ℕ) → IsNodeFor tag type node → (IsLeaf node → ⊥) → IsNext layers which node taken octets → IsOpenNext layers tag taken octets
open_next layers which type node tag taken octets chosen parts n =
    let h = contents_of_node tag node n.first.value n.part (own_tag tag type node chosen) parts n.first.encoding in
    let deep = deeper (levels_left layers) tag h.contents n.part n.part [] [] h.whole n.first.depth refl in
    let fr = framed tag (end_inside layers) taken h.contents n.part h.whole n.fits in
    record {
      deep = omega (arith, deep.is);
      frame = fr.opened;
      head = fr.head;
      others = (h.contents ++ fr.mark) ++ n.rest;
      opening = fr.opening;
      is = n.joined ∙ (ap (λ x. x ++ n.rest) fr.joined ∙ append_assoc fr.head (h.contents ++ fr.mark) n.rest);
    }

-- the identifier octets say that it is constructed, and its length octets follow
pub form_next : (layers : List Layer) (tag : Tag) (taken i : ℕ) (constructed : Bool) (octets more : List ℕ) → IsReadTag tag (end_inside layers) taken octets constructed i → IsOpenNext layers tag taken (octets ++ more) → constructed ≡ true
form_next layers tag taken i constructed octets more read n =
    let o = n.opening in
    (identifier_unique tag tag constructed true (take i octets) o.identifier (drop i octets ++ more) (o.size ++ n.others) read.tagged o.tagged
    (sym (front_of_more i octets more) ∙ (n.is ∙ (ap (λ z. z ++ n.others) o.joined ∙ append_assoc o.identifier o.size n.others)))).form

pub extent_next : (layers : List Layer) (tag : Tag) (taken i : ℕ) (constructed : Bool) (octets more : List ℕ) → IsReadTag tag (end_inside layers) taken octets constructed i → IsOpenNext layers tag taken (octets ++ more) → IsExtentWithin true (end_inside layers) (taken + i) (drop i octets ++ more)
extent_next layers tag taken i constructed octets more read n =
    let form : constructed ≡ true = form_next layers tag taken i constructed octets more read n in
    extent_of_opening tag (end_inside layers) taken i n.frame n.head octets more n.others read.there (subst (λ b. IsIdentifier tag b (take i octets)) form read.tagged) n.opening n.is

-- the contents octets of an encoding that opens
record IsOpenedAt (n levels : ℕ) (parts : Parts) (tag : Tag) (octets : List ℕ) : Type 0 where
  one_more : n ≡ suc levels
  opened : IsOpened levels parts tag octets

opened_at : (n : ℕ) (node : Shape) (parts : Parts) (tag : Tag) (octets : List ℕ) → ArePartsOf node parts → AreNone parts → IsGoodType node → first_tags node ≡ tag ∷ [] → IsPart n node octets → IsOpenedAt n (n - 1) parts tag octets
opened_at zero node parts tag octets of none good own p = absurd (none_at_zero node parts octets of p)
opened_at (suc n) node parts tag octets of none good own p =
    let less : n ≡ suc n - 1 = omega arith in
    record { one_more = omega arith; opened = subst (λ m. IsOpened m parts tag octets) less (opens n node parts tag octets of none good own p) }

pub length_which : (layers : List Layer) (which : ℕ) → length (with_which layers which) ≡ length layers
length_which [] which = refl
length_which (layer ∷ others) which = refl

-- what follows its identifier octets and length octets
pub after_open : (layers : List Layer) (which : ℕ) (node : Shape) (parts : Parts) (tag : Tag) (frame : Frame) (taken : ℕ) (octets head rest : List ℕ) → ArePartsOf node parts → AreNone parts → IsGoodType node → first_tags node ≡ tag ∷ []
    → IsOpening tag (end_inside layers) taken frame head → octets ≡ head ++ rest → IsNext layers which node taken octets
    → CanEnd (levels_inside (with_which layers which)) parts frame (CanFollow (with_which layers which)) (taken + length head) rest
after_open layers which node parts tag frame taken octets head rest of none good own opening is n =
    let at = opened_at (levels_left layers) node parts tag n.part of none good own n.first in
    let c = at.opened.contents in
    let fr = framed tag (end_inside layers) taken c n.part at.opened.whole n.fits in
    let whole : head ++ rest ≡ fr.head ++ (c ++ (fr.mark ++ n.rest)) =
    sym is ∙ (n.joined ∙ (ap (λ x. x ++ n.rest) fr.joined ∙ (append_assoc fr.head (c ++ fr.mark) n.rest ∙ ap (λ x. fr.head ++ x) (append_assoc c fr.mark n.rest)))) in
    let same = opening_unique tag (end_inside layers) taken frame fr.opened head fr.head rest (c ++ (fr.mark ++ n.rest)) opening fr.opening whole in
    let size : length n.part ≡ length fr.head + (length c + length fr.mark) = ap length fr.joined ∙ (length-append fr.head (c ++ fr.mark) ∙ ap (λ x. length fr.head + x) (length-append c fr.mark)) in
    let heads : length head ≡ length fr.head = ap length same.octets in
    let levels : levels_left layers - 1 ≡ levels_inside (with_which layers which) = omega (arith, length_which layers which) in
    record {
      contents = c;
      mark = fr.mark;
      rest = n.rest;
      filled = subst (λ m. CanFill m parts c) levels at.opened.filled;
      ends = subst (λ m. IsEndOf frame m fr.mark) (omega (arith, heads)) (subst (λ f. IsEndOf f (taken + length fr.head + length c) fr.mark) (sym same.frame) fr.ends);
      joined = same.rest;
      follow = subst (λ m. CanFollow (with_which layers which) m n.rest) (omega (arith, size, heads)) n.follow;
    }
