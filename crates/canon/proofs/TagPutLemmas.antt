-- Lemmas on the components of a SET as they are written.
use Rattle.std.specs.List.{concat}
use Rattle.std.proofs.Common.{◌≡◌, ◌+◌, ◌<◌, ℕ, zero, suc, List, [], ◌∷◌, ◌++◌, Option, Some, None, length, take, drop, get_or, map, refl, sym, ap, ◌∙◌, subst, subst₂, arith, append_assoc, append-nil, length-append, AllPairs, IsPermutation}
use Rattle.std.proofs.lemmas.List.{map-append, get_or-map}
use Rattle.std.proofs.lemmas.List.Sorted.{IsPermutation-map}
use Rattle.octets.specs.Front.{Appends}
use Rattle.octets.specs.Rule.{Rule, IsCanonical}
use Rattle.octets.specs.declared.tag.Tag.{Tag}
use Rattle.octets.specs.Tag.{ComesBefore}
use Rattle.types.specs.declared.ty.Field.{Field}
use Rattle.types.specs.declared.value.Value.{Value}
use Rattle.types.specs.Shape.{Slots, absent, present, Components, no_component, component}
use Rattle.types.specs.View.{value_view, ty_view, field_view, components_view, slots_view}
use Rattle.types.specs.Conforms.{SlotsConform}
use Rattle.types.specs.FirstTags.{first_tags, tags_of_components, AreDistinct}
use Rattle.types.specs.Order.{IsOrderTag}
use Rattle.types.specs.Encoding.{IsEncoding, AreSlotEncodings, standing}
use Rattle.types.proofs.ListLemmas.{distinct_right}
use Rattle.canon.specs.declared.spans.Span.{Span}
use Rattle.canon.specs.declared.spans.Keyed.{Keyed}
use Rattle.canon.specs.Node.{AreComponentsByTag}
use Rattle.canon.specs.Part.{IsPut, Cuts, IsCutInto, IsArrangedByTag}
use Rattle.canon.specs.Span.{part_of, RisesByTag}
use Rattle.canon.proofs.NodeSizeLemmas.{absent_stands}
use Rattle.canon.proofs.PartLemmas.{take_front, concat_push}
use Rattle.canon.proofs.PutLemmas.{cuts_push, cuts_read}
use Rattle.canon.proofs.StepLemmas.{drop_all, element, type_of_field, IsPresent, absent_at, components_from, slots_from_present, slots_from_absent}
use Rattle.canon.proofs.TagOrderLemmas.{TaggedOctets, AreTagged, no_tagged, later_tagged, more_tagged, in_tag_order}

abbrev octets_in : List TaggedOctets → List (List ℕ)
octets_in parts = map (λ (p : TaggedOctets). p.octets) parts

abbrev spans_in : List (Keyed Tag) → List Span
spans_in tagged = map (λ (t : Keyed Tag). t.span) tagged

-- encodings of components, with their order tags
pub record AreTaggedOf (rule : Rule) (components : Components) (slots : Slots) (parts : List TaggedOctets) : Type 0 where
  pub encodings : List (Option (List ℕ))
  pub each : AreSlotEncodings rule components slots encodings
  pub are : AreTagged rule components parts
  pub stand : octets_in parts ≡ standing encodings

-- those before this place stand in a buffer, and with what encodes the later ones they are all
pub record LaidTo (rule : Rule) (fields : List Field) (slots : List (Option Value)) (i : ℕ) (tagged : List (Keyed Tag)) (old new : List ℕ) : Type 0 where
  pub parts : List TaggedOctets
  pub tags : map (λ (t : Keyed Tag). t.key) tagged ≡ map (λ (p : TaggedOctets). p.tag) parts
  pub cuts : Cuts (length old) (spans_in tagged) (octets_in parts)
  pub is : new ≡ old ++ concat (octets_in parts)
  pub more : (rest : List TaggedOctets) → AreTaggedOf rule (components_view (drop i fields)) (slots_view (drop i slots)) rest → AreTaggedOf rule (components_view fields) (slots_view slots) (parts ++ rest)

module _ (rule : Rule) (fields : List Field) (slots : List (Option Value)) where
  pub none_laid_by_tag : (out : List ℕ) → LaidTo rule fields slots 0 [] out out
  none_laid_by_tag out = record { parts = []; tags = refl; cuts = tt; is = sym (append-nil out); more = λ rest h. h }

  distinct_from : (i : ℕ) (f : Field) → i < length fields → f ≡ get_or fields i f → AreDistinct (tags_of_components (components_view (drop i fields))) → AreDistinct (first_tags (field_view f).type ++ tags_of_components (components_view (drop (suc i) fields)))
  distinct_from i f l at distinct = subst (λ (c : Components). AreDistinct (tags_of_components c)) (components_from fields i f l at) distinct

  pub absent_laid : (i : ℕ) (tagged : List (Keyed Tag)) (old new : List ℕ) → i < length fields → i < length slots → None ≡ get_or slots i None → IsCanonical rule → SlotsConform (components_view fields) (slots_view slots)
      → AreDistinct (tags_of_components (components_view (drop i fields))) → LaidTo rule fields slots i tagged old new → LaidTo rule fields slots (suc i) tagged old new
  absent_laid i tagged old new l k stands canonical conform distinct h =
      let e = element fields i l in
      let f = e.0 in
      let may = absent_at fields slots i f k e.1 stands conform in
      let apart = distinct_from i f l e.1 distinct in
      record {
        parts = h.parts;
        tags = h.tags;
        cuts = h.cuts;
        is = h.is;
        more = λ rest r.
            let whole : AreTaggedOf rule (component (field_view f).name (field_view f).type (field_view f).requirement (components_view (drop (suc i) fields))) (absent (slots_view (drop (suc i) slots))) rest = record {
              encodings = None ∷ r.encodings;
              each = (absent_stands rule (field_view f).requirement (IsEncoding rule (field_view f).type) canonical may, r.each);
              are = later_tagged rule (field_view f).name (field_view f).type (field_view f).requirement (components_view (drop (suc i) fields)) rest apart r.are;
              stand = r.stand;
            } in
            h.more rest (subst₂ (λ (c : Components) (s : Slots). AreTaggedOf rule c s rest) (sym (components_from fields i f l e.1)) (sym (slots_from_absent slots i k stands)) whole);
      }

  pub present_laid : (i : ℕ) (f : Field) (v : Value) (tagged : List (Keyed Tag)) (t : Keyed Tag) (old mid new : List ℕ) → i < length fields → i < length slots → f ≡ get_or fields i f → Some v ≡ get_or slots i (Some v) → IsCanonical rule → IsPresent f (value_view v)
      → AreDistinct (tags_of_components (components_view (drop i fields))) → LaidTo rule fields slots i tagged old mid → (a : IsPut (IsEncoding rule (ty_view f.ty) (value_view v)) mid new t.span) → IsOrderTag rule (ty_view f.ty) a.octets t.key
      → LaidTo rule fields slots (suc i) (tagged ++ t ∷ []) old new
  present_laid i f v tagged t old mid new l k at stands canonical is distinct h a order =
      let apart = distinct_from i f l at distinct in
      let encodes : IsEncoding rule (field_view f).type (value_view v) a.octets = subst (λ s. IsEncoding rule s (value_view v) a.octets) (sym (type_of_field f)) a.holds in
      let ordered : IsOrderTag rule (field_view f).type a.octets t.key = subst (λ s. IsOrderTag rule s a.octets t.key) (sym (type_of_field f)) order in
      let p : TaggedOctets = record { tag = t.key; octets = a.octets } in
      let before = octets_in h.parts in
      let pushed : octets_in (h.parts ++ p ∷ []) ≡ before ++ a.octets ∷ [] = map-append (λ (q : TaggedOctets). q.octets) h.parts (p ∷ []) in
      let was : length mid ≡ length old + length (concat before) = ap length h.is ∙ length-append old (concat before) in
      let now : length new ≡ length mid + length a.octets = ap length a.is ∙ length-append mid a.octets in
      record {
        parts = h.parts ++ p ∷ [];
        tags = map-append (λ (s : Keyed Tag). s.key) tagged (t ∷ []) ∙ ap (λ r. r ++ t.key ∷ []) h.tags ∙ sym (map-append (λ (q : TaggedOctets). q.tag) h.parts (p ∷ []));
        cuts = subst₂ (Cuts (length old)) (sym (map-append (λ (s : Keyed Tag). s.span) tagged (t ∷ []))) (sym pushed)
            (cuts_push (length old) (spans_in tagged) before t.span a.octets h.cuts (omega (arith, a.start, was)) (omega (arith, a.start, a.end, now)));
        is = a.is ∙ ap (λ z. z ++ a.octets) h.is ∙ append_assoc old (concat before) a.octets ∙ ap (λ z. old ++ z) (sym (concat_push before a.octets) ∙ ap concat (sym pushed));
        more = λ rest r.
            let whole : AreTaggedOf rule (component (field_view f).name (field_view f).type (field_view f).requirement (components_view (drop (suc i) fields))) (present (value_view v) (slots_view (drop (suc i) slots))) (p ∷ rest) = record {
              encodings = Some a.octets ∷ r.encodings;
              each = (encodes, is.differs, r.each);
              are = more_tagged rule (field_view f).name (field_view f).type (field_view f).requirement (components_view (drop (suc i) fields)) (value_view v) t.key a.octets rest canonical apart encodes ordered r.are;
              stand = ap (λ z. a.octets ∷ z) r.stand;
            } in
            subst (AreTaggedOf rule (components_view fields) (slots_view slots)) (sym (append_assoc h.parts (p ∷ []) rest))
            (h.more (p ∷ rest) (subst₂ (λ (c : Components) (s : Slots). AreTaggedOf rule c s (p ∷ rest)) (sym (components_from fields i f l at)) (sym (slots_from_present slots i v k stands)) whole));
      }

  pub all_laid : (n : ℕ) (tagged : List (Keyed Tag)) (old new : List ℕ) → n ≡ length slots → length slots ≡ length fields → (h : LaidTo rule fields slots n tagged old new) → AreTaggedOf rule (components_view fields) (slots_view slots) h.parts
  all_laid n tagged old new all same h =
      let none_left : drop n slots ≡ [] = ap (λ k. drop k slots) all ∙ drop_all slots in
      let none_there : drop n fields ≡ [] = ap (λ k. drop k fields) (all ∙ same) ∙ drop_all fields in
      let none : AreTaggedOf rule (components_view (drop n fields)) (slots_view (drop n slots)) [] = subst₂ (λ (fs : List Field) (ss : List (Option Value)). AreTaggedOf rule (components_view fs) (slots_view ss) []) (sym none_there) (sym none_left)
      record { encodings = []; each = tt; are = no_tagged rule no_component; stand = refl } in
      subst (AreTaggedOf rule (components_view fields) (slots_view slots)) (append-nil h.parts) (h.more [] none)

-- what a tagged span means
abbrev read_part : List ℕ → Keyed Tag → TaggedOctets
read_part buffer t = record { tag = t.key; octets = part_of buffer t.span }

parts_read : (buffer : List ℕ) (ts : List (Keyed Tag)) (ps : List TaggedOctets) → map (λ (t : Keyed Tag). t.key) ts ≡ map (λ (p : TaggedOctets). p.tag) ps → map (part_of buffer) (spans_in ts) ≡ octets_in ps → map (read_part buffer) ts ≡ ps
parts_read buffer [] [] same is = refl
parts_read buffer [] (p ∷ ps) same is = cc
parts_read buffer (t ∷ ts) [] same is = cc
parts_read buffer (t ∷ ts) (p ∷ ps) same is =
    let tag : t.key ≡ p.tag = cc same in
    let here : part_of buffer t.span ≡ p.octets = cc is in
    let first : read_part buffer t ≡ p = λ i. record { tag = tag i; octets = here i } in
    let rest : map (read_part buffer) ts ≡ ps = parts_read buffer ts ps (cc same) (cc is) in
    ap (λ b. b ∷ map (read_part buffer) ts) first ∙ ap (λ r. p ∷ r) rest

octets_read : (buffer : List ℕ) (ts : List (Keyed Tag)) → map (part_of buffer) (spans_in ts) ≡ octets_in (map (read_part buffer) ts)
octets_read buffer [] = refl
octets_read buffer (t ∷ ts) = ap (λ r. part_of buffer t.span ∷ r) (octets_read buffer ts)

tags_read : (buffer : List ℕ) (ts : List (Keyed Tag)) → map (λ (t : Keyed Tag). t.key) ts ≡ map (λ (p : TaggedOctets). p.tag) (map (read_part buffer) ts)
tags_read buffer [] = refl
tags_read buffer (t ∷ ts) = ap (λ r. t.key ∷ r) (tags_read buffer ts)

tags_count : (ps : List TaggedOctets) → length (map (λ (p : TaggedOctets). p.tag) ps) ≡ length ps
tags_count [] = refl
tags_count (p ∷ ps) = ap suc (tags_count ps)

rises_pairs : (ps : List TaggedOctets) → RisesByTag (map (λ p. p.tag) ps) → AllPairs (λ p q. ComesBefore q.tag p.tag → ⊥) ps
rises_pairs ps h = λ i j d less below before.
    let first = get_or-map (λ (p : TaggedOctets). p.tag) ps i d d.tag (omega arith) in
    let second = get_or-map (λ (p : TaggedOctets). p.tag) ps j d d.tag below in
    h i j d.tag less (omega (arith, tags_count ps)) (subst (λ x. ComesBefore x (get_or (map (λ (p : TaggedOctets). p.tag) ps) i d.tag)) (sym second) (subst (ComesBefore (get_or ps j d).tag) (sym first) before))

module _ (rule : Rule) (fields : List Field) (slots : List (Option Value)) (tagged : List (Keyed Tag)) (old mid : List ℕ) (i n : ℕ) (at : n ≡ length old) (h : LaidTo rule fields slots i tagged old mid) where
  stands : map (part_of mid) (spans_in tagged) ≡ octets_in h.parts
  stands = cuts_read old (spans_in tagged) (octets_in h.parts) mid h.cuts h.is

  kept_front : take n mid ≡ old
  kept_front = ap (take n) h.is ∙ take_front old (concat (octets_in h.parts)) n at

  -- laid parts are all that stands behind what stood before
  pub tagged_cut : IsCutInto n (spans_in tagged) mid
  tagged_cut = record {
    within = omega (arith, at, ap length h.is, length-append old (concat (octets_in h.parts)));
    whole = h.is ∙ ap (λ s. s ++ concat (octets_in h.parts)) (sym kept_front) ∙ ap (λ ps. take n mid ++ concat ps) (sym stands);
  }

  -- and that they were put in the order of their tags
  pub by_tag_made : (new : List ℕ) → AreTaggedOf rule (components_view fields) (slots_view slots) h.parts → IsArrangedByTag n tagged mid new → Appends (AreComponentsByTag rule (components_view fields) (slots_view slots)) old new
  by_tag_made new all made =
      let sorted = map (read_part mid) made.order in
      let moved : IsPermutation h.parts sorted = subst (λ ps. IsPermutation ps sorted) (parts_read mid tagged h.parts h.tags stands) (IsPermutation-map (read_part mid) tagged made.order made.permutes) in
      let order = octets_in sorted in
      let read : map (part_of mid) (spans_in made.order) ≡ order = octets_read mid made.order in (
        concat order,
        made.is ∙ ap (λ s. s ++ concat (map (part_of mid) (spans_in made.order))) kept_front ∙ ap (λ ps. old ++ concat ps) read,
        record {
          encodings = all.encodings;
          each = all.each;
          order = order;
          permutes = subst (λ (x : List (List ℕ)). IsPermutation x order) all.stand (IsPermutation-map (λ (p : TaggedOctets). p.octets) h.parts sorted moved);
          ascends = in_tag_order rule (components_view fields) h.parts sorted all.are moved (rises_pairs sorted (subst RisesByTag (tags_read mid made.order) made.rises));
          joined = refl;
        },
      )

-- tags that differ differ from there on
pub distinct_drop : (fields : List Field) (i : ℕ) → AreDistinct (tags_of_components (components_view fields)) → AreDistinct (tags_of_components (components_view (drop i fields)))
distinct_drop fields zero h = h
distinct_drop [] (suc i) h = h
distinct_drop (f ∷ fields) (suc i) h = distinct_drop fields i (distinct_right (first_tags (field_view f).type) (tags_of_components (components_view fields)) h)
