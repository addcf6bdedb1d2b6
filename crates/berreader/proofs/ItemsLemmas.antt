-- Lemmas on items of a list that are taken at once.
use Rattle.std.specs.List.{AllZip, concat}
use Rattle.std.proofs.Common.{◌≡◌, inl, inr, ◌+◌, ◌≤◌, ℕ, List, [], ◌∷◌, ◌++◌, length, take, drop, refl, sym, ap, ◌∙◌, subst, arith, append_assoc, append-nil, length-append}
use Rattle.std.proofs.lemmas.List.{length-take-le}
use Rattle.std.proofs.lemmas.List.Folds.{concat-append}
use Rattle.octets.proofs.FrontLemmas.{front_of_more}
use Rattle.types.specs.Shape.{Val, Shape}
use Rattle.types.specs.View.{ty_view}
use Rattle.encoding_parts.specs.declared.frame.Frame.{Frame}
use Rattle.encoding_parts.specs.Completing.{IsEndOf}
use Rattle.encoding_parts.specs.Parts.{Parts, IsPart, IsPartOf, ArePartsOf, AreItemsCome, Holds}
use Rattle.encoding_parts.proofs.StepLemmas.{end_alone}
use Rattle.berreader.specs.declared.nest.Nest.{Nest}
use Rattle.berreader.specs.Items.{HasMoreItems, AreItemsInside}
use Rattle.berreader.specs.Nest.{CanEnd, CanFinish, CanFollow, CanComplete, HasTaken, IsBegun, StandsAt, levels_inside, levels_left}
use Rattle.berreader.specs.Stack.{Layer, layers_of}
use Rattle.berreader.proofs.PartsBeginLemmas.{part_above, parts_apart}
use Rattle.berreader.proofs.PartsForthLemmas.{fill_step}

-- what follows items that were read completes the encoding
items_follow : (levels : ℕ) (type : Shape) (old new : List Val) (frame : Frame) (Follow : ℕ → List ℕ → Type 0) (taken : ℕ) (more : List Val) (encodings : List (List ℕ)) (octets rest : List ℕ) → AllZip (IsPartOf levels type) more encodings
    → taken + length (concat encodings) ≤ frame.end → octets ≡ concat encodings ++ rest → CanEnd levels (Parts.items type old) frame Follow taken octets → CanEnd levels (Parts.items type new) frame Follow (taken + length (concat encodings)) rest
items_follow levels type old new frame Follow taken [] [] octets rest each fits is c =
    subst (λ n. CanEnd levels (Parts.items type new) frame Follow n rest) (omega arith) record { contents = c.contents; mark = c.mark; rest = c.rest; filled = c.filled; ends = c.ends; joined = sym is ∙ c.joined; follow = c.follow }
items_follow levels type old new frame Follow taken [] (e ∷ encodings) octets rest each fits is c = absurd each
items_follow levels type old new frame Follow taken (v ∷ more) [] octets rest each fits is c = absurd each
items_follow levels type old new frame Follow taken (v ∷ more) (e ∷ encodings) octets rest each fits is c =
    let others = concat encodings ++ rest in
    let behind = c.mark ++ c.rest in
    let size : length (e ++ concat encodings) ≡ length e + length (concat encodings) = length-append e (concat encodings) in
    let here : octets ≡ e ++ others = is ∙ append_assoc e (concat encodings) rest in
    elim (fill_step levels (Parts.items type old) c.contents c.filled) [
      | inl none ↦
          let part : IsPart levels type e = record { value = v; encoding = each.0.encoding; depth = each.0.depth } in
          let whole : behind ≡ e ++ others = ap (λ x. x ++ behind) (sym none) ∙ (sym c.joined ∙ here) in
          absurd (end_alone frame taken c.mark e c.rest others (subst (λ n. IsEndOf frame n c.mark) (omega (arith, ap length none)) c.ends) (part_above levels type e part) (omega (arith, fits, size)) whole)
      | inr s ↦
          let whole : s.part ++ (s.others ++ behind) ≡ e ++ others = sym (c.joined ∙ (ap (λ x. x ++ behind) s.joined ∙ append_assoc s.part s.others behind)) ∙ here in
          let same = parts_apart levels levels s.type type v s.part e (s.others ++ behind) others s.first each.0 whole in
          let sizes : length c.contents ≡ length s.part + length s.others = ap length s.joined ∙ length-append s.part s.others in
          let place : taken + length c.contents ≡ taken + length e + length s.others = omega (arith, sizes, ap length same.octets) in
          subst (λ n. CanEnd levels (Parts.items type new) frame Follow n rest) (omega (arith, size))
          (items_follow levels type old new frame Follow (taken + length e) more encodings others rest each.1 (omega (arith, fits, size)) refl record {
            contents = s.others;
            mark = c.mark;
            rest = c.rest;
            filled = s.rest;
            ends = subst (λ n. IsEndOf frame n c.mark) place c.ends;
            joined = sym same.rest;
            follow = subst (λ n. Follow (n + length c.mark) c.rest) place c.follow;
          })
    ]

levels_inside_list : (layers new : List Layer) (taken : ℕ) (octets : List ℕ) (used : ℕ) (h : HasMoreItems (levels_left layers) layers new taken octets used) → levels_left layers ≡ levels_inside h.others
levels_inside_list layers new taken octets used h = omega (arith, ap length h.were)

items_complete : (shape : Shape) (layers new : List Layer) (taken : ℕ) (octets more : List ℕ) (used : ℕ) → HasMoreItems (levels_left layers) layers new taken octets used → CanComplete shape layers taken (octets ++ more) → CanComplete shape new (taken + used) (drop used octets ++ more)
items_complete shape layers new taken octets more used h f =
    let levels = levels_inside h.others in
    let frame = h.layer.frame in
    let rest = drop used octets ++ more in
    let items = Parts.items h.type (h.values ++ h.more) in
    let before : CanEnd levels h.layer.parts frame (CanFollow h.others) taken (octets ++ more) = subst (λ l. CanComplete shape l taken (octets ++ more)) h.were f in
    let size : length (concat h.come.encodings) ≡ used = ap length (sym h.come.joined) ∙ length-take-le used octets h.there in
    let each = subst (λ n. AllZip (IsPartOf n h.type) h.more h.come.encodings) (levels_inside_list layers new taken octets used h) h.come.each in
    let is : octets ++ more ≡ concat h.come.encodings ++ rest = front_of_more used octets more ∙ ap (λ x. x ++ rest) h.come.joined in
    let next = items_follow levels h.type h.values (h.values ++ h.more) frame (CanFollow h.others) taken h.more h.come.encodings (octets ++ more) rest each (omega (arith, size, h.fits)) is
    (subst (λ p. CanEnd levels p frame (CanFollow h.others) taken (octets ++ more)) h.list before) in
    subst (λ l. CanComplete shape l (taken + used) rest) (sym h.are) (subst (λ n. CanEnd levels items frame (CanFollow h.others) (taken + n) rest) size next)

-- they stand behind what has come
items_joined : (levels : ℕ) (type : Shape) (values more : List Val) (xs ys : List (List ℕ)) → AllZip (IsPartOf levels type) values xs → AllZip (IsPartOf levels type) more ys → AllZip (IsPartOf levels type) (values ++ more) (xs ++ ys)
items_joined levels type [] more [] ys h g = g
items_joined levels type [] more (x ∷ xs) ys h g = absurd h
items_joined levels type (v ∷ values) more [] ys h g = absurd h
items_joined levels type (v ∷ values) more (x ∷ xs) ys h g = (h.0, items_joined levels type values more xs ys h.1 g)

list_parts : (node type : Shape) (old new : List Val) → ArePartsOf node (Parts.items type old) → ArePartsOf node (Parts.items type new)
list_parts (Shape.simple tag own) type old new h = absurd h
list_parts (Shape.string tag own) type old new h = absurd h
list_parts (Shape.sequence tag components) type old new h = absurd h
list_parts (Shape.set tag components) type old new h = absurd h
list_parts (Shape.sequence_of tag own) type old new h = h
list_parts (Shape.set_of tag own) type old new h = h
list_parts (Shape.choice alternatives) type old new h = absurd h
list_parts (Shape.explicit tag own) type old new h = absurd h

items_stand : (shape : Shape) (layers new : List Layer) (taken : ℕ) (octets : List ℕ) (used : ℕ) (before : List ℕ) → HasMoreItems (levels_left layers) layers new taken octets used → StandsAt shape layers before → StandsAt shape new (before ++ take used octets)
items_stand shape layers new taken octets used before h s =
    let levels = levels_inside h.others in
    let part = take used octets in
    let b : IsBegun shape h.layer h.others (StandsAt shape h.others) before = subst (λ l. StandsAt shape l before) h.were s in
    let held : AreItemsCome levels h.type h.values b.contents = subst (λ p. Holds levels p b.contents) h.list b.holds in
    let each = subst (λ n. AllZip (IsPartOf n h.type) h.more h.come.encodings) (levels_inside_list layers new taken octets used h) h.come.each in
    subst (λ l. StandsAt shape l (before ++ part)) (sym h.are) record {
      before = b.before;
      head = b.head;
      contents = b.contents ++ part;
      joined = ap (λ x. x ++ part) b.joined ∙ (append_assoc b.before (b.head ++ b.contents) part ∙ ap (λ x. b.before ++ x) (append_assoc b.head b.contents part));
      behind = b.behind;
      due = b.due;
      node = b.node;
      chosen = b.chosen;
      parts = list_parts b.node h.type h.values (h.values ++ h.more) (subst (ArePartsOf b.node) h.list b.parts);
      opening = b.opening;
      holds = record {
        encodings = held.encodings ++ h.come.encodings;
        each = items_joined levels h.type h.values h.more held.encodings h.come.encodings held.each each;
        joined = ap (λ x. x ++ part) held.joined ∙ (ap (λ x. concat held.encodings ++ x) h.come.joined ∙ sym (concat-append held.encodings h.come.encodings));
      };
      nested = b.nested;
    }

-- a list went on, or nothing was taken
pub record IsListed (old new : Nest) (octets : List ℕ) (used : ℕ) : Type 0 where
  pub type : ty_view new.ty.now ≡ ty_view old.ty.now
  pub taken : new.taken ≡ old.taken + used
  pub layers : AreItemsInside (levels_left (layers_of old.layers)) (layers_of old.layers) (layers_of new.layers) old.taken octets used

-- so many of the octets were taken, or none
pub record AreTaken (old new : Nest) (octets : List ℕ) (used : ℕ) : Type 0 where
  pub there : used ≤ length octets
  pub type : ty_view new.ty.now ≡ ty_view old.ty.now
  pub forth : (more : List ℕ) → CanFinish old (octets ++ more) → CanFinish new (drop used octets ++ more)
  pub back : (before : List ℕ) → HasTaken old before → HasTaken new (before ++ take used octets)
  pub ends : length (layers_of new.layers) ≤ length (layers_of old.layers) + (used + used)

none_taken : (old new : Nest) (octets : List ℕ) (used : ℕ) → IsListed old new octets used → used ≡ 0 → layers_of new.layers ≡ layers_of old.layers → AreTaken old new octets used
none_taken old new octets used h none same =
    let shape = ty_view old.ty.now in
    let place : old.taken ≡ new.taken = omega (arith, h.taken, none) in
    record {
      there = omega (arith, none);
      type = h.type;
      forth = λ more f.
          let rest = drop used octets ++ more in
          subst (λ s. CanComplete s (layers_of new.layers) new.taken rest) (sym h.type)
          (subst (λ l. CanComplete shape l new.taken rest) (sym same)
          (subst (λ n. CanComplete shape (layers_of old.layers) n rest) place
          (subst (λ n. CanComplete shape (layers_of old.layers) old.taken (drop n octets ++ more)) (sym none) f)));
      back = λ before t.
          let all : before ≡ before ++ take used octets = sym (append-nil before) ∙ ap (λ n. before ++ take n octets) (sym none) in
          subst (HasTaken new) all record {
            count = t.count ∙ place;
            stands = subst (λ s. StandsAt s (layers_of new.layers) before) (sym h.type) (subst (λ l. StandsAt shape l before) (sym same) t.stands);
          };
      ends = omega (arith, ap length same);
    }

more_taken : (old new : Nest) (octets : List ℕ) (used : ℕ) → IsListed old new octets used → HasMoreItems (levels_left (layers_of old.layers)) (layers_of old.layers) (layers_of new.layers) old.taken octets used → AreTaken old new octets used
more_taken old new octets used h m =
    let shape = ty_view old.ty.now in
    let layers = layers_of new.layers in
    let heads : length (take used octets) ≡ used = length-take-le used octets m.there in
    record {
      there = m.there;
      type = h.type;
      forth = λ more f.
          let rest = drop used octets ++ more in
          subst (λ s. CanComplete s layers new.taken rest) (sym h.type)
          (subst (λ n. CanComplete shape layers n rest) (sym h.taken) (items_complete shape (layers_of old.layers) layers old.taken octets more used m f));
      back = λ before t. record {
        count = length-append before (take used octets) ∙ omega (arith, heads, t.count, h.taken);
        stands = subst (λ s. StandsAt s layers (before ++ take used octets)) (sym h.type) (items_stand shape (layers_of old.layers) layers old.taken octets used before m t.stands);
      };
      ends = omega (arith, ap length m.are, ap length m.were);
    }

pub items_taken : (old new : Nest) (octets : List ℕ) (used : ℕ) → IsListed old new octets used → AreTaken old new octets used
items_taken old new octets used h = elim h.layers [ inl none ↦ none_taken old new octets used h none.0 none.1 | inr more ↦ more_taken old new octets used h more ]
