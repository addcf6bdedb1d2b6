-- No encoding begins another, and one encoding has one value.
use Rattle.std.specs.List.{AllByRecursion, AllZip, concat}
use Rattle.std.proofs.Common.{◌≡◌, ℕ, zero, suc, inl, inr, true, List, [], ◌∷◌, ◌++◌, Option, refl, sym, ap, ap₂, subst, subst₂, arith, IsPermutation, append-nil}
use Rattle.std.proofs.lemmas.List.{append_cancel_left}
use Rattle.std.proofs.lemmas.List.Sorted.{IsPermutation-sym, IsPermutation-trans}
use Rattle.octets.specs.declared.tag.Tag.{Tag}
use Rattle.octets.specs.Rule.{ber}
use Rattle.types.specs.Shape.{SimpleValue, StringValue, Val, Slots, listed, Shape, Components, no_component, component, Alternatives, no_alternative, alternative}
use Rattle.types.specs.FirstTags.{first_tags, tags_of_components, tags_of_alternatives, AreDistinct, RunsAreDistinct, HasDistinctTags}
use Rattle.types.specs.WellFormed.{nodes_of, nodes_of_components, nodes_of_alternatives, HasGoodDefaults, AreGoodDefaults}
use Rattle.types.specs.Form.{IsConstructed}
use Rattle.types.specs.Order.{IsPaddedAtMost}
use Rattle.types.specs.Same.{IsSame, AreSameSlots, IsSameAlternative, AreSameInSomeOrder}
use Rattle.types.specs.Encoding.{IsEncoding, IsAlternativeEncoding, standing}
use Rattle.types.specs.Laws.{NoEncodingBeginsAnother, EncodingsThatTieAreEqual}
use Rattle.types.proofs.FormLemmas.{definite_unique}
use Rattle.types.proofs.ListLemmas.{contains_first, all_append, distinct_right}
use Rattle.types.proofs.ZipLemmas.{zip_join, zip_permutes}
use Rattle.types.proofs.NestingLemmas.{parts_unique, definite_not_indefinite, indefinite_opening}
use Rattle.types.proofs.BeginningLemmas.{IsOneNested, one_nested_above, one_nested_unique, encoding_begins, alternative_begins, encoding_is_nested, slots_are_nested, explicit_parts, all_zip, all_permutation}
use Rattle.types.proofs.LeafLemmas.{simple_value, string_value}
use Rattle.types.proofs.SlotLemmas.{AreFilled, filled, begin_apart, not_in_run}
use Rattle.types.proofs.SetLemmas.{HaveSame, have_same, not_among_others, same_first}
use Rattle.types.proofs.SameLemmas.{same_is_equal}

pub simple-injective : (x y : SimpleValue) → Val.simple x ≡ Val.simple y → x ≡ y
simple-injective x y h = cc

pub string-injective : (x y : StringValue) → Val.string x ≡ Val.string y → x ≡ y
string-injective x y h = cc

-- one constructed encoding has one list of parts
parts_same : (tag : Tag) (ps qs : List (List ℕ)) (octets : List ℕ) → AllByRecursion IsOneNested ps → AllByRecursion IsOneNested qs → IsConstructed ber tag (concat ps) octets → IsConstructed ber tag (concat qs) octets → ps ≡ qs
parts_same tag ps qs octets h k (inl f) (inl g) =
    let same = definite_unique ber ber tag tag true true (concat ps) (concat qs) octets octets [] [] f g refl in
    parts_unique IsOneNested IsOneNested one_nested_unique one_nested_above one_nested_above ps qs [] [] h k tt tt (ap (λ x. x ++ []) same.contents)
parts_same tag ps qs octets h k (inl f) (inr g) = absurd (definite_not_indefinite tag tag true (concat ps) (concat qs) octets octets [] [] f g refl)
parts_same tag ps qs octets h k (inr f) (inl g) = absurd (definite_not_indefinite tag tag true (concat qs) (concat ps) octets octets [] [] g f refl)
parts_same tag ps qs octets h k (inr f) (inr g) =
    let opening = indefinite_opening tag tag (concat ps) (concat qs) octets octets [] [] f g refl in
    parts_unique IsOneNested IsOneNested one_nested_unique one_nested_above one_nested_above ps qs (0 ∷ 0 ∷ []) (0 ∷ 0 ∷ []) h k refl refl opening.contents

-- what a well-formed type has at each of its nodes
pub record AreWell (nodes : List Shape) : Type 0 where
  pub tags : AllByRecursion HasDistinctTags nodes
  pub defaults : AllByRecursion HasGoodDefaults nodes

pub well_within : (node : Shape) (nodes : List Shape) → AreWell (node ∷ nodes) → AreWell nodes
well_within node nodes h = record { tags = h.tags.1; defaults = h.defaults.1 }

pub well_left : (nodes others : List Shape) → AreWell (nodes ++ others) → AreWell nodes
well_left nodes others h = record { tags = (all_append HasDistinctTags nodes others h.tags).0; defaults = (all_append HasGoodDefaults nodes others h.defaults).0 }

pub well_right : (nodes others : List Shape) → AreWell (nodes ++ others) → AreWell others
well_right nodes others h = record { tags = (all_append HasDistinctTags nodes others h.tags).1; defaults = (all_append HasGoodDefaults nodes others h.defaults).1 }

mutual
  -- one encoding of a type has one value
  pub value_unique : (type : Shape) (v w : Val) (octets : List ℕ) → AreWell (nodes_of type) → IsEncoding ber type v octets → IsEncoding ber type w octets → IsSame type v w
  value_unique (Shape.simple tag type) v w octets well h g = simple_value tag type v w octets h g
  value_unique (Shape.string tag type) v w octets well h g = string_value tag type v w octets h g
  value_unique (Shape.sequence tag components) v w octets well h g =
      let left = slots_are_nested components h.slots h.encodings well.tags.1 h.each in
      let right = slots_are_nested components g.slots g.encodings well.tags.1 g.each in
      let same = parts_same tag (standing h.encodings) (standing g.encodings) octets left right h.whole g.whole in
      let within = well_within (Shape.sequence tag components) (nodes_of_components components) well in
      let slots = sequence_unique components h.slots g.slots h.encodings g.encodings well.tags.0.1 well.defaults.0 within (filled ber components h.slots h.encodings h.each) (filled ber components g.slots g.encodings g.each) same in
      subst₂ (λ x y. IsSame (Shape.sequence tag components) x y) (sym h.is) (sym g.is) slots
  value_unique (Shape.set tag components) v w octets well h g =
      let left = all_permutation IsOneNested (standing h.encodings) h.order h.permutes (slots_are_nested components h.slots h.encodings well.tags.1 h.each) in
      let right = all_permutation IsOneNested (standing g.encodings) g.order g.permutes (slots_are_nested components g.slots g.encodings well.tags.1 g.each) in
      let same = have_same (standing h.encodings) (standing g.encodings) h.order g.order h.permutes g.permutes (parts_same tag h.order g.order octets left right h.whole g.whole) in
      let within = well_within (Shape.set tag components) (nodes_of_components components) well in
      let slots = set_unique components h.slots g.slots h.encodings g.encodings well.tags.0.1 well.defaults.0 within (filled ber components h.slots h.encodings h.each) (filled ber components g.slots g.encodings g.each) same in
      subst₂ (λ x y. IsSame (Shape.set tag components) x y) (sym h.is) (sym g.is) slots
  value_unique (Shape.sequence_of tag type) v w octets well h g =
      let nested = λ (x : Val) (c : List ℕ) (z : IsEncoding ber type x c). encoding_is_nested type x c well.tags.1 z in
      let left = all_zip (IsEncoding ber type) IsOneNested nested (listed h.items) h.encodings h.each in
      let right = all_zip (IsEncoding ber type) IsOneNested nested (listed g.items) g.encodings g.each in
      let same = parts_same tag h.encodings g.encodings octets left right h.whole g.whole in
      let within = well_within (Shape.sequence_of tag type) (nodes_of type) well in
      let items = zip_join (IsEncoding ber type) (IsEncoding ber type) (IsSame type) (λ x y c m n. value_unique type x y c within m n) (listed h.items) (listed g.items) g.encodings (subst (AllZip (IsEncoding ber type) (listed h.items)) same h.each) g.each in
      subst₂ (λ x y. IsSame (Shape.sequence_of tag type) x y) (sym h.is) (sym g.is) items
  value_unique (Shape.set_of tag type) v w octets well h g =
      let nested = λ (x : Val) (c : List ℕ) (z : IsEncoding ber type x c). encoding_is_nested type x c well.tags.1 z in
      let left = all_permutation IsOneNested h.encodings h.order h.permutes (all_zip (IsEncoding ber type) IsOneNested nested (listed h.items) h.encodings h.each) in
      let right = all_permutation IsOneNested g.encodings g.order g.permutes (all_zip (IsEncoding ber type) IsOneNested nested (listed g.items) g.encodings g.each) in
      let same = parts_same tag h.order g.order octets left right h.whole g.whole in
      let moved : IsPermutation h.encodings g.order = subst (IsPermutation h.encodings) same h.permutes in
      let both = IsPermutation-trans h.encodings g.order g.encodings moved (IsPermutation-sym g.encodings g.order g.permutes) in
      let ordered = zip_permutes (IsEncoding ber type) (listed h.items) h.encodings g.encodings h.each both in
      let within = well_within (Shape.set_of tag type) (nodes_of type) well in
      let items : AreSameInSomeOrder (IsSame type) (listed h.items) (listed g.items) = record { order = ordered.0; permutes = ordered.1; each = zip_join (IsEncoding ber type) (IsEncoding ber type) (IsSame type) (λ x y c m n. value_unique type x y c within m n) ordered.0 (listed g.items) g.encodings ordered.2 g.each } in
      subst₂ (λ x y. IsSame (Shape.set_of tag type) x y) (sym h.is) (sym g.is) items
  value_unique (Shape.choice alternatives) v w octets well h g =
      let within = well_within (Shape.choice alternatives) (nodes_of_alternatives alternatives) well in
      let same = alternative_unique alternatives h.which g.which h.value g.value octets well.tags.0 within h.chosen g.chosen in
      subst₂ (λ x y. IsSame (Shape.choice alternatives) x y) (sym h.is) (sym g.is) same
  value_unique (Shape.explicit tag type) v w octets well h g =
      let within = well_within (Shape.explicit tag type) (nodes_of type) well in
      let left = encoding_is_nested type v h.inner within.tags h.encodes in
      let right = encoding_is_nested type w g.inner within.tags g.encodes in
      let parts = parts_same tag (h.inner ∷ []) (g.inner ∷ []) octets (left, tt) (right, tt) (explicit_parts ber tag h.inner octets h.whole) (explicit_parts ber tag g.inner octets g.whole) in
      let same : h.inner ≡ g.inner = cc parts in
      value_unique type v w g.inner within (subst (IsEncoding ber type v) same h.encodes) g.encodes

  -- of the slots of a SEQUENCE
  sequence_unique : (components : Components) (vs ws : Slots) (ds es : List (Option (List ℕ))) → RunsAreDistinct components → AreGoodDefaults components → AreWell (nodes_of_components components)
      → AreFilled ber components vs ds → AreFilled ber components ws es → standing ds ≡ standing es → AreSameSlots components vs ws
  sequence_unique no_component vs ws ds es runs defaults well AreFilled.no_more AreFilled.no_more same = tt
  sequence_unique (component name type requirement others) vs ws ds es runs defaults well (AreFilled.left_out {slots = vs'} {encodings = ds'} n t r m h) (AreFilled.left_out {slots = ws'} {encodings = es'} n' t' r' m' g) same =
      sequence_unique others vs' ws' ds' es' runs.1 defaults.1 (well_right (nodes_of type) (nodes_of_components others) well) h g same
  sequence_unique (component name type requirement others) vs ws ds es runs defaults well (AreFilled.left_out {slots = vs'} {encodings = ds'} n t r m h) (AreFilled.spelt_out {slots = ws'} {encodings = es'} n' t' value' octets' e' f' g) same =
      absurd (not_in_run ber name type requirement others vs' ds' value' octets' (standing es') m runs.0 f' h same)
  sequence_unique (component name type requirement others) vs ws ds es runs defaults well (AreFilled.left_out {slots = vs'} {encodings = ds'} n t r m h) (AreFilled.stands {slots = ws'} {encodings = es'} n' t' r' value' octets' f' d' g) same =
      absurd (not_in_run ber name type requirement others vs' ds' value' octets' (standing es') m runs.0 f' h same)
  sequence_unique (component name type requirement others) vs ws ds es runs defaults well (AreFilled.spelt_out {slots = vs'} {encodings = ds'} n t value octets e f h) (AreFilled.left_out {slots = ws'} {encodings = es'} n' t' r' m' g) same =
      absurd (not_in_run ber name type requirement others ws' es' value octets (standing ds') m' runs.0 f g (sym same))
  sequence_unique (component name type requirement others) vs ws ds es runs defaults well (AreFilled.spelt_out {slots = vs'} {encodings = ds'} n t value octets e f h) (AreFilled.spelt_out {slots = ws'} {encodings = es'} n' t' value' octets' e' f' g) same =
      let later : standing ds' ≡ standing es' = cc same in
      sequence_unique others vs' ws' ds' es' runs.1 defaults.1 (well_right (nodes_of type) (nodes_of_components others) well) h g later
  sequence_unique (component name type requirement others) vs ws ds es runs defaults well (AreFilled.spelt_out {slots = vs'} {encodings = ds'} n t value octets e f h) (AreFilled.stands {slots = ws'} {encodings = es'} n' t' r' value' octets' f' d' g) same =
      let here : octets ≡ octets' = cc same in
      absurd (d' (sym (same_is_equal type defaults.0.0 value value' (value_unique type value value' octets' (well_left (nodes_of type) (nodes_of_components others) well) (subst (IsEncoding ber type value) here f) f'))))
  sequence_unique (component name type requirement others) vs ws ds es runs defaults well (AreFilled.stands {slots = vs'} {encodings = ds'} n t r value octets f d h) (AreFilled.left_out {slots = ws'} {encodings = es'} n' t' r' m' g) same =
      absurd (not_in_run ber name type requirement others ws' es' value octets (standing ds') m' runs.0 f g (sym same))
  sequence_unique (component name type requirement others) vs ws ds es runs defaults well (AreFilled.stands {slots = vs'} {encodings = ds'} n t r value octets f d h) (AreFilled.spelt_out {slots = ws'} {encodings = es'} n' t' value' octets' e' f' g) same =
      let here : octets ≡ octets' = cc same in
      absurd (d (same_is_equal type defaults.0.0 value value' (value_unique type value value' octets' (well_left (nodes_of type) (nodes_of_components others) well) (subst (IsEncoding ber type value) here f) f')))
  sequence_unique (component name type requirement others) vs ws ds es runs defaults well (AreFilled.stands {slots = vs'} {encodings = ds'} n t r value octets f d h) (AreFilled.stands {slots = ws'} {encodings = es'} n' t' r' value' octets' f' d' g) same =
      let here : octets ≡ octets' = cc same in
      let later : standing ds' ≡ standing es' = cc same in
      ((value_unique type value value' octets' (well_left (nodes_of type) (nodes_of_components others) well) (subst (IsEncoding ber type value) here f) f'), sequence_unique others vs' ws' ds' es' runs.1 defaults.1 (well_right (nodes_of type) (nodes_of_components others) well) h g later)

  -- of those of a SET
  set_unique : (components : Components) (vs ws : Slots) (ds es : List (Option (List ℕ))) → AreDistinct (tags_of_components components) → AreGoodDefaults components → AreWell (nodes_of_components components)
      → AreFilled ber components vs ds → AreFilled ber components ws es → HaveSame (standing ds) (standing es) → AreSameSlots components vs ws
  set_unique no_component vs ws ds es distinct defaults well AreFilled.no_more AreFilled.no_more same = tt
  set_unique (component name type requirement others) vs ws ds es distinct defaults well (AreFilled.left_out {slots = vs'} {encodings = ds'} n t r m h) (AreFilled.left_out {slots = ws'} {encodings = es'} n' t' r' m' g) same =
      set_unique others vs' ws' ds' es' (distinct_right (first_tags type) (tags_of_components others) distinct) defaults.1 (well_right (nodes_of type) (nodes_of_components others) well) h g same
  set_unique (component name type requirement others) vs ws ds es distinct defaults well (AreFilled.left_out {slots = vs'} {encodings = ds'} n t r m h) (AreFilled.spelt_out {slots = ws'} {encodings = es'} n' t' value' octets' e' f' g) same =
      absurd (not_among_others ber type others vs' ds' value' octets' distinct f' h (same.back octets' (contains_first octets' octets' (standing es') refl)))
  set_unique (component name type requirement others) vs ws ds es distinct defaults well (AreFilled.left_out {slots = vs'} {encodings = ds'} n t r m h) (AreFilled.stands {slots = ws'} {encodings = es'} n' t' r' value' octets' f' d' g) same =
      absurd (not_among_others ber type others vs' ds' value' octets' distinct f' h (same.back octets' (contains_first octets' octets' (standing es') refl)))
  set_unique (component name type requirement others) vs ws ds es distinct defaults well (AreFilled.spelt_out {slots = vs'} {encodings = ds'} n t value octets e f h) (AreFilled.left_out {slots = ws'} {encodings = es'} n' t' r' m' g) same =
      absurd (not_among_others ber type others ws' es' value octets distinct f g (same.to octets (contains_first octets octets (standing ds') refl)))
  set_unique (component name type requirement others) vs ws ds es distinct defaults well (AreFilled.spelt_out {slots = vs'} {encodings = ds'} n t value octets e f h) (AreFilled.spelt_out {slots = ws'} {encodings = es'} n' t' value' octets' e' f' g) same =
      let heads = same_first ber type others vs' ws' ds' es' value value' octets octets' distinct f f' h g same in
      set_unique others vs' ws' ds' es' (distinct_right (first_tags type) (tags_of_components others) distinct) defaults.1 (well_right (nodes_of type) (nodes_of_components others) well) h g heads.others
  set_unique (component name type requirement others) vs ws ds es distinct defaults well (AreFilled.spelt_out {slots = vs'} {encodings = ds'} n t value octets e f h) (AreFilled.stands {slots = ws'} {encodings = es'} n' t' r' value' octets' f' d' g) same =
      let heads = same_first ber type others vs' ws' ds' es' value value' octets octets' distinct f f' h g same in
      let here : octets ≡ octets' = heads.first in
      absurd (d' (sym (same_is_equal type defaults.0.0 value value' (value_unique type value value' octets' (well_left (nodes_of type) (nodes_of_components others) well) (subst (IsEncoding ber type value) here f) f'))))
  set_unique (component name type requirement others) vs ws ds es distinct defaults well (AreFilled.stands {slots = vs'} {encodings = ds'} n t r value octets f d h) (AreFilled.left_out {slots = ws'} {encodings = es'} n' t' r' m' g) same =
      absurd (not_among_others ber type others ws' es' value octets distinct f g (same.to octets (contains_first octets octets (standing ds') refl)))
  set_unique (component name type requirement others) vs ws ds es distinct defaults well (AreFilled.stands {slots = vs'} {encodings = ds'} n t r value octets f d h) (AreFilled.spelt_out {slots = ws'} {encodings = es'} n' t' value' octets' e' f' g) same =
      let heads = same_first ber type others vs' ws' ds' es' value value' octets octets' distinct f f' h g same in
      let here : octets ≡ octets' = heads.first in
      absurd (d (same_is_equal type defaults.0.0 value value' (value_unique type value value' octets' (well_left (nodes_of type) (nodes_of_components others) well) (subst (IsEncoding ber type value) here f) f')))
  set_unique (component name type requirement others) vs ws ds es distinct defaults well (AreFilled.stands {slots = vs'} {encodings = ds'} n t r value octets f d h) (AreFilled.stands {slots = ws'} {encodings = es'} n' t' r' value' octets' f' d' g) same =
      let heads = same_first ber type others vs' ws' ds' es' value value' octets octets' distinct f f' h g same in
      let here : octets ≡ octets' = heads.first in
      ((value_unique type value value' octets' (well_left (nodes_of type) (nodes_of_components others) well) (subst (IsEncoding ber type value) here f) f'), set_unique others vs' ws' ds' es' (distinct_right (first_tags type) (tags_of_components others) distinct) defaults.1 (well_right (nodes_of type) (nodes_of_components others) well) h g heads.others)

  -- the chosen alternative and its value
  alternative_unique : (alternatives : Alternatives) (i j : ℕ) (v w : Val) (octets : List ℕ) → AreDistinct (tags_of_alternatives alternatives) → AreWell (nodes_of_alternatives alternatives) → IsAlternativeEncoding ber alternatives i v octets → IsAlternativeEncoding ber alternatives j w octets → (i ≡ j) × IsSameAlternative alternatives i v w
  alternative_unique no_alternative i j v w octets distinct well h g = elim h [ ]
  alternative_unique (alternative name type others) zero zero v w octets distinct well h g = (refl, value_unique type v w octets (well_left (nodes_of type) (nodes_of_alternatives others) well) h g)
  alternative_unique (alternative name type others) zero (suc j) v w octets distinct well h g =
      absurd (begin_apart (first_tags type) (tags_of_alternatives others) octets distinct (encoding_begins ber type v octets h) (alternative_begins ber others j w octets g))
  alternative_unique (alternative name type others) (suc i) zero v w octets distinct well h g =
      absurd (begin_apart (first_tags type) (tags_of_alternatives others) octets distinct (encoding_begins ber type w octets g) (alternative_begins ber others i v octets h))
  alternative_unique (alternative name type others) (suc i) (suc j) v w octets distinct well h g =
      let same = alternative_unique others i j v w octets (distinct_right (first_tags type) (tags_of_alternatives others) distinct) (well_right (nodes_of type) (nodes_of_alternatives others) well) h g in
      (ap suc same.0, same.1)

pub encoding_unique : NoEncodingBeginsAnother
encoding_unique shape v w a b r s well f g whole =
    let same : a ≡ b = one_nested_unique a b r s (encoding_is_nested shape v a well.tags f) (encoding_is_nested shape w b well.tags g) whole in
    let nodes : AreWell (nodes_of shape) = record { tags = well.tags; defaults = well.defaults } in
    record {
      values = value_unique shape v w b nodes (subst (IsEncoding ber shape v) same f) g;
      octets = same;
      rest = append_cancel_left b r s (subst (λ x. x ++ r ≡ b ++ s) same whole);
    }

-- octets that tie begin alike
tie_begins : (a b : List ℕ) → IsPaddedAtMost a b → IsPaddedAtMost b a → (r : List ℕ) × (s : List ℕ) × (a ++ r ≡ b ++ s)
tie_begins [] b h k = (b, [], sym (append-nil b))
tie_begins (x ∷ a) [] h k = ([], x ∷ a, append-nil (x ∷ a))
tie_begins (x ∷ a) (y ∷ b) (inl h) (inl k) = absurd (omega (arith, h, k))
tie_begins (x ∷ a) (y ∷ b) (inl h) (inr k) = absurd (omega (arith, h, k.0))
tie_begins (x ∷ a) (y ∷ b) (inr h) (inl k) = absurd (omega (arith, h.0, k))
tie_begins (x ∷ a) (y ∷ b) (inr h) (inr k) =
    let rest = tie_begins a b h.1 k.1 in
    (rest.0, rest.1, ap₂ (λ n xs. n ∷ xs) h.0 rest.2)

pub ties_are_equal : EncodingsThatTieAreEqual
ties_are_equal shape v w a b well f g h k =
    let same = tie_begins a b h k in
    one_nested_unique a b same.0 same.1 (encoding_is_nested shape v a well.tags f) (encoding_is_nested shape w b well.tags g) same.2
